use Rattle.std.proofs.Common.{List, ◌∙◌, subst}
use Rattle.std.proofs.lemmas.Result.{IfOk-weaker}
use Rattle.dep_graph.specs.declared.numbers.ReadNumber.{ReadNumber}
use Rattle.affected_search.specs.Listed.{FindsListed, KeepsListed}
use Rattle.affected_search.specs.Reached.{IsAffected}
use Rattle.affected_search.proofs.ListedTouched.{listed_finds}
use Rattle.affected_search.proofs.RecordReads.{listed_keeps}
use Rattle.affected_search.proofs.listed.affected_by_records.Goals as goal

pub returns-clause-others : goal.returns-clause-others
returns-clause-others c =
    let graph = c.args.graph.now in
    IfOk-weaker c.affected_by.result (IsAffected graph.reads c.as_slice.result.now) (KeepsListed graph c.args.before.items c.args.after.now)
    (λ cells found. listed_keeps graph c.args.before.items c.args.after.now cells
    (subst (λ (l : List ReadNumber). IsAffected graph.reads l cells) (c.as_slice.ensures.value ∙ c.in_ok-extend_from_slice.ensures.items) found)) c.affected_by.ensures

pub returns-clause-only : goal.returns-clause-only
returns-clause-only c =
    let graph = c.args.graph.now in
    IfOk-weaker c.affected_by.result (IsAffected graph.reads c.as_slice.result.now) (FindsListed graph c.args.before.items c.args.after.now)
    (λ cells found. listed_finds graph c.args.before.items c.args.after.now cells
    (subst (λ (l : List ReadNumber). IsAffected graph.reads l cells) (c.as_slice.ensures.value ∙ c.in_ok-extend_from_slice.ensures.items) found)) c.affected_by.ensures
