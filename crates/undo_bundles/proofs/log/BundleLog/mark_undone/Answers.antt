use Rattle.std.proofs.Common.{◌-◌, true, List, set, ap, subst, sym, ◌∙◌, arith, IsOk}
use Rattle.doc_model.specs.declared.action.Step.{Step}
use Rattle.undo_bundles.specs.BundleLog.{Log, LogState, marked, undo_of}
use Rattle.undo_bundles.proofs.LogLaws.{place_of, undone_as_set}
use Rattle.undo_bundles.proofs.log.BundleLog.mark_undone.Goals as goal

pub overflow_sub-index : goal.overflow_sub-index
overflow_sub-index c =
    let at = place_of (record { dropped = c.self.inside.dropped; kept = c.self.inside.kept.items }) c.args.number (subst (λ (s : LogState). IsOk (undo_of s.log c.args.number)) (sym c.self.view_is) c.requires) in
    omega (arith, at.0)

pub overflow_sub-index-2 : goal.overflow_sub-index-2
overflow_sub-index-2 c =
    let at = place_of (record { dropped = c.self.inside.dropped; kept = c.self.inside.kept.items }) c.args.number (subst (λ (s : LogState). IsOk (undo_of s.log c.args.number)) (sym c.self.view_is) c.requires) in
    omega (arith, at.0)

pub index_mut-requires : goal.index_mut-requires
index_mut-requires c =
    let at = place_of (record { dropped = c.self.inside.dropped; kept = c.self.inside.kept.items }) c.args.number (subst (λ (s : LogState). IsOk (undo_of s.log c.args.number)) (sym c.self.view_is) c.requires) in
    omega (arith, at.1)

pub returns-clause-log : goal.returns-clause-log
returns-clause-log c =
    let at = place_of (record { dropped = c.self.inside.dropped; kept = c.self.inside.kept.items }) c.args.number (subst (λ (s : LogState). IsOk (undo_of s.log c.args.number)) (sym c.self.view_is) c.requires) in
    let index = c.args.number - c.self.inside.dropped - 1 in
    let stands = undone_as_set index c.self.inside.kept.items at.1 in
    ap (λ (l : List Step). let log : Log = record { dropped = c.self.inside.dropped; kept = set c.self.inside.kept.items index (record { inverse = l; undone = true }) } in log) c.new.ensures
    ∙ ap (λ l. let log : Log = record { dropped = c.self.inside.dropped; kept = l } in log) (sym stands) ∙ ap (λ (s : LogState). marked c.args.number s.log) c.self.view_is
