use Rattle.std.proofs.Common.{subst, sym, ◌∙◌}
use Rattle.doc_model.specs.DocumentLaws.{IsWhole}
use Rattle.doc_model.proofs.InverseLaws.{IsWhole-apply}
use Rattle.doc_actions.proofs.applying.apply.Goals as goal

-- what is put is valid, so that it leaves a whole document
pub returns-clause-kept : goal.returns-clause-kept
returns-clause-kept g c =
    subst IsWhole (sym c.in_ok-put.ensures.done)
    (IsWhole-apply (g.D.DocReader.document c.args.tables.now) c.args.action.now c.requires.whole (sym c.is_valid.ensures ∙ c.if-not-is_valid.false))
