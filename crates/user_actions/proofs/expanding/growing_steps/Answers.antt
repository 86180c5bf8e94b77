use Rattle.std.proofs.Common.{◌∙◌, sym, ap, true}
use Rattle.std.specs.List.{list_all}
use Rattle.doc_readers.specs.Parts.{grid_at}
use Rattle.user_actions.specs.Allowed.{is_allowed, may_give}
use Rattle.user_actions.specs.Kinds.{table_of}
use Rattle.user_actions.proofs.AllowedLemmas.{columns_given}
use Rattle.user_actions.proofs.expanding.growing_steps.Goals as goal

pub add_steps-requires-clause-gives : goal.add_steps-requires-clause-gives
add_steps-requires-clause-gives g c =
    let s = g.D.DocReader.document c.args.tables.now in
    ap (λ ks. list_all (may_give (grid_at s c.args.table.now)) ks) c.as_slice.ensures
    ∙ ap (λ id. list_all (may_give (grid_at s id)) c.in-Add.columns) (c.requires.named ∙ ap table_of c.in-Add.is)
    ∙ columns_given s c.in-Add.table (λ t. true) c.in-Add.columns (sym (ap (is_allowed s) c.in-Add.is) ∙ c.requires.allowed)
