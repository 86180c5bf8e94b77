use Rattle.std.proofs.Common.{◌≡◌, ◌∙◌, ◌++◌, subst, rules}
use Rattle.std.specs.Result.{IfOk}
use Rattle.doc_readers.specs.Parts.{grid_at}
use Rattle.user_actions.specs.CellUpdates.{update_changed}
use Rattle.user_actions.specs.References.{cleared}
use Rattle.user_actions.proofs.clearing.add_clearing.Goals as goal

pub returns : goal.returns
returns g c =
    let k = c.args.one.now in
    let f = cleared c.args.gone.now k.column.info.ty in
    subst (λ rows. IfOk c.add_update.result (λ _. c.add_update.new.steps ≡ c.args.steps.now ++ update_changed k.table (grid_at (g.D.DocReader.document c.args.tables.now) k.table) k.column.id f rows))
    (c.deref.ensures.value ∙ c.in_ok-rows.ensures) (c.add_update.ensures f (λ x y e. search rules))
