use Rattle.std.proofs.Common.{◌≡◌, ◌∷◌, ◌++◌, [], map, take, ap, sym, ◌∙◌}
use Rattle.std.proofs.lemmas.List.{map_more}
use Rattle.doc_model.specs.Column.{start_of}
use Rattle.column_store.proofs.reshaped.starts.Goals as goal

pub loop-row-preserved : goal.loop-row-preserved
loop-row-preserved c =
    c.in_ok-push.ensures.items ∙ ap (λ xs. xs ++ c.start_of.result ∷ []) c.loop-row.invariant ∙ ap (λ v. map (λ _. start_of c.args.column.now) (take c.loop-row._row-index c.args.rows.now) ++ v ∷ []) c.start_of.ensures
    ∙ sym (map_more (λ _. start_of c.args.column.now) c.args.rows.now c.loop-row._row-index 0 c.loop-row-test.true)
