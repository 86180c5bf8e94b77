-- What steps tell of a table is what it was before them.
use Rattle.std.proofs.Common.{true, [], ◌∷◌, ◌≡◌, refl, sym, ap, ◌∙◌, Option, Some, None, unwrap_or}
use Rattle.cell_types.specs.declared.value.CellValue.{CellValue}
use Rattle.doc_model.specs.declared.column.ColDef.{ColDef}
use Rattle.doc_model.specs.ByIds.{find_id}
use Rattle.doc_model.specs.Column.{column_id}
use Rattle.doc_model.specs.Grid.{Grid, cell}
use Rattle.doc_model.specs.Records.{or_else}
use Rattle.doc_model.specs.Rows.{has}
use Rattle.doc_model.proofs.GridLaws.{cell-grid_of, filled_again, grid_of-cell}
use Rattle.action_censor.specs.Back.{all_rows_back, first_held, grid_back, held_before, rows_back}
use Rattle.action_censor.specs.FollowLaws.{StepsLaw}

pub steps_back : StepsLaw
steps_back [] t g h is is' e = e ∙ sym (grid_of-cell column_id h is')
steps_back (k ∷ ks) t g h is is' (m, ism, one, more) =
    let later : m ≡ grid_back ks t h = steps_back ks t m h ism is' more in
    let columns : h.columns ≡ g.columns = sym (one.columns ∙ ap (λ (f : Grid ColDef). f.columns) later) in
    let rows : all_rows_back (k ∷ ks) t h.rows ≡ g.rows = sym (one.rows ∙ ap (λ (f : Grid ColDef). rows_back k.action t f.rows) later) in
    sym (filled_again column_id g is h.columns (all_rows_back (k ∷ ks) t h.rows) (λ (d : ColDef) r. unwrap_or (first_held (k ∷ ks) t d.id r) (cell column_id h d.id r)) columns rows
    (λ d r found here.
    elim (held_before k.cells t d.id r) as (λ (o : Option CellValue). held_before k.cells t d.id r ≡ o → unwrap_or (or_else o (first_held ks t d.id r)) (cell column_id h d.id r) ≡ cell column_id g d.id r) [
      | Some v ↦ λ e. sym (one.told d r v found here e)
      | None ↦ λ e.
          let both : (has m.rows r ≡ true) × (cell column_id g d.id r ≡ cell column_id m d.id r) = one.same d r found here e in
          sym (both.1
          ∙ ap (λ (f : Grid ColDef). cell column_id f d.id r) later
          ∙ cell-grid_of column_id h.columns (all_rows_back ks t h.rows) (λ (d : ColDef) r. unwrap_or (first_held ks t d.id r) (cell column_id h d.id r)) d r
          (ap (find_id column_id d.id) columns ∙ found) (ap (λ (f : Grid ColDef). has f.rows r) (sym later) ∙ both.0))
    ] refl))
