-- Columns under moved names are found where they were.
use Rattle.std.proofs.Common.{ℕ, Bool, true, false, cond, ◌&&◌, List, [], ◌∷◌, map, ◌≡◌, refl, sym, ap, ◌∙◌, Some}
use Rattle.std.specs.List.{AllByRecursion}
use Rattle.std.specs.Option.{option_map}
use Rattle.std.specs.Str.{bytes_eq}
use Rattle.std.proofs.lemmas.Slice.Eq.{bytes_eq-Decides}
use Rattle.doc_model.specs.declared.column.ColDef.{ColDef}
use Rattle.doc_model.specs.ByIds.{find_id}
use Rattle.doc_model.specs.Column.{column_id}
use Rattle.doc_model.specs.Grid.{Grid, beside, cell}
use Rattle.doc_model.proofs.ByIdsLaws.{bytes_apart, bytes_itself}
use Rattle.cell_types.specs.declared.value.CellValue.{CellValue}
use Rattle.rename_marks.specs.declared.column_rename.ColumnRename.{ColumnRename}
use Rattle.renamed_values.specs.SameEv.{IsKept, moved}
use Rattle.renamed_documents.specs.RenamedTables.{Rewriting, column_after, grid_after}

module _ (m : ColumnRename) (t : List ℕ) where
  -- names that are not the new one are told apart as they were
  pub moved_apart : (a b : List ℕ) → IsKept m t a → IsKept m t b → bytes_eq (moved m t a) (moved m t b) ≡ bytes_eq a b
  moved_apart a b ka kb = by (bytes_eq t m.table) (bytes_eq a m.old) (bytes_eq b m.old) refl refl ka kb
    where
      by : (x p q : Bool) → bytes_eq a m.old ≡ p → bytes_eq b m.old ≡ q → (x && bytes_eq a m.new) ≡ false → (x && bytes_eq b m.new) ≡ false
          → bytes_eq (cond (x && p) m.new a) (cond (x && q) m.new b) ≡ bytes_eq a b
      by false p q i j ka kb = refl
      by true true true i j ka kb =
          bytes_itself m.new ∙ sym (ap (λ w. bytes_eq w b) ((bytes_eq-Decides a m.old).0 i) ∙ ap (bytes_eq m.old) ((bytes_eq-Decides b m.old).0 j) ∙ bytes_itself m.old)
      by true true false i j ka kb = bytes_apart b m.new kb ∙ sym (ap (λ w. bytes_eq w b) ((bytes_eq-Decides a m.old).0 i) ∙ bytes_apart b m.old j)
      by true false true i j ka kb = ka ∙ sym (ap (bytes_eq a) ((bytes_eq-Decides b m.old).0 j) ∙ i)
      by true false false i j ka kb = refl

  abbrev pub AllKept : List ColDef → Type 0
  AllKept ds = AllByRecursion (λ (d : ColDef). IsKept m t d.id) ds

  module _ (w : Rewriting) (c : List ℕ) (kept : IsKept m t c) where
    pub find_moved : (ds : List ColDef) → AllKept ds → find_id column_id (moved m t c) (map (column_after m w t) ds) ≡ option_map (column_after m w t) (find_id column_id c ds)
    find_moved [] h = refl
    find_moved (d ∷ ds) h =
        ap (λ b. cond b (Some (column_after m w t d)) (find_id column_id (moved m t c) (map (column_after m w t) ds))) (moved_apart d.id c h.0 kept)
        ∙ elim (bytes_eq d.id c) as (λ b. cond b (Some (column_after m w t d)) (find_id column_id (moved m t c) (map (column_after m w t) ds)) ≡ option_map (column_after m w t) (cond b (Some d) (find_id column_id c ds))) [
          | true ↦ refl
          | false ↦ find_moved ds h.1
        ]

    beside_moved : (ds : List ColDef) (vs : List CellValue) (e : CellValue) → AllKept ds
        → beside (λ (d : ColDef). bytes_eq d.id (moved m t c)) (map (column_after m w t) ds) vs e ≡ beside (λ (d : ColDef). bytes_eq d.id c) ds vs e
    beside_moved [] vs e h = refl
    beside_moved (d ∷ ds) [] e h = refl
    beside_moved (d ∷ ds) (v ∷ vs) e h =
        ap (λ b. cond b v (beside (λ (d : ColDef). bytes_eq d.id (moved m t c)) (map (column_after m w t) ds) vs e)) (moved_apart d.id c h.0 kept)
        ∙ ap (λ u. cond (bytes_eq d.id c) v u) (beside_moved ds vs e h.1)

    -- a cell stands under the moved name of its column
    pub cell_moved : (g : Grid ColDef) (row : ℕ) → AllKept g.columns → cell column_id (grid_after m w t g) (moved m t c) row ≡ cell column_id g c row
    cell_moved g row h = beside_moved g.columns _ _ h
