-- Documents with a column under a new name, with all values in place, have their cells moved.
use Rattle.std.proofs.Common.{ℕ, true, false, cond, List, [], ◌∷◌, ◌≡◌, refl, subst, sym, ap, ◌∙◌, Option, Some, None}
use Rattle.std.specs.List.{AllByRecursion}
use Rattle.std.specs.Option.{option_map}
use Rattle.std.specs.Str.{bytes_eq}
use Rattle.cell_types.specs.declared.value.CellValue.{CellValue}
use Rattle.doc_model.specs.declared.column.ColDef.{ColDef}
use Rattle.doc_model.specs.ByIds.{find_id}
use Rattle.doc_model.specs.Document.{Document, Table, on_grid, table_id}
use Rattle.doc_model.specs.Grid.{Grid}
use Rattle.doc_model.specs.Schema.{SchemaAgrees, plain_tables}
use Rattle.doc_model.proofs.Choices.{each_weaker}
use Rattle.recalc.specs.Evaluated.{fill, filled, filled_by, value_of}
use Rattle.renamed_documents.specs.Laws.{RenamedFillingLaw}
use Rattle.renamed_documents.specs.RenamedTables.{ColumnFollows, grid_after}
use Rattle.renamed_documents.proofs.RenamedFillings.{plain_filled}
use Rattle.renamed_documents.proofs.SeenTables.{after_in, follows_seen, plain_found}
use Rattle.renamed_values.specs.HeldRecords.{IsPlain}
use Rattle.renamed_values.specs.SameEv.{IsKept}
use Rattle.renamed_rules.specs.RenamedCells.{MovedFillingLaw}

module _ (v : List ℕ → List ℕ → ℕ → CellValue) (a : List ℕ) where
  -- a table with its values in place is found where it was
  found_filled : (ts : List Table) → find_id table_id a (filled_by v ts) ≡ option_map (λ (t : Table). on_grid (fill (v t.id)) t) (find_id table_id a ts)
  found_filled [] = refl
  found_filled (t ∷ ts) = elim (bytes_eq t.id a) as (λ b. cond b (Some (on_grid (fill (v t.id)) t)) (find_id table_id a (filled_by v ts)) ≡ option_map (λ (t : Table). on_grid (fill (v t.id)) t) (cond b (Some t) (find_id table_id a ts))) [ true ↦ refl | false ↦ found_filled ts ]

  plain_filling : (s : Document) → SchemaAgrees s → IsPlain a → find_id table_id a (filled_by v s) ≡ find_id table_id a (plain_tables (filled_by v s))
  plain_filling s h p =
      found_filled s
      ∙ ap (option_map (λ (t : Table). on_grid (fill (v t.id)) t)) (plain_found s a h p)
      ∙ sym (found_filled (plain_tables s))
      ∙ ap (find_id table_id a) (sym (plain_filled v s h))

  -- its columns are as they were
  columns_filled : (o : Option Table) (g : Grid ColDef) → option_map (λ (t : Table). t.grid) (option_map (λ (t : Table). on_grid (fill (v t.id)) t) o) ≡ Some g → (was : Grid ColDef) × (option_map (λ (t : Table). t.grid) o ≡ Some was) × (was.columns ≡ g.columns)
  columns_filled None g e = absurd (cc)
  columns_filled (Some t) g e = (t.grid, refl, ap (λ (g : Grid ColDef). g.columns) (same (fill (v t.id) t.grid) g e))
    where
      same : (x y : Grid ColDef) → Some x ≡ Some y → x ≡ y
      same x y e = cc

pub moved_filling : RenamedFillingLaw → MovedFillingLaw
moved_filling law m r w k s s' h = record {
  old = h.followed.old;
  new = h.followed.new;
  tables = λ a p.
      ap (option_map (λ (t : Table). t.grid)) (plain_filling (value_of s') a s' h.whole_after.agrees p ∙ ap (find_id table_id a) (law m r w k s s' h))
      ∙ after_in m w a (plain_tables (filled s))
      ∙ ap (λ o. option_map (grid_after m w a) (option_map (λ (t : Table). t.grid) o)) (sym (plain_filling (value_of s) a s h.whole.agrees p));
  free = λ a g p e.
      let was = columns_filled (value_of s) a (find_id table_id a s) g (ap (option_map (λ (t : Table). t.grid)) (sym (found_filled (value_of s) a s)) ∙ e) in
      subst (λ (ds : List ColDef). AllByRecursion (λ (d : ColDef). IsKept m a d.id) ds) was.2
      (each_weaker (ColumnFollows m r w k a) (λ (d : ColDef). IsKept m a d.id) (λ d f. f.free) was.0.columns (follows_seen m w a r k s h.whole.agrees h.followed p was.0 was.1));
}
