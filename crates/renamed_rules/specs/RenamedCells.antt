-- Documents whose cells stand under the new name of a column.
use Rattle.std.specs.Prelude.{ℕ, false, List, Option, option_map, Some, ◌≡◌}
use Rattle.std.specs.List.{AllByRecursion}
use Rattle.doc_model.specs.declared.column.ColDef.{ColDef}
use Rattle.doc_model.specs.ByIds.{find_id}
use Rattle.doc_model.specs.Document.{Document, Table, table_id}
use Rattle.doc_model.specs.Grid.{Grid}
use Rattle.formula_parse.specs.Lexemes.{is_id}
use Rattle.formula_records.specs.Recs.{Columns}
use Rattle.recalc.specs.Evaluated.{filled}
use Rattle.rename_marks.specs.declared.column_rename.ColumnRename.{ColumnRename}
use Rattle.rename_texts.specs.Renamed.{Rename}
use Rattle.renamed_documents.specs.Laws.{AreRenamed}
use Rattle.renamed_documents.specs.RenamedTables.{Rewriting, grid_after}
use Rattle.renamed_values.specs.HeldRecords.{IsPlain}
use Rattle.renamed_values.specs.SameEv.{IsKept}

-- the columns, rows and cells of a table, where it is there
abbrev pub seen : Document → List ℕ → Option (Grid ColDef)
seen s a = option_map (λ (t : Table). t.grid) (find_id table_id a s)

-- outside the metadata each table of the second is that of the first, under the new name, which
-- the first has not in that table
pub record HasMoved (m : ColumnRename) (w : Rewriting) (s s' : Document) : Type 0 where
  pub old : is_id m.old ≡ false
  pub new : is_id m.new ≡ false
  pub tables : (a : List ℕ) → IsPlain a → seen s' a ≡ option_map (grid_after m w a) (seen s a)
  pub free : (a : List ℕ) (g : Grid ColDef) → IsPlain a → seen s a ≡ Some g
      → AllByRecursion (λ (d : ColDef). IsKept m a d.id) g.columns

-- so it is of documents with a column under a new name, with all values in place
abbrev pub MovedFillingLaw : Type 0
MovedFillingLaw = (m : ColumnRename) (r : List ℕ → Rename) (w : Rewriting) (k : Columns)
    (s s' : Document) → AreRenamed m r w k s s' → HasMoved m w (filled s) (filled s')
