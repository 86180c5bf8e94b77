-- Rows of which columns were read are those of the document.
use Rattle.std.proofs.Common.{ℕ, Bool, true, false, cond, List, [], ◌∷◌, ◌≡◌, refl, sym, ap, ◌∙◌, Option, Some, None, Bor, option_map}
use Rattle.std.proofs.lemmas.Option.{slice_get-map}
use Rattle.std.proofs.lemmas.Slice.Eq.{bytes_eq-Decides}
use Rattle.std.specs.List.{slice_get}
use Rattle.std.specs.Option.{option_copied}
use Rattle.std.specs.Str.{bytes_eq}
use Rattle.cell_types.specs.declared.value.CellValue.{CellValue}
use Rattle.doc_model.specs.Document.{Document}
use Rattle.doc_model.specs.Readers.{cell_at}
use Rattle.doc_readers.specs.Parts.{grid_at}
use Rattle.acl_formula.specs.RuleRow.{RuleRow}
use Rattle.censored_view.specs.declared.read_rows.ReadColumn.{ReadColumn}
use Rattle.censored_view.specs.ReadRows.{AreRead, IsRead, cell_in, read_cell}
use Rattle.censored_view.specs.Readable.{row_of}
use Rattle.censored_view.proofs.ShownRows.{cell_of_row}
use mathlib.Core.Path.{fun_ext}

abbrev joined : Option (Option CellValue) → Option CellValue
joined None = None
joined (Some o) = o

module _ (s : Document) (table : List ℕ) (rows : List ℕ) (i r : ℕ) (at : slice_get rows i ≡ Some r) where
  -- what was read of the row in a column
  read_there : (k : ReadColumn) → IsRead s table rows k → cell_in k i ≡ cell_at s table k.id r
  read_there k is =
      by (slice_get k.cells.items i)
      ∙ ap joined (sym (slice_get-map option_copied k.cells.items i) ∙ ap (λ l. slice_get l i) is ∙ slice_get-map (cell_at s table k.id) rows i ∙ ap (option_map (cell_at s table k.id)) at)
    where
      by : (o : Option (Option (Bor CellValue))) → elim o as (λ _. Option CellValue) [ None ↦ None | Some p ↦ option_copied p ] ≡ joined (option_map option_copied o)
      by None = refl
      by (Some p) = refl

  as_told : (c : List ℕ) (ks : List ReadColumn) → AreRead s table rows ks → read_cell i ((row_of (grid_at s table) r).cell c) c ks ≡ (row_of (grid_at s table) r).cell c
  as_told c [] are = refl
  as_told c (k ∷ ks) are = by (bytes_eq k.id c) refl (as_told c ks are.1)
    where
      by : (b : Bool) → bytes_eq k.id c ≡ b → read_cell i ((row_of (grid_at s table) r).cell c) c ks ≡ (row_of (grid_at s table) r).cell c → cond b (cell_in k i) (read_cell i ((row_of (grid_at s table) r).cell c) c ks) ≡ (row_of (grid_at s table) r).cell c
      by true e rest =
          read_there k are.0
          ∙ ap (λ id. cell_at s table id r) ((bytes_eq-Decides k.id c).0 e)
          ∙ cell_of_row s table c r
      by false e rest = rest

  abbrev read_of : List ReadColumn → RuleRow
  read_of ks = record { id = r; cell = λ c. read_cell i ((row_of (grid_at s table) r).cell c) c ks }

  -- the row is that of the document
  pub row_read : (ks : List ReadColumn) → AreRead s table rows ks → read_of ks ≡ row_of (grid_at s table) r
  row_read ks are = λ j. record { id = r; cell = fun_ext (λ c. as_told c ks are) j }
