-- What is kept of the document before an action is enough.
use Rattle.std.proofs.Common.{◌≡◌, ◌∙◌, ap, refl, sym, ℕ, Bool, true, false, cond, ◌||◌, List, [], ◌∷◌, map, Option, Some, None, bytes_eq}
use Rattle.std.specs.Option.{option_map}
use Rattle.std.proofs.lemmas.Slice.Eq.{bytes_eq-Decides}
use Rattle.cell_types.specs.declared.value.CellValue.{CellValue}
use Rattle.doc_model.specs.declared.action.DocAction.{DocAction}
use Rattle.doc_model.specs.declared.action.DocAction.TheVariants.{BulkAdd, BulkRemove, BulkUpdate}
use Rattle.doc_model.specs.declared.column.CellColumn.{CellColumn}
use Rattle.doc_model.specs.Document.{Document}
use Rattle.doc_model.specs.MetadataIds.{is_acl_id}
use Rattle.doc_model.specs.Readers.{cell_at}
use Rattle.acl_formula.specs.RuleFields.{cell_in}
use Rattle.acl_formula.specs.RuleRow.{RuleRow}
use Rattle.acl_formula.specs.declared.permissions.Perm.TheVariants as perm
use Rattle.acl_formula.specs.declared.user_info.AttributeRow.{AttributeRow}
use Rattle.acl_rules.specs.declared.decision.Ctx.{Ctx}
use Rattle.acl_rules.specs.declared.decision.Decision.{Decision}
use Rattle.acl_rules.specs.declared.decision.RuleId.{RuleId}
use Rattle.acl_rules.specs.Reading.{columns_read, is_among, narrowed}
use Rattle.acl_rules.proofs.NarrowLemmas.{decision_narrowed}
use Rattle.acl_checks.specs.declared.before.BeforeStep.TheVariants as kept
use Rattle.acl_checks.specs.BeforeStep.{Holds, kept_checks, kept_row, row_of}
use Rattle.acl_checks.specs.Checks.{Check, add_checks, cell_checks, checks_of, remove_checks, row_at, row_check, update_checks}
use Rattle.acl_checks.specs.Denials.{asked_in, decided, denial_or, first_denied}
use Rattle.acl_checks.specs.Kept.{kept_cells, with_cell}
use Rattle.acl_checks.proofs.DenialLemmas.{same_parts}

-- kept cells are those of the row in these columns
module _ (s : Document) (table : List ℕ) (r : ℕ) where
  cell_told : (names : List (List ℕ)) (c : List ℕ) → cell_in (kept_cells s table r names) c ≡ cond (is_among names c) (cell_at s table c r) None
  cell_told [] c = refl
  cell_told (n ∷ names) c = by (bytes_eq n c) (cell_at s table n r) refl refl (cell_told names c)
    where
      none : (b : Bool) (o : Option CellValue) → o ≡ None → cond b o None ≡ None
      none true o h = h
      none false o h = refl

      by : (b : Bool) (o : Option CellValue) → bytes_eq n c ≡ b → cell_at s table n r ≡ o
          → cell_in (kept_cells s table r names) c ≡ cond (is_among names c) (cell_at s table c r) None
          → cell_in (with_cell n o (kept_cells s table r names)) c ≡ cond (b || is_among names c) (cell_at s table c r) None
      by true None e f rest =
          let here : cell_at s table c r ≡ None = ap (λ (m : List ℕ). cell_at s table m r) (sym ((bytes_eq-Decides n c).0 e)) ∙ f in
          rest ∙ none (is_among names c) (cell_at s table c r) here ∙ sym here
      by true (Some v) e f rest =
          let here : cell_at s table c r ≡ Some v = ap (λ (m : List ℕ). cell_at s table m r) (sym ((bytes_eq-Decides n c).0 e)) ∙ f in
          ap (λ (b : Bool). cond b (Some v) (cell_in (kept_cells s table r names) c)) e ∙ sym here
      by false None e f rest = rest
      by false (Some v) e f rest = ap (λ (b : Bool). cond b (Some v) (cell_in (kept_cells s table r names) c)) e ∙ rest

  pub row_told : (names : List (List ℕ)) (k : AttributeRow) → k.row ≡ r → k.cells ≡ kept_cells s table r names → kept_row k ≡ narrowed names (row_at s table r)
  row_told names k e f = λ i. record { id = e i; cell = λ c. (ap (λ cells. cell_in cells c) f ∙ cell_told names c) i }

module _ (x : Ctx) (table : List ℕ) where
  abbrev names : List (List ℕ)
  names = columns_read x.book table

  -- a row is checked alike without the columns that no rule reads
  cells_same : (b a : RuleRow) (columns : List CellColumn) → first_denied x (cell_checks table (narrowed names b) a columns) ≡ first_denied x (cell_checks table b a columns)
  cells_same b a [] = refl
  cells_same b a (c ∷ columns) =
      ap (λ (d : Decision). denial_or d (first_denied x (cell_checks table (narrowed names b) a columns)))
      (decision_narrowed x.book table (asked_in x.user (row_check perm.U table (Some c.id) b a)) perm.U (Some c.id))
      ∙ ap (denial_or (decided x (row_check perm.U table (Some c.id) b a))) (cells_same b a columns)

  abbrev first_row : RuleRow → List RuleRow → RuleRow
  first_row d [] = d
  first_row d (w ∷ ws) = w

  abbrev other_rows : List RuleRow → List RuleRow
  other_rows [] = []
  other_rows (w ∷ ws) = ws

  module _ (s t : Document) (columns : List CellColumn) where
    rows_same : (rows : List ℕ) (ks : List AttributeRow) → map kept_row ks ≡ map (λ r. narrowed names (row_at s table r)) rows
        → first_denied x (update_checks s t table rows columns) ≡ first_denied x (kept_checks t table ks columns)
    rows_same [] [] e = refl
    rows_same [] (k ∷ ks) e = absurd (cc)
    rows_same (r ∷ rows) [] e = absurd (cc)
    rows_same (r ∷ rows) (k ∷ ks) e =
        let head : kept_row k ≡ narrowed names (row_at s table r) = ap (first_row (kept_row k)) e in
        let id : k.row ≡ r = ap (λ (w : RuleRow). w.id) head in
        same_parts x (cell_checks table (row_at s table r) (row_at t table r) columns) (update_checks s t table rows columns) (cell_checks table (kept_row k) (row_at t table k.row) columns) (kept_checks t table ks columns)
        (sym (cells_same (row_at s table r) (row_at t table r) columns)
        ∙ ap (λ (w : RuleRow). first_denied x (cell_checks table w (row_at t table r) columns)) (sym head)
        ∙ ap (λ (q : ℕ). first_denied x (cell_checks table (kept_row k) (row_at t table q) columns)) (sym id))
        (rows_same rows ks (ap other_rows e))

  module _ (s : Document) where
    -- nothing is checked of the access rules
    pub acl_update_holds : is_acl_id table ≡ true → (rows : List ℕ) (columns : List CellColumn) → Holds (kept.Decided None) x s (BulkUpdate table rows columns)
    unfolding Holds
    acl_update_holds h rows columns = λ t. ap (λ (b : Bool). first_denied x (cond b [] (update_checks s t table rows columns))) h

    pub acl_add_holds : is_acl_id table ≡ true → (rows : List ℕ) (columns : List CellColumn) → Holds (kept.Decided None) x s (BulkAdd table rows columns)
    unfolding Holds
    acl_add_holds h rows columns = λ t. ap (λ (b : Bool). first_denied x (cond b [] (add_checks t table rows columns))) h

    pub acl_remove_holds : is_acl_id table ≡ true → (rows : List ℕ) → Holds (kept.Decided None) x s (BulkRemove table rows)
    unfolding Holds
    acl_remove_holds h rows = λ t. ap (λ (b : Bool). first_denied x (cond b [] (remove_checks s table rows))) h

    pub update_holds : is_acl_id table ≡ false → (rows : List ℕ) (ks : List AttributeRow) → map kept_row ks ≡ map (λ r. narrowed names (row_at s table r)) rows → (columns : List CellColumn) → Holds (kept.Rows ks) x s (BulkUpdate table rows columns)
    unfolding Holds
    update_holds h rows ks e columns = λ t. ap (λ (b : Bool). first_denied x (cond b [] (update_checks s t table rows columns))) h ∙ rows_same s t columns rows ks e

    pub add_holds : is_acl_id table ≡ false → (ks : List AttributeRow) (rows : List ℕ) (columns : List CellColumn) → Holds (kept.Rows ks) x s (BulkAdd table rows columns)
    unfolding Holds
    add_holds h ks rows columns = λ t. ap (λ (b : Bool). first_denied x (cond b [] (add_checks t table rows columns))) h

    pub remove_holds : is_acl_id table ≡ false → (rows : List ℕ) (d : Option RuleId) → option_map row_of d ≡ first_denied x (remove_checks s table rows) → Holds (kept.Decided d) x s (BulkRemove table rows)
    unfolding Holds
    remove_holds h rows d e = λ t. ap (λ (b : Bool). first_denied x (cond b [] (remove_checks s table rows))) h ∙ sym e

-- what is decided before an action whatever comes behind it
pub decided_holds : (x : Ctx) (s : Document) (a : DocAction) (checks : List Check) (d : Option RuleId) → ((t : Document) → checks_of s t a ≡ checks) → option_map row_of d ≡ first_denied x checks → Holds (kept.Decided d) x s a
unfolding Holds
decided_holds x s a checks d same e = λ t. ap (first_denied x) (same t) ∙ sym e
