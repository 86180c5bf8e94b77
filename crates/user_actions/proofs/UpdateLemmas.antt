-- Updates of the cells that something changes.
use Rattle.std.proofs.Common.{ℕ, ◌+◌, ◌<◌, ◌≤◌, Bool, true, false, not, List, [], ◌∷◌, ◌++◌, map, drop, length, get_or, ◌≡◌, refl, sym, ap, subst, ◌∙◌, Option}
use Rattle.std.proofs.lemmas.List.{append-nil, drop_all, map-append}
use Rattle.std.specs.Bool.{IsTrue}
use Rattle.std.specs.Option.{MatchOption}
use Rattle.cell_types.specs.declared.value.CellValue.{CellValue}
use Rattle.doc_model.specs.declared.action.DocAction.TheVariants.{BulkUpdate}
use Rattle.doc_model.specs.declared.action.Step.{Step}
use Rattle.doc_model.specs.declared.column.CellColumn.{CellColumn}
use Rattle.doc_model.specs.declared.column.ColDef.{ColDef}
use Rattle.doc_model.specs.Column.{column_id}
use Rattle.doc_model.specs.Grid.{Grid, cell}
use Rattle.doc_model.specs.Same.{same_value}
use Rattle.doc_model.specs.ViewEdits.{if_any}
use Rattle.user_actions.specs.CellUpdates.{column_changed, rows_changed, update_changed}
use Rattle.user_actions.specs.Marked.{indirect}
use Rattle.user_actions.proofs.LoopLemmas.{filter_taken, filter_left, some_row}

-- what is told of a cell that is read, told of the cell
pub change_told : (o : Option CellValue) (read changed v : CellValue) (f : CellValue → CellValue) → read ≡ v → changed ≡ f read
    → MatchOption o (same_value read changed ≡ true) (λ w. (same_value read changed ≡ false) × (w ≡ changed))
    → MatchOption o (same_value v (f v) ≡ true) (λ w. (same_value v (f v) ≡ false) × (w ≡ f v))
change_told o read changed v f at is h =
    subst (λ x. MatchOption o (same_value x (f v) ≡ true) (λ w. (same_value x (f v) ≡ false) × (w ≡ f v))) at
    (subst (λ y. MatchOption o (same_value read y ≡ true) (λ w. (same_value read y ≡ false) × (w ≡ y))) (is ∙ ap f at) h)

abbrev pub new_cell : Grid ColDef → List ℕ → (CellValue → CellValue) → ℕ → CellValue
new_cell g c f r = f (cell column_id g c r)

-- the rows so far with those that are to come, and the values so far
abbrev pub AreChanged : Grid ColDef → List ℕ → (CellValue → CellValue) → List ℕ → ℕ → List ℕ → List CellValue → Type 0
AreChanged g c f rows i done values = (done ++ rows_changed g c f (drop i rows) ≡ rows_changed g c f rows) × (values ≡ map (new_cell g c f) done)

module _ (g : Grid ColDef) (c : List ℕ) (f : CellValue → CellValue) (rows : List ℕ) (i r : ℕ) (done : List ℕ) (values : List CellValue) (lt : i < length rows) (is : r ≡ get_or rows i 0) (so : AreChanged g c f rows i done values) where
  abbrev differs : ℕ → Bool
  differs q = not (same_value (cell column_id g c q) (f (cell column_id g c q)))

  -- one more cell that changes
  pub change_taken : (done' : List ℕ) (v : CellValue) (values' : List CellValue) → same_value (cell column_id g c r) (f (cell column_id g c r)) ≡ false → v ≡ f (cell column_id g c r)
      → done' ≡ done ++ r ∷ [] → values' ≡ values ++ v ∷ [] → AreChanged g c f rows (i + 1) done' values'
  change_taken done' v values' other made pushed kept = (
    filter_taken differs rows i 0 done done' (rows_changed g c f rows) (differs r) lt (ap differs is) so.0 done' (ap not other) refl (pushed ∙ ap (λ q. done ++ q ∷ []) is),
    kept ∙ ap (λ l. l ++ v ∷ []) so.1 ∙ ap (λ w. map (new_cell g c f) done ++ w ∷ []) made ∙ sym (map-append (new_cell g c f) done (r ∷ [])) ∙ ap (map (new_cell g c f)) (sym pushed),
  )

  -- one more that does not
  pub change_left : (done' : List ℕ) (values' : List CellValue) → same_value (cell column_id g c r) (f (cell column_id g c r)) ≡ true → done' ≡ done → values' ≡ values → AreChanged g c f rows (i + 1) done' values'
  change_left done' values' same kept told = (
    filter_left differs rows i 0 done done' (rows_changed g c f rows) (differs r) lt (ap differs is) so.0 (ap not same) kept,
    told ∙ so.1 ∙ ap (map (new_cell g c f)) (sym kept),
  )

pub changes_done : (g : Grid ColDef) (c : List ℕ) (f : CellValue → CellValue) (rows : List ℕ) (i : ℕ) (done : List ℕ) (values : List CellValue) (done' : List ℕ) (values' : List CellValue) → length rows ≤ i → AreChanged g c f rows i done values
    → done' ≡ done → values' ≡ values → (done' ≡ rows_changed g c f rows) × (values' ≡ map (λ r. f (cell column_id g c r)) done')
changes_done g c f rows i done values done' values' past so same kept = (
  same ∙ sym (append-nil done) ∙ sym (ap (λ l. done ++ rows_changed g c f l) (drop_all i rows past)) ∙ so.0,
  kept ∙ so.1 ∙ ap (map (new_cell g c f)) (sym same),
)

module _ (table : List ℕ) (g : Grid ColDef) (c : List ℕ) (f : CellValue → CellValue) (rows : List ℕ) (steps : List Step) (done : List ℕ) (is : done ≡ rows_changed g c f rows) where
  -- the update of these rows
  abbrev of_rows : List ℕ → Step
  of_rows q = indirect (BulkUpdate table q (column_changed g c f q ∷ []))

  pub no_update : done ≡ [] → steps ≡ steps ++ update_changed table g c f rows
  no_update none = sym (append-nil steps) ∙ ap (λ q. steps ++ if_any q (of_rows q)) (sym none ∙ is)

  pub one_update : (values : List CellValue) → values ≡ map (λ r. f (cell column_id g c r)) done → (done ≡ [] → IsTrue false) → (step : Step) (steps' : List Step)
      → step ≡ indirect (BulkUpdate table done (let k : CellColumn = record { id = c; values = values } in k ∷ [])) → steps' ≡ steps ++ step ∷ [] → steps' ≡ steps ++ update_changed table g c f rows
  one_update values kept some step steps' made pushed =
      pushed ∙ ap (λ x. steps ++ x ∷ []) (made ∙ ap (λ vs. indirect (BulkUpdate table done (let k : CellColumn = record { id = c; values = vs } in k ∷ []))) kept)
      ∙ ap (λ l. steps ++ l) (sym (some_row done (of_rows done) some))
      ∙ ap (λ q. steps ++ if_any q (of_rows q)) is
