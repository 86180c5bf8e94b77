-- What is found by the reads that an action touches.
use Rattle.std.proofs.Common.{ℕ, Bool, true, false, List, [], ◌∷◌, ◌≡◌, inl, inr, refl, sym, ap, ◌∙◌, subst, Option, Some, None}
use Rattle.std.proofs.lemmas.Bool.{false≢true, or_cases, or_left, or_right}
use Rattle.std.specs.List.{AllByRecursion}
use Rattle.doc_model.specs.declared.action.DocAction.{DocAction}
use Rattle.doc_model.specs.declared.action.DocAction.TheVariants.{BulkAdd, BulkUpdate, BulkRemove, AddTable, RemoveTable, RenameTable, AddColumn, RemoveColumn, RenameColumn, ModifyColumn}
use Rattle.doc_model.specs.Document.{Document}
use Rattle.doc_model.specs.DocumentLaws.{IsWhole}
use Rattle.doc_model.specs.Valid.{valid}
use Rattle.recalc.specs.Evaluated.{formula_cells, sheet_of}
use Rattle.recalc.proofs.SheetLemmas.{is_sheet}
use Rattle.affected_cells.specs.Touched.{is_touched}
use Rattle.affected_cells.specs.TouchedRight.{TouchesRight}
use Rattle.affected_cells.proofs.AddedColumn.{add_column_law}
use Rattle.affected_cells.proofs.AddedTable.{add_table_law}
use Rattle.affected_cells.proofs.KeptLaws.{update_law}
use Rattle.affected_cells.proofs.ModifiedColumn.{modify_column_law}
use Rattle.affected_cells.proofs.RemovedColumn.{remove_column_law}
use Rattle.affected_cells.proofs.RemovedTable.{remove_table_law}
use Rattle.affected_cells.proofs.RenamedColumn.{rename_column_law}
use Rattle.affected_cells.proofs.RenamedTable.{rename_table_law}
use Rattle.affected_cells.proofs.RowsLaw.{rows_law}
use Rattle.dep_graph.specs.declared.numbers.CellNumber.{CellNumber}
use Rattle.dep_graph.specs.declared.numbers.ReadNumber.{ReadNumber}
use Rattle.dep_graph.specs.declared.numbers.ReadNumber.TheVariants as read
use Rattle.dep_graph.specs.Graph.{Graph}
use Rattle.dep_graph.specs.NumberLaws.{read_itself, same_read}
use Rattle.dep_graph.specs.Numbers.{is_read}
use Rattle.dep_graph.specs.Records.{holds, reads_under}
use Rattle.dep_graph.specs.Sources.{read_source, source_in}
use Rattle.affected_search.specs.Actions.{KeepsOthers}
use Rattle.affected_search.specs.ByAction.{FindsAffected}
use Rattle.affected_search.specs.ExactNotes.{HasNotes}
use Rattle.affected_search.specs.Listed.{read_beside}
use Rattle.affected_search.specs.Reached.{IsAffected}
use Rattle.affected_search.specs.Sheets.{HoldsReads, has_number}
use Rattle.affected_search.specs.TouchedReads.{recorded, with_cells}
use Rattle.affected_search.specs.Touches.{NumberTouch, TellTouched, tells, touches_number}
use Rattle.affected_search.proofs.ActionLaws.{any_at}
use Rattle.affected_search.proofs.ExactNotes.{exact}
use Rattle.affected_search.proofs.ListedTouched.{IsBeside, only_reads, only_touched}
use Rattle.affected_search.proofs.NotedLaws.{notes_reads_law}
use Rattle.affected_search.proofs.SheetLaws.{ListsReadsOf, found_keeps}
use Rattle.affected_search.proofs.TouchedWalk.{each_listed, only_passing}
use Rattle.affected_search.proofs.WithinLaws.{within_law}

-- a valid action on a whole document touches no other reads than is said of it
action_right : (s : Document) (a : DocAction) → IsWhole s → valid s a ≡ true → TouchesRight s a
action_right s (BulkAdd t rows ks) whole ok = (rows_law s t rows).added ks ok
action_right s (BulkUpdate t rows ks) whole ok = update_law s t rows ks ok
action_right s (BulkRemove t rows) whole ok = (rows_law s t rows).removed ok
action_right s (AddTable t row ds) whole ok = add_table_law s t row ds whole ok
action_right s (RemoveTable t) whole ok = remove_table_law s t whole ok
action_right s (RenameTable t new) whole ok = rename_table_law s t new whole ok
action_right s (AddColumn t d) whole ok = add_column_law s t d whole ok
action_right s (RemoveColumn t c) whole ok = remove_column_law s t c whole ok
action_right s (RenameColumn t c new) whole ok = rename_column_law s t c new whole ok
action_right s (ModifyColumn t c info) whole ok = modify_column_law s t c info whole ok

-- ---- what is told is a read of its own

plain_touch : (m : NumberTouch) (n : ReadNumber) → touches_number m n ≡ true → read_beside n ≡ n
plain_touch m (read.Cell d) h = refl
plain_touch m (read.Key k) h = refl
plain_touch m (read.Rows t) h = refl
plain_touch m (read.All t) h = absurd (false≢true h)
plain_touch m (read.Value v) h = absurd (false≢true h)
plain_touch m (read.Part v) h = absurd (false≢true h)

plain : (touches : List NumberTouch) (n : ReadNumber) → tells touches n ≡ true → read_beside n ≡ n
plain [] n h = absurd (false≢true h)
plain (m ∷ touches) n h = elim (or_cases (touches_number m n) (tells touches n) h) [
  | inl here ↦ plain_touch m n here
  | inr later ↦ plain touches n later
]

module _ (names : List (List ℕ)) (s : Document) (a : DocAction) (touches : List NumberTouch) (told : TellTouched names s a touches) where
  beside : (n : ReadNumber) → tells touches n ≡ true → IsBeside names (is_touched s a) n
  beside n on q is = by (source_in names (read_source q)) refl (subst (λ m. has_number names m q ≡ true) (plain touches n on) is)
    where
      by : (o : Option ReadNumber) → source_in names (read_source q) ≡ o → elim o as (λ _. Bool) [ None ↦ false | Some m ↦ is_read m n ] ≡ true → is_touched s a q ≡ true
      by None at h = absurd (false≢true h)
      by (Some m) at h = sym (told q m at) ∙ ap (tells touches) (same_read m n h) ∙ on

  each_beside : (numbers : List ReadNumber) → ((n : ReadNumber) → holds numbers n ≡ true → tells touches n ≡ true) → AllByRecursion (IsBeside names (is_touched s a)) numbers
  each_beside [] only = tt
  each_beside (n ∷ numbers) only = (
    beside n (only n (or_left (is_read n n) (holds numbers n) (read_itself n))),
    each_beside numbers (λ m h. only m (or_right (is_read m n) (holds numbers m) h)),
  )

-- ---- the search from what is told

-- what is listed, where the same touches are passed
pub listed_by : (s : Document) (graph : Graph) (given touches : List NumberTouch) (reads numbers : List ReadNumber) → given ≡ touches → reads ≡ with_cells (tells given) graph [] (formula_cells s)
    → numbers ≡ reads → numbers ≡ with_cells (tells touches) graph [] (formula_cells s)
listed_by s graph given touches reads numbers same listed is = is ∙ subst (λ l. reads ≡ with_cells (tells l) graph [] (formula_cells s)) same listed

module _ (s : Document) (a : DocAction) (graph : Graph) (touches : List NumberTouch) (numbers : List ReadNumber) (cells : List CellNumber) (whole : IsWhole s) (has : HasNotes graph (sheet_of s))
    (told : TellTouched graph.names s a touches) (listed : numbers ≡ with_cells (tells touches) graph [] (formula_cells s)) (found : IsAffected graph.reads numbers cells) where
  held : HoldsReads graph (sheet_of s)
  held c f e = notes_reads_law graph (sheet_of s) c ((exact graph (sheet_of s) has).0 c f e)

  lists : ListsReadsOf graph numbers cells found.closed (sheet_of s) (is_touched s a)
  lists c f k e at q n is on h =
      let there : holds (recorded graph c) n ≡ true = subst (λ o. holds (elim o as (λ _. List ReadNumber) [ None ↦ [] | Some j ↦ reads_under graph.reads j ]) n ≡ true) (sym at) h in
      any_at (holds (reads_under graph.reads k)) numbers n
      (subst (λ l. holds l n ≡ true) (sym listed) (each_listed (tells touches) graph n (told q n is ∙ on) c there (formula_cells s) [] ((is_sheet s).listed c f e))) h

  pub action_keeps : KeepsOthers s graph a cells
  action_keeps ok = found_keeps s a graph numbers cells (action_right s a whole ok) held found.closed lists

  pub action_finds : FindsAffected s graph a cells
  action_finds ok c k f e is there =
      let no_more = (exact graph (sheet_of s) has).1 in
      let only : (n : ReadNumber) → holds numbers n ≡ true → tells touches n ≡ true
      = λ n h. only_passing (tells touches) graph n (formula_cells s) [] (λ g. absurd (false≢true g)) (subst (λ l. holds l n ≡ true) listed h) in
      within_law s a graph numbers (action_right s a whole ok) (only_reads graph (sheet_of s) no_more)
      (only_touched graph (sheet_of s) no_more (is_touched s a) numbers (each_beside graph.names s a touches told numbers only)) c k f e is (found.reached k there)
