-- Lists of reads, and what actions on records touch.
use Rattle.std.proofs.Common.{Bool, true, List, [], ◌∷◌, ◌≡◌, inl, inr, subst}
use Rattle.std.proofs.lemmas.Bool.{false≢true, or_cases, or_left, or_right}
use Rattle.std.specs.List.{list_any}
use Rattle.doc_model.specs.declared.action.DocAction.{DocAction}
use Rattle.doc_model.specs.declared.action.DocAction.TheVariants.{BulkAdd, BulkUpdate, BulkRemove, AddTable, RemoveTable, RenameTable, AddColumn, RemoveColumn, RenameColumn, ModifyColumn}
use Rattle.doc_model.specs.Document.{Document}
use Rattle.doc_model.specs.Valid.{valid}
use Rattle.recalc.specs.MayLose.{is_record}
use Rattle.affected_cells.specs.TouchedRight.{TouchesRight}
use Rattle.affected_cells.proofs.KeptLaws.{update_law}
use Rattle.affected_cells.proofs.RowsLaw.{rows_law}
use Rattle.dep_graph.specs.declared.numbers.ReadNumber.{ReadNumber}
use Rattle.dep_graph.specs.NumberLaws.{same_read, read_itself}
use Rattle.dep_graph.specs.Numbers.{is_read}
use Rattle.dep_graph.specs.Records.{holds}

pub any_at : (p : ReadNumber → Bool) (numbers : List ReadNumber) (n : ReadNumber) → holds numbers n ≡ true → p n ≡ true → list_any p numbers ≡ true
any_at p [] n there h = absurd (false≢true there)
any_at p (m ∷ numbers) n there h = elim (or_cases (is_read n m) (holds numbers n) there) [
  | inl here ↦ or_left (p m) (list_any p numbers) (subst (λ q. p q ≡ true) (same_read n m here) h)
  | inr later ↦ or_right (p m) (list_any p numbers) (any_at p numbers n later h)
]

-- a number that is listed and that the cell reads
pub one_of : (p : ReadNumber → Bool) (numbers : List ReadNumber) → list_any p numbers ≡ true → (n : ReadNumber) × (list_any (is_read n) numbers ≡ true) × (p n ≡ true)
one_of p [] h = absurd (false≢true h)
one_of p (m ∷ numbers) h = elim (or_cases (p m) (list_any p numbers) h) [
  | inl here ↦ (m, or_left (is_read m m) (list_any (is_read m) numbers) (read_itself m), here)
  | inr later ↦ let w = one_of p numbers later in (w.0, or_right (is_read w.0 m) (list_any (is_read w.0) numbers) w.1, w.2)
]

-- an action on records touches no other reads than is said of it
pub record_right : (a : DocAction) → is_record a ≡ true → (s : Document) → valid s a ≡ true → TouchesRight s a
record_right (BulkAdd t rows ks) h s ok = (rows_law s t rows).added ks ok
record_right (BulkRemove t rows) h s ok = (rows_law s t rows).removed ok
record_right (BulkUpdate t rows ks) h s ok = update_law s t rows ks ok
record_right (AddTable t row ds) h s ok = absurd (false≢true h)
record_right (RemoveTable t) h s ok = absurd (false≢true h)
record_right (RenameTable t new) h s ok = absurd (false≢true h)
record_right (AddColumn t d) h s ok = absurd (false≢true h)
record_right (RemoveColumn t c) h s ok = absurd (false≢true h)
record_right (RenameColumn t c new) h s ok = absurd (false≢true h)
record_right (ModifyColumn t c info) h s ok = absurd (false≢true h)
