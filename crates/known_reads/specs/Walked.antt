-- Cells evaluated one after the other.
use Rattle.std.specs.Prelude.{ℕ, List, [], ◌≡◌}
use Rattle.std.specs.List.{AllByRecursion}
use Rattle.cell_types.specs.declared.cell.CellId.{CellId}
use Rattle.doc_model.specs.Document.{Document}
use Rattle.recalc.specs.declared.kept.KeptTable.{KeptTable}
use Rattle.recalc.specs.Evaluated.{sheet_of}
use Rattle.recalc.specs.Kept.{IsFurther, held_at}
use Rattle.affected_values.specs.Taken.{IsHeldWhere}
use Rattle.known_reads.specs.Attempts.{IsSpent, due}
use Rattle.known_reads.specs.Beside.{Beside}
use Rattle.known_reads.specs.Recorded.{IsRecording}

-- from the first values, graph and count to the second: what was known is known, and what is known
-- is right; the graph came to have the notes of what became known; the count went up by no more
-- than these cells take
pub record IsWalked (s : Document) (ks : List KeptTable) (old : Beside) (n : ℕ)
    (ls : List KeptTable) (new : Beside) (m : ℕ) : Type 0 where
  pub further : IsFurther s ks ls
  pub recording : IsRecording s (held_at s ks) old (held_at s ls) new
  pub attempts : IsSpent (sheet_of s) (held_at s ks) [] (due n old) (held_at s ls) [] (due m new)
  pub owed : new.owed ≡ old.owed

-- the values of those of the cells that are formula cells are known
abbrev pub AreHeld : Document → List KeptTable → List CellId → Type 0
AreHeld s ks cells = AllByRecursion (IsHeldWhere s ks) cells
