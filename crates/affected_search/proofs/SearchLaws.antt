-- A search under way, and at its end.
use Rattle.std.proofs.Common.{ℕ, true, ◌||◌, List, [], ◌+◌, ◌<◌, ◌≤◌, take, get_or, length, ◌≡◌, sym, ap, ◌∙◌, subst, arith, inl, inr}
use Rattle.std.proofs.lemmas.Bool.{false≢true, or_cases, or_right}
use Rattle.std.proofs.lemmas.List.{take_all, take-append-le}
use Rattle.std.proofs.lemmas.List.Folds.{list_any_at, list_any_more}
use Rattle.std.specs.List.{list_any, IsDistinct}
use Rattle.dep_graph.specs.declared.numbers.CellNumber.{CellNumber}
use Rattle.dep_graph.specs.declared.numbers.ColumnNumber.{ColumnNumber}
use Rattle.dep_graph.specs.declared.numbers.ReadNumber.{ReadNumber}
use Rattle.dep_graph.specs.Numbers.{is_cell, is_column}
use Rattle.dep_graph.specs.NumberLaws.{same_cell, cell_itself}
use Rattle.affected_search.specs.Reached.{ReadLists, is_among, reads_one, reads_naming, IsReached, from_touched, from_cell, IsAffected}
use Rattle.affected_search.specs.Found.{IsMore, HasKeyReaders}
use Rattle.affected_search.proofs.FoundLaws.{more_keeps}
use Rattle.affected_search.proofs.ReachedLaws.{reached_bound}

-- a search whose first cells are passed: their readers are found
pub record IsUnderway (reads : ReadLists) (touched : List ReadNumber) (found : List CellNumber)
    (keys : List ColumnNumber) (passed : ℕ) : Type 0 where
  pub reached : (c : CellNumber) → is_among found c ≡ true → IsReached reads touched c
  pub of_touched : (c : CellNumber) → reads_one reads touched c ≡ true → is_among found c ≡ true
  pub of_passed : (d c : CellNumber) → is_among (take passed found) d ≡ true
      → reads_one reads (reads_naming d) c ≡ true → is_among found c ≡ true
  pub of_keys : HasKeyReaders reads keys found

-- what a place past the end of a list reads
abbrev pub no_cell : CellNumber
no_cell = record { column = record { table = 0; column = 0 }; row = 0 }

module _ (reads : ReadLists) (touched : List ReadNumber) where
  pub begun : (found : List CellNumber) (keys : List ColumnNumber) → keys ≡ [] → IsMore [] found (reads_one reads touched) → IsUnderway reads touched found keys 0
  begun found keys none more = record {
    reached = λ c h. from_touched (sym (more.cells c) ∙ h);
    of_touched = λ c h. more.cells c ∙ h;
    of_passed = λ d c there h. absurd (false≢true there);
    of_keys = λ k c there h. absurd (false≢true (sym (ap (list_any (is_column k)) none) ∙ there));
  }

  pub passed : (found new : List CellNumber) (keys new_keys : List ColumnNumber) (i : ℕ) (x : CellNumber) → i < length found → x ≡ get_or found i x
      → IsUnderway reads touched found keys i → IsMore found new (reads_one reads (reads_naming x)) → HasKeyReaders reads new_keys new → IsUnderway reads touched new new_keys (i + 1)
  passed found new keys new_keys i x l e so more have = record {
    reached = λ c h. elim (or_cases (is_among found c) (reads_one reads (reads_naming x) c) (sym (more.cells c) ∙ h)) [
      | inl old ↦ so.reached c old
      | inr read ↦ from_cell x (so.reached x here) read
    ];
    of_touched = λ c h. more_keeps found new (reads_one reads (reads_naming x)) more c (so.of_touched c h);
    of_passed = λ d c there h. elim (or_cases (is_among (take i found) d) (is_cell d x) (sym (front d) ∙ there)) [
      | inl old ↦ more_keeps found new (reads_one reads (reads_naming x)) more c (so.of_passed d c old h)
      | inr is ↦ more.cells c ∙ or_right (is_among found c) (reads_one reads (reads_naming x) c) (subst (λ y. reads_one reads (reads_naming y) c ≡ true) (same_cell d x is) h)
    ];
    of_keys = have;
  }
    where
      here : is_among found x ≡ true
      here = list_any_at (is_cell x) found i x l (subst (λ y. is_cell x y ≡ true) e (cell_itself x))

      front : (d : CellNumber) → is_among (take (i + 1) new) d ≡ (is_among (take i found) d || is_cell d x)
      front d =
          ap (λ cells. is_among (take (i + 1) cells) d) more.follows ∙ ap (λ cells. is_among cells d) (take-append-le (i + 1) found more.behind (omega arith))
          ∙ list_any_more (is_cell d) found i x l ∙ ap (λ y. is_among (take i found) d || is_cell d y) (sym e)

  -- a cell that is found has a place among the reads of the graph
  pub within : (found : List CellNumber) (keys : List ColumnNumber) (i : ℕ) → i < length found → IsDistinct is_cell found → IsUnderway reads touched found keys i → i < length reads
  within found keys i l once so = let bound : length found ≤ length reads = reached_bound reads touched found once so.reached in omega arith

  pub ended : (found : List CellNumber) (keys : List ColumnNumber) (i : ℕ) → length found ≤ i → IsDistinct is_cell found → IsUnderway reads touched found keys i → IsAffected reads touched found
  ended found keys i l once so = record {
    closed = record {
      of_touched = so.of_touched;
      of_cells = λ d c there h. so.of_passed d c (ap (λ cells. is_among cells d) (take_all i found l) ∙ there) h;
    };
    reached = so.reached;
    once = once;
  }
