use Rattle.std.proofs.Common.{ℕ, nat_eq, ◌≡◌, take}
use Rattle.std.specs.List.{list_any}
use Rattle.doc_model.specs.Rows.{has}
use Rattle.affected_search.proofs.touch.set_of.Given as goal

-- the set has the rows so far
abbrev pub invariant-loop-row : goal.invariant-loop-row
invariant-loop-row l = (r : ℕ) → list_any (nat_eq r) l.set.keys ≡ has (take l.row-index l.rows) r
