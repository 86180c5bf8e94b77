use Rattle.std.proofs.Common.{ℕ, ◌≡◌, ◌||◌, drop, nat_cmp}
use Rattle.std.specs.BTreeSet.{contains_by}
use Rattle.doc_model.specs.Rows.{has}
use Rattle.user_actions.proofs.gone_rows.GoneRows.new.Given as goal

-- what is in the set, or is to come
abbrev pub invariant-loop-row : goal.invariant-loop-row
invariant-loop-row l = (q : ℕ) → (contains_by (nat_cmp q) l.sorted || has (drop l.row-index l.row-items) q) ≡ has l.row-items q
