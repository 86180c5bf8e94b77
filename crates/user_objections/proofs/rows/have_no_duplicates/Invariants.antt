use Rattle.std.proofs.Common.{ℤ, ◌≡◌, ◌-◌, true, drop, length}
use Rattle.std.specs.BTreeSet.{contains_by}
use Rattle.std.specs.Ordering.{int_cmp}
use Rattle.user_actions.specs.Given.{have_no_duplicates, has_number}
use Rattle.user_objections.proofs.rows.have_no_duplicates.Given as goal

abbrev pub invariant-loop-taken : goal.invariant-loop-taken
invariant-loop-taken l = record {
  once : have_no_duplicates (drop (length l.numbers - l.taken) l.numbers) ≡ true;
  seen : (q : ℤ) → contains_by (int_cmp q) l.later ≡ has_number (drop (length l.numbers - l.taken) l.numbers) q;
}
