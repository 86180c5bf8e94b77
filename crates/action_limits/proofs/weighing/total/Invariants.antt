use Rattle.std.proofs.Common.{ℕ, ◌≡◌, take}
use Rattle.std.specs.Fn.{FnReturnsAt}
use Rattle.doc_model.proofs.TotalsLaws.{sum_of}
use Rattle.action_limits.specs.Capped.{capped}
use Rattle.action_limits.proofs.weighing.total.Given as goal

-- the sum so far, whatever function tells what is counted
abbrev pub invariant-loop-item : goal.invariant-loop-item
invariant-loop-item g l = (f : g.row.T.Denot → ℕ) → ((x : _) (n : ℕ) → FnReturnsAt g.F.Fn l.fn.count x n → n ≡ capped (f x)) → l.sum ≡ capped (sum_of f (take l.item-index l.items))
