use Rattle.std.proofs.Common.{◌≡◌, map, take, Ok}
use Rattle.std.specs.Fn.{FnReturnsAt}
use Rattle.list_ops.proofs.lists.all_made.Given as goal

-- those so far, whatever function tells what is made
abbrev pub invariant-loop-item : goal.invariant-loop-item
invariant-loop-item g l = (f : g.row.T.Denot → g.row.U.Denot) → ((x : _) (y : _) → FnReturnsAt g.F.Fn l.fn.make x (Ok y) → y ≡ f x) → l.all.items ≡ map f (take l.item-index l.items)
