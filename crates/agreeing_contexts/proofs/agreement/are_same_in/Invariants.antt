use Rattle.std.proofs.Common.{drop}
use Rattle.agreeing_contexts.specs.Agreement.{AreSameIn}
use Rattle.agreeing_contexts.proofs.agreement.are_same_in.Given as goal

-- all are, where those that are left are, and then only
abbrev pub invariant-loop-field : goal.invariant-loop-field
invariant-loop-field l =
    (AreSameIn (drop l.field-index l.fields) l.left l.right → AreSameIn l.fields l.left l.right)
    × (AreSameIn l.fields l.left l.right → AreSameIn (drop l.field-index l.fields) l.left l.right)
