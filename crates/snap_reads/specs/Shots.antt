-- Operations that lead on from one history to the next.
use Rattle.std.specs.Prelude.{List, [], ◌∷◌}
use Rattle.snap_reads.specs.declared.past.Past.{Past}

module _ {X O E : Type 0} (led_to : X → Past O E) where
  -- the history that the last of these operations leads to
  abbrev pub last_of : Past O E → List X → Past O E
  last_of past [] = past
  last_of past (op ∷ ops) = last_of (led_to op) ops

module _ {X O E : Type 0} (led_to : X → Past O E) (leads : Past O E → X → Type 0) where
  -- each operation leads on from where the one before it led
  abbrev pub LeadsAll : Past O E → List X → Type 0
  LeadsAll past [] = Unit {0}
  LeadsAll past (op ∷ ops) = leads past op × LeadsAll (led_to op) ops
