-- What the steps of a turn tell the seat that makes them.
use Rattle.std.specs.Prelude.{◌≡◌, ◌≢◌, ℕ, List, [], ◌∷◌, ◌++◌, Option, Some, None}
use Rattle.atomic_table.specs.Table.{Step}
use Rattle.session_gate.specs.declared.known.Made.{Made}
use Rattle.session_gate.specs.declared.known.Known.{Known}
use Rattle.session_gate.specs.History.{entries_of, calls_by, grown, IsLegal}
use Rattle.session_gate.specs.Known.{Sat, holding, resting}

module _ {M E O Ev Out : Type 0} (history : M → List E) (opening : M → O)
    (takes_event : Ev → Type 0) (answers : O → List E → List E → Ev → Out → Type 0) where
  -- turn won: the seat has the machine, and has seen its whole history, with no new call of its own
  pub record Wins (k : Known E O) (old new : Sat M E O) : Type 0 where
    pub between : List (Made E)
    pub machine : M
    pub now : ◌≡◌ {A = Sat M E O} new
        (Some (holding k (k.seen ++ between)), (0, Some machine) ∷ old.1)
    pub apart : calls_by k.number between ≡ []
    pub history_is : history machine ≡ entries_of (k.seen ++ between)
    pub opening_is : opening machine ≡ k.opening
    pub legal : IsLegal takes_event answers k.opening (k.seen ++ between)

  -- turn won, whatever the seat knew
  abbrev pub IsWon : Sat M E O → Sat M E O → Type 0
  IsWon old new = (k : Known E O) → old.0 ≡ Some k → Wins k old new

  -- the turn is won where the word was as expected; else nothing changed
  abbrev pub wins_or_loses : Step (Option M) → Sat M E O → ℕ → Sat M E O → Type 0
  wins_or_loses step old found new = (found ≡ step.first → IsWon old new)
      × (found ≢ step.first → new ≡ old)

  -- slot out: in a turn of the pass k, the machine is out of the slot
  pub record IsOut (k : Known E O) (me : Sat M E O) (machine : M) : Type 0 where
    pub between : List (Made E)
    pub apart : calls_by k.number between ≡ []
    pub now : ◌≡◌ {A = Sat M E O} me (Some (holding k (k.seen ++ between)), (0, None) ∷ [])
    pub history_is : history machine ≡ entries_of (k.seen ++ between)
    pub opening_is : opening machine ≡ k.opening
    pub legal : IsLegal takes_event answers k.opening (k.seen ++ between)

module _ {M E O : Type 0} (history : M → List E) where
  -- turn returned: what the machine added is seen too, and the turn is given up
  abbrev pub returns_turn : Step (Option M) → Sat M E O → ℕ → Sat M E O → Type 0
  returns_turn step old found new = (k : Known E O) (m : M) → old ≡ (Some k, (0, Some m) ∷ [])
      → new ≡ (Some (resting k (grown k.number k.seen (history m))), [])
