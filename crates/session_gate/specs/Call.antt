-- What one call tells its pass.
use Rattle.std.specs.Prelude.{◌≡◌, ◌⊎◌, List, [], ◌∷◌, ◌++◌, Some}
use Rattle.session_gate.specs.declared.known.Made.{Made}
use Rattle.session_gate.specs.History.{entries_of, calls_by, made_by, IsLegal}
use Rattle.session_gate.specs.Views.{PassView}

module _ {E O : Type 0} where
  -- the calls of the pass itself, in its order
  abbrev pub own_calls : PassView E O → List E
  own_calls pass = calls_by pass.number pass.seen

  -- the same pass of the same gate, over the same opening
  pub record IsSamePass (old new : PassView E O) : Type 0 where
    pub gate : new.gate ≡ old.gate
    pub number : new.number ≡ old.number
    pub opening : new.opening ≡ old.opening

  -- the pass has seen more of the history, and no call of its own in it
  pub record SeesMore (old new : PassView E O) : Type 0 where
    pub between : List (Made E)
    pub apart : calls_by old.number between ≡ []
    pub seen : new.seen ≡ old.seen ++ between
    pub own : own_calls new ≡ own_calls old

  -- The others' entries `between` came, and then the call: its own entry is the last one that the
  -- pass has seen, and one more of its calls, or the step added none
  abbrev pub EndsWithCall : PassView E O → List (Made E) → PassView E O → Type 0
  EndsWithCall old between new =
      ((new.seen ≡ old.seen ++ between) × (own_calls new ≡ own_calls old))
      ⊎ ((e : E) × (new.seen ≡ (old.seen ++ between) ++ made_by old.number e ∷ [])
      × (own_calls new ≡ own_calls old ++ e ∷ []))

module _ {E O Ev Out : Type 0} (answers : O → List E → List E → Ev → Out → Type 0) where
  -- One call: the machine's answer at that point of the history, which begins with all that the
  -- pass had seen and ends with the call, or to which the step added nothing
  pub record IsCall (old new : PassView E O) (event : Ev) (out : Out) : Type 0 where
    pub opening : O
    pub opening_is : old.opening ≡ Some opening
    pub between : List (Made E)
    pub apart : calls_by old.number between ≡ []
    pub ends : EndsWithCall old between new
    pub answer : answers opening (entries_of (old.seen ++ between)) (entries_of new.seen) event out

module _ {E O Ev Out : Type 0} (takes_event : Ev → Type 0)
    (answers : O → List E → List E → Ev → Out → Type 0) where
  -- the history that the pass has seen is legal
  abbrev pub HasSeenLegal : PassView E O → Type 0
  HasSeenLegal pass = (o : O) → pass.opening ≡ Some o → IsLegal takes_event answers o pass.seen

  -- whatever the others added since, the machine takes the event without memory
  abbrev pub IsSureAt : (O → List E → Ev → Type 0) → PassView E O → Ev → Type 0
  IsSureAt is_sure pass event = (o : O) (between : List (Made E)) → pass.opening ≡ Some o
      → calls_by pass.number between ≡ [] → IsLegal takes_event answers o (pass.seen ++ between)
      → is_sure o (entries_of (pass.seen ++ between)) event
