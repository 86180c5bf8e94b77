-- The rule that holds between any two steps at the gate's table.
use Rattle.std.specs.Prelude.{◌≡◌, ℕ, ◌+◌, ◌*◌, ◌<◌, ◌≤◌, ◌⊎◌, Bool, true, false, List, [], ◌∷◌, map, length, slice_get, Option, Some, None}
use Rattle.std.specs.List.{sum_by}
use mathlib.Core.Option.{some, none}
use mathlib.Core.List.{IsPrefix}
use lib.ListN.{get_elem?}
use Rattle.session_gate.specs.declared.known.Made.{Made}
use Rattle.session_gate.specs.declared.known.Told.{Told}
use Rattle.session_gate.specs.declared.known.Known.{Known}
use Rattle.session_gate.specs.History.{brought, entries_of, calls_by, IsLegal}
use Rattle.session_gate.specs.Known.{GateState, parts_of}

-- the word: twice the number of entries, and one more while a turn is held
abbrev pub word_of : Bool → ℕ → ℕ
word_of false n = 2 * n
word_of true n = 2 * n + 1

-- the number of one of the first m passes
abbrev pub IsBelow : ℕ → Option ℕ → Type 0
IsBelow m None = ⊥
IsBelow m (Some n) = n < m

-- what the pass n has seen of the history: a beginning, with all that was brought and all its calls
pub record IsSeen {E : Type 0} (base log : List (Made E)) (n : ℕ) (seen : List (Made E))
    : Type 0 where
  pub prefix : IsPrefix seen log
  pub begins : IsPrefix base seen
  pub own : calls_by n log ≡ calls_by n seen

module _ {E O : Type 0} where
  -- the pass n is that of the seat j, or was handed back
  abbrev pub IsOwnOrSpent : List (Option (Known E O)) → ℕ → ℕ → Type 0
  IsOwnOrSpent views j n = (n ≡ j) ⊎ (get_elem? views n ≡ some None)

  -- what is true of the pass that sits at j
  pub record Knows (o : O) (passes : ℕ) (base log : List (Made E)) (held : Bool) (holder : ℕ)
      (views : List (Option (Known E O))) (j : ℕ) (k : Known E O) : Type 0 where
    pub number : k.number ≡ j
    pub opening : k.opening ≡ o
    pub seen : IsSeen base log k.number k.seen
    pub turn : k.turn ≡ true
        → (held ≡ true) × (j ≡ holder) × (k.seen ≡ log) × (k.told ≡ [])
    pub parts : 0 < k.parts
    pub room : 0 < k.room → (j + 1 ≡ length views) × (k.room + length views ≡ passes)
    pub told : (i : ℕ) (t : Told E) → get_elem? k.told i ≡ some t
        → IsOwnOrSpent views j t.number × IsSeen base log t.number t.seen

  -- some pass has seen the whole history, so that each `seen` is a beginning of the longest
  pub record IsLongest (log : List (Made E)) (views : List (Option (Known E O))) (j : ℕ)
      (k : Known E O) : Type 0 where
    pub sits : get_elem? views j ≡ some (Some k)
    pub whole : k.seen ≡ log

module _ {M E O : Type 0} (history : M → List E) (opening : M → O) where
  -- where the machine is: at home with the whole history, or out with whoever holds the turn
  abbrev pub Stands : M → List (Made E) → Bool → ℕ → GateState M E O → Type 0
  Stands start log false holder s = (m : M) × (s.homes ≡ some (Some m) ∷ [])
      × (history m ≡ entries_of log) × (opening m ≡ opening start)
  Stands start log true holder s = (s.homes ≡ none ∷ [])
      × ((k : Known E O) × (get_elem? s.views holder ≡ some (Some k)) × (k.turn ≡ true))

module _ {M E O Ev Out : Type 0} (history : M → List E) (opening : M → O)
    (takes_event : Ev → Type 0) (answers : O → List E → List E → Ev → Out → Type 0) where
  -- There is one legal history. The passes have seen beginnings of it, the longest the whole of it.
  -- The word is twice its length, and one more while a turn is held. All numbers are of passes
  pub record Kept (start : M) (passes : ℕ) (s : GateState M E O) : Type 0 where
    pub log : List (Made E)
    pub held : Bool
    pub holder : ℕ
    pub word : s.words ≡ word_of held (length log) ∷ []
    pub begins : IsPrefix (map brought (history start)) log
    pub legal : IsLegal takes_event answers (opening start) log
    pub stands : Stands history opening start log held holder s
    pub each : (j : ℕ) (k : Known E O) → get_elem? s.views j ≡ some (Some k)
        → Knows (opening start) passes (map brought (history start)) log held holder s.views j k
    pub longest : (j : ℕ) × (k : Known E O) × IsLongest log s.views j k
    pub others : (n : ℕ) → length s.views ≤ n → calls_by n log ≡ []
    pub few : length s.views ≤ passes
    pub numbered : (i : ℕ) (x : Made E) → slice_get log i ≡ Some x → length (history start) ≤ i
        → IsBelow (length s.views) x.by
    pub parts : sum_by parts_of s.views ≡ passes
