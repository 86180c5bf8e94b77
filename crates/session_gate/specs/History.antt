-- Histories whose entries tell which pass made them.
use Rattle.std.specs.Prelude.{◌≡◌, ℕ, suc, Bool, false, ◌==◌, ◌⊎◌, List, [], ◌∷◌, ◌++◌, map, take, drop, length, Option, Some, None, IsSome, slice_get, if◌then◌else◌}
use Rattle.session_gate.specs.declared.known.Made.{Made}

-- the new history is the old one, or it and one entry
abbrev pub AddsOneOrNone : {E : Type 0} → List E → List E → Type 0
AddsOneOrNone {E} old new = (new ≡ old) ⊎ ((e : E) × (new ≡ old ++ e ∷ []))

-- the entry was made by the pass n
abbrev pub is_by : ℕ → Option ℕ → Bool
is_by n None = false
is_by n (Some m) = n == m

module _ {E : Type 0} where
  -- an entry that the machine brought, so that no pass made it
  abbrev pub brought : E → Made E
  brought e = record { by = None; entry = e }

  -- an entry of the pass n
  abbrev pub made_by : ℕ → E → Made E
  made_by n e = record { by = Some n; entry = e }

  -- the entry without its number
  abbrev pub entry_of : Made E → E
  entry_of x = x.entry

  -- the machine's history: the entries without their numbers
  abbrev pub entries_of : List (Made E) → List E
  entries_of log = map entry_of log

  -- the calls of the pass n: its entries, in their order
  abbrev pub calls_by : ℕ → List (Made E) → List E
  calls_by n [] = []
  calls_by n (x ∷ xs) = if is_by n x.by then x.entry ∷ calls_by n xs else calls_by n xs

  -- what was seen, and then what the machine's history h has beyond it, made by the pass n
  abbrev pub grown : ℕ → List (Made E) → List E → List (Made E)
  grown n seen h = seen ++ map (made_by n) (drop (length seen) h)

module _ {E O Ev Out : Type 0} (takes_event : Ev → Type 0)
    (answers : O → List E → List E → Ev → Out → Type 0) where
  -- some event that the machine takes leads from the first history to the second
  abbrev pub Leads : O → List E → List E → Type 0
  Leads o old new = (event : Ev) × (out : Out) × takes_event event × answers o old new event out

  -- each entry that a pass made was added in its place by one step of the machine
  abbrev pub IsLegal : O → List (Made E) → Type 0
  IsLegal o log = (k : ℕ) (x : Made E) → slice_get log k ≡ Some x → IsSome x.by
      → Leads o (entries_of (take k log)) (entries_of (take (suc k) log))

  -- one step of the machine: nothing was added, or one entry to which an event leads
  abbrev pub IsTurn : O → List E → List E → Type 0
  IsTurn o old new = (new ≡ old) ⊎ ((e : E) × (new ≡ old ++ e ∷ []) × Leads o old new)
