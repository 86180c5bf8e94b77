-- What the lexer's functions say beside the machine.
use Rattle.std.specs.Prelude.{ℕ, ◌≤◌, ◌≡◌, Option, Some, None, Result, Ok, Err}
use Rattle.formula_lex.specs.declared.fault.LexFault.{LexFault}
use Rattle.formula_lex.specs.declared.fault.LexFault.TheVariants as fault
use Rattle.formula_lex.specs.declared.fault.Stop.{Stop}
use Rattle.formula_lex.specs.declared.fault.Stop.TheVariants.{Bad, NoMemory}

-- the machine stops where it is bad
abbrev pub Stops : {Y : Type 0} → Stop → Option Y → Type 0
Stops Bad o = o ≡ None
Stops NoMemory o = Unit {0}

-- what was returned, seen by view, is what the machine gives, unless memory ran out
abbrev pub Gives : {X Y : Type 0} → (X → Y) → Result X Stop → Option Y → Type 0
Gives view (Ok x) o = o ≡ Some (view x)
Gives view (Err e) o = Stops e o

-- the machine stops where it is bad, not behind the place
abbrev pub StopsWithin : {Y : Type 0} → ℕ → LexFault → Option Y → Type 0
StopsWithin n (fault.Bad at) o = (at ≤ n) × (o ≡ None)
StopsWithin n fault.NoMemory o = Unit {0}

-- the same with the place of the fault
abbrev pub GivesWithin : {X Y : Type 0} → ℕ → (X → Y) → Result X LexFault → Option Y → Type 0
GivesWithin n view (Ok x) o = o ≡ Some (view x)
GivesWithin n view (Err e) o = StopsWithin n e o
