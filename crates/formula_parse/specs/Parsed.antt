-- What the parser's functions say beside the machine.
use Rattle.std.specs.Prelude.{ℕ, ◌≤◌, Bool, ◌&&◌, nat_le, cond, List, [], ◌∷◌, ◌≡◌, Option, Some, None, Result, Ok, Err}
use Rattle.formula_lex.specs.declared.fault.LexFault.{LexFault}
use Rattle.formula_lex.specs.declared.fault.LexFault.TheVariants as lex
use Rattle.formula_parse.specs.declared.fault.ParseFault.{ParseFault}
use Rattle.formula_parse.specs.declared.fault.ParseFault.TheVariants as fault
use Rattle.formula_parse.specs.declared.frame.Frame.{Frame}
use Rattle.formula_parse.specs.Machine.{is_last, room_in}

-- the machine stops where there is a syntax fault, not behind n
abbrev pub StopsWithin : {Y : Type 0} → ℕ → ParseFault → Option Y → Type 0
StopsWithin n (fault.Syntax at) o = (at ≤ n) × (o ≡ None)
StopsWithin n fault.NoMemory o = Unit {0}

-- what was returned is what the machine gives, unless memory ran out
abbrev pub GivesWithin : {X Y : Type 0} → ℕ → (X → Y) → Result X ParseFault → Option Y → Type 0
GivesWithin n view (Ok x) o = o ≡ Some (view x)
GivesWithin n view (Err e) o = StopsWithin n e o

-- a fault of the lexer is one of the parser
abbrev pub of_lexer : LexFault → ParseFault
of_lexer (lex.Bad at) = fault.Syntax at
of_lexer lex.NoMemory = fault.NoMemory

-- whether the frame is closed at the level
abbrev pub closes : ℕ → Frame → Bool
closes n f = is_last f && nat_le n (room_in f)

-- the innermost frame, where it is closed at the level, and the others
abbrev pub taken : ℕ → List Frame → Option Frame × List Frame
taken n [] = (None, [])
taken n (f ∷ fs) = cond (closes n f) (Some f, fs) (None, f ∷ fs)
