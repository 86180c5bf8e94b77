-- How an evaluation in the program comes to what a run says.
use Rattle.std.specs.Prelude.{List, ◌++◌, ◌≡◌, Result, Ok, Err, ⊤}
use Rattle.cell_types.specs.declared.value.CellValue.{CellValue}
use Rattle.value_ops.specs.declared.fault.OpFault.{OpFault}
use Rattle.value_ops.specs.declared.fault.OpFault.TheVariants.{Raised, NoMemory}
use Rattle.formula_eval.specs.declared.halt.Halt.{Halt}
use Rattle.formula_eval.specs.declared.halt.Halt.TheVariants as halt
use Rattle.formula_eval.specs.declared.note.Note.{Note}
use Rattle.formula_eval.specs.Run.{Run, Out, gives, raises, stops, circular, after, MayName}

-- what an operation's fault is
abbrev pub halt_of : OpFault → Halt
halt_of (Raised e) = halt.Raised e
halt_of NoMemory = halt.NoMemory

module _ {X A : Type 0} (view : X → A) where
  -- the outcome, and the notes before and after; of needed cells any may be named, and want of
  -- memory says nothing
  abbrev pub ComesAs : Result X Halt → List Note → List Note → Run A → Type 0
  ComesAs (Ok v) old new a = after old a ≡ record { out = gives (view v); notes = new }
  ComesAs (Err (halt.Raised e)) old new a = after old a ≡ record { out = raises e; notes = new }
  ComesAs (Err halt.Circular) old new a = after old a ≡ record { out = stops circular; notes = new }
  ComesAs (Err (halt.Need c)) old new a = MayName c a.out × (old ++ a.notes ≡ new)
  ComesAs (Err halt.NoMemory) old new a = ⊤

  -- the outcome alone
  abbrev pub IsOutAs : Result X Halt → Out A → Type 0
  IsOutAs (Ok v) o = o ≡ gives (view v)
  IsOutAs (Err (halt.Raised e)) o = o ≡ raises e
  IsOutAs (Err halt.Circular) o = o ≡ stops circular
  IsOutAs (Err (halt.Need c)) o = MayName c o
  IsOutAs (Err halt.NoMemory) o = ⊤

-- of values
abbrev pub Comes : Result CellValue Halt → List Note → List Note → Run CellValue → Type 0
Comes r old new a = ComesAs (λ v. v) r old new a

abbrev pub IsOut : Result CellValue Halt → Out CellValue → Type 0
IsOut r o = IsOutAs (λ v. v) r o

-- of what comes after an operand: a halt is handed on, and a value has its outcome
abbrev pub WithRight : Result CellValue Halt → Result CellValue Halt → (CellValue → Out CellValue)
    → Type 0
WithRight r (Ok w) f = IsOut r (f w)
WithRight r (Err h) f = r ≡ Err h

module _ {A : Type 0} where
  -- what came before, where there is more
  abbrev pub front_of : List A → Out (List A) → Out (List A)
  front_of vs (gives ws) = gives (vs ++ ws)
  front_of vs (raises e) = raises e
  front_of vs (stops s) = stops s

  -- the same of a run
  abbrev pub fronted : List A → Run (List A) → Run (List A)
  fronted vs a = record { out = front_of vs a.out; notes = a.notes }
