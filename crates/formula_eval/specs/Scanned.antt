-- What is told of rows that are looked at one by one.
use Rattle.std.specs.Prelude.{ℕ, Bool, true, false, List, ◌≡◌, reverse}
use Rattle.formula_eval.specs.declared.scanning.Met.{Met}
use Rattle.formula_eval.specs.declared.scanning.Met.TheVariants as met
use Rattle.formula_eval.specs.declared.scanning.Scanned.{Scanned}
use Rattle.formula_eval.specs.declared.scanning.Scanned.TheVariants as scanned
use Rattle.formula_eval.specs.Run.{Out, gives, stops, circular, MayName}

-- whether a row meets keys
abbrev pub IsMet : Met → Out Bool → Type 0
IsMet met.Yes o = o ≡ gives true
IsMet met.No o = o ≡ gives false
IsMet met.Circular o = o ≡ stops circular
IsMet (met.Need c) o = MayName c o

-- which rows meet keys; the last is told first
abbrev pub IsScanned : Scanned → Out (List ℕ) → Type 0
IsScanned (scanned.Rows v) o = o ≡ gives (reverse v.items)
IsScanned scanned.Circular o = o ≡ stops circular
IsScanned (scanned.Need c) o = MayName c o
