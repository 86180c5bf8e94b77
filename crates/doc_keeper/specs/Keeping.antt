-- What the calls of a keeper say of its records and its count of faults.
use Rattle.std.specs.Prelude.{ℕ, ◌≤◌, ◌≡◌, ◌∷◌, [], ◌++◌, List, length, Option, Result, Err, OnErr, OnOk, IfSome, slice_get, option_map}
use Rattle.io_edges.specs.Causes.{Rose}
use Rattle.doc_keeper.specs.declared.keeper.KeepFault.{KeepFault}
use Rattle.doc_keeper.specs.declared.keeper.KeepFault.TheVariants as fault

-- the count does not fall, and a call fails only where it rose; at want of memory it stands
pub record HasCause {T : Type 0} (before now : ℕ) (result : Result T KeepFault) : Type 0 where
  pub later : before ≤ now
  pub failed : result ≡ Err fault.Failed → Rose before now
  pub wanting : result ≡ Err fault.NoMemory → now ≡ before

-- what was found is the record of that number, where records are told
abbrev pub Tells : Option (List (List ℕ)) → ℕ → Option (List ℕ) → Type 0
Tells told number found = IfSome told (λ records. found ≡ slice_get records number)

-- the number is the count of records, where they are told
abbrev pub IsNext : Option (List (List ℕ)) → ℕ → Type 0
IsNext told number = IfSome told (λ records. number ≡ length records)

-- the told records, and one more
abbrev pub added_to : Option (List (List ℕ)) → List ℕ → Option (List (List ℕ))
added_to told bytes = option_map (λ records. records ++ bytes ∷ []) told

-- one more record is told; after an error they are as before
pub record Adds (old new : Option (List (List ℕ))) (bytes : List ℕ)
    (result : Result Unit KeepFault) : Type 0 where
  pub kept : OnOk result (new ≡ added_to old bytes)
  pub same : OnErr result (new ≡ old)
