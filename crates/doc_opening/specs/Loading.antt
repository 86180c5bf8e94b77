-- Records loaded one after the other, where a keeper tells them or does not.
use Rattle.std.specs.Prelude.{◌≡◌, ℕ, List, Bool, true, false, length, take, Option, Some, None, IfSome, slice_get}
use Rattle.doc_model.specs.Document.{Document}
use Rattle.doc_opening.specs.Opening.{kept_on, opens, opened_onto}

-- one record was taken, or there was none left
abbrev pub Takes : Option (List (List ℕ)) → Document → Document → ℕ → Bool → Type 0
Takes told old new n true =
    (r : List ℕ) × (kept_on old n r ≡ Some new) × IfSome told (λ rs. slice_get rs n ≡ Some r)
Takes told old new n false = (new ≡ old) × IfSome told (λ rs. slice_get rs n ≡ None)

-- the record of that number is bad at its place
abbrev pub IsBad : Option (List (List ℕ)) → Document → ℕ → Type 0
IsBad told s n = (r : List ℕ) × (kept_on s n r ≡ None) × IfSome told (λ rs. slice_get rs n ≡ Some r)

-- the first n records lead there; where told, they are the first that the keeper tells
pub record Leads (told : Option (List (List ℕ))) (first s : Document) (n : ℕ) : Type 0 where
  pub records : List (List ℕ)
  pub leads : opened_onto first 0 records ≡ opens s
  pub count : length records ≡ n
  pub told_first : IfSome told (λ rs. take n rs ≡ records)
