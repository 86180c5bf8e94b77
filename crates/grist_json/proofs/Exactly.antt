-- A reader that is exact on JSON is exact on bytes.
use Rattle.std.proofs.Common.{◌≡◌, ℕ, List, Option, Some, None, Result, Ok, Err, IfOk, IfSome, IfNone, option_and_then, sym, ◌∙◌, ap, refl}
use Rattle.serde_json.specs.Data.{Data}
use Rattle.grist_json.specs.Json.{json_at, SpellsBy}
use Rattle.action_lines.proofs.StepLemmas.{some_same}

module _ {X : Type 0} (from : Data → Option X) (stands : X → Data → Type 0) where
  found_in : ((d : Data) (x : X) → from d ≡ Some x → stands x d) → (o : Option Data) (x : X) → option_and_then from o ≡ Some x → (d : Data) × (o ≡ Some d) × stands x d
  found_in takes (Some d) x e = (d, refl, takes d x e)
  found_in takes None x e = absurd (cc)

  pub found_by : ((d : Data) (x : X) → from d ≡ Some x → stands x d) → (bytes : List ℕ) (x : X) → option_and_then from (json_at bytes) ≡ Some x → SpellsBy stands x bytes
  found_by takes bytes x e = found_in takes (json_at bytes) x e

  pub again_by : ((x : X) (d : Data) → stands x d → from d ≡ Some x) → (bytes : List ℕ) (x : X) → SpellsBy stands x bytes → option_and_then from (json_at bytes) ≡ Some x
  again_by again bytes x s = ap (option_and_then from) s.1 ∙ again x s.0 s.2

  pub none_by : ((x : X) (d : Data) → stands x d → from d ≡ Some x) → (bytes : List ℕ) → option_and_then from (json_at bytes) ≡ None → (x : X) → SpellsBy stands x bytes → ⊥
  none_by again bytes e x s = cc (again_by again bytes x s)

  pub once_by : ((x : X) (d : Data) → stands x d → from d ≡ Some x) → (bytes : List ℕ) (x y : X) → SpellsBy stands x bytes → SpellsBy stands y bytes → x ≡ y
  once_by again bytes x y s t = some_same x y (sym (again_by again bytes x s) ∙ again_by again bytes y t)

module _ {X E : Type 0} (at : List ℕ → Option X) (Spells : X → List ℕ → Type 0) where
  pub found_of : ((bytes : List ℕ) (x : X) → at bytes ≡ Some x → Spells x bytes) → (r : Result (Option X) E) (bytes : List ℕ) → IfOk r (λ o. o ≡ at bytes) → IfOk r (λ o. IfSome o (λ x. Spells x bytes))
  found_of takes (Ok (Some x)) bytes e = takes bytes x (sym e)
  found_of takes (Ok None) bytes e = tt
  found_of takes (Err x) bytes e = tt

  pub none_of : ((bytes : List ℕ) → at bytes ≡ None → (x : X) → Spells x bytes → ⊥) → (r : Result (Option X) E) (bytes : List ℕ) → IfOk r (λ o. o ≡ at bytes) → IfOk r (λ o. IfNone o ((x : X) → Spells x bytes → ⊥))
  none_of none (Ok (Some x)) bytes e = tt
  none_of none (Ok None) bytes e = none bytes (sym e)
  none_of none (Err x) bytes e = tt
