-- What it says that a chain of steps found something.
use Rattle.std.proofs.Common.{◌≡◌, ℕ, List, Bool, true, false, cond, ◌&&◌, ◌⊎◌, inl, inr, Option, Some, None, option_map, refl, subst}
use Rattle.std.proofs.lemmas.Slice.Eq.{bytes_eq-Decides}
use Rattle.std.specs.Str.{bytes_eq}
use Rattle.action_lines.specs.Steps.{◌>>=◌, or_else}

pub bind_some : {A B : Type 0} (o : Option A) (f : A → Option B) (y : B) → (o >>= f) ≡ Some y → (x : A) × (o ≡ Some x) × (f x ≡ Some y)
bind_some (Some x) f y e = (x, refl, e)
bind_some None f y e = (cc)

pub map_some : {A B : Type 0} (f : A → B) (o : Option A) (y : B) → option_map f o ≡ Some y → (x : A) × (o ≡ Some x) × (f x ≡ y)
map_some f (Some x) y e = (x, refl, cc)
map_some f None y e = (cc)

pub guard_some : {A : Type 0} (b : Bool) (x y : A) → cond b (Some x) None ≡ Some y → (b ≡ true) × (x ≡ y)
guard_some true x y e = (refl, cc)
guard_some false x y e = (cc)

-- a test before further reading
pub guard_then : {A : Type 0} (b : Bool) (o : Option A) (y : A) → cond b o None ≡ Some y → (b ≡ true) × (o ≡ Some y)
guard_then true o y e = (refl, e)
guard_then false o y e = (cc)

pub both_true : (a b : Bool) → (a && b) ≡ true → (a ≡ true) × (b ≡ true)
both_true true b e = (refl, e)
both_true false b e = absurd (cc)

pub or_some : {A : Type 0} (a b : Option A) (y : A) → or_else a b ≡ Some y → (a ≡ Some y) ⊎ (b ≡ Some y)
or_some (Some x) b y e = inl e
or_some None b y e = inr e

pub some_same : {A : Type 0} (x y : A) → ◌≡◌ {A = Option A} (Some x) (Some y) → x ≡ y
some_same x y e = cc

pub none≢some : {A : Type 0} (x : A) → ◌≡◌ {A = Option A} None (Some x) → ⊥
none≢some x e = cc

pub chain_by : {A : Type 0} (b : Bool) (a x : A) (rest : Option A) (P : A → Type 0) → (b ≡ true → P a) → (rest ≡ Some x → P x) → cond b (Some a) rest ≡ Some x → P x
chain_by true a x rest P here later e = subst (λ y. P y) (some_same a x e) (here refl)
chain_by false a x rest P here later e = later e

-- one name of a chain of names
pub name_step : {A : Type 0} (text : A → List ℕ) (t : List ℕ) (a : A) (rest : Option A) → ((x : A) → rest ≡ Some x → t ≡ text x) → (x : A) → cond (bytes_eq t (text a)) (Some a) rest ≡ Some x → t ≡ text x
name_step text t a rest later x e = chain_by (bytes_eq t (text a)) a x rest (λ y. t ≡ text y) (λ b. (bytes_eq-Decides t (text a)).0 b) (later x) e

-- the end of a chain of names
pub name_end : {A : Type 0} (text : A → List ℕ) (t : List ℕ) (x : A) → ◌≡◌ {A = Option A} None (Some x) → t ≡ text x
name_end text t x e = absurd (cc)
