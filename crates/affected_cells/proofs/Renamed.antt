-- What an id finds where the one of another id gets a new one.
use Rattle.std.proofs.Common.{Bool, true, false, cond, List, [], ◌∷◌, ℕ, ◌≡◌, refl, ap, ◌∙◌, Option, Some}
use Rattle.std.proofs.lemmas.Bool.{true≢false}
use Rattle.std.proofs.lemmas.Slice.Eq.{bytes_eq-Decides}
use Rattle.std.specs.Str.{bytes_eq}
use Rattle.doc_model.specs.ByIds.{find_id, with_id}
use Rattle.doc_model.proofs.ByIdsLaws.{bytes_apart}

module _ {X : Type 0} (id : X → List ℕ) (c new k : List ℕ) (f : X → X) (named : (x : X) → id (f x) ≡ new) (not_old : bytes_eq k c ≡ false) (not_new : bytes_eq k new ≡ false) where
  -- neither the thing nor what it becomes has the id
  pub neither : (x : X) → bytes_eq (id x) c ≡ true → (bytes_eq (id (f x)) k ≡ false) × (bytes_eq (id x) k ≡ false)
  neither x is = (ap (λ n. bytes_eq n k) (named x) ∙ bytes_apart k new not_new, ap (λ n. bytes_eq n k) ((bytes_eq-Decides (id x) c).0 is) ∙ bytes_apart k c not_old)

  pub found_kept : (xs : List X) → find_id id k (with_id id c f xs) ≡ find_id id k xs
  found_kept [] = refl
  found_kept (x ∷ xs) = by (found_kept xs) (bytes_eq (id x) c) refl
    where
      skips : (a b : Bool) (y z : X) (o p : Option X) → o ≡ p → a ≡ false → b ≡ false → cond a (Some y) o ≡ cond b (Some z) p
      skips true b y z o p later g h = absurd (true≢false g)
      skips false true y z o p later g h = absurd (true≢false h)
      skips false false y z o p later g h = later

      by : find_id id k (with_id id c f xs) ≡ find_id id k xs → (b : Bool) → bytes_eq (id x) c ≡ b → find_id id k (cond b (f x) x ∷ with_id id c f xs) ≡ find_id id k (x ∷ xs)
      by later true is = let n = neither x is in skips (bytes_eq (id (f x)) k) (bytes_eq (id x) k) (f x) x (find_id id k (with_id id c f xs)) (find_id id k xs) later n.0 n.1
      by later false is = ap (λ o. cond (bytes_eq (id x) k) (Some x) o) later
