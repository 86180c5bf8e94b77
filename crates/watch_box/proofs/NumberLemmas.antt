-- The first watcher of a number.
use Rattle.std.proofs.Common.{◌≡◌, ℕ, ◌+◌, List, [], ◌∷◌, true, false, cond, sym, ap, refl, ◌∙◌, Some, None, slice_get, arith, rules, suc}
use Rattle.std.specs.List.{remove, find, position, position_from}
use Rattle.std.proofs.lemmas.Iterator.Adapters.{position_from-zero}
use Rattle.watch_box.specs.Watching.{WatcherState, has_number, without}

module _ (number : ℕ) where
  first_at : (from : ℕ) (ws : List WatcherState) (place : ℕ) → position_from (has_number number) from ws ≡ Some place → (far : ℕ) × (place ≡ from + far) × (find (has_number number) ws ≡ slice_get ws far) × (without number ws ≡ remove ws far)
  first_at from [] place = λ e. absurd (grind arith)
  first_at from (w ∷ ws) place = elim (has_number number w) as (λ b. cond b (Some from) (position_from (has_number number) (from + 1) ws) ≡ Some place → (far : ℕ) × (place ≡ from + far) × (cond b (Some w) (find (has_number number) ws) ≡ slice_get (w ∷ ws) far) × (cond b ws (w ∷ without number ws) ≡ remove (w ∷ ws) far)) [
    | true ↦ λ e. (0, search rules, refl, refl)
    | false ↦ λ e. let r = first_at (from + 1) ws place e in (suc r.0, omega arith, r.2, ap (λ z. w ∷ z) r.3)
  ]

  none_at : (from : ℕ) (ws : List WatcherState) → position_from (has_number number) from ws ≡ None → (find (has_number number) ws ≡ None) × (without number ws ≡ ws)
  none_at from [] = λ e. (refl, refl)
  none_at from (w ∷ ws) = elim (has_number number w) as (λ b. cond b (Some from) (position_from (has_number number) (from + 1) ws) ≡ None → (cond b (Some w) (find (has_number number) ws) ≡ None) × (cond b ws (w ∷ without number ws) ≡ w ∷ ws)) [
    | true ↦ λ e. absurd (grind arith)
    | false ↦ λ e. let r = none_at (from + 1) ws e in (r.0, ap (λ z. w ∷ z) r.1)
  ]

  module _ (ws : List WatcherState) where
    pub found_some : (place : ℕ) → Some place ≡ position (has_number number) ws → (find (has_number number) ws ≡ slice_get ws place) × (without number ws ≡ remove ws place)
    found_some place e =
        let r = first_at 0 ws place (sym (position_from-zero (has_number number) ws) ∙ sym e) in
        let same : r.0 ≡ place = omega arith in
        (r.2 ∙ ap (slice_get ws) same, r.3 ∙ ap (remove ws) same)

    pub found_none : None ≡ position (has_number number) ws → (find (has_number number) ws ≡ None) × (without number ws ≡ ws)
    found_none e = none_at 0 ws (sym (position_from-zero (has_number number) ws) ∙ sym e)
