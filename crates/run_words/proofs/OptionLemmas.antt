-- Options behind others.
use Rattle.std.proofs.Common.{◌≡◌, ◌≤◌, ◌-◌, ℕ, Bool, List, [], ◌∷◌, Option, Some, None, length, take, drop, map, get_or, sym, ap, ◌∙◌}
use Rattle.std.specs.Prelude.{option_and_then}
use Rattle.std.proofs.lemmas.Slice.{first_rest}
use Rattle.run_words.specs.Options.{Found, options_in, with_apart, with_joined}

-- an option and its text in one word
options_joined : (s : Bool) (f g : Found) (word : List ℕ) (rest : List (List ℕ)) → with_joined s f word ≡ Some g → options_in s f (word ∷ rest) ≡ options_in s g rest
options_joined s f g word [] e = e
options_joined s f g word (text ∷ more) e =
    ap (λ o. elim o as (λ _. Option Found) [ Some h ↦ options_in s h (text ∷ more) | None ↦ option_and_then (λ h. options_in s h more) (with_apart s f word text) ]) e

-- an option, and its text in the next word
options_apart : (s : Bool) (f : Found) (word text : List ℕ) (more : List (List ℕ)) → with_joined s f word ≡ None → options_in s f (word ∷ text ∷ more) ≡ option_and_then (λ h. options_in s h more) (with_apart s f word text)
options_apart s f word text more e =
    ap (λ o. elim o as (λ _. Option Found) [ Some h ↦ options_in s h (text ∷ more) | None ↦ option_and_then (λ h. options_in s h more) (with_apart s f word text) ]) e

module _ {S : Type 0} (bytes : S → List ℕ) where
  abbrev pub behind_first : List S → List S
  behind_first ws = take (length ws - 1) (drop 1 ws)

  pub first_is : (ws : List S) (word : S) → 1 ≤ length ws → word ≡ get_or ws 0 word → ws ≡ word ∷ behind_first ws
  first_is ws word some is = first_rest ws word some ∙ ap (λ w. w ∷ behind_first ws) (sym is)

  pub words_joined : (s : Bool) (f g : Found) (ws : List S) (word : S) → 1 ≤ length ws → word ≡ get_or ws 0 word → with_joined s f (bytes word) ≡ Some g → options_in s f (map bytes ws) ≡ options_in s g (map bytes (behind_first ws))
  words_joined s f g ws word some is e =
      ap (λ xs. options_in s f (map bytes xs)) (first_is ws word some is) ∙ options_joined s f g (bytes word) (map bytes (behind_first ws)) e

  pub words_apart : (s : Bool) (f : Found) (ws : List S) (word text : S) → 1 ≤ length ws → word ≡ get_or ws 0 word → 1 ≤ length (behind_first ws) → text ≡ get_or (behind_first ws) 0 text → with_joined s f (bytes word) ≡ None
      → options_in s f (map bytes ws) ≡ option_and_then (λ h. options_in s h (map bytes (behind_first (behind_first ws)))) (with_apart s f (bytes word) (bytes text))
  words_apart s f ws word text some is more at e =
      ap (λ xs. options_in s f (map bytes xs)) (first_is ws word some is ∙ ap (λ r. word ∷ r) (first_is (behind_first ws) text more at))
      ∙ options_apart s f (bytes word) (bytes text) (map bytes (behind_first (behind_first ws))) e
