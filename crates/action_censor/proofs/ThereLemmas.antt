-- Which rows were there before the steps that add or remove them, one step after another.
use Rattle.std.proofs.Common.{ℕ, ◌+◌, ◌<◌, Bool, List, [], ◌∷◌, ◌++◌, map, take, length, get_or, ◌≡◌, refl, sym, ap, ◌∙◌, Option, Some, None}
use Rattle.std.proofs.lemmas.List.{map-append, take_more}
use Rattle.doc_model.specs.Records.{or_else}
use Rattle.action_censor.specs.declared.steps.StepTrace.{StepTrace}
use Rattle.action_censor.specs.Step.{Step, step_of}
use Rattle.action_censor.specs.Touched.{first_there, told_there}

or_none : (o : Option Bool) → or_else o None ≡ o
or_none None = refl
or_none (Some b) = refl

or_again : (o p q : Option Bool) → or_else o (or_else p q) ≡ or_else (or_else o p) q
or_again None p q = refl
or_again (Some b) p q = refl

there-append : (t : List ℕ) (r : ℕ) (ks : List Step) (k : Step) → first_there (ks ++ k ∷ []) t r ≡ or_else (first_there ks t r) (told_there k.action t r)
there-append t r [] k = or_none (told_there k.action t r)
there-append t r (j ∷ ks) k =
    ap (or_else (told_there j.action t r)) (there-append t r ks k)
    ∙ or_again (told_there j.action t r) (first_there ks t r) (told_there k.action t r)

-- one step more
pub there_next : (t : List ℕ) (r : ℕ) (all : List StepTrace) (i : ℕ) (k : StepTrace) (old new : Option Bool) → i < length all → k ≡ get_or all i k
    → old ≡ first_there (map step_of (take i all)) t r → new ≡ or_else old (told_there k.action.now t r) → new ≡ first_there (map step_of (take (i + 1) all)) t r
there_next t r all i k old new lt is so made =
    made ∙ ap (λ o. or_else o (told_there k.action.now t r)) so
    ∙ sym (there-append t r (map step_of (take i all)) (step_of k))
    ∙ ap (λ l. first_there l t r) (sym (map-append step_of (take i all) (k ∷ [])))
    ∙ ap (λ l. first_there (map step_of l) t r) (sym (take_more all i k lt ∙ ap (λ z. take i all ++ z ∷ []) (sym is)))
