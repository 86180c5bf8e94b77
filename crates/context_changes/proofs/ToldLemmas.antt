-- What contexts are told, place by place.
use Rattle.std.proofs.Common.{ℕ, ◌+◌, ◌<◌, List, [], ◌∷◌, ◌++◌, length, map, take, get_or, ◌≡◌, refl, sym, ap, ◌∙◌}
use Rattle.std.proofs.lemmas.List.{map_more}
use Rattle.std.specs.List.{AllByRecursion}
use Rattle.doc_model.specs.Document.{Document}
use Rattle.doc_model.specs.LaidOut.{IsLaidOut}
use Rattle.acl_rules.specs.declared.decision.Ctx.{Ctx}
use Rattle.censored_view.specs.ViewLaws.{ViewLaw}
use Rattle.acl_reading.specs.RulesLet.{rules_let}
use Rattle.context_changes.specs.Told.{IsSeen, told_of, view_of}
use Rattle.context_changes.specs.ToldLaws.{SinceLaw}

-- one item more of what is made of a list
pub one_more : {X Y : Type 0} (f : X → Y) (xs : List X) (i : ℕ) (x : X) (made pushed : List Y) (y : Y)
    → i < length xs → x ≡ get_or xs i x → made ≡ map f (take i xs) → y ≡ f x → pushed ≡ made ++ y ∷ [] → pushed ≡ map f (take (i + 1) xs)
one_more f xs i x made pushed y lt is so_far next push =
    push ∙ ap (λ l. l ++ y ∷ []) so_far ∙ ap (λ z. map f (take i xs) ++ z ∷ []) (next ∙ ap f is) ∙ sym (map_more f xs i x lt)

pub since_views : SinceLaw
since_views before after [] ys = refl
since_views before after (x ∷ xs) [] = refl
since_views before after (x ∷ xs) (y ∷ ys) = ap (λ l. told_of before after x y ∷ l) (since_views before after xs ys)

-- what contexts show are views
pub all_seen : ViewLaw → (s : Document) → IsLaidOut s → (xs : List Ctx) → AllByRecursion IsSeen (map (view_of s) xs)
all_seen law s laid [] = tt
all_seen law s laid (x ∷ xs) = (law (rules_let x) s laid, all_seen law s laid xs)
