-- What it says that items were found, and that all of them were read.
use Rattle.std.proofs.Common.{◌≡◌, ℕ, List, [], ◌∷◌, ◌++◌, Bool, true, false, Option, Some, sym, ap, ◌∙◌, subst, append_assoc, append-nil}
use Rattle.serde_json.specs.Data.{Data, string, Items, no_items, item}
use Rattle.serde_json.specs.Find.{as_array, as_str}
use Rattle.action_lines.specs.Steps.{◌>>=◌}
use Rattle.action_lines.specs.Items.{all_onto, all_from, AreAll, only_item, two_items, only_text, text_beside, given_from, AreGiven}
use Rattle.action_lines.proofs.StepLemmas.{bind_some, some_same}
use Rattle.action_lines.proofs.FieldLemmas.{array_takes, text_takes}

pub only_takes : (ds : Items) (d : Data) → only_item ds ≡ Some d → ds ≡ item d no_items
only_takes no_items d e = absurd (cc)
only_takes (item c no_items) d e = ap (λ x. item x no_items) (some_same c d e)
only_takes (item c (item f ds)) d e = absurd (cc)

pair_same : (p q : Data × Data) → Some p ≡ Some q → p ≡ q
pair_same p q e = (cc)

pub two_take : (ds : Items) (d f : Data) → two_items ds ≡ Some (d, f) → ds ≡ item d (item f no_items)
two_take no_items d f e = absurd (cc)
two_take (item c no_items) d f e = absurd (cc)
two_take (item c (item g no_items)) d f e =
    let p = pair_same (c, g) (d, f) e in
    λ i. item ((p i).0) (item ((p i).1) no_items)
two_take (item c (item g (item h ds))) d f e = absurd (cc)

pub only_text_takes : (ds : Items) (t : List ℕ) → only_text ds ≡ Some t → ds ≡ item (string t) no_items
unfolding only_text
only_text_takes ds t e =
    let d = bind_some (only_item ds) _ t e in
    only_takes ds d.0 d.1 ∙ ap (λ x. item x no_items) (text_takes d.0 t d.2)

pub text_beside_takes : (ds : Items) (t : List ℕ) (d : Data) → text_beside ds ≡ Some (t, d) → ds ≡ item (string t) (item d no_items)
unfolding text_beside
text_beside_takes ds t d e =
    let two = bind_some (two_items ds) _ (t, d) e in
    let s = bind_some (as_str two.0.0) _ (t, d) two.2 in
    let p = some_same (s.0, two.0.1) (t, d) s.2 in
    two_take ds two.0.0 two.0.1 two.1 ∙ (λ i. item (text_takes two.0.0 s.0 s.1 i) (item two.0.1 no_items)) ∙ (λ i. item (string ((p i).0)) (item ((p i).1) no_items))

module _ {X : Type 0} (from : Data → Option X) (stands : X → Data → Type 0) where
  onto_takes : ((d : Data) (x : X) → from d ≡ Some x → stands x d) → (ds : Items) (done xs : List X) → all_onto from done ds ≡ Some xs → (found : List X) × (done ++ found ≡ xs) × AreAll stands found ds
  onto_takes takes no_items done xs e = ([], append-nil done ∙ some_same done xs e, tt)
  onto_takes takes (item d ds) done xs e =
      let x = bind_some (from d) _ xs e in
      let rest = onto_takes takes ds (done ++ x.0 ∷ []) xs x.2 in
      (x.0 ∷ rest.0, sym (append_assoc done (x.0 ∷ []) rest.0) ∙ rest.1, (takes d x.0 x.1, rest.2))

  -- what is read of all items stands for them
  pub all_take : ((d : Data) (x : X) → from d ≡ Some x → stands x d) → (ds : Items) (xs : List X) → all_from from ds ≡ Some xs → AreAll stands xs ds
  all_take takes ds xs e =
      let found = onto_takes takes ds [] xs e in
      subst (λ (l : List X). AreAll stands l ds) found.1 found.2

  onto_again : ((x : X) (d : Data) → stands x d → from d ≡ Some x) → (xs : List X) (ds : Items) → AreAll stands xs ds → (done : List X) → all_onto from done ds ≡ Some (done ++ xs)
  onto_again again [] no_items h done = ap Some (sym (append-nil done))
  onto_again again [] (item d ds) h done = absurd h
  onto_again again (x ∷ xs) no_items h done = absurd h
  onto_again again (x ∷ xs) (item d ds) h done =
      rw (again x d h.0) (onto_again again xs ds h.1 (done ++ x ∷ []) ∙ ap Some (append_assoc done (x ∷ []) xs))

  -- what stands for all items is read of them
  pub all_again : ((x : X) (d : Data) → stands x d → from d ≡ Some x) → (xs : List X) (ds : Items) → AreAll stands xs ds → all_from from ds ≡ Some xs
  all_again again xs ds h = onto_again again xs ds h []

  -- the same of one thing or an array
  pub given_takes : ((d : Data) (x : X) → from d ≡ Some x → stands x d) → (single : Bool) (d : Data) (xs : List X) → given_from from single d ≡ Some xs → AreGiven stands single xs d
  given_takes takes true d xs e =
      let x = bind_some (from d) _ xs e in
      (x.0, sym (some_same (x.0 ∷ []) xs x.2), takes d x.0 x.1)
  given_takes takes false d xs e =
      let a = bind_some (as_array d) _ xs e in
      (a.0, all_take takes a.0 xs a.2, array_takes d a.0 a.1)

  pub given_again : ((x : X) (d : Data) → stands x d → from d ≡ Some x) → (single : Bool) (xs : List X) (d : Data) → AreGiven stands single xs d → given_from from single d ≡ Some xs
  given_again again true xs d h = ap (λ o. o >>= λ x. Some (x ∷ [])) (again h.0 d h.2) ∙ ap Some (sym h.1)
  given_again again false xs d h = ap (given_from from false) h.2 ∙ all_again again xs h.0 h.1
