-- Things by id around the index of an id.
use Rattle.std.proofs.Common.{◌≡◌, ℕ, true, false, cond, not, List, [], ◌∷◌, ◌++◌, Some, None, refl, ap, sym, subst, ◌∙◌}
use Rattle.std.proofs.lemmas.Bool.{false≢true}
use Rattle.std.specs.List.{AllByRecursion}
use Rattle.std.specs.Str.{bytes_eq}
use Rattle.doc_model.specs.ByIds.{precedes, find_id, put_by_id, without_id}
use Rattle.doc_model.proofs.Choices.{false_from}
use Rattle.doc_model.proofs.ByIdsLaws.{bytes_itself, bytes_apart, precedes_apart, precedes_back, find_low, index_low}

module _ {X : Type 0} (id : X → List ℕ) (c : List ℕ) where
  abbrev pub AreBelow : List X → Type 0
  AreBelow xs = AllByRecursion (λ x. precedes (id x) c ≡ true) xs

  abbrev pub AreAbove : List X → Type 0
  AreAbove xs = AllByRecursion (λ x. precedes c (id x) ≡ true) xs

  pub find-below : (xs ys : List X) → AreBelow xs → find_id id c (xs ++ ys) ≡ find_id id c ys
  find-below [] ys h = refl
  find-below (x ∷ xs) ys h =
      ap (λ b. cond b (Some x) (find_id id c (xs ++ ys))) (precedes_apart (id x) c h.0) ∙ find-below xs ys h.1

  pub find_absent_at : (xs ys : List X) → AreBelow xs → AreAbove ys → find_id id c (xs ++ ys) ≡ None
  find_absent_at xs ys h k = find-below xs ys h ∙ find_low id c ys k

  pub find_at : (xs ys : List X) (x : X) → AreBelow xs → id x ≡ c → find_id id c (xs ++ x ∷ ys) ≡ Some x
  find_at xs ys x h e =
      find-below xs (x ∷ ys) h ∙ ap (λ b. cond b (Some x) (find_id id c ys)) (ap (λ i. bytes_eq i c) e ∙ bytes_itself c)

  without-below : (xs ys : List X) → AreBelow xs → without_id id c (xs ++ ys) ≡ xs ++ without_id id c ys
  without-below [] ys h = refl
  without-below (x ∷ xs) ys h =
      ap (λ b. cond (not b) (x ∷ without_id id c (xs ++ ys)) (without_id id c (xs ++ ys))) (precedes_apart (id x) c h.0)
      ∙ ap (λ r. x ∷ r) (without-below xs ys h.1)

  without-above : (ys : List X) → AreAbove ys → without_id id c ys ≡ ys
  without-above [] k = refl
  without-above (y ∷ ys) k =
      ap (λ b. cond (not b) (y ∷ without_id id c ys) (without_id id c ys)) (bytes_apart c (id y) (precedes_apart c (id y) k.0))
      ∙ ap (λ r. y ∷ r) (without-above ys k.1)

  pub without_absent : (xs ys : List X) → AreBelow xs → AreAbove ys → without_id id c (xs ++ ys) ≡ xs ++ ys
  without_absent xs ys h k = without-below xs ys h ∙ ap (λ r. xs ++ r) (without-above ys k)

  pub without_at : (xs ys : List X) (x : X) → AreBelow xs → AreAbove ys → id x ≡ c → without_id id c (xs ++ x ∷ ys) ≡ xs ++ ys
  without_at xs ys x h k e =
      without-below xs (x ∷ ys) h
      ∙ ap (λ r. xs ++ r) (ap (λ b. cond (not b) (x ∷ without_id id c ys) (without_id id c ys)) (ap (λ i. bytes_eq i c) e ∙ bytes_itself c) ∙ without-above ys k)

  -- a thing of the id stands behind all below it
  put_by_id-below : (xs ys : List X) (x : X) → id x ≡ c → AreBelow xs → put_by_id id x (xs ++ ys) ≡ xs ++ put_by_id id x ys
  put_by_id-below [] ys x e h = refl
  put_by_id-below (y ∷ xs) ys x e h =
      let back : precedes (id x) (id y) ≡ false = ap (λ i. precedes i (id y)) e ∙ precedes_back (id y) c h.0 in
      let other : bytes_eq (id x) (id y) ≡ false = ap (λ i. bytes_eq i (id y)) e ∙ bytes_apart (id y) c (precedes_apart (id y) c h.0) in
      ap (λ b. cond b (x ∷ y ∷ xs ++ ys) (cond (bytes_eq (id x) (id y)) (x ∷ xs ++ ys) (y ∷ put_by_id id x (xs ++ ys)))) back
      ∙ ap (λ b. cond b (x ∷ xs ++ ys) (y ∷ put_by_id id x (xs ++ ys))) other
      ∙ ap (λ r. y ∷ r) (put_by_id-below xs ys x e h.1)

  pub index_absent : (xs ys : List X) (x : X) → id x ≡ c → AreBelow xs → AreAbove ys → put_by_id id x (xs ++ ys) ≡ xs ++ x ∷ ys
  index_absent xs ys x e h k = put_by_id-below xs ys x e h ∙ ap (λ r. xs ++ r) (index_low id x ys (let P : List ℕ → Type 0 = λ i. AllByRecursion (λ y. precedes i (id y) ≡ true) ys in subst P (sym e) k))

  pub index_at : (xs ys : List X) (x y : X) → id x ≡ c → id y ≡ c → AreBelow xs → put_by_id id x (xs ++ y ∷ ys) ≡ xs ++ x ∷ ys
  index_at xs ys x y e f h =
      let not_before : precedes (id x) (id y) ≡ false = ap (λ i. precedes i (id y)) e ∙ ap (precedes c) f ∙ false_from (precedes c c) (λ p. false≢true (sym (precedes_apart c c p) ∙ bytes_itself c)) in
      let same : bytes_eq (id x) (id y) ≡ true = ap (λ i. bytes_eq i (id y)) e ∙ ap (bytes_eq c) f ∙ bytes_itself c in
      put_by_id-below xs (y ∷ ys) x e h
      ∙ ap (λ r. xs ++ r) (ap (λ b. cond b (x ∷ y ∷ ys) (cond (bytes_eq (id x) (id y)) (x ∷ ys) (y ∷ put_by_id id x ys))) not_before
      ∙ ap (λ b. cond b (x ∷ ys) (y ∷ put_by_id id x ys)) same)
