-- Readers that tell the same make the evaluator run alike, up to where it stops.
use Rattle.std.proofs.Common.{List, [], ◌∷◌, ◌++◌, ◌≡◌, inl, inr, refl, sym, ap, ◌∙◌, subst, append_assoc}
use Rattle.std.proofs.lemmas.List.{append-nil}
use Rattle.std.specs.List.{AllByRecursion}
use Rattle.formula_eval.specs.declared.note.Note.{Note}
use Rattle.formula_eval.specs.Reader.{Reader}
use Rattle.formula_eval.specs.Run.{Stop, Out, gives, raises, stops, Run, done, after, onward, seq, caught, or_else, collect}
use Rattle.formula_eval.proofs.Notes.{all_append}
use Rattle.formula_eval.specs.Likeness.{IsFront, IsAlikeOut, IsAlikeRun, IsAlikeNote, IsAlike, AreAlike}

front_itself : (l : List Note) → IsFront l l
front_itself l = ([], sym (append-nil l))

front_more : (l m n : List Note) → IsFront l m → IsFront l (m ++ n)
front_more l m n f = (f.0 ++ n, ap (λ x. x ++ n) f.1 ∙ append_assoc l f.0 n)

front_after : (k l m : List Note) → IsFront l m → IsFront (k ++ l) (k ++ m)
front_after k l m f = (f.0, ap (λ x. k ++ x) f.1 ∙ sym (append_assoc k l f.0))

-- a stop of the first that L excuses, or one of the second where R holds
module _ (L : Stop → Type 0) (R : Type 0) where
  pub with_notes : {A : Type 0} (o p : Out A) (l : List Note) → IsAlikeOut L R o p → IsAlikeRun L R (record { out = o; notes = l }) (record { out = p; notes = l })
  with_notes o p l (inl e) = inl (e, refl)
  with_notes o p l (inr (inl h)) = inr (inl (h, front_itself l))
  with_notes o p l (inr (inr h)) = inr (inr (h, front_itself l))

  pub after_run : {A : Type 0} (l : List Note) (a b : Run A) → IsAlikeRun L R a b → IsAlikeRun L R (after l a) (after l b)
  after_run l a b (inl e) = inl (e.0, ap (λ m. l ++ m) e.1)
  after_run l a b (inr (inl h)) = inr (inl (h.0, front_after l a.notes b.notes h.1))
  after_run l a b (inr (inr h)) = inr (inr (h.0, front_after l b.notes a.notes h.1))

  module _ (x y : Reader) where
    pub done_alike : {A : Type 0} (o p : Out A) → IsAlikeOut L R o p → IsAlike L R x y (done o) (done p)
    done_alike o p h _ = with_notes o p [] h

    pub note_alike : {A : Type 0} (q : Note) (a b : Run A) → ((IsAlikeNote L R x y) q → IsAlike L R x y a b) → IsAlike L R x y (after (q ∷ []) a) (after (q ∷ []) b)
    note_alike q a b h all = after_run (q ∷ []) a b (h all.0 all.1)

    pub notes_alike : {A : Type 0} (l : List Note) (a b : Run A) → (AllByRecursion (IsAlikeNote L R x y) l → IsAlike L R x y a b) → IsAlike L R x y (after l a) (after l b)
    notes_alike l a b h all =
        let parts = all_append (IsAlikeNote L R x y) l a.notes all in
        after_run l a b (h parts.0 parts.1)

    onward_alike : {A B : Type 0} (o p : Out A) (l m : List Note) (k j : A → Run B)
        → (AllByRecursion (IsAlikeNote L R x y) l → IsAlikeRun L R (record { out = o; notes = l }) (record { out = p; notes = m }))
        → ((v : A) → IsAlike L R x y (k v) (j v)) → IsAlike L R x y (onward o l k) (onward p m j)
    onward_alike {A} {B} (gives v) p l m k j h each all =
        let parts = all_append (IsAlikeNote L R x y) l (k v).notes all in
        gave p (h parts.0) (each v parts.1)
      where
        gave : (p : Out A) → IsAlikeRun L R (record { out = gives v; notes = l }) (record { out = p; notes = m }) → IsAlikeRun L R (k v) (j v) → IsAlikeRun L R (after l (k v)) (onward p m j)
        gave (gives w) (inl e) next = subst (λ n. IsAlikeRun L R (after l (k v)) (after n (j w))) e.1 (subst (λ u. IsAlikeRun L R (after l (k v)) (after l (j u))) e.0 (after_run l (k v) (j v) next))
        gave (gives w) (inr (inl h)) next = absurd h.0
        gave (gives w) (inr (inr h)) next = absurd h.0
        gave (raises e) (inl h) next = absurd h.0
        gave (raises e) (inr (inl h)) next = absurd h.0
        gave (raises e) (inr (inr h)) next = absurd h.0
        gave (stops s) (inl h) next = absurd h.0
        gave (stops s) (inr (inl h)) next = absurd h.0
        gave (stops s) (inr (inr h)) next = inr (inr (h.0, front_more m l (k v).notes h.1))
    onward_alike (raises e) (gives w) l m k j h each all = elim (h all) [ inl g ↦ absurd g.0 | inr g ↦ elim g [ inl f ↦ absurd f.0 | inr f ↦ absurd f.0 ] ]
    onward_alike (raises e) (raises f) l m k j h each all = elim (h all) [ inl g ↦ inl g | inr g ↦ inr g ]
    onward_alike (raises e) (stops s) l m k j h each all = elim (h all) [ inl g ↦ absurd g.0 | inr g ↦ inr g ]
    onward_alike (stops s) (gives w) l m k j h each all = elim (h all) [ inl g ↦ absurd g.0 | inr g ↦ elim g [ inl f ↦ inr (inl (f.0, front_more l m (j w).notes f.1)) | inr f ↦ absurd f.0 ] ]
    onward_alike (stops s) (raises f) l m k j h each all = elim (h all) [ inl g ↦ absurd g.0 | inr g ↦ inr g ]
    onward_alike (stops s) (stops t) l m k j h each all = elim (h all) [ inl g ↦ inl g | inr g ↦ inr g ]

    pub seq_alike : {A B : Type 0} (a b : Run A) (k j : A → Run B) → IsAlike L R x y a b → ((v : A) → IsAlike L R x y (k v) (j v)) → IsAlike L R x y (seq a k) (seq b j)
    seq_alike a b k j h each = onward_alike a.out b.out a.notes b.notes k j h each

    caught_alike : {A : Type 0} (o p : Out A) (l m : List Note) (c d : Run A)
        → (AllByRecursion (IsAlikeNote L R x y) l → IsAlikeRun L R (record { out = o; notes = l }) (record { out = p; notes = m }))
        → IsAlike L R x y c d → IsAlike L R x y (caught o l c) (caught p m d)
    caught_alike {A} (raises e) p l m c d h other all =
        let parts = all_append (IsAlikeNote L R x y) l c.notes all in
        raised p (h parts.0) (other parts.1)
      where
        raised : (p : Out A) → IsAlikeRun L R (record { out = raises e; notes = l }) (record { out = p; notes = m }) → IsAlikeRun L R c d → IsAlikeRun L R (after l c) (caught p m d)
        raised (raises f) (inl g) next = subst (λ n. IsAlikeRun L R (after l c) (after n d)) g.1 (after_run l c d next)
        raised (raises f) (inr (inl g)) next = absurd g.0
        raised (raises f) (inr (inr g)) next = absurd g.0
        raised (gives w) (inl g) next = absurd g.0
        raised (gives w) (inr (inl g)) next = absurd g.0
        raised (gives w) (inr (inr g)) next = absurd g.0
        raised (stops s) (inl g) next = absurd g.0
        raised (stops s) (inr (inl g)) next = absurd g.0
        raised (stops s) (inr (inr g)) next = inr (inr (g.0, front_more m l c.notes g.1))
    caught_alike (gives v) (gives w) l m c d h other all = elim (h all) [ inl g ↦ inl g | inr g ↦ inr g ]
    caught_alike (gives v) (raises w) l m c d h other all = elim (h all) [ inl g ↦ absurd g.0 | inr g ↦ elim g [ inl f ↦ absurd f.0 | inr f ↦ absurd f.0 ] ]
    caught_alike (gives v) (stops w) l m c d h other all = elim (h all) [ inl g ↦ absurd g.0 | inr g ↦ inr g ]
    caught_alike (stops v) (gives w) l m c d h other all = elim (h all) [ inl g ↦ absurd g.0 | inr g ↦ inr g ]
    caught_alike (stops v) (raises w) l m c d h other all = elim (h all) [ inl g ↦ absurd g.0 | inr g ↦ elim g [ inl f ↦ inr (inl (f.0, front_more l m d.notes f.1)) | inr f ↦ absurd f.0 ] ]
    caught_alike (stops v) (stops w) l m c d h other all = elim (h all) [ inl g ↦ inl g | inr g ↦ inr g ]

    pub or_else_alike : {A : Type 0} (a b c d : Run A) → IsAlike L R x y a b → IsAlike L R x y c d → IsAlike L R x y (or_else a c) (or_else b d)
    or_else_alike a b c d h other = caught_alike a.out b.out a.notes b.notes c d h other

    pub same_out : {A : Type 0} (o p : Out A) → o ≡ p → IsAlikeOut L R o p
    same_out (gives v) p e = subst (λ q. IsAlikeOut L R (gives v) q) e (inl refl)
    same_out (raises v) p e = subst (λ q. IsAlikeOut L R (raises v) q) e (inl refl)
    same_out (stops v) p e = subst (λ q. IsAlikeOut L R (stops v) q) e (inl tt)

    pub done_same : {A : Type 0} (o p : Out A) → o ≡ p → IsAlike L R x y (done o) (done p)
    done_same o p e = done_alike o p (same_out o p e)

    pub collect_alike : {A : Type 0} (l m : List (Run A)) → AreAlike L R x y l m → IsAlike L R x y (collect l) (collect m)
    collect_alike {A} [] [] h = done_same {A = List A} (gives []) (gives []) refl
    collect_alike [] (b ∷ bs) h = absurd h
    collect_alike (a ∷ rest) [] h = absurd h
    collect_alike {A} (a ∷ rest) (b ∷ bs) h =
        seq_alike a b _ _ h.0 (λ v. seq_alike (collect rest) (collect bs) _ _ (collect_alike rest bs h.1) (λ vs. done_same {A = List A} (gives (v ∷ vs)) (gives (v ∷ vs)) refl))
