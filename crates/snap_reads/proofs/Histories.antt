-- Histories that continue others, and where operations lead.
use Rattle.std.proofs.Common.{◌≡◌, ◌≢◌, ℕ, zero, suc, List, [], ◌∷◌, ◌++◌, take, set, refl, sym, subst, ◌∙◌, inr, ⊎_elim, append_assoc, append-nil, ap}
use mathlib.Core.Option.{some, some-injective, some-ne-none}
use lib.ListN.{get_elem?}
use Rattle.atomic_table.proofs.Lists.{at_set, at_snoc}
use Rattle.snap_reads.specs.Past.{Continues, ContinuesAll}
use Rattle.snap_reads.specs.Rule.{IsAhead, newcomer}
use Rattle.snap_reads.specs.Shots.{LeadsAll, last_of}
use Rattle.snap_reads.specs.Views.{TakesOn}
use Rattle.snap_reads.specs.declared.past.Past.{Past}
use Rattle.snap_reads.specs.declared.rule.View.{View}

module _ {O E : Type 0} where
  pub continues_self : (p : Past O E) → Continues p p
  continues_self p = (refl, ([], append-nil p.entries))

  pub continues_trans : (p q r : Past O E) → Continues p q → Continues q r → Continues p r
  continues_trans p q r h k = (k.0 ∙ h.0, (h.1.0 ++ k.1.0, sym (append_assoc p.entries h.1.0 k.1.0) ∙ (ap (λ w. w ++ k.1.0) h.1.1 ∙ k.1.1)))

  pub all_continue : (known : List (Past O E)) (p q : Past O E) → ContinuesAll known p → Continues p q → ContinuesAll known q
  all_continue [] p q h c = tt
  all_continue (k ∷ ks) p q h c = (continues_trans k p q h.0 c, all_continue ks p q h.1 c)

  -- a history was taken
  pub took : (known : List (Past O E)) (p : Past O E) (new : List (Past O E)) → new ≡ p ∷ known → ContinuesAll known p → TakesOn known new
  took known p new e h = inr (p, e, h)

  pub all_joined : (ks ls : List (Past O E)) (p : Past O E) → ContinuesAll ks p → ContinuesAll ls p → ContinuesAll (ks ++ ls) p
  all_joined [] ls p h k = k
  all_joined (x ∷ ks) ls p h k = (h.0, all_joined ks ls p h.1 k)

  pub newest_continues : (known : List (Past O E)) (p : Past O E) → ContinuesAll known p → ContinuesAll (take 1 known) p
  newest_continues [] p h = tt
  newest_continues (k ∷ ks) p h = (h.0, tt)

  pub ahead_more : (p q : Past O E) (views : List (View O E)) → IsAhead p views → Continues p q → IsAhead q views
  ahead_more p q views h c seat v at = all_continue v.known p q (h seat v at) c

  pub ahead_set : (p : Past O E) (views : List (View O E)) (seat : ℕ) (w : View O E) → IsAhead p views → ContinuesAll w.known p → IsAhead p (set views seat w)
  ahead_set p views seat w h k j u e = ⊎_elim
      (λ (t : (j ≡ seat) × (w ≡ u)). subst (λ (v : View O E). ContinuesAll v.known p) t.1 k)
      (λ (t : (j ≢ seat) × (get_elem? views j ≡ some u)). h j u t.1)
      (at_set views seat j w u e)

  pub ahead_snoc : (p : Past O E) (views : List (View O E)) (w : View O E) → IsAhead p views → ContinuesAll w.known p → IsAhead p (views ++ w ∷ [])
  ahead_snoc p views w h k j u e = ⊎_elim
      (h j u)
      (λ (same : w ≡ u). subst (λ (v : View O E). ContinuesAll v.known p) same k)
      (at_snoc views w u j e)

  pub ahead_alone : (p : Past O E) → IsAhead p (newcomer ∷ [])
  ahead_alone p zero v e = subst (λ (u : View O E). ContinuesAll u.known p) (some-injective newcomer v e) tt
  ahead_alone p (suc j) v e = absurd (some-ne-none v (sym e))

module _ {X O E : Type 0} (led_to : X → Past O E) (leads : Past O E → X → Type 0) (continues : (p : Past O E) (op : X) → leads p op → Continues p (led_to op)) where
  pub last_continues : (p : Past O E) (ops : List X) → LeadsAll led_to leads p ops → Continues p (last_of led_to p ops)
  last_continues p [] l = continues_self p
  last_continues p (op ∷ ops) l = continues_trans p (led_to op) (last_of led_to (led_to op) ops) (continues p op l.0) (last_continues (led_to op) ops l.1)

module _ {X O E : Type 0} (led_to : X → Past O E) (leads : Past O E → X → Type 0) where
  pub leads_snoc : (p : Past O E) (ops : List X) (op : X) → LeadsAll led_to leads p ops → leads (last_of led_to p ops) op → LeadsAll led_to leads p (ops ++ op ∷ [])
  leads_snoc p [] op l h = (h, tt)
  leads_snoc p (o ∷ ops) op l h = (l.0, leads_snoc (led_to o) ops op l.1 h)

module _ {X O E : Type 0} (led_to : X → Past O E) where
  pub last_snoc : (p : Past O E) (ops : List X) (op : X) → last_of led_to p (ops ++ op ∷ []) ≡ led_to op
  last_snoc p [] op = refl
  last_snoc p (o ∷ ops) op = last_snoc (led_to o) ops op
