-- Each step of a writer or a reader keeps the rule.
use Rattle.std.proofs.Common.{◌≡◌, ◌≢◌, ℕ, List, [], ◌∷◌, set, fold, refl, sym, subst, ◌∙◌, ap, ⊎_elim}
use Rattle.std.specs.Prelude.{Result, Ok, Err, MatchResult}
use mathlib.Core.Option.{some}
use lib.ListN.{get_elem?}
use Rattle.atomic_table.proofs.Lists.{at_set}
use Rattle.left_right.specs.Register.{Admits, TurnsAt, Forks, Merges}
use Rattle.snap_reads.specs.Past.{Continues, ContinuesAll}
use Rattle.snap_reads.specs.Rule.{Keeps, Sees, informed, newcomer, newest}
use Rattle.snap_reads.specs.Shots.{LeadsAll, last_of}
use Rattle.snap_reads.specs.declared.past.Past.{Past}
use Rattle.snap_reads.specs.declared.rule.View.{View}
use Rattle.snap_reads.proofs.Histories.{ahead_alone, ahead_more, ahead_set, ahead_snoc, all_continue, all_joined, continues_self, last_continues, newest_continues}

module _ {T S O E : Type 0} (state : T → S) (past : S → Past O E) (stands : S → Type 0) where
  pub admits : Admits (Keeps state past stands) newcomer
  admits x views h = (h.0, ahead_snoc (past (state x)) views newcomer h.1 tt)

  -- a look at a shot whose history continues the one that was shown
  pub looks : (seat : ℕ) (v : View O E) (x y : T) → (stands (state x) → stands (state y)) → Continues (past (state x)) (past (state y)) → TurnsAt (Keeps state past stands) seat v x y (Sees state past stands)
  looks seat v x y stood more views h at =
      let p = past (state x) in let q = past (state y) in
      let k : ContinuesAll v.known q = all_continue v.known p q (h.1 seat v at) more in
      let w : View O E = record { known = q ∷ v.known } in (
        w,
        (stood h.0, ahead_set q views seat w (ahead_more p q views h.1 more) (continues_self q, k)),
        (stood h.0, k, refl),
      )

  pub looks_same : (seat : ℕ) (v : View O E) (x : T) → TurnsAt (Keeps state past stands) seat v x x (Sees state past stands)
  looks_same seat v x = looks seat v x x (λ h. h) (continues_self (past (state x)))

  pub forks : (seat : ℕ) (v : View O E) → Forks (Keeps state past stands) seat v v (newest v)
  forks seat v x views h at =
      let p = past (state x) in
      let k = h.1 seat v at in
      (h.0, ahead_snoc p (set views seat v) (newest v) (ahead_set p views seat v h.1 k) (newest_continues v.known p k))

  pub merges : (seat : ℕ) (v : View O E) (other : ℕ) (w : View O E) → Merges (Keeps state past stands) seat v other w (informed v w) newcomer
  merges seat v other w x views h at apart there =
      let p = past (state x) in
      let b : ContinuesAll w.known p = ⊎_elim
      (λ (t : (other ≡ seat) × (informed v w ≡ w)). absurd (apart t.0))
      (λ (t : (other ≢ seat) × (get_elem? views other ≡ some w)). h.1 other w t.1)
      (at_set views seat other (informed v w) w there) in
      let both = ahead_set p views seat (informed v w) h.1 (all_joined w.known v.known p b (h.1 seat v at)) in
      (h.0, ahead_set p (set views seat (informed v w)) other newcomer both tt)

  pub starts : (x : T) → stands (state x) → Keeps state past stands x (newcomer ∷ [])
  starts x h = (h, ahead_alone (past (state x)))

module _ {S X O E : Type 0} (applied : S → X → S) (past : S → Past O E) (stands : S → Type 0) (led_to : X → Past O E) (leads : Past O E → X → Type 0)
    (moves : (s : S) (op : X) → past (applied s op) ≡ led_to op) (keeps : (s : S) (op : X) → stands s → leads (past s) op → stands (applied s op)) where
  pub past_after : (s : S) (ops : List X) → past (fold applied s ops) ≡ last_of led_to (past s) ops
  past_after s [] = refl
  past_after s (op ∷ ops) = past_after (applied s op) ops ∙ ap (λ p. last_of led_to p ops) (moves s op)

  pub stands_after : (s : S) (ops : List X) → stands s → LeadsAll led_to leads (past s) ops → stands (fold applied s ops)
  stands_after s [] h l = h
  stands_after s (op ∷ ops) h l = stands_after (applied s op) ops (keeps s op h l.0) (subst (λ p. LeadsAll led_to leads p ops) (sym (moves s op)) l.1)

  pub publishes : {T : Type 0} (state : T → S) (continues : (p : Past O E) (op : X) → leads p op → Continues p (led_to op)) (seat : ℕ) (v : View O E) (x y : T) (ops : List X) → LeadsAll led_to leads (past (state x)) ops → state y ≡ fold applied (state x) ops → TurnsAt (Keeps state past stands) seat v x y (Sees state past stands)
  publishes state continues seat v x y ops l is = looks state past stands seat v x y
      (λ h. subst stands (sym is) (stands_after (state x) ops h l))
      (subst (Continues (past (state x))) (sym (ap past is ∙ past_after (state x) ops)) (last_continues led_to leads continues (past (state x)) ops l))

-- two things said of one answer
pub match_both : {X Y : Type 0} {P P' Q : X → Type 0} {R R' S : Y → Type 0} (r : Result X Y) → MatchResult r P R → MatchResult r P' R' → ((x : X) → P x → P' x → Q x) → ((y : Y) → R y → R' y → S y) → MatchResult r Q S
match_both (Ok x) a b f g = f x a b
match_both (Err y) a b f g = g y a b
