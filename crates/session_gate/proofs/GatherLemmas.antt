-- Passes that are handed back to one.
use Rattle.std.proofs.Common.{◌≡◌, ℕ, ◌+◌, ◌<◌, List, [], ◌∷◌, ◌++◌, ◌⊎◌, false, length, refl, ap, sym, subst, ◌∙◌, inl, inr, ⊎_elim, arith, length-append, slice_get, Some, None, Option}
use Rattle.std.proofs.lemmas.List.{nil_from_length}
use mathlib.Core.Option.{some}
use lib.ListN.{get_elem?}
use Rattle.atomic_table.specs.Table.{Joins}
use Rattle.atomic_table.specs.Seated.{TableId}
use Rattle.atomic_table.proofs.Lists.{at_longer, at_last}
use Rattle.session_gate.specs.declared.known.Made.{Made}
use Rattle.session_gate.specs.declared.known.Told.{Told}
use Rattle.session_gate.specs.declared.known.Known.{Known}
use Rattle.session_gate.specs.Known.{GateSeat, Sat, number_of, seen_of, turn_of, parts_of, gathered, told_by}
use Rattle.session_gate.specs.Rule.{Kept}
use Rattle.session_gate.specs.Views.{PassView}
use Rattle.session_gate.specs.Seats.{shown, IsIdle, AreOf, Heard, IsGathered}
use Rattle.session_gate.proofs.Lists.{snoc_get, get_longer, get_last}
use Rattle.session_gate.proofs.CallLemmas.{some_known}
use Rattle.session_gate.proofs.SeatLemmas.{joins}

module _ {M E O : Type 0} where
  -- the seat to which the passes after the first ones were handed back
  pub record IsGathering (gate : TableId) (passes front : List (PassView E O)) (s : GateSeat M E O) : Type 0 where
    pub table_is : s.table_id ≡ gate
    pub carried : length s.me.1 ≡ 0
    pub turn : turn_of s.me.0 ≡ false
    pub parts : parts_of s.me.0 + length front ≡ length passes
    pub mine : 0 < parts_of s.me.0
    pub front_of : AreOf gate front
    pub heard : (i : ℕ) (p : PassView E O) → slice_get passes i ≡ Some p → (slice_get front i ≡ Some p) ⊎ Heard p.number p.seen s.me.0

module _ {A : Type 0} where
  -- the last of the list was taken out, and is seen as this
  pub popped : (xs ys : List A) (x y : A) → xs ≡ ys ++ x ∷ [] → y ≡ x → xs ≡ ys ++ y ∷ []
  popped xs ys x y e is = e ∙ ap (λ (z : A). ys ++ z ∷ []) (sym is)

module _ {E O : Type 0} where
  heard_self : (v : Option (Known E O)) → 0 < parts_of v → Heard (number_of v) (seen_of v) v
  heard_self None h = absurd (omega arith)
  heard_self (Some k) h = inl (refl, refl)

  -- what a pass had heard it hears still, and what it had seen itself
  heard_more : (v w : Option (Known E O)) (n : ℕ) (seen : List (Made E)) → Heard n seen v → Heard n seen (gathered v w)
  heard_more None w n seen h = absurd h
  heard_more (Some k) None n seen h = h
  heard_more (Some k) (Some l) n seen h =
      let both : List (Told E) = k.told ++ told_by k ∷ [] in
      ⊎_elim (λ (a : (k.number ≡ n) × (k.seen ≡ seen)). inr (length k.told, told_by k, at_longer both (told_by l ∷ []) (length k.told) (told_by k) (at_last k.told (told_by k) (length k.told) refl), a.0, a.1))
      (λ (a : (i : ℕ) × (t : Told E) × (get_elem? k.told i ≡ some t) × (t.number ≡ n) × (t.seen ≡ seen)). inr (a.0, a.1, at_longer both (told_by l ∷ []) a.0 a.1 (at_longer k.told (told_by k ∷ []) a.0 a.1 a.2), a.3, a.4)) h

  heard_new : (v w : Option (Known E O)) → 0 < parts_of v → 0 < parts_of w → Heard (number_of w) (seen_of w) (gathered v w)
  heard_new None w h g = absurd (omega arith)
  heard_new (Some k) None h g = absurd (omega arith)
  heard_new (Some k) (Some l) h g = let both : List (Told E) = k.told ++ told_by k ∷ [] in inr (length both, told_by l, at_last both (told_by l) (length both) refl, refl, refl)

  parts_more : (v w : Option (Known E O)) → 0 < parts_of v → parts_of (gathered v w) ≡ parts_of v + parts_of w
  parts_more None w h = absurd (omega arith)
  parts_more (Some k) None h = omega arith
  parts_more (Some k) (Some l) h = refl

  turn_kept : (v w : Option (Known E O)) → turn_of (gathered v w) ≡ turn_of v
  turn_kept None w = refl
  turn_kept (Some k) None = refl
  turn_kept (Some k) (Some l) = refl

  front_of_all : (gate : TableId) (front : List (PassView E O)) (p : PassView E O) → AreOf gate (front ++ p ∷ []) → AreOf gate front
  front_of_all gate front p of = record { each = λ i q e. of.each i q (get_longer front p i q e) }

module _ {M E O : Type 0} (gate : TableId) where
  pub gather_starts : (passes front : List (PassView E O)) (s : GateSeat M E O) → AreOf gate passes → passes ≡ front ++ shown s ∷ [] → IsIdle s → IsGathering gate passes front s
  gather_starts passes front s of is idle =
      let of' : AreOf gate (front ++ shown s ∷ []) = subst (AreOf gate) is of in
      let some_part : 0 < parts_of s.me.0 = let p = idle.parts in omega arith in
      record {
        table_is = of'.each (length front) (shown s) (get_last front (shown s));
        carried = idle.carried;
        turn = idle.turn;
        parts = let n : length passes ≡ length front + 1 = ap length is ∙ length-append front (shown s ∷ []) in let p = idle.parts in omega arith;
        mine = some_part;
        front_of = front_of_all gate front (shown s) of';
        heard = λ i p e. ⊎_elim (λ (f : slice_get front i ≡ Some p). inl f)
            (λ (f : (i ≡ length front) × (shown s ≡ p)). inr (subst (λ (z : PassView E O). Heard z.number z.seen s.me.0) f.1 (heard_self s.me.0 some_part)))
            (snoc_get front (shown s) i p (subst (λ (z : List (PassView E O)). slice_get z i ≡ Some p) is e));
      }

  pub gather_on : (passes front front' : List (PassView E O)) (s t u : GateSeat M E O) → IsGathering gate passes front s → front ≡ front' ++ shown u ∷ [] → IsIdle u
      → t.table_id ≡ s.table_id → (◌≡◌ {A = Sat M E O} t.me (gathered s.me.0 u.me.0, s.me.1)) → IsGathering gate passes front' t
  gather_on passes front front' s t u d is idle same now =
      let of' : AreOf gate (front' ++ shown u ∷ []) = subst (AreOf gate) is d.front_of in
      let some_part : 0 < parts_of u.me.0 = let p = idle.parts in omega arith in
      let v : t.me.0 ≡ gathered s.me.0 u.me.0 = ap (λ (m : Sat M E O). m.0) now in
      let sum : parts_of t.me.0 ≡ parts_of s.me.0 + parts_of u.me.0 = ap parts_of v ∙ parts_more s.me.0 u.me.0 d.mine in
      let one = idle.parts in
      record {
        table_is = same ∙ d.table_is;
        carried = ap (λ (m : Sat M E O). length m.1) now ∙ d.carried;
        turn = ap turn_of v ∙ (turn_kept s.me.0 u.me.0 ∙ d.turn);
        parts = let n : length front ≡ length front' + 1 = ap length is ∙ length-append front' (shown u ∷ []) in let p = d.parts in omega arith;
        mine = let m = d.mine in omega arith;
        front_of = front_of_all gate front' (shown u) of';
        heard = λ i p e. ⊎_elim
            (λ (f : slice_get front i ≡ Some p). ⊎_elim (λ (g : slice_get front' i ≡ Some p). inl g)
            (λ (g : (i ≡ length front') × (shown u ≡ p)). inr (subst (λ (z : PassView E O × Option (Known E O)). Heard z.0.number z.0.seen z.1) (λ j. (g.1 j, sym v j)) (heard_new s.me.0 u.me.0 d.mine some_part)))
            (snoc_get front' (shown u) i p (subst (λ (z : List (PassView E O)). slice_get z i ≡ Some p) is f)))
            (λ (f : Heard p.number p.seen s.me.0). inr (subst (Heard p.number p.seen) (sym v) (heard_more s.me.0 u.me.0 p.number p.seen f)))
            (d.heard i p e);
      }

  pub gather_ends : (passes front : List (PassView E O)) (s : GateSeat M E O) → IsGathering gate passes front s → length front ≡ 0 → IsGathered gate passes s
  gather_ends passes front s d none = record {
    table_is = d.table_is;
    carried = d.carried;
    turn = d.turn;
    parts = let p = d.parts in omega arith;
    heard = λ i p e. ⊎_elim (λ (f : slice_get front i ≡ Some p). absurd (let g = subst (λ (z : List (PassView E O)). slice_get z i ≡ Some p) (nil_from_length front none) f in cc)) (λ h. h) (d.heard i p e);
  }

  pub last_of : (front front' : List (PassView E O)) (u : GateSeat M E O) → AreOf gate front → front ≡ front' ++ shown u ∷ [] → u.table_id ≡ gate
  last_of front front' u of is = (subst (AreOf gate) is of).each (length front') (shown u) (get_last front' (shown u))

module _ {M E O : Type 0} where
  pub carries_none : (u : GateSeat M E O) → IsIdle u → u.me.1 ≡ []
  carries_none u idle = nil_from_length u.me.1 idle.carried

module _ {M E O Ev Out : Type 0} (history : M → List E) (opening : M → O) (takes_event : Ev → Type 0) (answers : O → List E → List E → Ev → Out → Type 0) (start : M) (passes : ℕ) where
  pub join_allowed : (gate : TableId) (all front : List (PassView E O)) (s u : GateSeat M E O) → IsGathering gate all front s → IsIdle u
      → Joins (Kept history opening takes_event answers start passes) s.id s.me.0 u.id u.me.0 (gathered s.me.0 u.me.0) None
  join_allowed gate all front s u d idle =
      let k = some_known s.me.0 d.mine in
      let l = some_known u.me.0 (let p = idle.parts in omega arith) in
      let turn : k.0.turn ≡ false = ap turn_of (sym k.1) ∙ d.turn in
      let rest : l.0.turn ≡ false = ap turn_of (sym l.1) ∙ idle.turn in
      subst (λ (z : Option (Known E O) × Option (Known E O)). Joins (Kept history opening takes_event answers start passes) s.id z.0 u.id z.1 (gathered z.0 z.1) None) (λ j. (sym k.1 j, sym l.1 j))
      (joins history opening takes_event answers start passes s.id u.id k.0 l.0 turn rest)
