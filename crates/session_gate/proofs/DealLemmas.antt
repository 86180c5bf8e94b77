-- The passes that a gate begins with.
use Rattle.std.proofs.Common.{◌≡◌, ℕ, ◌+◌, ◌-◌, ◌<◌, ◌≤◌, List, [], ◌∷◌, ◌++◌, false, length, refl, ap, sym, subst, ◌∙◌, ⊎_elim, arith, length-append, slice_get, Some, Option}
use Rattle.atomic_table.specs.Table.{Splits}
use Rattle.atomic_table.specs.Seated.{TableId}
use Rattle.session_gate.specs.declared.known.Known.{Known}
use Rattle.session_gate.specs.Known.{GateSeat, Sat, number_of, seen_of, opening_of, turn_of, told_of, room_of, parts_of, dealt, next_seat}
use Rattle.session_gate.specs.Rule.{Kept}
use Rattle.session_gate.specs.Views.{PassView, GateView}
use Rattle.session_gate.specs.Seats.{shown, IsIdle, IsNew, AreNew, IsDealer}
use Rattle.session_gate.specs.Gate.{AreAllNew}
use Rattle.session_gate.proofs.Lists.{snoc_get}
use Rattle.session_gate.proofs.CallLemmas.{some_known}
use Rattle.session_gate.proofs.SeatLemmas.{deals}

module _ {M E O : Type 0} where
  -- the passes that are made so far, and the seat that makes the next
  pub record IsDealing (gate : TableId) (o : O) (h : List E) (passes i : ℕ) (s : GateSeat M E O) (made : List (PassView E O)) : Type 0 where
    pub dealer : IsDealer gate o h passes i s
    pub new : AreNew gate o h made
    pub count : length made ≡ i

module _ {E O : Type 0} (gate : TableId) (o : O) (h : List E) where
  one_more : (i : ℕ) (made : List (PassView E O)) (p : PassView E O) → AreNew gate o h made → length made ≡ i → IsNew gate o h i p → AreNew gate o h (made ++ p ∷ [])
  one_more i made p new count is = record {
    each = λ j q e. ⊎_elim (λ (f : slice_get made j ≡ Some q). new.each j q f)
        (λ (f : (j ≡ length made) × (p ≡ q)). subst (λ (z : ℕ × PassView E O). IsNew gate o h z.0 z.1) (λ k. (sym (f.0 ∙ count) k, f.1 k)) is) (snoc_get made p j q e);
  }

module _ {M E O : Type 0} (gate : TableId) (o : O) (h : List E) (passes : ℕ) where
  dealt_new : (i : ℕ) (s t : GateSeat M E O) → i < passes → IsDealer gate o h passes i s → t.table_id ≡ s.table_id → ◌≡◌ {A = Sat M E O} t.me (dealt s.me.0, s.me.1) → IsNew gate o h i (shown t)
  dealt_new i s t more d same now =
      let k = some_known s.me.0 (let p = d.parts in omega arith) in
      let out : (v : Option (Known E O)) → v ≡ Some k.0 → (number_of (dealt v) ≡ number_of v) × (opening_of (dealt v) ≡ opening_of v) × (seen_of (dealt v) ≡ seen_of v) =
      (λ v e. subst (λ (v : Option (Known E O)). (number_of (dealt v) ≡ number_of v) × (opening_of (dealt v) ≡ opening_of v) × (seen_of (dealt v) ≡ seen_of v)) (sym e) (refl, refl, refl)) in
      let q = out s.me.0 k.1 in
      record {
        gate_is = same ∙ d.new.gate_is;
        number = ap (λ (m : Sat M E O). number_of m.0) now ∙ (q.0 ∙ d.new.number);
        opening = ap (λ (m : Sat M E O). opening_of m.0) now ∙ (q.1 ∙ d.new.opening);
        seen = ap (λ (m : Sat M E O). seen_of m.0) now ∙ (q.2 ∙ d.new.seen);
      }

  pub dealt_idle : (i : ℕ) (s t : GateSeat M E O) → i < passes → IsDealer gate o h passes i s → ◌≡◌ {A = Sat M E O} t.me (dealt s.me.0, s.me.1) → IsIdle t
  dealt_idle i s t more d now =
      let k = some_known s.me.0 (let p = d.parts in omega arith) in
      let out : (v : Option (Known E O)) → v ≡ Some k.0 → (turn_of (dealt v) ≡ turn_of v) × (parts_of (dealt v) ≡ 1) × (told_of (dealt v) ≡ told_of v) =
      (λ v e. subst (λ (v : Option (Known E O)). (turn_of (dealt v) ≡ turn_of v) × (parts_of (dealt v) ≡ 1) × (told_of (dealt v) ≡ told_of v)) (sym e) (refl, refl, refl)) in
      let q = out s.me.0 k.1 in
      record {
        carried = ap (λ (m : Sat M E O). length m.1) now ∙ d.carried;
        turn = ap (λ (m : Sat M E O). turn_of m.0) now ∙ (q.0 ∙ d.turn);
        parts = ap (λ (m : Sat M E O). parts_of m.0) now ∙ q.1;
        told = ap (λ (m : Sat M E O). length (told_of m.0)) now ∙ (ap length q.2 ∙ d.told);
      }

  pub last_idle : (i : ℕ) (s : GateSeat M E O) → i + 1 ≡ passes → IsDealer gate o h passes i s → IsIdle s
  last_idle i s last d = record { carried = d.carried; turn = d.turn; parts = let p = d.parts in omega arith; told = d.told }

  next_dealer : (i : ℕ) (s t : GateSeat M E O) → i + 1 < passes → IsDealer gate o h passes i s → t.table_id ≡ s.table_id → ◌≡◌ {A = Sat M E O} t.me (next_seat s.me.0, []) → IsDealer gate o h passes (i + 1) t
  next_dealer i s t more d same now =
      let k = some_known s.me.0 (let p = d.parts in omega arith) in
      let out : (v : Option (Known E O)) → v ≡ Some k.0 → (number_of (next_seat v) ≡ number_of v + 1) × (opening_of (next_seat v) ≡ opening_of v) × (seen_of (next_seat v) ≡ seen_of v) × (turn_of (next_seat v) ≡ false) × (told_of (next_seat v) ≡ []) × (parts_of (next_seat v) ≡ parts_of v - 1) × (room_of (next_seat v) ≡ room_of v - 1) =
      (λ v e. subst (λ (v : Option (Known E O)). (number_of (next_seat v) ≡ number_of v + 1) × (opening_of (next_seat v) ≡ opening_of v) × (seen_of (next_seat v) ≡ seen_of v) × (turn_of (next_seat v) ≡ false) × (told_of (next_seat v) ≡ []) × (parts_of (next_seat v) ≡ parts_of v - 1) × (room_of (next_seat v) ≡ room_of v - 1)) (sym e) (refl, refl, refl, refl, refl, refl, refl)) in
      let q = out s.me.0 k.1 in
      record {
        new = record {
          gate_is = same ∙ d.new.gate_is;
          number = ap (λ (m : Sat M E O). number_of m.0) now ∙ (q.0 ∙ ap (λ (n : ℕ). n + 1) d.new.number);
          opening = ap (λ (m : Sat M E O). opening_of m.0) now ∙ (q.1 ∙ d.new.opening);
          seen = ap (λ (m : Sat M E O). seen_of m.0) now ∙ (q.2 ∙ d.new.seen);
        };
        carried = ap (λ (m : Sat M E O). length m.1) now;
        turn = ap (λ (m : Sat M E O). turn_of m.0) now ∙ q.3;
        told = ap (λ (m : Sat M E O). length (told_of m.0)) now ∙ ap length q.4;
        parts = let a : parts_of t.me.0 ≡ parts_of s.me.0 - 1 = ap (λ (m : Sat M E O). parts_of m.0) now ∙ q.5 in let p = d.parts in omega arith;
        room = let a : room_of t.me.0 ≡ room_of s.me.0 - 1 = ap (λ (m : Sat M E O). room_of m.0) now ∙ q.6 in let p = d.room in omega arith;
      }

  pub dealing_starts : (s : GateSeat M E O) (made : List (PassView E O)) → IsDealer gate o h passes 0 s → made ≡ [] → IsDealing gate o h passes 0 s made
  dealing_starts s made d none = record {
    dealer = d;
    new = subst (AreNew gate o h) (sym none) record { each = λ i p e. absurd (cc) };
    count = ap length none;
  }

  pub dealing_on : (i : ℕ) (s t u : GateSeat M E O) (made made' : List (PassView E O)) → i + 1 < passes → IsDealing gate o h passes i s made → t.table_id ≡ s.table_id → ◌≡◌ {A = Sat M E O} t.me (dealt s.me.0, s.me.1)
      → u.table_id ≡ s.table_id → ◌≡◌ {A = Sat M E O} u.me (next_seat s.me.0, []) → made' ≡ made ++ shown t ∷ [] → IsDealing gate o h passes (i + 1) u made'
  dealing_on i s t u made made' more d same now same_u now_u is = record {
    dealer = next_dealer i s u more d.dealer same_u now_u;
    new = subst (AreNew gate o h) (sym is) (one_more gate o h i made (shown t) d.new d.count (dealt_new i s t (omega arith) d.dealer same now));
    count = ap length is ∙ (length-append made (shown t ∷ []) ∙ ap (λ (n : ℕ). n + 1) d.count);
  }

  pub all_dealt : (i : ℕ) (s : GateSeat M E O) (made made' : List (PassView E O)) → IsDealing gate o h passes i s made → made' ≡ made ++ shown s ∷ [] → AreNew gate o h made'
  all_dealt i s made made' d is = subst (AreNew gate o h) (sym is) (one_more gate o h i made (shown s) d.new d.count d.dealer.new)

module _ {M E O Ev Out : Type 0} (history : M → List E) (opening : M → O) (takes_event : Ev → Type 0) (answers : O → List E → List E → Ev → Out → Type 0) (start : M) (passes : ℕ) where
  pub deal_allowed : (all : ℕ) (o : O) (h : List E) (gate : TableId) (i : ℕ) (s : GateSeat M E O) → all ≡ passes → i + 1 < passes → IsDealer gate o h passes i s
      → Splits (Kept history opening takes_event answers start all) s.id s.me.0 (dealt s.me.0) (next_seat s.me.0)
  deal_allowed all o h gate i s same more d =
      let p = d.parts in
      let r = d.room in
      let k = some_known s.me.0 (omega arith) in
      let room : 0 < k.0.room = let f : room_of s.me.0 ≡ k.0.room = ap room_of k.1 in omega arith in
      let parts : 2 ≤ k.0.parts = let f : parts_of s.me.0 ≡ k.0.parts = ap parts_of k.1 in omega arith in
      let turn : k.0.turn ≡ false = ap turn_of (sym k.1) ∙ d.turn in
      subst (λ (z : ℕ × Option (Known E O)). Splits (Kept history opening takes_event answers start z.0) s.id z.1 (dealt z.1) (next_seat z.1)) (λ j. (sym same j, sym k.1 j)) (deals history opening takes_event answers start passes s.id k.0 room parts turn)

module _ {M E O : Type 0} (history : M → List E) (opening : M → O) where
  -- the passes of a gate that begins with the machine `start`
  pub all_new : (gate : GateView M) (start : M) (passes : List (PassView E O)) → gate.start ≡ start → length passes ≡ gate.made → AreNew gate.id (opening start) (history start) passes → AreAllNew history opening gate passes
  all_new gate start passes began count new = record {
    count = count;
    each = subst (λ (z : M). (i : ℕ) (p : PassView E O) → slice_get passes i ≡ Some p → IsNew gate.id (opening z) (history z) i p) (sym began) new.each;
  }
