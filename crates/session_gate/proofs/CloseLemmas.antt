-- When all passes are in one, the machine is at home, and the history is that of them all.
use Rattle.std.proofs.Common.{◌≡◌, ◌≢◌, ℕ, ◌<◌, ◌≤◌, Bool, List, [], ◌∷◌, true, false, map, length, get_or, set, refl, ap, sym, subst, ◌∙◌, ⊎_elim, arith, Some, None, Option}
use Rattle.std.proofs.lemmas.List.Sums.{sum_by-set}
use mathlib.Core.Option.{some, none, some-injective}
use mathlib.Core.Option as maybe
use lib.ListN.{get_elem?}
use Rattle.atomic_table.specs.Table.{Final, Seen}
use Rattle.atomic_table.proofs.Lists.{set_else}
use Rattle.session_gate.specs.declared.known.Made.{Made}
use Rattle.session_gate.specs.declared.known.Told.{Told}
use Rattle.session_gate.specs.declared.known.Known.{Known}
use Rattle.session_gate.specs.History.{brought, entries_of}
use Rattle.session_gate.specs.Known.{GateSeat, GateState, turn_of, parts_of}
use Rattle.session_gate.specs.Rule.{IsSeen, Stands, Kept}
use Rattle.session_gate.specs.Views.{PassView, GateView}
use Rattle.session_gate.specs.Seats.{Heard, IsGathered}
use Rattle.session_gate.specs.Gate.{IsWhole}
use Rattle.session_gate.proofs.Lists.{at_below, get_or_at}
use Rattle.session_gate.proofs.ViewLemmas.{not_holder}
use Rattle.session_gate.proofs.SeatLemmas.{below_more}
use Rattle.session_gate.proofs.CallLemmas.{some_known}

module _ {M : Type 0} where
  -- what was at home in the slot is what is taken out of it
  slot_is : (homes : List (maybe.Option (Option M))) (slots : List (Option M)) (out : Option M) (m : M) → homes ≡ some (Some m) ∷ [] → ((k : ℕ) (y : Option M) → get_elem? homes k ≡ some (some y) → get_elem? slots k ≡ some y) → get_elem? slots 0 ≡ some out → out ≡ Some m
  slot_is homes slots out m at back got = some-injective out (Some m) (sym got ∙ back 0 (Some m) (ap (λ (hs : List (maybe.Option (Option M))). get_elem? hs 0) at))

module _ {M E O Ev Out : Type 0} (history : M → List E) (opening : M → O) (takes_event : Ev → Type 0) (answers : O → List E → List E → Ev → Out → Type 0) (start : M) (passes : ℕ) where
  abbrev K : Type 0
  K = Known E O

  abbrev St : Type 0
  St = GateState M E O

  abbrev Rule : St → Type 0
  Rule = Kept history opening takes_event answers start passes

  abbrev base : List (Made E)
  base = map brought (history start)

  -- the machine is at home
  abbrev Home : St → List (Made E) → Type 0
  Home s log = (m : M) × (s.homes ≡ some (Some m) ∷ []) × (history m ≡ entries_of log) × (opening m ≡ opening start)

  -- a seat that stands for all passes leaves none that could hold the turn
  home : (s : St) (r : Rule s) (id : ℕ) (k : K) → get_elem? s.views id ≡ some (Some k) → k.turn ≡ false → k.parts ≡ passes → (held : Bool) → r.held ≡ held → Home s r.log
  home s r id k at turn parts false is = subst (λ h. Stands history opening start r.log h r.holder s) is r.stands
  home s r id k at turn parts true is =
      let out : Stands history opening start r.log true r.holder s = subst (λ h. Stands history opening start r.log h r.holder s) is r.stands in
      let l : K = out.1.0 in
      let there : get_elem? s.views r.holder ≡ some (Some l) = out.1.1 in
      let apart : r.holder ≢ id = not_holder s.views id r.holder k l at turn there out.1.2 in
      let views' : List (Option K) = set s.views id None in
      let there' : get_elem? views' r.holder ≡ some (Some l) = set_else s.views id r.holder None apart ∙ there in
      let e = sum_by-set parts_of s.views id None None (at_below s.views id (Some k) at) in
      let f = sum_by-set parts_of views' r.holder None None (at_below views' r.holder (Some l) there') in
      let was_k : parts_of (get_or s.views id None) ≡ k.parts = ap parts_of (get_or_at s.views id (Some k) None at) in
      let was_l : parts_of (get_or views' r.holder None) ≡ l.parts = ap parts_of (get_or_at views' r.holder (Some l) None there') in
      let some_part = (r.each r.holder l there).parts in
      let all = r.parts in
      absurd (omega arith)

  heard_seen : (s : St) (r : Rule s) (id n : ℕ) (seen : List (Made E)) (v : Option K) → get_elem? s.views id ≡ some v → Heard n seen v → IsSeen base r.log n seen
  heard_seen s r id n seen None at h = absurd h
  heard_seen s r id n seen (Some k) at h = ⊎_elim
      (λ (a : (k.number ≡ n) × (k.seen ≡ seen)). subst (λ (z : ℕ × List (Made E)). IsSeen base r.log z.0 z.1) (λ i. (a.0 i, a.1 i)) (r.each id k at).seen)
      (λ (a : (i : ℕ) × (t : Told E) × (get_elem? k.told i ≡ some t) × (t.number ≡ n) × (t.seen ≡ seen)). subst (λ (z : ℕ × List (Made E)). IsSeen base r.log z.0 z.1) (λ i. (a.3 i, a.4 i)) ((r.each id k at).told a.0 a.1 a.2).1)
      h

  -- the slot has the machine, which comes out with the whole history
  pub closes : (gate : GateView M) (all : List (PassView E O)) (seat : GateSeat M E O) (words : List ℕ) (slots : List (Option M)) (out : Option M) → gate.start ≡ start → gate.made ≡ passes → passes ≤ length all → 0 < passes → IsGathered gate.id all seat
      → Final (Seen Rule seat.id seat.me.0) words slots → get_elem? slots 0 ≡ some out → (m : M) × (out ≡ Some m) × ((log : List (Made E)) × IsWhole history opening takes_event answers gate m all log)
  closes gate all seat words slots out began made count some_pass d f got =
      let s : St = f.0 in
      let r : Rule s = f.1.0 in
      let at : get_elem? s.views seat.id ≡ some seat.me.0 = f.1.1 in
      let k = some_known seat.me.0 (let p = d.parts in omega arith) in
      let at_k : get_elem? s.views seat.id ≡ some (Some k.0) = at ∙ ap some k.1 in
      let turn : k.0.turn ≡ false = ap turn_of (sym k.1) ∙ d.turn in
      let parts' : k.0.parts ≡ length all = ap parts_of (sym k.1) ∙ d.parts in
      let e = sum_by-set parts_of s.views seat.id None None (at_below s.views seat.id (Some k.0) at_k) in
      let was_k : parts_of (get_or s.views seat.id None) ≡ k.0.parts = ap parts_of (get_or_at s.views seat.id (Some k.0) None at_k) in
      let sum = r.parts in
      let parts : k.0.parts ≡ passes = omega arith in
      let h = home s r seat.id k.0 at_k turn parts r.held refl in
      let is : out ≡ Some h.0 = slot_is s.homes slots out h.0 h.1 f.4 got in
      let few : length s.views ≤ gate.made = (let q = r.few in omega arith) in (
        h.0,
        is,
        (
          r.log,
          subst (λ (z : GateView M). IsWhole history opening takes_event answers z h.0 all r.log) (λ i. record { id = gate.id; start = sym began i; made = gate.made })
              record {
                opening_is = h.3;
                history_is = h.2;
                begins = r.begins;
                legal = r.legal;
                numbered = λ i x e le. below_more x.by (length s.views) gate.made few (r.numbered i x e le);
                each = λ i p e. heard_seen s r seat.id p.number p.seen seat.me.0 at (d.heard i p e);
              },
        ),
      )

module _ {M E O Ev Out : Type 0} (history : M → List E) (opening : M → O) (takes_event : Ev → Type 0) (answers : O → List E → List E → Ev → Out → Type 0) where
  -- the same of what the contract names
  pub whole_as : (gate gate' : GateView M) (all all' : List (PassView E O)) (out : Option M) (m m' : M) → gate ≡ gate' → all ≡ all' → out ≡ Some m → out ≡ Some m' → (log : List (Made E)) × IsWhole history opening takes_event answers gate m all log → (log : List (Made E)) × IsWhole history opening takes_event answers gate' m' all' log
  whole_as gate gate' all all' out m m' gates list is is' h =
      let e : Some m ≡ Some m' = sym is ∙ is' in
      let same : m ≡ m' = cc in
      (h.0, subst (λ (z : GateView M × M × List (PassView E O)). IsWhole history opening takes_event answers z.0 z.1 z.2 h.0) (λ i. (gates i, same i, list i)) h.1)
