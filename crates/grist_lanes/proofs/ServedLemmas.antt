-- What lanes that were put together, served and taken apart come to.
use Rattle.std.proofs.Common.{◌≡◌, ℕ, zero, suc, ◌<◌, ◌≤◌, List, [], ◌∷◌, length, map, Some, slice_get, refl, sym, ◌∙◌, subst, arith}
use mathlib.Core.List.{IsPrefix}
use Rattle.std.specs.List.{AllByRecursion}
use Rattle.std.proofs.lemmas.List.{length-map}
use Rattle.doc_model.specs.declared.entry.Entry.{Entry}
use Rattle.io_edges.specs.Ports.{PortState}
use Rattle.session_gate.specs.declared.known.Made.{Made}
use Rattle.session_gate.specs.History.{brought, calls_by, entries_of}
use Rattle.session_gate.specs.Rule.{IsBelow, IsSeen}
use Rattle.bundle_core.specs.declared.machine.CoreOpening.{CoreOpening}
use Rattle.grist_lanes.specs.InHistory.{AddsOfLanes, ServesLanes, ServesPort, began_of}
use Rattle.grist_lanes.specs.Places.{AtEach}
use Rattle.grist_lanes.specs.Services.{LaneView, ServesLane, Telling}
use Rattle.grist_lanes.specs.Sessions.{AreOfNoLane, IsOfLane}
use Rattle.grist_lanes.proofs.WholeLemmas.{LaneFacts, all_placed, below_all, calls_in_lane, lanes_add, port_told}

-- what stands in a place of a list
record Stands {A : Type 0} (xs : List A) (i : ℕ) : Type 0 where
  what : A
  there : slice_get xs i ≡ Some what

stands : {A : Type 0} (xs : List A) (i : ℕ) → i < length xs → Stands xs i
stands [] i low = absurd (omega arith)
stands (x ∷ xs) zero low = record { what = x; there = refl }
stands (x ∷ xs) (suc i) low = let more = stands xs i (omega arith) in record { what = more.what; there = more.there }

within : {A : Type 0} (xs : List A) (i : ℕ) (x : A) → slice_get xs i ≡ Some x → i < length xs
within [] i x e = let never : ⊥ = cc in absurd never
within (y ∷ xs) zero x e = omega arith
within (y ∷ xs) (suc i) x e = let low = within xs i x e in omega arith

-- what was mapped stands in the same place
record Mapped {A B : Type 0} (f : A → B) (xs : List A) (i : ℕ) (y : B) : Type 0 where
  from : A
  there : slice_get xs i ≡ Some from
  is : f from ≡ y

mapped : {A B : Type 0} (f : A → B) (xs : List A) (i : ℕ) (y : B) → slice_get (map f xs) i ≡ Some y → Mapped f xs i y
mapped f [] i y e = let never : ⊥ = cc in absurd never
mapped f (x ∷ xs) zero y e = record { from = x; there = refl; is = cc }
mapped f (x ∷ xs) (suc i) y e = let more = mapped f xs i y e in record { from = more.from; there = more.there; is = more.is }

-- a pass of the new gate, which was opened so, and a reader that was told of the history then
pub record IsFresh (o : CoreOpening) (begun : List Entry) (i : ℕ) (lane : LaneView) : Type 0 where
  pub number : lane.pass.number ≡ i
  pub opening_is : lane.pass.opening ≡ Some o
  pub seen : lane.pass.seen ≡ map brought begun
  pub told : lane.known ≡ began_of o begun ∷ []

module _ {Lane Conn : Type 0} (t : Telling Conn) (o : CoreOpening) (begun : List Entry) (log : List (Made Entry)) (port : Lane → PortState Conn) (view : Lane → LaneView) (lanes lanes' : List Lane) (count : length lanes' ≡ length lanes)
    (fresh : (i : ℕ) (l : Lane) → slice_get lanes i ≡ Some l → IsFresh o begun i (view l))
    (known : (i : ℕ) (l : Lane) → slice_get lanes' i ≡ Some l → IsSeen (map brought begun) log (view l).pass.number (view l).pass.seen)
    (serves : AtEach (λ i l l'. ServesLane t (suc i) (port l) (port l') (view l) (view l')) lanes lanes') where
  facts : (i : ℕ) (l l' : Lane) → slice_get lanes i ≡ Some l → slice_get lanes' i ≡ Some l' → LaneFacts t o begun log i (port l) (port l')
  facts i l l' at at' = let new = fresh i l at in record {
    first = view l;
    last = view l';
    number = new.number;
    opening_is = new.opening_is;
    fresh = new.seen;
    told = new.told;
    serves = serves i l l' at at';
    known = known i l' at';
  }

  calls : (i : ℕ) → i < length lanes → AllByRecursion (IsOfLane (suc i)) (calls_by i log)
  calls i low =
      let old = stands lanes i low in
      let new = stands lanes' i (omega (arith, low, count)) in
      calls_in_lane t o begun log i (port old.what) (port new.what) (facts i old.what new.what old.there new.there)

  pub lanes_served : length lanes ≤ 64 → AreOfNoLane begun → IsPrefix (map brought begun) log → ((i : ℕ) (x : Made Entry) → slice_get log i ≡ Some x → length begun ≤ i → IsBelow (length lanes) x.by) → ServesLanes t o begun (entries_of log) (map port lanes) (map port lanes')
  lanes_served few none begins numbered =
      let made = length lanes in
      let below = below_all made begun begins.0 log begins.1 numbered in
      let placed = all_placed made begun begins.0 log begins.1 below calls few none in
      record {
        adds = subst (λ n. AddsOfLanes n begun (entries_of log)) (sym (length-map lanes port)) (lanes_add made begun begins.0 log begins.1 below calls);
        count = length-map lanes' port ∙ count ∙ sym (length-map lanes port);
        each = λ i p p' at at'.
            let old = mapped port lanes i p at in
            let new = mapped port lanes' i p' at' in
            let told = port_told t o begun log i (port old.from) (port new.from) (facts i old.from new.from old.there new.there) (omega (arith, within lanes i old.from old.there, few)) placed in
            subst (λ q. ServesPort t o begun (entries_of log) (suc i) q p') old.is (subst (ServesPort t o begun (entries_of log) (suc i) (port old.from)) new.is told);
      }
