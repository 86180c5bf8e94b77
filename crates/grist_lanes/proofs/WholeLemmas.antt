-- All lanes in the history that the gate gave back.
use Rattle.std.proofs.Common.{◌≡◌, ℕ, suc, ◌+◌, ◌^◌, ◌<◌, ◌≤◌, true, List, [], ◌∷◌, ◌++◌, length, map, Option, Some, None, slice_get, refl, sym, ap, ◌∙◌, subst, arith, ⊎_elim}
use Rattle.std.specs.List.{AllByRecursion}
use Rattle.std.proofs.lemmas.Bool.{cases_lt, eq-eqb, eqb-true}
use Rattle.std.proofs.lemmas.List.{length-map, map-append}
use Rattle.doc_model.specs.declared.entry.Entry.{Entry}
use Rattle.io_edges.specs.Ports.{PortState}
use Rattle.session_gate.specs.declared.known.Made.{Made}
use Rattle.session_gate.specs.Call.{own_calls}
use Rattle.session_gate.specs.History.{brought, calls_by, entries_of, entry_of, is_by}
use Rattle.session_gate.specs.Rule.{IsBelow, IsSeen}
use Rattle.bundle_core.specs.declared.machine.CoreOpening.{CoreOpening}
use Rattle.grist_lanes.specs.InHistory.{AddsOfLanes, AreInHistory, IsOfOneOf, ServesPort, began_of}
use Rattle.grist_lanes.specs.Services.{Known, LaneView, ServesLane, Telling}
use Rattle.grist_lanes.specs.Sessions.{AreOfNoLane, IsOfLane}
use Rattle.grist_lanes.proofs.AskLemmas.{all_append}
use Rattle.grist_lanes.proofs.ChainLemmas.{Goes, IsWithin, Whole, calls_of, goes_all, goes_nowhere}
use Rattle.grist_lanes.proofs.HistoryLemmas.{lane_told}
use Rattle.grist_lanes.proofs.SessionLemmas.{EachBy, IsPlacedIn, behind, each_by, placed_brought, placed_made}

none_brought : (n : ℕ) (es : List Entry) → calls_by n (map brought es) ≡ []
none_brought n [] = refl
none_brought n (e ∷ es) = none_brought n es

entries_brought : (es : List Entry) → entries_of (map brought es) ≡ es
entries_brought [] = refl
entries_brought (e ∷ es) = ap (λ xs. e ∷ xs) (entries_brought es)

of_lane : (lane high : ℕ) (es : List Entry) → high ≤ 2 ^ 64 → AllByRecursion (IsWithin lane 1 high) es → AllByRecursion (IsOfLane lane) es
of_lane lane high [] wide all = tt
of_lane lane high (e ∷ es) wide all = (record { connection = all.0.connection; few = omega (arith, all.0.below, wide); session = all.0.session }, of_lane lane high es wide all.1)

-- what is known of one lane
pub record LaneFacts {Conn : Type 0} (t : Telling Conn) (o : CoreOpening) (begun : List Entry) (log : List (Made Entry)) (i : ℕ) (port port' : PortState Conn) : Type 0 where
  pub first : LaneView
  pub last : LaneView
  pub number : first.pass.number ≡ i
  pub opening_is : first.pass.opening ≡ Some o
  pub fresh : first.pass.seen ≡ map brought begun
  pub told : first.known ≡ began_of o begun ∷ []
  pub serves : ServesLane t (suc i) port port' first last
  pub known : IsSeen (map brought begun) log last.pass.number last.pass.seen

module _ {Conn : Type 0} (t : Telling Conn) (o : CoreOpening) (begun : List Entry) (log : List (Made Entry)) where
  module _ (i : ℕ) (port port' : PortState Conn) (f : LaneFacts t o begun log i port port') where
    goes : Goes (suc i) 1 (1 + length f.serves.served) f.first.pass f.last.pass
    goes = goes_all t (suc i) 1 f.first f.serves.served f.last f.serves.passes

    no_calls : own_calls f.first.pass ≡ []
    no_calls = ap (calls_by f.first.pass.number) f.fresh ∙ none_brought f.first.pass.number begun

    last_number : f.last.pass.number ≡ i
    last_number = goes.same.number ∙ f.number

    own_last : calls_by i log ≡ own_calls f.last.pass
    own_last = subst (λ n. calls_by n log ≡ calls_by n f.last.pass.seen) last_number f.known.own ∙ calls_of f.last.pass i last_number

    short : 1 + length f.serves.served ≤ 2 ^ 64
    short = omega (arith, f.serves.port.few)

    pub calls_in_lane : AllByRecursion (IsOfLane (suc i)) (calls_by i log)
    calls_in_lane = subst (AllByRecursion (IsOfLane (suc i))) (sym (own_last ∙ goes.calls ∙ ap (λ z. z ++ goes.own) no_calls))
        (of_lane (suc i) (1 + length f.serves.served) goes.own short goes.within)

    pub port_told : i < 64 → AllByRecursion IsPlacedIn log → ServesPort t o begun (entries_of log) (suc i) port port'
    port_told low placed =
        let whole : Whole i o f.first.pass f.last.pass log = record {
          low = low;
          placed = placed;
          number = f.number;
          opening_is = f.opening_is;
          fresh = no_calls;
          seen = f.known.prefix;
          own = own_last;
        } in
        record {
          served = f.serves.served;
          handed = f.serves.port;
          stopped = f.serves.stopped;
          each = subst (λ (k : Known). AreInHistory t o (entries_of log) (suc i) 1 k f.serves.served) f.told
              (lane_told t i o f.first f.last log whole (1 + length f.serves.served) short 1 f.first f.serves.served (omega arith) (omega arith) (goes_nowhere (suc i) 1 1 f.first.pass) f.serves.passes);
        }

-- an entry of the pass m was made by it
by_number : (made m : ℕ) (by : Option ℕ) → IsBelow made by → is_by m by ≡ true → m < made
by_number made m None below e = absurd below
by_number made m (Some k) below e = let same = eqb-true m k e in omega (arith, below, same)

pub below_all : (made : ℕ) (begun : List Entry) (rest log : List (Made Entry)) → map brought begun ++ rest ≡ log → ((i : ℕ) (x : Made Entry) → slice_get log i ≡ Some x → length begun ≤ i → IsBelow made x.by) → AllByRecursion (λ x. IsBelow made x.by) rest
below_all made begun rest log is numbered = behind (λ x. IsBelow made x.by) (map brought begun) rest
    (λ i x e le. numbered i x (ap (λ z. slice_get z i) (sym is) ∙ e) (omega (arith, le, length-map begun brought)))

weaker : (made : ℕ) (xs : List (Made Entry)) → made ≤ 64 → AllByRecursion (λ x. IsBelow made x.by) xs → AllByRecursion (λ x. IsBelow 64 x.by) xs
weaker made [] few all = tt
weaker made (x ∷ xs) few all = (one x.by all.0, weaker made xs few all.1) where
  one : (by : Option ℕ) → IsBelow made by → IsBelow 64 by
  one None below = below
  one (Some k) below = omega (arith, below, few)

each_behind : (n : ℕ) (P : Entry → Type 0) (xs ys : List (Made Entry)) → EachBy n P (xs ++ ys) → EachBy n P ys
each_behind n P [] ys each = each
each_behind n P (x ∷ xs) ys each = each_behind n P xs ys each.1

none_by : (made m : ℕ) (P : Entry → Type 0) (xs : List (Made Entry)) → made ≤ m → AllByRecursion (λ x. IsBelow made x.by) xs → EachBy m P xs
none_by made m P [] le all = tt
none_by made m P (x ∷ xs) le all = ((λ e. let low = by_number made m x.by all.0 e in absurd (omega (arith, low, le))), none_by made m P xs le all.1)

module _ (made : ℕ) (begun : List Entry) (rest log : List (Made Entry)) (is : map brought begun ++ rest ≡ log) (below : AllByRecursion (λ x. IsBelow made x.by) rest) (lanes : (i : ℕ) → i < made → AllByRecursion (IsOfLane (suc i)) (calls_by i log)) where
  lane_each : (m : ℕ) → EachBy m (IsOfLane (suc m)) rest
  lane_each m = ⊎_elim
      (λ (low : m < made). each_behind m (IsOfLane (suc m)) (map brought begun) rest (subst (EachBy m (IsOfLane (suc m))) (sym is) (each_by m (IsOfLane (suc m)) log (lanes m low))))
      (λ (high : made ≤ m). none_by made m (IsOfLane (suc m)) rest high below)
      (cases_lt m made)

  pub all_placed : made ≤ 64 → AreOfNoLane begun → AllByRecursion IsPlacedIn log
  all_placed few fresh = subst (AllByRecursion IsPlacedIn) is
      (all_append IsPlacedIn (map brought begun) rest (placed_brought begun fresh) (placed_made rest (weaker made rest few below) (λ m low. lane_each m)))

  pub lanes_add : AddsOfLanes made begun (entries_of log)
  lanes_add = record {
    more = entries_of rest;
    whole = ap entries_of (sym is) ∙ map-append entry_of (map brought begun) rest ∙ ap (λ z. z ++ entries_of rest) (entries_brought begun);
    each = of_one made rest below lane_each;
  } where
    one : (made : ℕ) (by : Option ℕ) (e : Entry) → IsBelow made by → ((m : ℕ) → is_by m by ≡ true → IsOfLane (suc m) e) → IsOfOneOf made e
    one made None e low each = absurd low
    one made (Some k) e low each = record { lane = k; some = omega (arith, low); of = each k (eq-eqb k k refl) }

    of_one : (made : ℕ) (xs : List (Made Entry)) → AllByRecursion (λ x. IsBelow made x.by) xs → ((m : ℕ) → EachBy m (IsOfLane (suc m)) xs) → AllByRecursion (IsOfOneOf made) (entries_of xs)
    of_one made [] low each = tt
    of_one made (x ∷ xs) low each = (one made x.by x.entry low.0 (λ m e. (each m).0 e), of_one made xs low.1 (λ m. (each m).1))
