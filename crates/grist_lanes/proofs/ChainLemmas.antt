-- The connections of one lane in the whole history.
use Rattle.std.proofs.Common.{◌≡◌, ◌≢◌, ℕ, suc, ◌+◌, ◌^◌, ◌<◌, ◌≤◌, false, List, [], ◌∷◌, ◌++◌, length, map, Some, refl, sym, ap, ◌∙◌, subst, arith, append_assoc, append-nil}
use mathlib.Core.List.{IsPrefix}
use Rattle.std.specs.List.{AllByRecursion}
use Rattle.std.specs.Str.{bytes_eq}
use Rattle.std.proofs.lemmas.Bool.{false_from_ne_true}
use Rattle.std.proofs.lemmas.Slice.Eq.{bytes_eq-Decides}
use Rattle.doc_model.specs.declared.entry.Entry.{Entry}
use Rattle.session_gate.specs.declared.known.Made.{Made}
use Rattle.session_gate.specs.Call.{IsSamePass, own_calls}
use Rattle.session_gate.specs.History.{calls_by}
use Rattle.bundle_core.specs.declared.machine.CoreOpening.{CoreOpening}
use Rattle.grist_serve.specs.Turns.{CorePass, OwnTurn, entry_in}
use Rattle.grist_lanes.specs.Services.{AreServed, IsServed, LaneView, Service, Telling}
use Rattle.grist_lanes.specs.SessionNames.{session_name}
use Rattle.grist_lanes.proofs.AskLemmas.{all_append}
use Rattle.grist_lanes.proofs.NameLemmas.{names_apart}
use Rattle.grist_lanes.proofs.SessionLemmas.{IsPlacedIn}
use Rattle.grist_lanes.proofs.TakenLemmas.{AreTurnsOf, taken}

-- the entry is of a connection of that lane, from the first number on and below the second
pub record IsWithin (lane low high : ℕ) (e : Entry) : Type 0 where
  pub connection : ℕ
  pub from : low ≤ connection
  pub below : connection < high
  pub session : e.session ≡ session_name lane connection

-- one pass after the other saw more, and its own entries are of these connections
pub record Goes (lane low high : ℕ) (old new : CorePass) : Type 0 where
  pub same : IsSamePass old new
  pub seen : IsPrefix old.seen new.seen
  pub own : List Entry
  pub calls : own_calls new ≡ own_calls old ++ own
  pub within : AllByRecursion (IsWithin lane low high) own

wider : (lane low low' high high' : ℕ) (es : List Entry) → low' ≤ low → high ≤ high' → AllByRecursion (IsWithin lane low high) es → AllByRecursion (IsWithin lane low' high') es
wider lane low low' high high' [] p q all = tt
wider lane low low' high high' (e ∷ es) p q all =
    (record { connection = all.0.connection; from = omega (arith, all.0.from, p); below = omega (arith, all.0.below, q); session = all.0.session }, wider lane low low' high high' es p q all.1)

pub goes_nowhere : (lane low high : ℕ) (p : CorePass) → Goes lane low high p p
goes_nowhere lane low high p = record {
  same = record { gate = refl; number = refl; opening = refl };
  seen = ([], append-nil p.seen);
  own = [];
  calls = sym (append-nil (own_calls p));
  within = tt;
}

pub goes_on : (lane low mid high : ℕ) (p q r : CorePass) → low ≤ mid → mid ≤ high → Goes lane low mid p q → Goes lane mid high q r → Goes lane low high p r
goes_on lane low mid high p q r le le' a b = record {
  same = record { gate = b.same.gate ∙ a.same.gate; number = b.same.number ∙ a.same.number; opening = b.same.opening ∙ a.same.opening };
  seen = (a.seen.0 ++ b.seen.0, sym (append_assoc p.seen a.seen.0 b.seen.0) ∙ ap (λ z. z ++ b.seen.0) a.seen.1 ∙ b.seen.1);
  own = a.own ++ b.own;
  calls = b.calls ∙ ap (λ z. z ++ b.own) a.calls ∙ append_assoc (own_calls p) a.own b.own;
  within = all_append (IsWithin lane low high) a.own b.own (wider lane low low mid high a.own (omega arith) le' a.within) (wider lane mid low high high b.own le (omega arith) b.within);
}

-- the entries of turns of one session
entries_within : (lane k : ℕ) (turns : List OwnTurn) → AreTurnsOf (session_name lane k) turns → AllByRecursion (IsWithin lane k (suc k)) (map entry_in turns)
entries_within lane k [] all = tt
entries_within lane k (t ∷ ts) all = (record { connection = k; from = omega arith; below = omega arith; session = all.0 }, entries_within lane k ts all.1)

module _ {Conn : Type 0} (t : Telling Conn) (lane : ℕ) where
  pub goes_one : (k : ℕ) (s : Service Conn) → IsServed t (session_name lane k) s → Goes lane k (suc k) s.old.pass s.new.pass
  goes_one k s served =
      let took = taken t (session_name lane k) s served in
      record {
        same = took.adds.same;
        seen = took.adds.seen;
        own = map entry_in took.turns;
        calls = took.adds.calls;
        within = entries_within lane k took.turns took.sessions;
      }

  pub goes_all : (k : ℕ) (old : LaneView) (ss : List (Service Conn)) (new : LaneView) → AreServed t lane k old ss new → Goes lane k (k + length ss) old.pass new.pass
  goes_all k old [] new all = subst (λ (v : LaneView). Goes lane k (k + 0) old.pass v.pass) (sym all) (goes_nowhere lane k (k + 0) old.pass)
  goes_all k old (s ∷ ss) new all =
      let first = subst (λ (v : LaneView). Goes lane k (suc k) v.pass s.new.pass) all.1 (goes_one k s all.0) in
      let more = goes_all (suc k) s.new ss new all.2 in
      subst (λ n. Goes lane k n old.pass new.pass) (omega arith) (goes_on lane k (suc k) (suc k + length ss) old.pass s.new.pass new.pass (omega arith) (omega arith) first more)

-- ---- in the history

-- entries of other connections of the lane are not of this one
pub others_apart : (lane k low high : ℕ) (es : List Entry) → lane < 2 ^ 64 → k < 2 ^ 64 → high ≤ 2 ^ 64 → ((j : ℕ) → low ≤ j → j < high → j ≢ k) → AllByRecursion (IsWithin lane low high) es → AllByRecursion (λ e. bytes_eq e.session (session_name lane k) ≡ false) es
others_apart lane k low high [] small few wide apart all = tt
others_apart lane k low high (e ∷ es) small few wide apart all = (
  false_from_ne_true _ (λ same.
      let is : e.session ≡ session_name lane k = (bytes_eq-Decides e.session (session_name lane k)).0 same in
      let j = all.0.connection in
      let equal = (names_apart lane j lane k small (omega (arith, all.0.below, wide)) small few (sym all.0.session ∙ is)).1 in
      apart j all.0.from all.0.below equal),
  others_apart lane k low high es small few wide apart all.1,
)

pub sessions_are : (name : List ℕ) (turns : List OwnTurn) → AreTurnsOf name turns → AllByRecursion (λ e. e.session ≡ name) (map entry_in turns)
sessions_are name [] all = tt
sessions_are name (t ∷ ts) all = (all.0, sessions_are name ts all.1)

pub all_front : {A : Type 0} (P : A → Type 0) (xs ys : List A) → AllByRecursion P (xs ++ ys) → AllByRecursion P xs
all_front P [] ys all = tt
all_front P (x ∷ xs) ys all = (all.0, all_front P xs ys all.1)

pub all_back : {A : Type 0} (P : A → Type 0) (xs ys : List A) → AllByRecursion P (xs ++ ys) → AllByRecursion P ys
all_back P [] ys all = all
all_back P (x ∷ xs) ys all = all_back P xs ys all.1

-- the calls of a pass, by another number that is its own
pub calls_of : (p : CorePass) (n : ℕ) → p.number ≡ n → calls_by n p.seen ≡ own_calls p
calls_of p n is = ap (λ m. calls_by m p.seen) (sym is)

-- the whole history, in which every entry has its place; the pass n began with none of its calls
pub record Whole (n : ℕ) (o : CoreOpening) (first last : CorePass) (log : List (Made Entry)) : Type 0 where
  pub low : n < 64
  pub placed : AllByRecursion IsPlacedIn log
  pub number : first.number ≡ n
  pub opening_is : first.opening ≡ Some o
  pub fresh : own_calls first ≡ []
  pub seen : IsPrefix last.seen log
  pub own : calls_by n log ≡ own_calls last
