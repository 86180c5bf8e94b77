-- Each connection of a lane is in the whole history as it was served.
use Rattle.std.proofs.Common.{◌≡◌, ℕ, suc, ◌+◌, ◌^◌, ◌<◌, ◌≤◌, false, List, [], ◌∷◌, ◌++◌, length, map, sym, ap, ◌∙◌, subst, arith, append_assoc, append-nil}
use Rattle.std.specs.List.{AllByRecursion}
use Rattle.std.specs.Str.{bytes_eq}
use Rattle.std.proofs.lemmas.List.{append_cancel_left, map-append}
use Rattle.doc_model.specs.declared.entry.Entry.{Entry}
use Rattle.session_gate.specs.declared.known.Made.{Made}
use Rattle.session_gate.specs.Call.{own_calls}
use Rattle.session_gate.specs.History.{calls_by, entries_of, entry_of}
use Rattle.session_gate.proofs.HistoryLemmas.{calls-append}
use Rattle.bundle_core.specs.declared.machine.CoreOpening.{CoreOpening}
use Rattle.grist_serve.specs.Out.{AreOthers, AreOwn, IsPartOf}
use Rattle.grist_serve.specs.Turns.{entry_in}
use Rattle.grist_serve.proofs.OutLemmas.{given-law}
use Rattle.grist_lanes.specs.InHistory.{AreInHistory, IsInHistory}
use Rattle.grist_lanes.specs.Services.{AreServed, IsServed, LaneView, Service, Telling}
use Rattle.grist_lanes.specs.SessionNames.{session_name}
use Rattle.grist_lanes.specs.Sessions.{of_session}
use Rattle.grist_lanes.proofs.SessionLemmas.{IsPlacedIn, are_others, are_own, each_by, session-append, session_none, session_own}
use Rattle.grist_lanes.proofs.TakenLemmas.{taken}
use Rattle.grist_lanes.proofs.ChainLemmas.{Goes, Whole, all_back, all_front, calls_of, goes_all, goes_nowhere, goes_on, goes_one, others_apart, sessions_are}

module _ {Conn : Type 0} (t : Telling Conn) (n : ℕ) (o : CoreOpening) (first last : LaneView) (log : List (Made Entry)) (whole : Whole n o first.pass last.pass log) (high : ℕ) (wide : high ≤ 2 ^ 64) where
  -- one connection, with what the pass did before it and after it
  connection_told : (k : ℕ) (s : Service Conn) → k < high → Goes (suc n) 1 k first.pass s.old.pass → IsServed t (session_name (suc n) k) s → Goes (suc n) (suc k) high s.new.pass last.pass → IsInHistory t o (entries_of log) (session_name (suc n) k) s
  connection_told k s below before served after =
      let name : List ℕ = session_name (suc n) k in
      let few : k < 2 ^ 64 = omega (arith, below, wide) in
      let small : suc n < 2 ^ 64 = omega (arith, whole.low) in
      let took = taken t name s served in
      let more : List (Made Entry) = took.adds.seen.0 in
      let rest : List (Made Entry) = after.seen.0 ++ whole.seen.0 in
      let entries : List Entry = map entry_in took.turns in
      let seen : s.old.pass.seen ++ more ≡ s.new.pass.seen = took.adds.seen.1 in
      let parts : log ≡ (s.old.pass.seen ++ more) ++ rest =
      sym whole.seen.1
      ∙ ap (λ z. z ++ whole.seen.0) (sym after.seen.1)
      ∙ append_assoc s.new.pass.seen after.seen.0 whole.seen.0
      ∙ ap (λ z. z ++ rest) (sym seen) in
      let number : s.old.pass.number ≡ n = before.same.number ∙ whole.number in
      let number' : s.new.pass.number ≡ n = took.adds.same.number ∙ number in
      let placed = subst (AllByRecursion IsPlacedIn) parts whole.placed in
      let front = all_front IsPlacedIn (s.old.pass.seen ++ more) rest placed in
      let calls_before : calls_by n s.old.pass.seen ≡ before.own = calls_of s.old.pass n number ∙ before.calls ∙ ap (λ z. z ++ before.own) whole.fresh in
      let calls_seen : calls_by n (s.old.pass.seen ++ more) ≡ own_calls s.new.pass = ap (calls_by n) seen ∙ calls_of s.new.pass n number' in
      let calls_more : calls_by n more ≡ entries = append_cancel_left (calls_by n s.old.pass.seen) (calls_by n more) entries
      (sym (calls-append n s.old.pass.seen more) ∙ calls_seen ∙ took.adds.calls ∙ ap (λ z. z ++ entries) (sym (calls_of s.old.pass n number))) in
      let calls_rest : calls_by n rest ≡ after.own = append_cancel_left (calls_by n (s.old.pass.seen ++ more)) (calls_by n rest) after.own
      (sym (calls-append n (s.old.pass.seen ++ more) rest) ∙ ap (calls_by n) (sym parts) ∙ whole.own ∙ after.calls ∙ ap (λ z. z ++ after.own) (sym calls_seen)) in
      let none_before : AreOthers name s.old.pass.seen = are_others n k whole.low few s.old.pass.seen (all_front IsPlacedIn s.old.pass.seen more front)
      (each_by n (λ e. bytes_eq e.session name ≡ false) s.old.pass.seen (subst (AllByRecursion (λ e. bytes_eq e.session name ≡ false)) (sym calls_before)
      (others_apart (suc n) k 1 k before.own small few (omega (arith, few)) (λ j from lower same. omega arith) before.within))) in
      let own : AreOwn n name more = are_own n k whole.low few more (all_back IsPlacedIn s.old.pass.seen more front)
      (each_by n (λ e. e.session ≡ name) more (subst (AllByRecursion (λ e. e.session ≡ name)) (sym calls_more) (sessions_are name took.turns took.sessions))) in
      let none_after : AreOthers name rest = are_others n k whole.low few rest (all_back IsPlacedIn (s.old.pass.seen ++ more) rest placed)
      (each_by n (λ e. bytes_eq e.session name ≡ false) rest (subst (AllByRecursion (λ e. bytes_eq e.session name ≡ false)) (sym calls_rest)
      (others_apart (suc n) k (suc k) high after.own small few wide (λ j from lower same. omega arith) after.within))) in
      let part : IsPartOf name s.old.pass.number s.old.pass.seen more log = record {
        after = rest;
        whole = parts;
        none_before = none_before;
        own = subst (λ m. AreOwn m name more) (sym number) own;
        none_after = none_after;
      } in
      let bytes = given-law name o s.old.pass s.new.pass took.turns more log took.adds (before.same.opening ∙ whole.opening_is) (sym seen) part in
      let of : of_session name (entries_of log) ≡ entries =
      ap (λ z. of_session name (entries_of z)) parts
      ∙ ap (of_session name) (map-append entry_of (s.old.pass.seen ++ more) rest ∙ ap (λ z. z ++ entries_of rest) (map-append entry_of s.old.pass.seen more))
      ∙ session-append name (entries_of s.old.pass.seen ++ entries_of more) (entries_of rest)
      ∙ ap (λ z. z ++ of_session name (entries_of rest)) (session-append name (entries_of s.old.pass.seen) (entries_of more) ∙ ap (λ z. z ++ of_session name (entries_of more)) (session_none name s.old.pass.seen none_before))
      ∙ ap (λ z. of_session name (entries_of more) ++ z) (session_none name rest none_after)
      ∙ append-nil (of_session name (entries_of more))
      ∙ session_own name n more own
      ∙ calls_more in
      record {
        opened = before.same.opening ∙ whole.opening_is;
        seen = record {
          rest = entries_of rest;
          split = ap entries_of (parts ∙ ap (λ z. z ++ rest) seen) ∙ map-append entry_of s.new.pass.seen rest;
        };
        entries = took.adds.calls ∙ ap (λ z. own_calls s.old.pass ++ z) (sym of);
        answered = took.answered;
        last = took.last;
        goes = took.goes;
        known = took.known;
        turns = sym took.gives ∙ bytes;
        written = took.written;
      }

  -- all connections of the lane
  pub lane_told : (k : ℕ) (old : LaneView) (ss : List (Service Conn)) → 1 ≤ k → k + length ss ≤ high → Goes (suc n) 1 k first.pass old.pass → AreServed t (suc n) k old ss last → AreInHistory t o (entries_of log) (suc n) k old.known ss
  lane_told k old [] one le before all = tt
  lane_told k old (s ∷ ss) one le before all =
      let from : Goes (suc n) 1 k first.pass s.old.pass = subst (λ (v : LaneView). Goes (suc n) 1 k first.pass v.pass) (sym all.1) before in
      let rest = goes_all t (suc n) (suc k) s.new ss last all.2 in
      let after : Goes (suc n) (suc k) high s.new.pass last.pass = goes_on (suc n) (suc k) (suc k + length ss) high s.new.pass last.pass last.pass (omega arith) (omega (arith, le)) rest (goes_nowhere (suc n) (suc k + length ss) high last.pass) in
      let one_more = goes_on (suc n) 1 k (suc k) first.pass s.old.pass s.new.pass one (omega arith) from (goes_one t (suc n) k s all.0) in
      (all.0, connection_told k s (omega (arith, le)) from all.0 after, ap (λ (v : LaneView). v.known) all.1, lane_told (suc k) s.new ss (omega arith) (omega (arith, le)) one_more all.2)
