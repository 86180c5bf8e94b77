-- What is counted as the entries of a script are taken.
use Rattle.std.proofs.Common.{◌≡◌, ℕ, ◌+◌, ◌*◌, ◌<◌, ◌≤◌, Bool, true, false, cond, not, ◌&&◌, ◌||◌, List, [], ◌∷◌, ◌++◌, length, Option, Some, None, refl, sym, ap, ◌∙◌, subst, append_assoc, nat_le, nat_lt, arith}
use Rattle.std.specs.Prelude.{option_to_list, sum_by}
use Rattle.std.proofs.lemmas.Bool.{false≢true, le-ltb, lt-ltb}
use Rattle.doc_model.specs.declared.entry.Entry.{Entry}
use Rattle.doc_model.specs.declared.request.Request.{Request}
use Rattle.doc_model.specs.declared.request.Request.TheVariants as request
use Rattle.doc_model.specs.declared.user.User.{User}
use Rattle.run_generator.specs.Script.{first_session, script, second_session}
use Rattle.bundle_core.specs.Core.{CoreState, IsStep, entry_bound, entry_of, is_gone, size_bound, size_of}
use Rattle.bundle_core.specs.KeptCore.{KeptCore, state_now}
use Rattle.bundle_core.specs.MadeLines.{CountsOn, lines_made, made_line}
use Rattle.bundle_core.specs.State.{State, opening, run, step, verdicts}
use Rattle.bundle_core.proofs.MadeLaws.{step_counts}
use Rattle.grist_run.specs.declared.generating.Counts.{Counts}
use Rattle.grist_run.specs.declared.status.Status.{Status}
use Rattle.grist_run.specs.declared.status.Status.TheVariants.{Done, Usage, BadUsers, ReadFault, WriteFault, StoreFault, NoMemory, BadStore, TurnsSpent, PortFault, HistoryFull}
use Rattle.grist_run.specs.Staying.{StaysStarted}
use Rattle.grist_run.specs.Admission.{admitted, all_asked, stops_at, takes_all}
use Rattle.grist_run.specs.Asking.{AreCounted, IsAsking, StopsAsking, StopsAt, one_if_more}
use Rattle.grist_run.specs.Denials.{ends_in_denial}
use Rattle.grist_run.specs.Generated.{all_made, denials, is_denial, made_at, made_for, one_if_denied}
use Rattle.grist_run.proofs.Admitting.{admitted-all, admitted-append, admitted-stays}
use Rattle.grist_run.proofs.GivenLaws.{given_denied}

-- ---- requests

pub not_gone : (r : Request) → (r ≡ request.Gone → ⊥) → is_gone r ≡ false
not_gone request.Bad stays = refl
not_gone request.TooLong stays = refl
not_gone (request.Open token) stays = refl
not_gone request.Gone stays = absurd (stays refl)
not_gone (request.Apply actions) stays = refl
not_gone request.Sync stays = refl
not_gone (request.Undo bundle) stays = refl
not_gone (request.Rename table column new) stays = refl
not_gone (request.Fetch table) stays = refl
not_gone request.Close stays = refl

-- an entry that was asked for
pub asked_is : (e : Entry) → e.kept ≡ true → entry_of e.session e.request e.size true ≡ e
asked_is e kept = ap (λ k. entry_of e.session e.request e.size k) (sym kept)

-- ---- counts of a history

denials-append : (us : List User) (st : State) (es : List Entry) (e : Entry) → denials us st (es ++ e ∷ []) ≡ denials us st es + one_if_denied (verdicts us (run us st es) e)
denials-append us st [] e = omega arith
denials-append us st (x ∷ es) e = let h = denials-append us (step us st x) es e in omega (arith, h)

made-append : (us : List User) (st : State) (es : List Entry) (e : Entry) → all_made us st (es ++ e ∷ []) ≡ all_made us st es + made_at us (run us st es) e
made-append us st [] e = omega arith
made-append us st (x ∷ es) e = let h = made-append us (step us st x) es e in omega (arith, h)

pub one_few : (b : Bool) → cond b 1 0 ≤ 1
one_few true = omega arith
one_few false = omega arith

option_few : (o : Option (List ℕ)) → length (option_to_list o) ≤ 1
option_few None = omega arith
option_few (Some x) = omega arith

few_denials : (us : List User) (st : State) (es : List Entry) → denials us st es ≤ length es
few_denials us st [] = omega arith
few_denials us st (e ∷ es) =
    let h = few_denials us (step us st e) es in
    let one = one_few (is_denial (verdicts us st e).outcome) in
    omega (arith, h, one)

few_made : (us : List User) (st : State) (es : List Entry) → all_made us st es ≤ 2 * length es
few_made us st [] = omega arith
few_made us st (e ∷ es) =
    let h = few_made us (step us st e) es in
    let one = option_few (made_line us st e first_session) in
    let other = option_few (made_line us st e second_session) in
    omega (arith, h, one, other)

more_counts : (before after : Option ℕ) (line : Option (List ℕ)) → CountsOn before after line → one_if_more before after ≡ length (option_to_list line)
more_counts None after line c = sym (ap (λ l. length (option_to_list l)) c)
more_counts (Some before) None line c = sym (ap (λ l. length (option_to_list l)) c)
more_counts (Some before) (Some after) None c = ap (λ b. cond b 1 0) (le-ltb before after (omega (arith, c)))
more_counts (Some before) (Some after) (Some line) c = ap (λ b. cond b 1 0) (lt-ltb before after (omega (arith, c)))

-- ---- an entry was taken

or_left : (a b : Bool) → (a || b) ≡ false → a ≡ false
or_left true b none = absurd (false≢true (sym none))
or_left false b none = refl

few_by : (n : ℕ) → nat_le entry_bound n ≡ false → n < 1048576
few_by n none = grind arith

module _ (old new : CoreState) (e : Entry) (lines : List (List ℕ)) (s : IsStep old new e lines) (stays : is_gone e.request ≡ false) where
  abbrev st : State
  st = state_now old

  longer : new ≡ record { users = old.users; start = old.start; history = old.history ++ e ∷ [] }
  longer = s.added ∙ rw stays refl

  -- it had room, so there were few
  few : length old.history < 1048576
  few =
      let room : (true && (nat_le entry_bound (length old.history) || nat_lt size_bound (sum_by size_of old.history + e.size))) ≡ false = ap (λ b. not b && (nat_le entry_bound (length old.history) || nat_lt size_bound (sum_by size_of old.history + e.size))) (sym stays) ∙ s.has_room in
      few_by (length old.history) (or_left (nat_le entry_bound (length old.history)) (nat_lt size_bound (sum_by size_of old.history + e.size)) room)

  pub few_denied : (c : Counts) → AreCounted c old → c.denied < 1048576
  few_denied c counted = let n = few_denials old.users (opening old.start) old.history in omega (arith, few, n, counted.denied)

  pub few_lines : (c : Counts) → AreCounted c old → c.lines < 2097152
  few_lines c counted = let n = few_made old.users (opening old.start) old.history in omega (arith, few, n, counted.lines)

  abbrev more : List ℕ → ℕ
  more name = one_if_more (lines_made old name) (lines_made new name)

  more_for : (name : List ℕ) → more name ≡ made_for old.users st e name
  more_for name = more_counts (lines_made old name) (lines_made new name) (made_line old.users st e name) (step_counts old new e lines s name)

  denied_is : cond (ends_in_denial lines) 1 0 ≡ one_if_denied (verdicts old.users st e)
  denied_is = ap (λ b. cond b 1 0) (ap ends_in_denial s.lines_given ∙ given_denied old.users st e stays)

  pub counted_on : (c d : Counts) → AreCounted c old → d.denied ≡ c.denied + cond (ends_in_denial lines) 1 0 → d.lines ≡ c.lines + (more first_session + more second_session) → AreCounted d new
  counted_on c d counted denied lines_are =
      let one = denials-append old.users (opening old.start) old.history e in
      let all = made-append old.users (opening old.start) old.history e in
      let a = more_for first_session in
      let b = more_for second_session in
      let is : AreCounted d (record { users = old.users; start = old.start; history = old.history ++ e ∷ [] }) = record {
        denied = omega (arith, denied, counted.denied, denied_is, one);
        lines = omega (arith, lines_are, counted.lines, a, b, all);
      } in
      subst (AreCounted d) (sym longer) is

-- ---- a script

pub asking_starts : (rows : ℕ) (h : List Entry) → h ≡ [] → IsAsking rows h (script rows)
asking_starts rows h none = record {
  entries = ap (λ (l : List Entry). all_asked l ++ script rows) (sym none);
  took = ap (λ (l : List Entry). admitted (all_asked l) (script rows)) (sym none);
}

module _ (rows : ℕ) (h k : List Entry) (e : Entry) (left : List Entry) (a : IsAsking rows h (e ∷ left)) where
  pub asking_on : admitted (all_asked h) (e ∷ []) ≡ takes_all (all_asked k) → IsAsking rows k left
  asking_on took =
      let all : all_asked h ++ e ∷ [] ≡ all_asked k = admitted-all (all_asked h) (all_asked k) (e ∷ []) took in record {
        entries = a.entries ∙ sym (append_assoc (all_asked h) (e ∷ []) left) ∙ ap (λ l. l ++ left) all;
        took = a.took ∙ admitted-append (all_asked h) (all_asked k) (e ∷ []) left took;
      }

  pub asking_full : admitted (all_asked h) (e ∷ []) ≡ stops_at (all_asked h) → k ≡ h → (more : List Entry) × (script rows ≡ all_asked k ++ more) × (admitted [] (script rows) ≡ stops_at (all_asked k))
  asking_full full same =
      (e ∷ left, a.entries ∙ ap (λ (l : List Entry). all_asked l ++ e ∷ left) (sym same), a.took ∙ admitted-stays (all_asked h) (all_asked h) (e ∷ []) left full ∙ ap (λ (l : List Entry). stops_at (all_asked l)) (sym same))

  pub asking_stops : k ≡ h → (more : List Entry) × (script rows ≡ all_asked k ++ more)
  asking_stops same = (e ∷ left, a.entries ∙ ap (λ (l : List Entry). all_asked l ++ e ∷ left) (sym same))

pub asking_ends : (rows : ℕ) (h left : List Entry) → IsAsking rows h left → left ≡ [] → admitted [] (script rows) ≡ takes_all (all_asked h)
asking_ends rows h left a none = a.took ∙ ap (admitted (all_asked h)) none

-- an entry was not taken
pub stops_asking : (rows : ℕ) (h k : List Entry) (e : Entry) (left : List Entry) → IsAsking rows h (e ∷ left) → (s : Status) → StopsAt s h k e → StopsAsking rows s k
stops_asking rows h k e left a Done stop = absurd stop
stops_asking rows h k e left a Usage stop = absurd stop
stops_asking rows h k e left a (BadUsers line) stop = absurd stop
stops_asking rows h k e left a ReadFault stop = absurd stop
stops_asking rows h k e left a WriteFault stop = absurd stop
stops_asking rows h k e left a StoreFault stop = absurd stop
stops_asking rows h k e left a NoMemory stop = asking_stops rows h k e left a stop
stops_asking rows h k e left a (BadStore number) stop = absurd stop
stops_asking rows h k e left a TurnsSpent stop = absurd stop
stops_asking rows h k e left a PortFault stop = absurd stop
stops_asking rows h k e left a HistoryFull stop = asking_full rows h k e left a stop.0 stop.1

pub stays_on : (a b c : KeptCore) → StaysStarted a b → StaysStarted b c → StaysStarted a c
stays_on a b c s t = record {
  users = t.users ∙ s.users;
  start = t.start ∙ s.start;
  opening = t.opening ∙ s.opening;
  before = t.before ∙ s.before;
}

-- nothing is counted of no history
pub none_counted : (c : Counts) (core : CoreState) → c.denied ≡ 0 → c.lines ≡ 0 → core.history ≡ [] → AreCounted c core
none_counted c core denied lines none = record {
  denied = denied ∙ ap (denials core.users (opening core.start)) (sym none);
  lines = lines ∙ ap (all_made core.users (opening core.start)) (sym none);
}
