-- What a core keeps stays the state that its history leads to.
use Rattle.std.proofs.Common.{◌≡◌, ℕ, suc, ◌+◌, ◌<◌, ◌≤◌, ◌^◌, Bool, true, false, not, ◌&&◌, ◌||◌, List, [], ◌∷◌, ◌++◌, map, length, sum_by, nat_le, nat_lt, take, drop, get_or, Option, Some, None, is_some, refl, sym, ap, subst, ◌∙◌, arith, if◌then◌else◌}
use Rattle.std.proofs.lemmas.Bool.{leb-false, false≢true}
use Rattle.std.proofs.Math.Nat.{le-min, min-le_left, min-le_right}
use Rattle.std.proofs.lemmas.List.{length-append, take-append-drop}
use Rattle.std.proofs.lemmas.List.Sums.{sum_by-append}
use Rattle.std.specs.List.{AllByRecursion}
use Rattle.doc_model.specs.declared.entry.Entry.{Entry}
use Rattle.doc_model.specs.declared.request.Request.TheVariants as request
use Rattle.doc_model.specs.declared.user.User.{User}
use Rattle.doc_model.specs.ByIds.{precedes, find_id, IsByIds}
use Rattle.doc_model.specs.Document.{Document}
use Rattle.doc_model.specs.DocumentLaws.{IsWhole}
use Rattle.doc_model.proofs.Choices.{each_weaker, each_mapped, each_unmapped, length_map}
use Rattle.action_limits.specs.declared.tally.Tally.{Tally}
use Rattle.undo_bundles.specs.BundleLog.{count}
use Rattle.action_limits.specs.Tallies.{IsTally}
use Rattle.bundle_core.specs.Core.{CoreState, state_after, entry_bound, entry_of, has_no_effect, history_bound, size_bound, size_of, is_gone, is_full, bytes_left, counted, IsCore, IsStep}
use Rattle.bundle_core.specs.Dispatch.{AreSame, Answers, Finds, IsCounted, kept_name, Misses, state_of}
use Rattle.bundle_core.specs.Mailbox.{quiet}
use Rattle.bundle_core.specs.SessionState.{SessionState, open_of}
use Rattle.bundle_core.specs.State.{State, Open, Verdicts, session_name, session_of, opening, run, step, after_turn, verdicts, given, from_closed, from_open, from_lagging}
use Rattle.bundle_core.proofs.Answering.{with_opens, opens, opens-append, opens_above, opens_below}
use Rattle.bundle_core.proofs.ClosedLemmas.{miss_gone}
use Rattle.bundle_core.proofs.Indexes.{at_index}
use Rattle.bundle_core.proofs.OpenLemmas.{around, code_gone, find_gone, same_length, some_session}
use Rattle.bundle_core.proofs.Spots.{find_absent_at, find_at}
use Rattle.bundle_core.proofs.Keeping.{IsBelow, IsGood, step_good, step_length, without_good}

pub run_append : (users : List User) (st : State) (es : List Entry) (e : Entry) → run users st (es ++ e ∷ []) ≡ step users (run users st es) e
run_append users st [] e = refl
run_append users st (x ∷ es) e = run_append users (step users st x) es e

-- ---- sessions and open sessions

opens_by_name : (s : Document) (xs : List SessionState) → IsByIds kept_name xs → IsByIds session_name (map (open_of s) xs)
opens_by_name s [] h = tt
opens_by_name s (x ∷ xs) h = (each_mapped (λ (o : Open). precedes x.session o.session ≡ true) (open_of s) xs h.0, opens_by_name s xs h.1)

kept_by_name : (s : Document) (xs : List SessionState) → IsByIds session_name (map (open_of s) xs) → IsByIds kept_name xs
kept_by_name s [] h = tt
kept_by_name s (x ∷ xs) h = (each_unmapped (λ (o : Open). precedes x.session o.session ≡ true) (open_of s) xs h.0, kept_by_name s xs h.1)

opens_good : (s : Document) (n : ℕ) (xs : List SessionState) → IsByIds kept_name xs → AllByRecursion (IsCounted n) xs → IsGood n (map (open_of s) xs)
opens_good s n xs by_name few = record {
  by_name = opens_by_name s xs by_name;
  below = each_mapped (IsBelow n) (open_of s) xs (each_weaker (IsCounted n) (λ x. IsBelow n (open_of s x)) (λ x c. record { made = c.made; bundles = c.bundles }) xs few);
}

kept_few : (s : Document) (n : ℕ) (xs : List SessionState) → IsGood n (map (open_of s) xs) → AllByRecursion (IsCounted n) xs
kept_few s n xs g = each_weaker (λ x. IsBelow n (open_of s x)) (IsCounted n) (λ x b. record { made = b.made; bundles = b.bundles }) xs (each_unmapped (IsBelow n) (open_of s) xs g.below)

more_good : (n m : ℕ) (os : List Open) → n ≤ m → IsGood n os → IsGood m os
more_good n m os le g = record {
  by_name = g.by_name;
  below = each_weaker (IsBelow n) (IsBelow m) (λ o b. record { made = omega (arith, le, b.made); bundles = omega (arith, le, b.bundles) }) os g.below;
}

-- ---- the end of a connection

abbrev pub gone_verdicts : State → Verdicts
gone_verdicts st = record { outcome = quiet; document = st.document; is_bundle = false; holder = None }

pub verdicts_gone : (users : List User) (st : State) (e : Entry) → e.request ≡ request.Gone → verdicts users st e ≡ gone_verdicts st
verdicts_gone users st e is =
    elim (session_of e.session st) as (λ o. elim o as (λ _. Verdicts) [
      | None ↦ from_closed users st e.request
      | Some x ↦ if x.mailbox.lagging then from_lagging st e.request else from_open st x.holder e.kept e.request
    ] ≡ gone_verdicts st) [
      | None ↦ ap (from_closed users st) is
      | Some x ↦ elim x.mailbox.lagging as (λ l. (if l then from_lagging st e.request else from_open st x.holder e.kept e.request) ≡ gone_verdicts st) [
        | true ↦ ap (from_lagging st) is
        | false ↦ ap (from_open st x.holder e.kept) is
      ]
    ]

-- it is no bundle
pub gone_none : (users : List User) (st : State) (e : Entry) → e.request ≡ request.Gone → (verdicts users st e).is_bundle ≡ false
gone_none users st e is = ap (λ (v : Verdicts). v.is_bundle) (verdicts_gone users st e is)

-- the end of a connection counts nothing
gone_good : (n : ℕ) (users : List User) (st : State) (e : Entry) → e.request ≡ request.Gone → IsGood n st.open_sessions → IsGood n (step users st e).open_sessions
gone_good n users st e is g =
    let P : Verdicts → Type 0 = λ v. IsGood n (after_turn st e v).open_sessions in
    subst P (sym (verdicts_gone users st e is)) (without_good n e.session st.open_sessions g)

-- ---- bounds

or_false : (a b : Bool) → (a || b) ≡ false → a ≡ false
or_false true b h = absurd (false≢true (sym h))
or_false false b h = refl

short : (es : List Entry) → nat_le entry_bound (length es) ≡ false → length es < entry_bound
short es h = leb-false entry_bound (length es) h

-- one entry more counts no less
pub counted_more : (es : List Entry) (e : Entry) → counted es ≤ counted (es ++ e ∷ [])
counted_more es e =
    let n = length-append es (e ∷ []) in
    le-min (omega (arith, n, min-le_left (length es) entry_bound)) (min-le_right (length es) entry_bound)

-- where there was room, it counts one more
counted_one : (es : List Entry) (e : Entry) → length es < entry_bound → counted es + 1 ≤ counted (es ++ e ∷ [])
counted_one es e lt =
    let n = length-append es (e ∷ []) in
    le-min (omega (arith, n, min-le_left (length es) entry_bound)) (omega (arith, lt, min-le_left (length es) entry_bound))

-- ---- an entry

module _ (users : List User) (start s s' : Document) (tally : Tally) (xs xs' : List SessionState) (es : List Entry) (e : Entry) (lines : List (List ℕ)) (bytes : Option ℕ)
    (k : IsCore users start es s tally xs bytes) (a : Answers users s s' xs xs' e lines) where
  abbrev more : List Entry
  more = es ++ e ∷ []

  abbrev st : State
  st = state_of s xs

  leads : state_after users start more ≡ state_of s' xs'
  leads = run_append users (opening start) es e ∙ ap (λ t. step users t e) k.state ∙ a.state

  was_good : IsGood (counted es) st.open_sessions
  was_good = opens_good s (counted es) xs k.by_name k.few

  pub lines_at : lines ≡ given users (state_after users start es) e
  lines_at = sym a.lines_given ∙ ap (λ t. given users t e) (sym k.state)

  -- one session more is open at most
  pub more_open : length xs' ≤ length xs + 1
  more_open =
      let P : State → Type 0 = λ t. length t.open_sessions ≤ length st.open_sessions + 1 in
      let h : length (map (open_of s') xs') ≤ length (map (open_of s) xs) + 1 = subst P a.state (step_length users st e) in
      omega (arith, h, length_map (open_of s') xs', length_map (open_of s) xs)

  one_more : length more ≡ length es + 1
  one_more = length-append es (e ∷ [])

  from_good : (tally' : Tally) (bytes' : Option ℕ) → IsWhole s' → IsTally s' tally' → IsGood (counted more) (step users st e).open_sessions → length xs' ≤ length more → length more + length xs' ≤ history_bound
      → bytes' ≡ bytes_left (sum_by size_of es + e.size) → IsCore users start more s' tally' xs' bytes'
  from_good tally' bytes' whole is g few_open bounded left =
      let all = sum_by-append size_of es (e ∷ []) in
      let sums : sum_by size_of more ≡ sum_by size_of es + e.size = omega (arith, all) in
      let P : State → Type 0 = λ t. IsGood (counted more) t.open_sessions in
      let g' : IsGood (counted more) (map (open_of s') xs') = subst P a.state g in
      record {
        state = leads;
        whole = whole;
        counts = is;
        by_name = kept_by_name s' xs' g'.by_name;
        few = kept_few s' (counted more) xs' g';
        few_open = few_open;
        bounded = bounded;
        left = left ∙ ap bytes_left (sym sums);
      }

  -- where there was room
  core_roomy : (tally' : Tally) (bytes' : Option ℕ) → IsWhole s' → IsTally s' tally' → length es < entry_bound → bytes' ≡ bytes_left (sum_by size_of es + e.size) → IsCore users start more s' tally' xs' bytes'
  core_roomy tally' bytes' whole is lt left =
      let c = counted_one es e lt in
      from_good tally' bytes' whole is (more_good (counted es + 1) (counted more) _ c (step_good (counted es) users st e was_good))
      (omega (arith, one_more, more_open, k.few_open)) (omega (arith, one_more, more_open, k.few_open, lt)) left

  -- at the end of the connection of an open session
  pub core_gone : (bytes' : Option ℕ) → IsWhole s' → IsTally s' tally → e.request ≡ request.Gone → length xs' + 1 ≡ length xs → bytes' ≡ bytes_left (sum_by size_of es + e.size) → IsCore users start more s' tally xs' bytes'
  core_gone bytes' whole is gone fewer left =
      let c = counted_more es e in
      from_good tally bytes' whole is (more_good (counted es) (counted more) _ c (gone_good (counted es) users st e gone was_good))
      (omega (arith, one_more, fewer, k.few_open)) (omega (arith, one_more, fewer, k.bounded)) left

  -- what was not full had room, but for the end of a connection
  pub core_after : (tally' : Tally) (bytes' : Option ℕ) → IsWhole s' → IsTally s' tally' → is_gone e.request ≡ false → is_full es e.request e.size ≡ false → bytes' ≡ bytes_left (sum_by size_of es + e.size) → IsCore users start more s' tally' xs' bytes'
  core_after tally' bytes' whole is stays room left =
      let full : Bool = nat_le entry_bound (length es) || nat_lt size_bound (sum_by size_of es + e.size) in
      let roomy : full ≡ false = ap (λ g. not g && full) (sym stays) ∙ room in
      core_roomy tally' bytes' whole is (short es (or_false (nat_le entry_bound (length es)) _ roomy)) left

-- ---- counts stay far below the bounds of their types

pub few_made : (users : List User) (start : Document) (es : List Entry) (s : Document) (tally : Tally) (xs : List SessionState) (bytes : Option ℕ) → IsCore users start es s tally xs bytes → AllByRecursion (λ x. x.made < 2 ^ 62) xs
few_made users start es s tally xs bytes k =
    each_weaker (IsCounted (counted es)) (λ x. x.made < 2 ^ 62) (λ x c. omega (arith, c.made, min-le_right (length es) entry_bound)) xs k.few

pub few_accepted : (users : List User) (start : Document) (es : List Entry) (s : Document) (tally : Tally) (xs : List SessionState) (bytes : Option ℕ) → IsCore users start es s tally xs bytes → AllByRecursion (λ x. count x.holder.log < 2 ^ 62) xs
few_accepted users start es s tally xs bytes k =
    each_weaker (IsCounted (counted es)) (λ x. count x.holder.log < 2 ^ 62) (λ x c. omega (arith, c.bundles, min-le_right (length es) entry_bound)) xs k.few

-- ---- sessions that are the same

pub core_same : (users : List User) (start : Document) (es : List Entry) (s s' : Document) (tally tally' : Tally) (xs ys : List SessionState) (bytes : Option ℕ) → s' ≡ s → IsTally s' tally' → AreSame xs ys → IsCore users start es s tally xs bytes → IsCore users start es s' tally' ys bytes
core_same users start es s s' tally tally' xs ys bytes e is same k =
    let T : Document → Type 0 = λ d. IsTally d tally' in
    let P : Document → Type 0 = λ d. IsCore users start es d tally' ys bytes in
    let Q : List Open → Type 0 = λ os. IsGood (counted es) os in
    let g : IsGood (counted es) (map (open_of s) ys) = subst Q (sym (same s)) (opens_good s (counted es) xs k.by_name k.few) in
    subst P (sym e) (record {
      state = k.state ∙ ap (with_opens s) (sym (same s));
      whole = k.whole;
      counts = subst T e is;
      by_name = kept_by_name s ys g.by_name;
      few = kept_few s (counted es) ys g;
      few_open = omega (arith, same_length xs ys same, k.few_open);
      bounded = omega (arith, same_length xs ys same, k.bounded);
      left = k.left;
    })

-- ---- whether a session is open

module _ (users : List User) (start : Document) (es : List Entry) (s : Document) (tally : Tally) (xs : List SessionState) (bytes : Option ℕ) (name : List ℕ) (k : IsCore users start es s tally xs bytes) where
  abbrev st_now : State
  st_now = state_after users start es

  -- it is found as it is kept, with its view of the document
  pub session_found : (p : ℕ) (x : SessionState) → Finds name xs p → x ≡ get_or xs p x → session_of name st_now ≡ Some (open_of st_now.document x)
  session_found p x f is =
      let P : List SessionState → Type 0 = λ l. find_id session_name name (opens s l) ≡ Some (open_of s (get_or xs p some_session)) in
      ap (session_of name) k.state ∙ subst P (around xs p some_session f.within)
      (ap (find_id session_name name) (opens-append s (take p xs) (get_or xs p some_session ∷ drop (suc p) xs))
      ∙ find_at session_name name (opens s (take p xs)) (opens s (drop (suc p) xs)) (open_of s (get_or xs p some_session)) (opens_below s name (take p xs) f.spot.below) (f.named some_session))
      ∙ ap (λ y. Some (open_of s y)) (at_index xs p some_session x f.within ∙ sym is) ∙ ap (λ d. Some (open_of d x)) (sym (ap (λ (t : State). t.document) k.state))

  pub session_missed : (p : ℕ) → Misses name xs p → session_of name st_now ≡ None
  session_missed p m =
      let P : List SessionState → Type 0 = λ l. find_id session_name name (opens s l) ≡ None in
      ap (session_of name) k.state ∙ subst P (take-append-drop p xs)
      (ap (find_id session_name name) (opens-append s (take p xs) (drop p xs))
      ∙ find_absent_at session_name name (opens s (take p xs)) (opens s (drop p xs)) (opens_below s name (take p xs) m.spot.below) (opens_above s name (drop p xs) m.spot.above))

  pub open_found : (p : ℕ) → Finds name xs p → is_some (session_of name st_now) ≡ true
  open_found p f = ap is_some (session_found p (get_or xs p some_session) f (at_index xs p some_session (get_or xs p some_session) f.within))

  pub open_missed : (p : ℕ) → Misses name xs p → is_some (session_of name st_now) ≡ false
  open_missed p m = ap is_some (session_missed p m)

  -- ---- the session goes away

  abbrev now : CoreState
  now = record { users = users; start = start; history = es }

  abbrev gone : ℕ → Entry
  gone size = entry_of name request.Gone size true

  abbrev pub later : ℕ → CoreState
  later size = record { users = users; start = start; history = es ++ gone size ∷ [] }

  -- where it is not open, nothing changes
  pub gone_missed : (p size : ℕ) → Misses name xs p → IsStep now now (gone size) []
  gone_missed p size m =
      let effect : has_no_effect now (gone size) ≡ true = ap not (open_missed p m) in
      record {
        has_room = refl;
        lines_given = lines_at users start s s tally xs xs es (gone size) [] bytes k (miss_gone users s xs p (gone size) m refl);
        added = sym (ap (λ b. if b then now else later size) effect);
      }

  module _ (p : ℕ) (f : Finds name xs p) (size : ℕ) where
    abbrev pub others : List SessionState
    others = take p xs ++ drop (suc p) xs

    parts : Answers users s s xs others (gone size) []
    parts =
        let x = get_or xs p some_session in
        find_gone users s xs p (gone size) f some_session (λ l. code_gone s l x.lagging x.holder true request.Gone refl)

    pub one_fewer : length others + 1 ≡ length xs
    one_fewer =
        let d = some_session in
        omega (arith, length-append (take p xs) (drop (suc p) xs), length-append (take p xs) (get_or xs p d ∷ drop (suc p) xs), ap length (around xs p d f.within))

    pub gone_found : IsStep now (later size) (gone size) []
    gone_found =
        let effect : has_no_effect now (gone size) ≡ false = ap not (open_found p f) in
        record {
          has_room = refl;
          lines_given = lines_at users start s s tally xs others es (gone size) [] bytes k parts;
          added = sym (ap (λ b. if b then now else later size) effect);
        }

    pub core_parted : (bytes' : Option ℕ) → bytes' ≡ bytes_left (sum_by size_of es + size) → IsCore users start (es ++ gone size ∷ []) s tally others bytes'
    core_parted bytes' left = core_gone users start s s tally xs others es (gone size) [] bytes k parts bytes' k.whole k.counts refl one_fewer left
