-- Watchers told one after the other, each by what was counted for it before.
use Rattle.std.proofs.Common.{◌≡◌, ℕ, suc, zero, ◌+◌, ◌<◌, ◌≤◌, List, [], ◌∷◌, ◌++◌, get_or, length, take, Option, None, Result, Ok, Err, IfOk, true, inl, refl, ap, sym, subst, ◌∙◌, arith}
use Rattle.std.proofs.lemmas.List.{length-append}
use Rattle.std.specs.declared.alloc.AllocError.{AllocError}
use Rattle.doc_model.specs.declared.entry.Entry.{Entry}
use Rattle.doc_model.specs.declared.request.Request.{Request}
use Rattle.bundle_core.specs.declared.history_core.Answer.{Answer}
use Rattle.bundle_core.specs.declared.history_core.Answer.TheVariants as answer
use Rattle.bundle_core.specs.Core.{CoreState, IsStep, entry_of, is_gone}
use Rattle.bundle_core.specs.KeptCore.{KeptCore, state_now}
use Rattle.bundle_core.specs.MadeLines.{lines_made, made_line}
use Rattle.bundle_core.specs.Steps.{IsAnswer}
use Rattle.bundle_core.proofs.GoneLaws.{gone_only}
use Rattle.bundle_core.proofs.MadeLaws.{made-gone}
use Rattle.watch_box.specs.Watching.{IsDropped, Stays, Tells, WatcherState}
use Rattle.watch_box.proofs.TellingLemmas.{ToldUpTo, told_all, told_drops, told_none_yet, told_stays}
use Rattle.watched_core.specs.Telling.{DropsAt, StaysAt, counts_of}
use Rattle.watched_core.specs.Watched.{IsTold}

-- ---- what was counted

pub count_at : (c : CoreState) (told back : List WatcherState) (w : WatcherState) (d : Option ℕ) → get_or (counts_of c (told ++ w ∷ back)) (length told) d ≡ lines_made c w.session
count_at c [] back w d = refl
count_at c (x ∷ told) back w d = count_at c told back w d

counted_more : (c : CoreState) (ws : List WatcherState) (place : ℕ) (n : Option ℕ) → place < length ws → ((front back : List WatcherState) (w : WatcherState) → ws ≡ front ++ w ∷ back → length front ≡ place → n ≡ lines_made c w.session)
    → counts_of c (take place ws) ++ n ∷ [] ≡ counts_of c (take (suc place) ws)
counted_more c [] place n lt h = absurd (omega (arith, lt))
counted_more c (w ∷ ws) zero n lt h = ap (λ m. m ∷ []) (h [] ws w refl refl)
counted_more c (w ∷ ws) (suc place) n lt h =
    ap (λ ns. lines_made c w.session ∷ ns) (counted_more c ws place n (omega (arith, lt)) (λ front back v e l. h (w ∷ front) back v (ap (λ z. w ∷ z) e) (ap suc l)))

pub counted_next : (c : CoreState) (ws : List WatcherState) (place : ℕ) (n : Option ℕ) → place < length ws → ((front back : List WatcherState) (w : WatcherState) → ws ≡ front ++ w ∷ back → length front ≡ place → n ≡ lines_made c w.session)
    → counts_of c (take place ws) ++ n ∷ [] ≡ counts_of c (take (place + 1) ws)
counted_next c ws place n lt h =
    let next : suc place ≡ place + 1 = omega arith in
    counted_more c ws place n lt h ∙ ap (λ m. counts_of c (take m ws)) next

-- ---- what was told

-- so many watchers have been told the line that the last entry made for them, by what was counted
-- before it; as many as are left stand behind the place
pub record ToldSoFar (c : CoreState) (lines : List (List ℕ)) (counts : List (Option ℕ)) (all current : List WatcherState) (index place : ℕ) : Type 0 where
  pub told : (old : CoreState) (e : Entry) → IsStep old c e lines → counts ≡ counts_of old all → ToldUpTo (made_line old.users (state_now old) e) all current place
  pub left : length all + place ≡ index + length current
  pub few : place ≤ index

module _ (c : CoreState) (lines : List (List ℕ)) (counts : List (Option ℕ)) (all current new : List WatcherState) (index place : ℕ) (t : ToldSoFar c lines counts all current index place) (inside : index < length all) where
  within : place < length current
  within = let left = t.left in omega (arith, left, inside)

  -- how many were told before it
  told_length : (told front back : List WatcherState) (w : WatcherState) → all ≡ told ++ w ∷ back → current ≡ front ++ w ∷ back → length front ≡ place → length told ≡ index
  told_length told front back w a b l =
      let left = t.left in
      let la : length all ≡ length told + length (w ∷ back) = ap length a ∙ length-append told (w ∷ back) in
      let lb : length current ≡ length front + length (w ∷ back) = ap length b ∙ length-append front (w ∷ back) in
      omega (arith, left, la, lb, l)

  before_it : (old : CoreState) → counts ≡ counts_of old all → (n : Option ℕ) → n ≡ get_or counts index n → (told front back : List WatcherState) (w : WatcherState) → all ≡ told ++ w ∷ back → current ≡ front ++ w ∷ back → length front ≡ place → n ≡ lines_made old w.session
  before_it old is n at told front back w a b l =
      at ∙ ap (λ ns. get_or ns index n) (is ∙ ap (counts_of old) a)
      ∙ ap (λ i. get_or (counts_of old (told ++ w ∷ back)) i n) (sym (told_length told front back w a b l)) ∙ count_at old told back w n

  module _ (n : Option ℕ) (at : n ≡ get_or counts index n) where
    pub so_far_stays : length current ≡ length new + 0 → StaysAt c lines n place current new → ToldSoFar c lines counts all new (index + 1) (place + 1)
    so_far_stays same stays = record {
      told = λ old e s is. told_stays (made_line old.users (state_now old) e) all current new place (t.told old e s is) within (λ told front back w a b l.
          let r = stays front back w b l in
          (r.1, subst (λ line. Stays line w r.1) (r.2 old e s (before_it old is n at told front back w a b l)) r.3, r.4));
      left = let left = t.left in omega (arith, left, same);
      few = let few = t.few in omega (arith, few);
    }

    pub so_far_drops : length current ≡ length new + 1 → DropsAt c lines n place current new → ToldSoFar c lines counts all new (index + 1) place
    so_far_drops fewer drops = record {
      told = λ old e s is. told_drops (made_line old.users (state_now old) e) all current new place (t.told old e s is) within (λ told front back w a b l.
          let r = drops front back w b l in
          (subst (λ line. IsDropped line w) (r.1 old e s (before_it old is n at told front back w a b l)) r.2, r.3));
      left = let left = t.left in omega (arith, left, fewer);
      few = let few = t.few in omega (arith, few);
    }

pub so_far_none : (c : CoreState) (lines : List (List ℕ)) (counts : List (Option ℕ)) (all : List WatcherState) → ToldSoFar c lines counts all all 0 0
so_far_none c lines counts all = record {
  told = λ old e s is. told_none_yet (made_line old.users (state_now old) e) all;
  left = omega arith;
  few = omega arith;
}

pub so_far_all : (c : CoreState) (lines : List (List ℕ)) (counts : List (Option ℕ)) (all current : List WatcherState) (index place : ℕ) → ToldSoFar c lines counts all current index place → length all ≡ index
    → (old : CoreState) (e : Entry) → IsStep old c e lines → counts ≡ counts_of old all → Tells (made_line old.users (state_now old) e) all current
so_far_all c lines counts all current index place t all_told old e s is =
    let left = t.left in
    told_all (made_line old.users (state_now old) e) all current current place (t.told old e s is) (λ lt. omega (arith, left, all_told, lt))

-- ---- nothing was told

pub tells_none : (line_of : List ℕ → Option (List ℕ)) → ((name : List ℕ) → line_of name ≡ None) → (ws : List WatcherState) → Tells line_of ws ws
tells_none line_of none [] = refl
tells_none line_of none (w ∷ ws) =
    inl (w, ws, refl, subst (λ line. Stays line w w) (sym (none w.session)) refl, tells_none line_of none ws)

-- the end of a connection tells nobody
pub gone_told : (old new : KeptCore) (session : List ℕ) (r : Request) (size : ℕ) (ws : List WatcherState) → is_gone r ≡ true → (result : Result Answer AllocError)
    → IfOk result (λ a. IsAnswer old new session r size a) → IfOk result (λ a. IsTold old new session r size ws ws a)
gone_told old new session r size ws gone (Err fault) h = tt
gone_told old new session r size ws gone (Ok answer.Full) h = refl
gone_told old new session r size ws gone (Ok (answer.Lines lines)) h =
    let e : Entry = entry_of session r size h.kept in
    record {
      kept = h.kept;
      added = h.taken.added;
      told = tells_none (made_line old.state.users (state_now old.state) e) (λ name. made-gone old.state.users (state_now old.state) e name (gone_only r gone)) ws;
    }
