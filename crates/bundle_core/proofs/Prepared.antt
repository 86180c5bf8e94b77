-- Sessions whose lines are made ready one after another, and are then posted.
use Rattle.std.proofs.Common.{◌≡◌, ℕ, suc, zero, ◌+◌, ◌<◌, ◌^◌, List, [], ◌∷◌, ◌++◌, map, take, drop, length, get_or, set, option_to_list, Some, None, if◌then◌else◌, Result, Ok, Err, OnErr, refl, sym, ap, subst, ◌∙◌, arith, add-one}
use Rattle.std.specs.List.{AllByRecursion, insert}
use Rattle.doc_model.specs.declared.user.User.{User}
use Rattle.doc_model.specs.declared.view.ViewAction.{ViewAction}
use Rattle.doc_model.specs.Document.{Document}
use Rattle.bundle_core.specs.declared.session.BundleNote.{BundleNote}
use Rattle.bundle_core.specs.Dispatch.{AreSame, Posts, Stays}
use Rattle.bundle_core.specs.Noting.{log_after}
use Rattle.bundle_core.specs.SessionState.{SessionState, line_for, open_of, posted_state, IsPrepared, IsReady, IsEmptied}
use Rattle.bundle_core.specs.State.{Holder}
use Rattle.grist_json.specs.Lines.{stream_text}
use Rattle.bundle_core.proofs.Answering.{open_of-fields}

-- the first ones are ready
pub record Preparing (told : User → List ViewAction) (index : ℕ) (old now : List SessionState) : Type 0 where
  pub same : AreSame old now
  pub few : AllByRecursion (λ x. x.made < 2 ^ 63) now
  pub ready : AllByRecursion (IsReady told) (take index now)

pub on_err_always : {T E P : Type 0} (r : Result T E) → P → OnErr r P
on_err_always (Ok x) p = tt
on_err_always (Err e) p = p

open_of-prepared : (s : Document) (x y : SessionState) → IsPrepared x y → open_of s y ≡ open_of s x
open_of-prepared s x y h = open_of-fields s y x.session x.holder x.made x.waiting x.lagging h.session h.holder h.made h.waiting h.lagging

-- one session made ready
pub same_set : (xs : List SessionState) (i : ℕ) (x y : SessionState) → i < length xs → x ≡ get_or xs i x → IsPrepared x y → AreSame xs (set xs i y)
same_set [] i x y lt is h s = absurd (omega (arith, lt))
same_set (z ∷ xs) zero x y lt is h s = ap (λ o. o ∷ map (open_of s) xs) (open_of-prepared s x y h ∙ ap (open_of s) is)
same_set (z ∷ xs) (suc i) x y lt is h s = ap (λ os. open_of s z ∷ os) (same_set xs i x y (omega (arith, lt)) is h s)

pub set-split : {X : Type 0} (xs : List X) (i : ℕ) (y : X) → i < length xs → set xs i y ≡ take i xs ++ y ∷ drop (suc i) xs
set-split [] i y lt = absurd (omega (arith, lt))
set-split (x ∷ xs) zero y lt = refl
set-split (x ∷ xs) (suc i) y lt = ap (λ r. x ∷ r) (set-split xs i y (omega (arith, lt)))

-- what stands at an index, whatever the default
pub at_any : {X : Type 0} (xs : List X) (i : ℕ) (x d : X) → i < length xs → x ≡ get_or xs i x → get_or xs i d ≡ x
at_any [] i x d lt is = absurd (omega (arith, lt))
at_any (z ∷ xs) zero x d lt is = sym is
at_any (z ∷ xs) (suc i) x d lt is = at_any xs i x d (omega (arith, lt)) is

few_set : (xs : List SessionState) (i : ℕ) (y : SessionState) → y.made < 2 ^ 63 → AllByRecursion (λ x. x.made < 2 ^ 63) xs → AllByRecursion (λ x. x.made < 2 ^ 63) (set xs i y)
few_set [] i y h k = tt
few_set (x ∷ xs) zero y h k = (h, k.1)
few_set (x ∷ xs) (suc i) y h k = (k.0, few_set xs i y h k.1)

pub ready_at : (told : User → List ViewAction) (xs : List SessionState) (i : ℕ) (d : SessionState) → i < length xs → AllByRecursion (IsReady told) xs → IsReady told (get_or xs i d)
ready_at told [] i d lt h = absurd (omega (arith, lt))
ready_at told (x ∷ xs) zero d lt h = h.0
ready_at told (x ∷ xs) (suc i) d lt h = ready_at told xs i d (omega (arith, lt)) h.1

few_at : (xs : List SessionState) (i : ℕ) (x : SessionState) → i < length xs → x ≡ get_or xs i x → AllByRecursion (λ x. x.made < 2 ^ 63) xs → x.made < 2 ^ 63
few_at [] i x lt is k = absurd (omega (arith, lt))
few_at (z ∷ xs) zero x lt is k = let P : SessionState → Type 0 = λ y. y.made < 2 ^ 63 in subst P (sym is) k.0
few_at (z ∷ xs) (suc i) x lt is k = few_at xs i x (omega (arith, lt)) is k.1

ready_set : (told : User → List ViewAction) (xs : List SessionState) (i : ℕ) (y : SessionState) → i < length xs → IsReady told y → AllByRecursion (IsReady told) (take i xs) → AllByRecursion (IsReady told) (take (suc i) (set xs i y))
ready_set told [] i y lt h k = absurd (omega (arith, lt))
ready_set told (x ∷ xs) zero y lt h k = (h, tt)
ready_set told (x ∷ xs) (suc i) y lt h k = (k.0, ready_set told xs i y (omega (arith, lt)) h k.1)

same_after : (xs ys zs : List SessionState) → AreSame xs ys → AreSame ys zs → AreSame xs zs
same_after xs ys zs h k s = k s ∙ h s

pub may_prepare : (told : User → List ViewAction) (i : ℕ) (old now : List SessionState) (x : SessionState) → Preparing told i old now → i < length now → x ≡ get_or now i x → x.made < 2 ^ 63
may_prepare told i old now x h lt is = few_at now i x lt is h.few

pub prepared_one : (told : User → List ViewAction) (i : ℕ) (old now : List SessionState) (x y : SessionState) → Preparing told i old now → i < length now → x ≡ get_or now i x → IsPrepared x y → AreSame old (set now i y)
prepared_one told i old now x y h lt is p = same_after old now (set now i y) h.same (same_set now i x y lt is p)

pub prepares_one : (told : User → List ViewAction) (i : ℕ) (old now : List SessionState) (x y : SessionState) → Preparing told i old now → i < length now → x ≡ get_or now i x → IsPrepared x y → IsReady told y → Preparing told (i + 1) old (set now i y)
prepares_one told i old now x y h lt is p r = record {
  same = prepared_one told i old now x y h lt is p;
  few = few_set now i y (let P : ℕ → Type 0 = λ n. n < 2 ^ 63 in subst P (sym p.made) (few_at now i x lt is h.few)) h.few;
  ready = rw (add-one i) (ready_set told now i y lt r h.ready);
}

each_set : {X : Type 0} (P : X → Type 0) (xs : List X) (i : ℕ) (y : X) → P y → AllByRecursion P xs → AllByRecursion P (set xs i y)
each_set P [] i y h k = tt
each_set P (x ∷ xs) zero y h k = (h, k.1)
each_set P (x ∷ xs) (suc i) y h k = (k.0, each_set P xs i y h k.1)

same_line : (as' : List ViewAction) (x y : SessionState) → x.made ≡ y.made → x.lagging ≡ y.lagging → line_for as' x ≡ line_for as' y
same_line [] x y made lagging = refl
same_line (a ∷ as') x y made lagging =
    ap (λ l. if l then None else Some (stream_text (x.made + 1) (a ∷ as'))) lagging
    ∙ ap (λ n. if y.lagging then None else Some (stream_text (n + 1) (a ∷ as'))) made

-- more room was made in one session
pub ready_more : (told : User → List ViewAction) (xs : List SessionState) (i : ℕ) (x y : SessionState) → i < length xs → x ≡ get_or xs i x → IsPrepared x y → y.ready ≡ x.ready → 0 < y.room
    → AllByRecursion (IsReady told) xs → AllByRecursion (IsReady told) (set xs i y)
ready_more told xs i x y lt is p same room all =
    let r : IsReady told x = let P : SessionState → Type 0 = λ z. IsReady told z in subst P (sym is) (ready_at told xs i x lt all) in
    each_set (IsReady told) xs i y (record {
      line = same ∙ r.line ∙ same_line (told x.holder.user) x y (sym p.made) (sym p.lagging) ∙ ap (λ (h : Holder). line_for (told h.user) y) (sym p.holder);
      room = room;
    }) all

-- one session posted its line
posts : {X : Type 0} (f : X → X) (xs : List X) (i : ℕ) (x : X) → i < length xs → x ≡ get_or (map f (take i xs) ++ drop i xs) i x → set (map f (take i xs) ++ drop i xs) i (f x) ≡ map f (take (suc i) xs) ++ drop (suc i) xs
posts f [] i x lt is = absurd (omega (arith, lt))
posts f (z ∷ xs) zero x lt is = ap (λ w. f w ∷ xs) is
posts f (z ∷ xs) (suc i) x lt is = ap (λ r. f z ∷ r) (posts f xs i x (omega (arith, lt)) is)

pub posts_one : {X : Type 0} (f : X → X) (xs now : List X) (i : ℕ) (x y : X) → i < length xs → now ≡ map f (take i xs) ++ drop i xs → x ≡ get_or now i x → y ≡ f x → set now i y ≡ map f (take (i + 1) xs) ++ drop (i + 1) xs
posts_one f xs now i x y lt e is is_y =
    let here : x ≡ get_or (map f (take i xs) ++ drop i xs) i x = is ∙ ap (λ l. get_or l i x) e in
    rw (add-one i) (ap (λ w. set now i w) is_y ∙ ap (λ l. set l i (f x)) e ∙ posts f xs i x lt here)

-- what stands at an index of those that were posted and those that are not yet
pub unposted : {X : Type 0} (P : X → Type 0) (f : X → X) (xs : List X) (i : ℕ) (x : X) → AllByRecursion P xs → i < length xs → x ≡ get_or (map f (take i xs) ++ drop i xs) i x → P x
unposted P f [] i x h lt is = absurd (omega (arith, lt))
unposted P f (z ∷ xs) zero x h lt is = subst P (sym is) h.0
unposted P f (z ∷ xs) (suc i) x h lt is = unposted P f xs i x h.1 (omega (arith, lt)) is

-- the session stays, its lines given
pub stays_after : (old : List SessionState) (index : ℕ) (x p y : SessionState) (reply : List ℕ) (lines : List (List ℕ)) → index < length old → x ≡ get_or old index x
    → IsPrepared x p → IsEmptied p y → y.made ≡ p.made → y.holder.log ≡ p.holder.log → lines ≡ p.waiting ++ reply ∷ [] → Stays old (set old index y) index reply lines
stays_after old index x p y reply lines lt is h k made log given =
    let at : (d : SessionState) → get_or old index d ≡ x = λ d. at_any old index x d lt is in
    record {
      after = y;
      stands = set-split old index y lt;
      emptied_box = λ d. let P : SessionState → Type 0 = λ z. IsEmptied z y in subst P (sym (at d)) (record {
        session = k.session ∙ h.session;
        user = k.user ∙ ap (λ o. o.user) h.holder;
        waiting = k.waiting;
        lagging = k.lagging ∙ h.lagging;
      });
      made = λ d. made ∙ h.made ∙ ap (λ (z : SessionState). z.made) (sym (at d));
      log = λ d. log ∙ ap (λ o. o.log) h.holder ∙ ap (λ (z : SessionState). z.holder.log) (sym (at d));
      given_lines = λ d. given ∙ ap (λ w. w ++ reply ∷ []) (h.waiting ∙ ap (λ (z : SessionState). z.waiting) (sym (at d)));
    }

posts_stand : {X : Type 0} (f : X → X) (xs : List X) (i : ℕ) (y : X) → i < length xs → insert (map f (take i xs ++ drop (suc i) xs)) i y ≡ map f (take i xs) ++ y ∷ map f (drop (suc i) xs)
posts_stand f [] i y lt = absurd (omega (arith, lt))
posts_stand f (x ∷ xs) zero y lt = refl
posts_stand f (x ∷ xs) (suc i) y lt = ap (λ r. f x ∷ r) (posts_stand f xs i y (omega (arith, lt)))

-- the session of a bundle was given its lines, and the others were posted theirs
pub posts_after : (old new : List SessionState) (index : ℕ) (x y : SessionState) (note : BundleNote) (reply : List ℕ) (lines : List (List ℕ)) → index < length old → x ≡ get_or old index x
    → new ≡ insert (map posted_state (take index old ++ drop (suc index) old)) index y
    → IsEmptied x y → y.made ≡ x.made + length (option_to_list x.ready) → y.holder.log ≡ log_after note x.holder.log → lines ≡ x.waiting ++ option_to_list x.ready ++ reply ∷ []
    → Posts old new index note reply lines
posts_after old new index x y note reply lines lt is stands emptied made log given =
    let at : (d : SessionState) → x ≡ get_or old index d = λ d. sym (at_any old index x d lt is) in
    record {
      after = y;
      stands = stands ∙ posts_stand posted_state old index y lt;
      emptied_box = λ d. let P : SessionState → Type 0 = λ z. IsEmptied z y in subst P (at d) emptied;
      made = λ d. made ∙ ap (λ (z : SessionState). z.made + length (option_to_list z.ready)) (at d);
      log = λ d. log ∙ ap (λ (z : SessionState). log_after note z.holder.log) (at d);
      given_lines = λ d. given ∙ ap (λ (z : SessionState). z.waiting ++ option_to_list z.ready ++ reply ∷ []) (at d);
    }
