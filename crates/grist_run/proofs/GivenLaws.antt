-- The last line that is given at an entry tells a denial exactly where that is what the entry comes to.
use Rattle.std.proofs.Common.{◌≡◌, ℕ, Bool, true, false, cond, List, [], ◌∷◌, ◌++◌, length, Option, Some, None, refl, sym, ap, ◌∙◌, arith}
use Rattle.std.specs.Prelude.{nat_le, slice_get}
use Rattle.std.proofs.lemmas.Bool.{false≢true}
use Rattle.std.proofs.lemmas.List.{length-append}
use Rattle.doc_model.specs.Document.{Document}
use Rattle.doc_model.specs.declared.entry.Entry.{Entry}
use Rattle.doc_model.specs.declared.request.Request.{Request}
use Rattle.doc_model.specs.declared.request.Request.TheVariants as request
use Rattle.doc_model.specs.declared.user.User.{User}
use Rattle.doc_model.specs.declared.verdict.Verdict.TheVariants.{Changes}
use Rattle.doc_model.specs.declared.view.ViewTable.{ViewTable}
use Rattle.bundle_judge.specs.BareVerdicts.{verdict_of}
use Rattle.bundle_judge.specs.Judgement.{Judgement, accepted, refused}
use Rattle.bundle_judge.specs.declared.bare_verdict.BareVerdict.{BareVerdict}
use Rattle.bundle_judge.specs.declared.bare_verdict.BareVerdict.TheVariants as verdict
use Rattle.bundle_core.specs.Core.{is_gone}
use Rattle.bundle_core.specs.Mailbox.{Mailbox, Outcome, due, emptied, own, quiet, replies, says, shown_part, shows_view}
use Rattle.bundle_core.specs.MadeLines.{last_line}
use Rattle.bundle_core.specs.Replies.{reply_of}
use Rattle.bundle_core.specs.State.{Holder, State, Verdicts, bundle_of, from_closed, from_lagging, from_open, given, mailbox_of, opened, session_bound, session_of, shown_if_any, user_of, verdicts}
use Rattle.grist_run.specs.Denials.{any_tells, ends_in_denial, tells_denial}
use Rattle.grist_run.specs.Generated.{is_denial}
use Rattle.grist_run.proofs.DenialLemmas.{denial_told}

-- ---- the last line

slice_get-seam : (xs : List (List ℕ)) (y : List ℕ) → slice_get (xs ++ y ∷ []) (length xs) ≡ Some y
slice_get-seam [] y = refl
slice_get-seam (x ∷ xs) y = slice_get-seam xs y

last-append : (ls : List (List ℕ)) (line : List ℕ) → last_line (ls ++ line ∷ []) ≡ Some line
last-append ls line =
    ap (λ n. slice_get (ls ++ line ∷ []) n) (let n = length-append ls (line ∷ []) in omega arith) ∙ slice_get-seam ls line

ends-append : (ls : List (List ℕ)) (line : List ℕ) → ends_in_denial (ls ++ line ∷ []) ≡ tells_denial line
ends-append ls line = ap any_tells (last-append ls line)

-- ---- the reply

abbrev is_quiet : Outcome → Bool
is_quiet quiet = true
is_quiet shows_view = false
is_quiet (says v) = false

said : (v : BareVerdict) → tells_denial (reply_of v) ≡ is_denial (says v)
said verdict.Done = denial_told (verdict_of verdict.Done)
said (verdict.Bundle number values) = denial_told (verdict_of (verdict.Bundle number values))
said (verdict.Undone number) = denial_told (verdict_of (verdict.Undone number))
said (verdict.Refused why action) = denial_told (verdict_of (verdict.Refused why action))
said (verdict.Unresolved count) = denial_told (verdict_of (verdict.Unresolved count))
said (verdict.Limited what bound action) = denial_told (verdict_of (verdict.Limited what bound action))
said (verdict.Denied action rule) = denial_told (verdict_of (verdict.Denied action rule))

-- behind whatever was given before it
replied : (ls : List (List ℕ)) (r : Request) (o : Outcome) (v : List ViewTable) → is_quiet o ≡ false → ends_in_denial (ls ++ replies r o v) ≡ is_denial o
replied ls r quiet v loud = absurd (false≢true (sym loud))
replied ls r shows_view v loud = ends-append ls _ ∙ denial_told (Changes (shown_part r v))
replied ls r (says d) v loud = ends-append ls (reply_of d) ∙ said d

own_replied : (m : Option Mailbox) (r : Request) (o : Outcome) (v : Option (List ViewTable)) → is_quiet o ≡ false → ends_in_denial (own m r o v).lines ≡ is_denial o
own_replied None r o None loud = replied [] r o [] loud
own_replied None r o (Some v) loud = replied [] r o v loud
own_replied (Some m) r quiet None loud = absurd (false≢true (sym loud))
own_replied (Some m) r shows_view None loud = replied m.waiting r shows_view [] loud
own_replied (Some m) r (says d) None loud = replied m.waiting r (says d) [] loud
own_replied (Some m) r o (Some v) loud = replied (m.waiting ++ (due v (emptied m)).waiting) r o v loud

-- ---- each request but the end of a connection is answered

refused_loud : (h : Holder) (target : Option ℕ) (s : Document) (kept : Bool) (j : Judgement) → is_quiet (bundle_of h target s kept j).outcome ≡ false
refused_loud h target s kept (refused v) = refl
refused_loud h target s false (accepted after steps ms) = refl
refused_loud h target s true (accepted after steps ms) = refl

shown_loud : (ts : List ViewTable) → is_quiet (shown_if_any ts) ≡ false
shown_loud [] = refl
shown_loud (t ∷ ts) = refl

either_loud : {A : Type 0} (o : Option A) (none : Verdicts) (some : A → Verdicts) → is_quiet none.outcome ≡ false → ((x : A) → is_quiet (some x).outcome ≡ false) → is_quiet (elim o as (λ _. Verdicts) [ None ↦ none | Some x ↦ some x ]).outcome ≡ false
either_loud None none some a b = a
either_loud (Some x) none some a b = b x

cond_loud : (b : Bool) (x y : Verdicts) → is_quiet x.outcome ≡ false → is_quiet y.outcome ≡ false → is_quiet (cond b x y).outcome ≡ false
cond_loud true x y a b = a
cond_loud false x y a b = b

opened_loud : (us : List User) (st : State) (token : List ℕ) → is_quiet (opened us st token).outcome ≡ false
opened_loud us st token = either_loud (user_of us token) _ _ refl (λ user. cond_loud (nat_le session_bound (length st.open_sessions)) _ _ refl refl)

closed_loud : (us : List User) (st : State) (r : Request) → is_gone r ≡ false → is_quiet (from_closed us st r).outcome ≡ false
closed_loud us st request.Bad stays = refl
closed_loud us st request.TooLong stays = refl
closed_loud us st (request.Open token) stays = opened_loud us st token
closed_loud us st request.Gone stays = absurd (false≢true (sym stays))
closed_loud us st (request.Apply actions) stays = refl
closed_loud us st request.Sync stays = refl
closed_loud us st (request.Undo bundle) stays = refl
closed_loud us st (request.Rename table column new) stays = refl
closed_loud us st (request.Fetch table) stays = refl
closed_loud us st request.Close stays = refl

lagging_loud : (st : State) (r : Request) → is_gone r ≡ false → is_quiet (from_lagging st r).outcome ≡ false
lagging_loud st request.Bad stays = refl
lagging_loud st request.TooLong stays = refl
lagging_loud st (request.Open token) stays = refl
lagging_loud st request.Gone stays = absurd (false≢true (sym stays))
lagging_loud st (request.Apply actions) stays = refl
lagging_loud st request.Sync stays = refl
lagging_loud st (request.Undo bundle) stays = refl
lagging_loud st (request.Rename table column new) stays = refl
lagging_loud st (request.Fetch table) stays = refl
lagging_loud st request.Close stays = refl

open_loud : (st : State) (h : Holder) (kept : Bool) (r : Request) → is_gone r ≡ false → is_quiet (from_open st h kept r).outcome ≡ false
open_loud st h kept request.Bad stays = refl
open_loud st h kept request.TooLong stays = refl
open_loud st h kept (request.Open token) stays = refl
open_loud st h kept request.Gone stays = absurd (false≢true (sym stays))
open_loud st h kept (request.Apply actions) stays = refused_loud h None st.document kept _
open_loud st h kept request.Sync stays = refl
open_loud st h kept (request.Undo bundle) stays = refused_loud h (Some bundle) st.document kept _
open_loud st h kept (request.Rename table column new) stays = refused_loud h None st.document kept _
open_loud st h kept (request.Fetch table) stays = shown_loud _
open_loud st h kept request.Close stays = refl

loud : (us : List User) (st : State) (e : Entry) → is_gone e.request ≡ false → is_quiet (verdicts us st e).outcome ≡ false
loud us st e stays =
    either_loud (session_of e.session st) _ _ (closed_loud us st e.request stays)
    (λ o. cond_loud o.mailbox.lagging _ _ (lagging_loud st e.request stays) (open_loud st o.holder e.kept e.request stays))

-- the lines that are given at an entry end in a denial exactly where it is denied
pub given_denied : (us : List User) (st : State) (e : Entry) → is_gone e.request ≡ false → ends_in_denial (given us st e) ≡ is_denial (verdicts us st e).outcome
given_denied us st e stays =
    let v = verdicts us st e in
    own_replied (mailbox_of e.session st) e.request v.outcome _ (loud us st e stays)
