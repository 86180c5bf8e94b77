-- How entries of open sessions are answered.
use Rattle.std.proofs.Common.{◌≡◌, ℕ, suc, zero, ◌+◌, ◌<◌, Bool, true, false, List, [], ◌∷◌, ◌++◌, map, take, drop, length, get_or, option_to_list, Option, Some, None, refl, sym, ap, subst, ◌∙◌, arith, pos, drop-cons, Result, Ok, Err, IfOk, if◌then◌else◌}
use Rattle.std.proofs.lemmas.List.{take-append-drop}
use Rattle.std.specs.List.{AllByRecursion}
use Rattle.doc_model.specs.declared.action.Step.{Step}
use Rattle.doc_model.specs.declared.entry.Entry.{Entry}
use Rattle.doc_model.specs.declared.refusal.Refusal.{Refusal}
use Rattle.doc_model.specs.declared.refusal.Refusal.TheVariants.{BadLine, LineTooLong, AlreadyOpen, Lagged, StoreFault}
use Rattle.doc_model.specs.declared.request.Request.{Request}
use Rattle.doc_model.specs.declared.request.Request.TheVariants as request
use Rattle.doc_model.specs.declared.user.User.{User}
use Rattle.doc_model.specs.declared.user_action.UserAction.{UserAction}
use Rattle.doc_model.specs.declared.verdict.RetValue.{RetValue}
use Rattle.doc_model.specs.declared.view.ViewAction.{ViewAction}
use Rattle.doc_model.specs.ByIds.{precedes}
use Rattle.doc_model.specs.Changes.{changes}
use Rattle.doc_model.specs.Document.{Document}
use Rattle.doc_model.specs.DocumentLaws.{IsWhole}
use Rattle.doc_model.specs.NewDocument.{new_document}
use Rattle.doc_model.proofs.Choices.{length_map}
use Rattle.bundle_core.specs.Replies.{reply_of}
use Rattle.bundle_judge.specs.declared.bare_verdict.BareVerdict.TheVariants as verdict
use Rattle.bundle_judge.specs.declared.bare_verdict.BareVerdict.{BareVerdict}
use Rattle.bundle_judge.specs.declared.created.Created.{Created}
use Rattle.bundle_core.specs.Core.{is_gone}
use Rattle.bundle_core.specs.Dispatch.{AreSame, state_of, IsSpot, Finds, Answers, Leaves, Stays, Bundles, bundle_number, bundle_reply, user_at, values_told}
use Rattle.undo_bundles.specs.BundleLog.{Log, count, empty_log, noted}
use Rattle.undo_bundles.specs.InverseSteps.{inverse_steps}
use Rattle.bundle_core.specs.Judged.{AsksFor}
use Rattle.bundle_judge.specs.Judgement.{Judgement, accepted, refused}
use Rattle.bundle_judge.specs.Created.{told_of}
use Rattle.bundle_core.specs.Mailbox.{Outcome, quiet, replies, says}
use Rattle.bundle_core.specs.Requests.{refusal_open}
use Rattle.bundle_core.specs.SessionState.{SessionState, open_of, IsReady, posted_state}
use Rattle.bundle_core.specs.State.{State, Open, Holder, Verdicts, answered, refusal, from_open, from_lagging, accepted_as, bundle_of, step, given, with_undone}
use Rattle.bundle_core.specs.Turns.{Refuses}
use Rattle.rule_contexts.specs.Context.{view}
use Rattle.bundle_core.proofs.Answering.{staying, with_opens, answers_leaving, answers_parting, answers_staying, open_of-fields, holder_of-fields}
use Rattle.bundle_core.proofs.Bundling.{answers_bundle}
use Rattle.bundle_core.proofs.ClosedLemmas.{answers_by}
use Rattle.bundle_core.proofs.Readied.{each_same, same_at, bundle_number-is, user_at-is}
use Rattle.bundle_core.proofs.Prepared.{ready_at}

same_refusal : (m n : Refusal) (st : State) (h : Holder) → ◌≡◌ {A = Option Refusal} (Some m) (Some n) → answered st.document (Some h) (refusal m) ≡ answered st.document (Some h) (refusal n)
same_refusal m n st h e = let same : m ≡ n = cc in ap (λ k. answered st.document (Some h) (refusal k)) same

pub code_open : (st : State) (h : Holder) (kept : Bool) (r : Request) (n : Refusal) → refusal_open r ≡ Some n → from_open st h kept r ≡ answered st.document (Some h) (refusal n)
code_open st h kept request.Bad n e = same_refusal BadLine n st h e
code_open st h kept request.TooLong n e = same_refusal LineTooLong n st h e
code_open st h kept (request.Open token) n e = same_refusal AlreadyOpen n st h e
code_open st h kept (request.Apply actions) n e = absurd (cc)
code_open st h kept (request.Undo bundle) n e = absurd (cc)
code_open st h kept request.Sync n e = absurd (cc)
code_open st h kept (request.Rename table column new) n e = absurd (cc)
code_open st h kept (request.Fetch table) n e = absurd (cc)
code_open st h kept request.Close n e = absurd (cc)
code_open st h kept request.Gone n e = absurd (cc)

pub code_lagging : (st : State) (r : Request) → is_gone r ≡ false → from_lagging st r ≡ answered st.document None (refusal Lagged)
code_lagging st request.Gone other = absurd (cc)
code_lagging st request.Bad other = refl
code_lagging st request.TooLong other = refl
code_lagging st (request.Open token) other = refl
code_lagging st (request.Apply actions) other = refl
code_lagging st (request.Undo bundle) other = refl
code_lagging st request.Sync other = refl
code_lagging st (request.Rename table column new) other = refl
code_lagging st (request.Fetch table) other = refl
code_lagging st request.Close other = refl

pub code_sync : (st : State) (h : Holder) (kept : Bool) (r : Request) → refusal_open r ≡ None → is_gone r ≡ false → ((actions : List UserAction) → r ≡ request.Apply actions → ⊥) → ((number : ℕ) → r ≡ request.Undo number → ⊥) → ((table : List ℕ) → r ≡ request.Fetch table → ⊥) → ((table column new : List ℕ) → r ≡ request.Rename table column new → ⊥) → (r ≡ request.Close → ⊥)
    → from_open st h kept r ≡ answered st.document (Some h) verdict.Done
code_sync st h kept request.Sync e g a u t m k = refl
code_sync st h kept request.Bad e g a u t m k = absurd (cc)
code_sync st h kept request.TooLong e g a u t m k = absurd (cc)
code_sync st h kept (request.Open token) e g a u t m k = absurd (cc)
code_sync st h kept (request.Apply actions) e g a u t m k = absurd (a actions refl)
code_sync st h kept (request.Undo number) e g a u t m k = absurd (u number refl)
code_sync st h kept (request.Fetch table) e g a u t m k = absurd (t table refl)
code_sync st h kept (request.Rename table column new) e g a u t m k = absurd (m table column new refl)
code_sync st h kept request.Close e g a u t m k = absurd (k refl)
code_sync st h kept request.Gone e g a u t m k = absurd (cc)

abbrev pub parted : Document → Verdicts
parted s = record { outcome = quiet; document = s; is_bundle = false; holder = None }

pub code_gone : (s : Document) (l : List SessionState) (lagging : Bool) (h : Holder) (kept : Bool) (r : Request) → r ≡ request.Gone
    → (if lagging then from_lagging (state_of s l) r else from_open (state_of s l) h kept r) ≡ parted s
code_gone s l true h kept r is = ap (from_lagging (state_of s l)) is
code_gone s l false h kept r is = ap (from_open (state_of s l) h kept) is

-- the sessions around an index
pub around : (xs : List SessionState) (p : ℕ) (d : SessionState) → p < length xs → take p xs ++ get_or xs p d ∷ drop (suc p) xs ≡ xs
around xs p d lt = ap (λ r. take p xs ++ r) (sym (drop-cons xs p d lt)) ∙ take-append-drop p xs

module _ (users : List User) (s : Document) (xs : List SessionState) (p : ℕ) (e : Entry) (f : Finds e.session xs p) (d : SessionState) where
  abbrev x : SessionState
  x = get_or xs p d

  abbrev comes_to : Verdicts → Type 0
  comes_to w = (l : List SessionState) → (if x.lagging then from_lagging (state_of s l) e.request else from_open (state_of s l) x.holder e.kept e.request) ≡ w

  -- what the entry of a session that lags comes to
  pub comes_lagging : (w : Verdicts) → x.lagging ≡ true → ((l : List SessionState) → from_lagging (state_of s l) e.request ≡ w) → comes_to w
  comes_lagging w lag h = λ l. ap (λ b. if b then from_lagging (state_of s l) e.request else from_open (state_of s l) x.holder e.kept e.request) lag ∙ h l

  -- what the entry of one that does not comes to
  pub comes_open : (w : Verdicts) → x.lagging ≡ false → ((l : List SessionState) → from_open (state_of s l) x.holder e.kept e.request ≡ w) → comes_to w
  comes_open w quick h = λ l. ap (λ b. if b then from_lagging (state_of s l) e.request else from_open (state_of s l) x.holder e.kept e.request) quick ∙ h l

  pub find_leaves : (v : BareVerdict) (new : List SessionState) (lines : List (List ℕ)) → comes_to (answered s None v) → Leaves xs new p (reply_of v) lines → Answers users s s xs new e lines
  find_leaves v new lines q l =
      let P : List SessionState → Type 0 = λ old. Answers users s s old (take p xs ++ drop (suc p) xs) e (x.waiting ++ reply_of v ∷ []) in
      let Q : List SessionState → Type 0 = λ ys. Answers users s s xs ys e (x.waiting ++ reply_of v ∷ []) in
      answers_by _ _ _ _ _ _ _ _ (l.given_lines d) (subst Q (sym l.gone) (subst P (around xs p d f.within)
      (answers_leaving users s (take p xs) (drop (suc p) xs) e f.spot x (f.named d) v (q (take p xs ++ x ∷ drop (suc p) xs)))))

  pub find_gone : comes_to (record { outcome = quiet; document = s; is_bundle = false; holder = None }) → Answers users s s xs (take p xs ++ drop (suc p) xs) e []
  find_gone q =
      let P : List SessionState → Type 0 = λ old. Answers users s s old (take p xs ++ drop (suc p) xs) e [] in
      subst P (around xs p d f.within) (answers_parting users s (take p xs) (drop (suc p) xs) e f.spot x (f.named d) (q (take p xs ++ x ∷ drop (suc p) xs)))

  -- the session stays open, and is given what waited and a reply
  pub find_staying : (o : Outcome) (reply : List ℕ) (new : List SessionState) (lines : List (List ℕ)) → IsWhole s → comes_to (staying s x.holder o) → replies e.request o (view x.holder.user s) ≡ reply ∷ [] → Stays xs new p reply lines → Answers users s s xs new e lines
  find_staying o reply new lines w q says_so b =
      let k = b.emptied_box d in
      let P : List SessionState → Type 0 = λ old. Answers users s s old (take p xs ++ b.after ∷ drop (suc p) xs) e (x.waiting ++ reply ∷ []) in
      let Q : List SessionState → Type 0 = λ ys. Answers users s s xs ys e (x.waiting ++ reply ∷ []) in
      answers_by _ _ _ _ _ _ _ _ (b.given_lines d) (subst Q (sym b.stands) (subst P (around xs p d f.within)
      (answers_staying users s (take p xs) (drop (suc p) xs) e f.spot x (f.named d) o reply b.after w (q (take p xs ++ x ∷ drop (suc p) xs)) says_so
      (open_of-fields s b.after e.session x.holder x.made [] x.lagging (k.session ∙ f.named d) (holder_of-fields b.after.holder x.holder.user x.holder.log k.user (b.log d)) (b.made d) k.waiting k.lagging))))

  pub find_stays : (v : BareVerdict) (new : List SessionState) (lines : List (List ℕ)) → IsWhole s → comes_to (answered s (Some x.holder) v) → Stays xs new p (reply_of v) lines → Answers users s s xs new e lines
  find_stays v new lines w q b = find_staying (says v) (reply_of v) new lines w q refl b

  -- a bundle, or an undo, that is refused
  pub find_refused : (undone : Option ℕ) (j : Judgement) (v : BareVerdict) (new : List SessionState) (lines : List (List ℕ)) → IsWhole s → AsksFor x.holder s e.request undone j → e.kept ≡ true → x.lagging ≡ false
      → j ≡ refused v → Stays xs new p (reply_of v) lines → Answers users s s xs new e lines
  find_refused undone j v new lines w asks kept quick judged b =
      find_stays v new lines w (comes_open (answered s (Some x.holder) v) quick
      (λ l. ap (λ k. from_open (state_of s l) x.holder k e.request) kept ∙ asks (map (open_of s) l) true ∙ ap (bundle_of x.holder undone s true) judged)) b

-- ---- bundles

pub answers_same : (users : List User) (s s' : Document) (xs qs ys : List SessionState) (e : Entry) (ls : List (List ℕ)) → AreSame xs qs → Answers users s s' qs ys e ls → Answers users s s' xs ys e ls
answers_same users s s' xs qs ys e ls same h =
    let one : state_of s qs ≡ state_of s xs = ap (with_opens s) (same s) in
    record {
      state = ap (λ st. step users st e) (sym one) ∙ h.state;
      lines_given = ap (λ st. given users st e) (sym one) ∙ h.lines_given;
    }

map-take : {X Y : Type 0} (f : X → Y) (n : ℕ) (xs : List X) → map f (take n xs) ≡ take n (map f xs)
map-take f zero xs = refl
map-take f (suc n) [] = refl
map-take f (suc n) (x ∷ xs) = ap (λ r. f x ∷ r) (map-take f n xs)

map-drop : {X Y : Type 0} (f : X → Y) (n : ℕ) (xs : List X) → map f (drop n xs) ≡ drop n (map f xs)
map-drop f zero xs = refl
map-drop f (suc n) [] = refl
map-drop f (suc n) (x ∷ xs) = map-drop f n xs

same_take : (n : ℕ) (xs qs : List SessionState) → AreSame xs qs → AreSame (take n xs) (take n qs)
same_take n xs qs h s = map-take (open_of s) n qs ∙ ap (take n) (h s) ∙ sym (map-take (open_of s) n xs)

same_drop : (n : ℕ) (xs qs : List SessionState) → AreSame xs qs → AreSame (drop n xs) (drop n qs)
same_drop n xs qs h s = map-drop (open_of s) n qs ∙ ap (drop n) (h s) ∙ sym (map-drop (open_of s) n xs)

pub same_length : (xs qs : List SessionState) → AreSame xs qs → length qs ≡ length xs
same_length xs qs h = sym (length_map (open_of new_document) qs) ∙ ap length (h new_document) ∙ length_map (open_of new_document) xs

ready_take : (P : SessionState → Type 0) (n : ℕ) (xs : List SessionState) → AllByRecursion P xs → AllByRecursion P (take n xs)
ready_take P zero xs h = tt
ready_take P (suc n) [] h = tt
ready_take P (suc n) (x ∷ xs) h = (h.0, ready_take P n xs h.1)

ready_drop : (P : SessionState → Type 0) (n : ℕ) (xs : List SessionState) → AllByRecursion P xs → AllByRecursion P (drop n xs)
ready_drop P zero xs h = h
ready_drop P (suc n) [] h = tt
ready_drop P (suc n) (x ∷ xs) h = ready_drop P n xs h.1

spot_same : (name : List ℕ) (n : ℕ) (xs qs : List SessionState) → AreSame xs qs → IsSpot name (take n xs) (drop (suc n) xs) → IsSpot name (take n qs) (drop (suc n) qs)
spot_same name n xs qs h s = record {
  below = each_same (λ (o : Open). precedes o.session name ≡ true) (take n xs) (take n qs) (same_take n xs qs h) s.below;
  above = each_same (λ (o : Open). precedes name o.session ≡ true) (drop (suc n) xs) (drop (suc n) qs) (same_drop (suc n) xs qs h) s.above;
}

module _ (users : List User) (s s' : Document) (xs : List SessionState) (p : ℕ) (e : Entry) (f : Finds e.session xs p) (d : SessionState) (w : IsWhole s) (w' : IsWhole s') where
  -- an accepted bundle of the session of that index, or an undo
  pub find_bundle : (undone : Option ℕ) (j : Judgement) (steps : List Step) (ms : List Created) (told : User → List ViewAction) (new : List SessionState) (lines : List (List ℕ))
      → AsksFor (get_or xs p d).holder s e.request undone j → e.kept ≡ true → (get_or xs p d).lagging ≡ false
      → j ≡ accepted s' steps ms
      → ((user : User) → told user ≡ changes (view user s) (view user s'))
      → Bundles xs new p told (record { inverse = inverse_steps s steps; undone = undone }) (bundle_reply xs p undone s' ms) lines
      → Answers users s s' xs new e lines
  find_bundle undone j steps ms told new lines asks kept quick judged shown b =
      let qs = b.prepared in
      let o = b.posts in
      let y = get_or qs p d in
      let sizes = same_length xs qs b.same in
      let within : p < length qs = omega (arith, sizes, f.within) in
      let one : open_of new_document y ≡ open_of new_document (get_or xs p d) = same_at xs qs p d b.same in
      let holders : y.holder ≡ (get_or xs p d).holder = ap (λ (o : Open). o.holder) one in
      let named : y.session ≡ e.session = ap (λ (o : Open). o.session) one ∙ f.named d in
      let quick' : y.lagging ≡ false = ap (λ (o : Open). o.mailbox.lagging) one ∙ quick in
      let values : List RetValue = map (told_of (view y.holder.user s')) ms in
      let v : BareVerdict = accepted_as undone (count y.holder.log + 1) values in
      let log : Log = noted (inverse_steps s steps) (with_undone undone y.holder.log) in
      let whole : List SessionState = take p qs ++ y ∷ drop (suc p) qs in
      let asks' : AsksFor y.holder s e.request undone j = let P : Holder → Type 0 = λ h. AsksFor h s e.request undone j in subst P (sym holders) asks in
      let comes : (if y.lagging then from_lagging (state_of s whole) e.request else from_open (state_of s whole) y.holder e.kept e.request)
      ≡ bundle_of y.holder undone s true (accepted s' steps ms) =
      ap (λ l. if l then from_lagging (state_of s whole) e.request else from_open (state_of s whole) y.holder e.kept e.request) quick'
      ∙ ap (λ t. from_open (state_of s whole) y.holder t e.request) kept
      ∙ asks' (map (open_of s) whole) true
      ∙ ap (bundle_of y.holder undone s true) judged in
      let number : bundle_number xs p ≡ count y.holder.log + 1 = bundle_number-is xs p d f.within ∙ ap (λ (h : Holder). count h.log + 1) (sym holders) in
      let same_reply : bundle_reply xs p undone s' ms ≡ reply_of v =
      ap (λ n. reply_of (accepted_as undone n (values_told (user_at xs p) s' ms))) number
      ∙ ap (λ u. reply_of (accepted_as undone (count y.holder.log + 1) (values_told u s' ms))) (user_at-is xs p d f.within ∙ ap (λ (h : Holder). Some h.user) (sym holders)) in
      let box = o.emptied_box d in
      let line : Option (List ℕ) = y.ready in
      let fields = open_of-fields s' o.after e.session (record { user = y.holder.user; log = log }) (y.made + length (option_to_list line)) [] false
      (box.session ∙ named) (holder_of-fields o.after.holder y.holder.user log box.user (o.log d)) (o.made d) box.waiting (box.lagging ∙ quick') in
      let h = answers_bundle users s s' (take p qs) (drop (suc p) qs) e (spot_same e.session p xs qs b.same f.spot) w w' y named quick' told shown
      v log o.after comes (ready_take (IsReady told) p qs b.ready) (ready_drop (IsReady told) (suc p) qs b.ready) (ready_at told qs p d within b.ready) fields in
      let P : List SessionState → Type 0 = λ old. Answers users s s' old (map posted_state (take p qs) ++ o.after ∷ map posted_state (drop (suc p) qs)) e (y.waiting ++ option_to_list line ++ reply_of v ∷ []) in
      let Q : List SessionState → Type 0 = λ ys. Answers users s s' qs ys e (y.waiting ++ option_to_list line ++ reply_of v ∷ []) in
      answers_same users s s' xs qs new e lines b.same
      (answers_by _ _ _ _ _ _ _ _ (o.given_lines d ∙ ap (λ r. y.waiting ++ option_to_list line ++ r ∷ []) same_reply)
      (subst Q (sym o.stands) (subst P (around qs p d within) h)))

finds_same : (name : List ℕ) (xs qs : List SessionState) (p : ℕ) → AreSame xs qs → Finds name xs p → Finds name qs p
finds_same name xs qs p same f = record {
  within = omega (arith, same_length xs qs same, f.within);
  named = λ d. ap (λ (o : Open). o.session) (same_at xs qs p d same) ∙ f.named d;
  spot = spot_same name p xs qs same f.spot;
}

-- an accepted bundle that the keeper did not keep
pub find_unkept : (users : List User) (s s' : Document) (xs : List SessionState) (p : ℕ) (e : Entry) (f : Finds e.session xs p) (d : SessionState) (undone : Option ℕ) (j : Judgement) (steps : List Step) (ms : List Created) (new : List SessionState) (lines : List (List ℕ))
    → IsWhole s → AsksFor (get_or xs p d).holder s e.request undone j → e.kept ≡ false → (get_or xs p d).lagging ≡ false → j ≡ accepted s' steps ms
    → Refuses xs new p (reply_of (refusal StoreFault)) lines → Answers users s s xs new e lines
find_unkept users s s' xs p e f d undone j steps ms new lines w asks kept quick judged b =
    let qs = b.prepared in
    let y = get_or qs p d in
    let one : open_of new_document y ≡ open_of new_document (get_or xs p d) = same_at xs qs p d b.same in
    let holders : y.holder ≡ (get_or xs p d).holder = ap (λ (o : Open). o.holder) one in
    let quick' : y.lagging ≡ false = ap (λ (o : Open). o.mailbox.lagging) one ∙ quick in
    let asks' : AsksFor y.holder s e.request undone j = let P : Holder → Type 0 = λ h. AsksFor h s e.request undone j in subst P (sym holders) asks in
    let f' : Finds e.session qs p = finds_same e.session xs qs p b.same f in
    answers_same users s s xs qs new e lines b.same
    (find_stays users s qs p e f' d (refusal StoreFault) new lines w
    (comes_open users s qs p e f' d (answered s (Some y.holder) (refusal StoreFault)) quick'
    (λ l. ap (λ k. from_open (state_of s l) y.holder k e.request) kept ∙ asks' (map (open_of s) l) false ∙ ap (bundle_of y.holder undone s false) judged)) b.stays)

-- two promises of one answer, taken together
pub ok_both : {X E : Type 0} (r : Result X E) (P Q R : X → Type 0) → ((x : X) → P x → Q x → R x) → IfOk r P → IfOk r Q → IfOk r R
ok_both (Ok x) P Q R h p q = h x p q
ok_both (Err e) P Q R h p q = tt

-- any session at all
abbrev pub some_session : SessionState
some_session = record {
  session = [];
  holder = record { user = record { token = []; access = None; email = []; name = []; id = pos 0 }; log = empty_log };
  made = 0;
  waiting = [];
  lagging = false;
  ready = None;
  room = 0;
  note_room = 0;
}
