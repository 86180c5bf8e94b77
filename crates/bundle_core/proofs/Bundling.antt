-- What an accepted bundle comes to.
use Rattle.std.proofs.Common.{◌≡◌, ℕ, ◌+◌, ◌-◌, true, false, ◌||◌, List, [], ◌∷◌, ◌++◌, map, length, option_to_list, Some, None, refl, sym, ap, subst, ◌∙◌, arith, if◌then◌else◌}
use Rattle.std.proofs.lemmas.List.{map-append}
use Rattle.std.specs.List.{AllByRecursion}
use Rattle.doc_model.specs.declared.entry.Entry.{Entry}
use Rattle.doc_model.specs.declared.user.User.{User}
use Rattle.doc_model.specs.declared.view.ViewAction.{ViewAction}
use Rattle.doc_model.specs.declared.view.ViewTable.{ViewTable}
use Rattle.doc_model.specs.ByIds.{put_by_id, precedes}
use Rattle.doc_model.specs.Changes.{changes}
use Rattle.doc_model.specs.Document.{Document}
use Rattle.doc_model.specs.DocumentLaws.{IsWhole}
use Rattle.doc_model.proofs.Choices.{each_mapped}
use Rattle.grist_json.specs.Lines.{stream_text}
use Rattle.bundle_core.specs.Replies.{reply_of}
use Rattle.undo_bundles.specs.BundleLog.{Log}
use Rattle.bundle_judge.specs.declared.bare_verdict.BareVerdict.{BareVerdict}
use Rattle.bundle_core.specs.Dispatch.{state_of, IsSpot, Answers}
use Rattle.bundle_core.specs.Mailbox.{Mailbox, says, emptied, posted_if_any, is_full}
use Rattle.bundle_core.specs.SessionState.{SessionState, open_of, IsReady, after_post, line_for, posted_state}
use Rattle.bundle_core.specs.State.{State, Open, Holder, Verdicts, session_name, posted_to, with_session}
use Rattle.rule_contexts.specs.Context.{view}
use Rattle.bundle_core.proofs.Answering.{open_with, with_opens, opens, opens-append, opens_below, step_by, given_by, ComesTo, verdicts_open, mailbox_open}
use Rattle.bundle_core.proofs.Spots.{index_at}
use Rattle.bundle_core.proofs.ViewLaws.{same_view}

-- a session in which these changes are posted; where there are none, the view is the same
posted-line : (s s' : Document) (y : SessionState) (as' : List ViewAction) → (as' ≡ [] → view y.holder.user s ≡ view y.holder.user s')
    → (let o : Open = record { session = y.session; holder = y.holder; mailbox = posted_if_any (view y.holder.user s') as' (open_of s y).mailbox } in o)
    ≡ open_of s' (after_post y (line_for as' y))
posted-line s s' y [] same =
    ap (λ v. let o : Open = record { session = y.session; holder = y.holder; mailbox = record { view = v; made = y.made; waiting = y.waiting; lagging = y.lagging } } in o) (same refl)
posted-line s s' y (a ∷ as') same =
    let w : List ViewTable = view y.holder.user s' in
    let line : List ℕ = stream_text (y.made + 1) (a ∷ as') in
    elim y.lagging as (λ l. y.lagging ≡ l →
    (let o : Open = record {
      session = y.session;
      holder = y.holder;
      mailbox = (if l || is_full y.waiting
          then record { view = w; made = y.made; waiting = y.waiting; lagging = true }
          else record { view = w; made = y.made + 1; waiting = y.waiting ++ line ∷ []; lagging = false });
    } in o)
    ≡ open_of s' (after_post y (if l then None else Some line))) [
      | true ↦ λ lag. ap (λ l. open_with s' y.session y.holder y.made y.waiting l) (sym lag)
      | false ↦ λ quick. elim (is_full y.waiting) as (λ f.
          (let o : Open = record {
            session = y.session;
            holder = y.holder;
            mailbox = (if f
                then record { view = w; made = y.made; waiting = y.waiting; lagging = true }
                else record { view = w; made = y.made + 1; waiting = y.waiting ++ line ∷ []; lagging = false });
          } in o)
          ≡ open_of s' (if f
          then record { session = y.session; holder = y.holder; made = y.made; waiting = y.waiting; lagging = true; ready = None; room = y.room; note_room = y.note_room }
          else record { session = y.session; holder = y.holder; made = y.made + 1; waiting = y.waiting ++ line ∷ []; lagging = y.lagging; ready = None; room = y.room - 1; note_room = y.note_room })) [
            | true ↦ refl
            | false ↦ ap (λ l. open_with s' y.session y.holder (y.made + 1) (y.waiting ++ line ∷ []) l) (sym quick)
          ]
    ] refl

-- the session's own line, behind what waited
own-line : (s s' : Document) (x : SessionState) (as' : List ViewAction) → x.lagging ≡ false → (as' ≡ [] → view x.holder.user s ≡ view x.holder.user s')
    → posted_if_any (view x.holder.user s') as' (emptied (open_of s x).mailbox)
    ≡ (let m : Mailbox = record { view = view x.holder.user s'; made = x.made + length (option_to_list (line_for as' x)); waiting = option_to_list (line_for as' x); lagging = false } in m)
own-line s s' x [] quick same =
    let none : x.made ≡ x.made + 0 = omega arith in
    ap (λ v. let m : Mailbox = record { view = v; made = x.made; waiting = []; lagging = x.lagging } in m) (same refl)
    ∙ ap (λ l. let m : Mailbox = record { view = view x.holder.user s'; made = x.made; waiting = []; lagging = l } in m) quick
    ∙ ap (λ n. let m : Mailbox = record { view = view x.holder.user s'; made = n; waiting = []; lagging = false } in m) none
own-line s s' x (a ∷ as') quick same =
    let w : List ViewTable = view x.holder.user s' in
    let line : List ℕ = stream_text (x.made + 1) (a ∷ as') in
    ap (λ l. if l || is_full [] then (let m : Mailbox = record { view = w; made = x.made; waiting = []; lagging = true } in m) else record { view = w; made = x.made + 1; waiting = line ∷ []; lagging = false }) quick
    ∙ sym (ap (λ l. let m : Mailbox = record { view = w; made = x.made + length (option_to_list (if l then None else Some line)); waiting = option_to_list (if l then None else Some line); lagging = false } in m) quick)

module _ (s s' : Document) (w : IsWhole s) (w' : IsWhole s') (told : User → List ViewAction) (shown : (user : User) → told user ≡ changes (view user s) (view user s')) where
  -- who is told nothing has the same view
  unchanged : (user : User) → told user ≡ [] → view user s ≡ view user s'
  unchanged user none = same_view user s s' w w' (sym (shown user) ∙ none)

  -- a session whose line is ready is posted it
  posted_to-ready : (y : SessionState) → IsReady told y → posted_to s' (open_of s y) ≡ open_of s' (posted_state y)
  posted_to-ready y r =
      ap (λ as'. let o : Open = record { session = y.session; holder = y.holder; mailbox = posted_if_any (view y.holder.user s') as' (open_of s y).mailbox } in o) (sym (shown y.holder.user))
      ∙ posted-line s s' y (told y.holder.user) (unchanged y.holder.user)
      ∙ ap (λ line. open_of s' (after_post y line)) (sym r.line)

  pub all_posted : (ys : List SessionState) → AllByRecursion (IsReady told) ys → map (posted_to s') (opens s ys) ≡ opens s' (map posted_state ys)
  all_posted [] h = refl
  all_posted (y ∷ ys) h =
      ap (λ o. o ∷ map (posted_to s') (opens s ys)) (posted_to-ready y h.0)
      ∙ ap (λ os. open_of s' (posted_state y) ∷ os) (all_posted ys h.1)

module _ (users : List User) (s s' : Document) (before behind : List SessionState) (e : Entry) (spot : IsSpot e.session before behind) (w : IsWhole s) (w' : IsWhole s')
    (x : SessionState) (named : x.session ≡ e.session) (quick : x.lagging ≡ false) (told : User → List ViewAction) (shown : (user : User) → told user ≡ changes (view user s) (view user s')) where
  -- the session's own bundle was accepted
  abbrev own_bundle : BareVerdict → Log → Verdicts
  own_bundle v log = record {
    outcome = says v;
    document = s';
    is_bundle = true;
    holder = Some (record { user = x.holder.user; log = log });
  }

  pub answers_bundle : (v : BareVerdict) (log : Log) (y : SessionState)
      → ComesTo users s before behind e spot x named (own_bundle v log)
      → AllByRecursion (IsReady told) before → AllByRecursion (IsReady told) behind → IsReady told x
      → open_of s' y ≡ open_with s' e.session (record { user = x.holder.user; log = log }) (x.made + length (option_to_list x.ready)) [] false
      → Answers users s s' (before ++ x ∷ behind) (map posted_state before ++ y ∷ map posted_state behind) e (x.waiting ++ option_to_list x.ready ++ reply_of v ∷ [])
  answers_bundle v log y p ready_before ready_behind ready f =
      let st : State = state_of s (before ++ x ∷ behind) in
      let m : Mailbox = (open_of s x).mailbox in
      let view' : List ViewTable = view x.holder.user s' in
      let h : Holder = record { user = x.holder.user; log = log } in
      let made : ℕ = x.made + length (option_to_list x.ready) in
      let new : Open = open_with s' e.session h made [] false in
      let posted_before : map (posted_to s') (opens s before) ≡ opens s' (map posted_state before) = all_posted s s' w w' told shown before ready_before in
      let posted_behind : map (posted_to s') (opens s behind) ≡ opens s' (map posted_state behind) = all_posted s s' w w' told shown behind ready_behind in
      let split : map (posted_to s') (opens s (before ++ x ∷ behind)) ≡ opens s' (map posted_state before) ++ posted_to s' (open_of s x) ∷ opens s' (map posted_state behind) =
      ap (map (posted_to s')) (opens-append s before (x ∷ behind))
      ∙ map-append (posted_to s') (opens s before) (open_of s x ∷ opens s behind)
      ∙ ap (λ os. os ++ posted_to s' (open_of s x) ∷ map (posted_to s') (opens s behind)) posted_before
      ∙ ap (λ os. opens s' (map posted_state before) ++ posted_to s' (open_of s x) ∷ os) posted_behind in
      let below : AllByRecursion (λ (o : Open). precedes o.session e.session ≡ true) (opens s' (map posted_state before)) =
      let P : List Open → Type 0 = λ os. AllByRecursion (λ (o : Open). precedes o.session e.session ≡ true) os in
      subst P posted_before (each_mapped (λ (o : Open). precedes o.session e.session ≡ true) (posted_to s') (opens s before) (opens_below s e.session before spot.below)) in
      let placed : put_by_id session_name new (map (posted_to s') (opens s (before ++ x ∷ behind))) ≡ opens s' (map posted_state before ++ y ∷ map posted_state behind) =
      ap (put_by_id session_name new) split
      ∙ index_at session_name e.session (opens s' (map posted_state before)) (opens s' (map posted_state behind)) new (posted_to s' (open_of s x)) refl named below
      ∙ ap (λ o. opens s' (map posted_state before) ++ o ∷ opens s' (map posted_state behind)) (sym f)
      ∙ sym (opens-append s' (map posted_state before) (y ∷ map posted_state behind)) in
      let open_line : posted_if_any view' (changes m.view view') (emptied m) ≡ (let n : Mailbox = record { view = view'; made = made; waiting = option_to_list x.ready; lagging = false } in n) =
      ap (λ as'. posted_if_any view' as' (emptied m)) (sym (shown x.holder.user))
      ∙ own-line s s' x (told x.holder.user) quick (unchanged s s' w w' told shown x.holder.user)
      ∙ ap (λ line. let n : Mailbox = record { view = view'; made = x.made + length (option_to_list line); waiting = option_to_list line; lagging = false } in n) (sym ready.line) in
      record {
        state = step_by users st e (own_bundle v log) (Some m) (verdicts_open users s before behind e spot x named _ p) (mailbox_open users s before behind e spot x named)
            ∙ ap (λ k. with_opens s' (with_session e.session (Some h) (Some (emptied k)) (map (posted_to s') (opens s (before ++ x ∷ behind))))) open_line
            ∙ ap (with_opens s') placed;
        lines_given = given_by users st e (own_bundle v log) (Some m) (verdicts_open users s before behind e spot x named _ p) (mailbox_open users s before behind e spot x named)
            ∙ ap (λ k. x.waiting ++ k.waiting ++ reply_of v ∷ []) open_line;
      }
