-- Sessions that are the same but for lines that are ready.
use Rattle.std.proofs.Common.{◌≡◌, ℕ, suc, zero, ◌+◌, ◌<◌, ◌^◌, true, List, [], ◌∷◌, map, length, get_or, Option, Some, refl, sym, ap, subst, ◌∙◌, arith}
use Rattle.std.specs.List.{AllByRecursion}
use Rattle.doc_model.specs.declared.user.User.{User}
use Rattle.doc_model.specs.declared.view.ViewAction.{ViewAction}
use Rattle.doc_model.specs.NewDocument.{new_document}
use Rattle.doc_model.proofs.Choices.{each_mapped, each_unmapped}
use Rattle.doc_model.specs.Document.{Document}
use Rattle.acl_rules.specs.declared.decision.Ctx.{Ctx}
use Rattle.context_changes.specs.Known.{is_known}
use Rattle.bundle_core.specs.Replies.{reply_of}
use Rattle.undo_bundles.specs.BundleLog.{count}
use Rattle.bundle_judge.specs.declared.created.Created.{Created}
use Rattle.bundle_core.specs.Dispatch.{AreSame, bundle_number, bundle_reply, user_at, values_told}
use Rattle.bundle_judge.specs.Created.{told_of}
use Rattle.bundle_core.specs.SessionState.{SessionState, open_of, IsReady, MayPost, line_for}
use Rattle.bundle_core.specs.State.{Open, accepted_as}
use Rattle.rule_contexts.specs.Context.{view}

-- what holds of the sessions as open ones holds of them when more is ready
pub each_same : (P : Open → Type 0) (old new : List SessionState) → AreSame old new → AllByRecursion (λ x. P (open_of new_document x)) old → AllByRecursion (λ x. P (open_of new_document x)) new
each_same P old new h k =
    let Q : List Open → Type 0 = λ os. AllByRecursion P os in
    each_unmapped P (open_of new_document) new (subst Q (sym (h new_document)) (each_mapped P (open_of new_document) old k))

may_post : (told : User → List ViewAction) (xs : List SessionState) → AllByRecursion (λ x. x.made < 2 ^ 62) xs → AllByRecursion (IsReady told) xs → AllByRecursion MayPost xs
may_post told [] h k = tt
may_post told (x ∷ xs) h k = (record { room = k.0.room; few = omega (arith, h.0) }, may_post told xs h.1 k.1)

pub all_may_post : (told : User → List ViewAction) (old new : List SessionState) → AreSame old new → AllByRecursion (λ x. x.made < 2 ^ 62) old → AllByRecursion (IsReady told) new → AllByRecursion MayPost new
all_may_post told old new h k r = may_post told new (each_same (λ (o : Open). o.mailbox.made < 2 ^ 62) old new h k) r

few_more : (xs : List SessionState) → AllByRecursion (λ x. count x.holder.log < 2 ^ 62) xs → AllByRecursion (λ x. count x.holder.log < 2 ^ 63) xs
few_more [] h = tt
few_more (x ∷ xs) h = (omega (arith, h.0), few_more xs h.1)

pub few_bundles : (old new : List SessionState) → AreSame old new → AllByRecursion (λ x. count x.holder.log < 2 ^ 62) old → AllByRecursion (λ x. count x.holder.log < 2 ^ 63) new
few_bundles old new h k = few_more new (each_same (λ (o : Open). count o.holder.log < 2 ^ 62) old new h k)

get_or-map : {X Y : Type 0} (f : X → Y) (xs : List X) (i : ℕ) (d : X) → get_or (map f xs) i (f d) ≡ f (get_or xs i d)
get_or-map f [] i d = refl
get_or-map f (x ∷ xs) zero d = refl
get_or-map f (x ∷ xs) (suc i) d = get_or-map f xs i d

-- the session of an index is the same
pub same_at : (old new : List SessionState) (i : ℕ) (d : SessionState) → AreSame old new → open_of new_document (get_or new i d) ≡ open_of new_document (get_or old i d)
same_at old new i d h =
    sym (get_or-map (open_of new_document) new i d) ∙ ap (λ os. get_or os i (open_of new_document d)) (h new_document) ∙ get_or-map (open_of new_document) old i d

-- it has noted the same bundles
pub same_log : (old new : List SessionState) (i : ℕ) (d : SessionState) → AreSame old new → (get_or old i d).holder.log ≡ (get_or new i d).holder.log
same_log old new i d h = sym (ap (λ (o : Open). o.holder.log) (same_at old new i d h))

pub bundle_number-is : (xs : List SessionState) (i : ℕ) (d : SessionState) → i < length xs → bundle_number xs i ≡ count (get_or xs i d).holder.log + 1
bundle_number-is [] i d lt = absurd (omega (arith, lt))
bundle_number-is (x ∷ xs) zero d lt = refl
bundle_number-is (x ∷ xs) (suc i) d lt = bundle_number-is xs i d (omega (arith, lt))

-- the user of an index
pub user_at-is : (xs : List SessionState) (p : ℕ) (d : SessionState) → p < length xs → user_at xs p ≡ Some (get_or xs p d).holder.user
user_at-is [] p d lt = absurd (omega (arith, lt))
user_at-is (x ∷ xs) zero d lt = refl
user_at-is (x ∷ xs) (suc p) d lt = user_at-is xs p d (omega (arith, lt))

-- the reply to a bundle of the session of an index
pub reply_is : (xs : List SessionState) (p : ℕ) (d : SessionState) (undone : Option ℕ) (s : Document) (ms : List Created) → p < length xs
    → reply_of (accepted_as undone (count (get_or xs p d).holder.log + 1) (map (told_of (view (get_or xs p d).holder.user s)) ms)) ≡ bundle_reply xs p undone s ms
reply_is xs p d undone s ms lt =
    sym (ap (λ n. reply_of (accepted_as undone n (values_told (user_at xs p) s ms))) (bundle_number-is xs p d lt)
    ∙ ap (λ u. reply_of (accepted_as undone (count (get_or xs p d).holder.log + 1) (values_told u s ms))) (user_at-is xs p d lt))

as_told : (f h : User → List ViewAction) (known : List Ctx) (xs : List SessionState) → AllByRecursion (λ x. is_known known x.holder.user ≡ true) xs
    → ((user : User) → is_known known user ≡ true → f user ≡ h user) → AllByRecursion (IsReady f) xs → AllByRecursion (IsReady h) xs
as_told f h known [] among same k = tt
as_told f h known (x ∷ xs) among same k =
    (record { line = k.0.line ∙ ap (λ as'. line_for as' x) (same x.holder.user among.0); room = k.0.room }, as_told f h known xs among.1 same k.1)

-- lines that tell the same to the users of all sessions are ready for it
pub ready_as : (f h : User → List ViewAction) (known : List Ctx) (old new : List SessionState) → AreSame old new → AllByRecursion (λ x. is_known known x.holder.user ≡ true) old
    → ((user : User) → is_known known user ≡ true → f user ≡ h user) → AllByRecursion (IsReady f) new → AllByRecursion (IsReady h) new
ready_as f h known old new same among told k =
    as_told f h known new (each_same (λ (o : Open). is_known known o.holder.user ≡ true) old new same among) told k
