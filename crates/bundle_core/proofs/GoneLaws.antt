-- The end of a connection, and whether a session is open.
use Rattle.std.proofs.Common.{◌≡◌, ℕ, true, List, [], Option, Some, None, is_some, Result, Ok, Err, is_ok, MatchResult, refl, sym, subst}
use Rattle.doc_model.specs.declared.entry.Entry.{Entry}
use Rattle.doc_model.specs.declared.request.Request.{Request}
use Rattle.doc_model.specs.declared.request.Request.TheVariants as request
use Rattle.doc_model.specs.declared.user.User.{User}
use Rattle.doc_model.specs.Document.{Document}
use Rattle.action_limits.specs.declared.tally.Tally.{Tally}
use Rattle.bundle_core.specs.Core.{IsCore, is_gone, state_after}
use Rattle.bundle_core.specs.Dispatch.{Finds, Misses}
use Rattle.bundle_core.specs.Mailbox.{own, quiet}
use Rattle.bundle_core.specs.SessionState.{SessionState}
use Rattle.bundle_core.specs.State.{State, Verdicts, given, mailbox_of, session_of, turn_of}
use Rattle.bundle_core.proofs.CoreLaws.{open_found, open_missed, verdicts_gone}

-- ---- the end of a connection

pub gone_only : (r : Request) → is_gone r ≡ true → r ≡ request.Gone
gone_only request.Gone is = refl
gone_only request.Bad is = absurd (cc)
gone_only request.TooLong is = absurd (cc)
gone_only (request.Open token) is = absurd (cc)
gone_only (request.Apply actions) is = absurd (cc)
gone_only (request.Undo bundle) is = absurd (cc)
gone_only request.Sync is = absurd (cc)
gone_only (request.Fetch table) is = absurd (cc)
gone_only (request.Rename table column new) is = absurd (cc)
gone_only request.Close is = absurd (cc)

-- it gives no line
pub given-gone : (users : List User) (st : State) (e : Entry) → e.request ≡ request.Gone → given users st e ≡ []
given-gone users st e is =
    let P : Verdicts → Type 0 = λ v. (turn_of st e v).lines ≡ [] in
    subst P (sym (verdicts_gone users st e is)) (elim (mailbox_of e.session st) as (λ m. (own m e.request quiet None).lines ≡ []) [
      | None ↦ refl
      | Some m ↦ refl
    ])

-- ---- whether a session is open

pub open_told : (users : List User) (start : Document) (es : List Entry) (s : Document) (tally : Tally) (xs : List SessionState) (bytes : Option ℕ) (name : List ℕ) → IsCore users start es s tally xs bytes → (r : Result ℕ ℕ)
    → MatchResult r (λ p. Finds name xs p) (λ p. Misses name xs p) → is_ok r ≡ is_some (session_of name (state_after users start es))
open_told users start es s tally xs bytes name k (Ok p) f = sym (open_found users start es s tally xs bytes name k p f)
open_told users start es s tally xs bytes name k (Err p) m = sym (open_missed users start es s tally xs bytes name k p m)
