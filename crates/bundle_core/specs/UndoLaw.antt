-- An undo that comes next takes its bundle back.
use Rattle.std.specs.Prelude.{ℕ, Bool, true, ◌&&◌, ◌^◌, ◌≡◌, ◌++◌, nat_le, length, List, [], ◌∷◌, Option, Some, None}
use Rattle.std.specs.List.{list_all}
use Rattle.doc_model.specs.declared.entry.Entry.{Entry}
use Rattle.doc_model.specs.declared.refusal.Refusal.TheVariants.{UndoStale}
use Rattle.doc_model.specs.declared.request.Request.{Request}
use Rattle.doc_model.specs.declared.request.Request.TheVariants.{Apply, Undo}
use Rattle.doc_model.specs.declared.user.User.{User}
use Rattle.doc_model.specs.declared.user_action.UserAction.{UserAction}
use Rattle.doc_model.specs.Counts.{over}
use Rattle.doc_model.specs.Document.{Document, Table}
use Rattle.doc_model.specs.DocumentLaws.{IsWhole}
use Rattle.doc_model.specs.NewDocument.{new_document}
use Rattle.doc_model.specs.WellFormed.{is_well_formed}
use Rattle.user_actions.specs.FreshIds.{new_columns_of}
use Rattle.bundle_judge.specs.declared.bare_verdict.BareVerdict.TheVariants as verdict
use Rattle.bundle_core.specs.Mailbox.{Outcome, says}
use Rattle.bundle_core.specs.State.{State, Verdicts, opening, records_kept, run, step, verdicts}

-- the number that a session is told of its accepted bundle
abbrev pub number_told : Outcome → Option ℕ
number_told (says (verdict.Bundle number values)) = Some number
number_told (says (verdict.Undone number)) = Some number
number_told _ = None

-- after a state a bundle is accepted, no other one is for some entries, and then its session asks
-- to undo it
pub record IsUndoNext (users : List User) (st : State) (e : Entry) (between : List Entry)
    (u : Entry) : Type 0 where
  pub number : ℕ
  pub told : number_told (verdicts users st e).outcome ≡ Some number
  pub accepted : (verdicts users st e).is_bundle ≡ true
  pub none_between : records_kept users (step users st e) between ≡ 0
  pub own : u.session ≡ e.session
  pub asks : u.request ≡ Undo number

-- the document is this one, its evaluated cells too, where the undo is accepted, and it is not
-- refused as stale
pub record LeadsBackTo (s : Document) (v : Verdicts) : Type 0 where
  pub restores : v.is_bundle ≡ true → v.document ≡ s
  pub not_stale : (at : Option ℕ) → v.outcome ≡ says (verdict.Refused UndoStale at) → ⊥

-- whether an action is well formed, and a table that it makes has at most 2^60 columns: for more of
-- them there may be no free names, and no line has room for so many
abbrev pub may_be_asked : UserAction → Bool
may_be_asked a = is_well_formed a && nat_le (new_columns_of a) (2 ^ 60)

-- whether a request asks for such actions alone
abbrev pub asks_so : Request → Bool
asks_so (Apply actions) = list_all may_be_asked actions
asks_so _ = true

abbrev pub entry_asks_so : Entry → Bool
entry_asks_so e = asks_so e.request

abbrev pub has_few_columns : Table → Bool
has_few_columns t = nat_le (length t.grid.columns) (2 ^ 60)

-- whether a document has at most 2^60 tables, and each at most 2^60 columns, so that there are free
-- names; no memory holds one that has more
abbrev pub has_few_ids : Document → Bool
has_few_ids s = nat_le (length s) (2 ^ 60) && list_all has_few_columns s

-- in every history from every whole document with few ids
abbrev pub UndoLaw : Type 0
UndoLaw =
    (users : List User) (s : Document) (history : List Entry) (e : Entry) (between : List Entry)
    (u : Entry) → IsWhole s → has_few_ids s ≡ true
    → list_all entry_asks_so (history ++ e ∷ []) ≡ true
    → (let before = run users (opening s) history in
    let last = run users (step users before e) between in
    IsUndoNext users before e between u → LeadsBackTo before.document (verdicts users last u))

-- the new document is such a one
abbrev pub NewDocumentHasFewIds : Type 0
NewDocumentHasFewIds = has_few_ids new_document ≡ true

-- and so is each that passes no limit
abbrev pub LimitsLeaveFewIds : Type 0
LimitsLeaveFewIds = (s : Document) → IsWhole s → over s ≡ None → has_few_ids s ≡ true
