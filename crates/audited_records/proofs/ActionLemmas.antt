-- What rules say of actions on records, in documents that look alike.
use Rattle.std.proofs.Common.{◌≡◌, ◌∙◌, ap, refl, sym, ℕ, true, false, List, [], ◌∷◌, map, length, Option, Some, None}
use Rattle.std.proofs.lemmas.Bool.{and_parts}
use Rattle.doc_model.specs.declared.action.DocAction.{DocAction}
use Rattle.doc_model.specs.declared.action.DocAction.TheVariants.{BulkRemove}
use Rattle.doc_model.specs.declared.limit.LimitKind.{LimitKind}
use Rattle.doc_model.specs.declared.refusal.Refusal.{Refusal}
use Rattle.doc_model.specs.declared.refusal.Refusal.TheVariants as refusal
use Rattle.doc_model.specs.declared.user.User.{User}
use Rattle.doc_model.specs.declared.user_action.UserAction.{UserAction}
use Rattle.doc_model.specs.declared.user_action.UserAction.TheVariants.{Add, Update, Remove, AddTable, RemoveTable, RenameTable, AddColumn, RemoveColumn, RenameColumn, ModifyColumn}
use Rattle.doc_model.specs.declared.view.ViewTable.{ViewTable}
use Rattle.doc_model.specs.Apply.{all_valid}
use Rattle.doc_model.specs.Counts.{over}
use Rattle.doc_model.specs.Document.{Document}
use Rattle.doc_model.specs.DocumentLaws.{IsWhole}
use Rattle.doc_model.specs.Valid.{valid}
use Rattle.doc_model.specs.ViewEdits.{if_any}
use Rattle.doc_model.specs.WellFormed.{is_well_formed}
use Rattle.doc_model.proofs.WellFormedLaws.{has_whole_columns-is_well_formed}
use Rattle.acl_rules.specs.declared.decision.Ctx.{Ctx}
use Rattle.acl_checks.specs.Denials.{first_denied}
use Rattle.acl_reading.specs.RulesLet.{rules_let}
use Rattle.censored_view.specs.View.{view as shown_by}
use Rattle.recalc.specs.Evaluated.{filled}
use Rattle.action_limits.specs.Tallies.{after}
use Rattle.user_actions.specs.Allowed.{is_allowed}
use Rattle.user_actions.specs.Kinds.{is_about_rows}
use Rattle.user_actions.specs.Marked.{direct}
use Rattle.user_actions.specs.References.{clearings, referrers}
use Rattle.user_actions.specs.StepLaws.{action_of}
use Rattle.user_actions.specs.Steps.{row_ids, steps_of}
use Rattle.user_actions.proofs.StepsValid.{all_valid-steps_of}
use Rattle.user_objections.specs.Objections.{against, objection_to, on_columns, on_rules, on_values, to_records}
use Rattle.rule_contexts.specs.Context.{context, view_in}
use Rattle.rule_contexts.specs.SeenLaws.{AllowedLaw}
use Rattle.bundle_judge.specs.Denials.{denial_of, denied_by}
use Rattle.bundle_judge.specs.Judgement.{opposed}
use Rattle.audited_cells.specs.CellLaws.{added, written}
use Rattle.audited_records.specs.RecordsLaws.{RecordsLaw}
use Rattle.audited_records.specs.SeeAlike.{SeeAlike}
use Rattle.audited_records.proofs.DenialLemmas.{clearings_follow, first_denial}
use Rattle.audited_records.proofs.RecordLemmas.{added_alike, checks_at, removed_alike, written_alike}
use Rattle.audited_records.proofs.ShownLemmas.{LookAlike, columns_named, named_table, rows_named}

-- ---- valid steps

-- each step of an action on records that a document allows is valid at its index
steps_valid : (s : Document) (a : UserAction) → IsWhole s → is_allowed s a ≡ true → is_about_rows a ≡ true → is_well_formed a ≡ true → all_valid s (map action_of (steps_of s a)) ≡ true
steps_valid s (Add table single count has_row_ids ks) whole allowed about formed =
    all_valid-steps_of s whole (Add table single count has_row_ids ks) allowed (has_whole_columns-is_well_formed (Add table single count has_row_ids ks) formed) tt
steps_valid s (Update table single rows ks) whole allowed about formed =
    all_valid-steps_of s whole (Update table single rows ks) allowed (has_whole_columns-is_well_formed (Update table single rows ks) formed) tt
steps_valid s (Remove table single rows) whole allowed about formed =
    all_valid-steps_of s whole (Remove table single rows) allowed refl tt
steps_valid s (AddTable table cs) whole allowed about formed = absurd (cc)
steps_valid s (RemoveTable table) whole allowed about formed = absurd (cc)
steps_valid s (RenameTable table new) whole allowed about formed = absurd (cc)
steps_valid s (AddColumn table c) whole allowed about formed = absurd (cc)
steps_valid s (RemoveColumn table column) whole allowed about formed = absurd (cc)
steps_valid s (RenameColumn table column new) whole allowed about formed = absurd (cc)
steps_valid s (ModifyColumn table c) whole allowed about formed = absurd (cc)

-- ---- denials

module _ (x : Ctx) (s t : Document) (i : ℕ) where
  lone_alike : (a b : DocAction) → first_denied x (checks_at s a) ≡ first_denied x (checks_at t b) → denial_of x s i (direct a ∷ []) ≡ denial_of x t i (direct b ∷ [])
  lone_alike a b same = first_denial x s i a [] refl ∙ ap (denied_by x i) same ∙ sym (first_denial x t i b [] refl)

  -- none, or one
  any_alike : (rows : List ℕ) (a b : DocAction) → all_valid s (map action_of (if_any rows (direct a))) ≡ true → all_valid t (map action_of (if_any rows (direct b))) ≡ true
      → (valid s a ≡ true → valid t b ≡ true → first_denied x (checks_at s a) ≡ first_denied x (checks_at t b))
      → denial_of x s i (if_any rows (direct a)) ≡ denial_of x t i (if_any rows (direct b))
  any_alike [] a b ok ok_too same = refl
  any_alike (r ∷ rows) a b ok ok_too same = lone_alike a b (same (and_parts (valid s a) true ok).0 (and_parts (valid t b) true ok_too).0)

module _ (x : Ctx) (s t : Document) (i : ℕ) (alike : LookAlike x s t) where
  abbrev seen : List ViewTable
  seen = shown_by (rules_let x) (filled s)

  by_action : (a : UserAction) → is_about_rows a ≡ true → objection_to seen a ≡ None
      → all_valid s (map action_of (steps_of s a)) ≡ true → all_valid t (map action_of (steps_of t a)) ≡ true
      → denial_of x s i (steps_of s a) ≡ denial_of x t i (steps_of t a)
  by_action (Add table single count has_row_ids ks) about none ok ok_too =
      let rest : ViewTable → Option Refusal = λ w. to_records seen w (Add table single count has_row_ids ks) in
      let named = named_table seen table rest none in
      let next : Option Refusal = against has_row_ids refusal.BadValue (on_values ks (on_rules seen named.its ks [] count)) in
      lone_alike x s t i (added s table count ks) (added t table count ks)
      (added_alike x s t alike table rest named ks (λ g. columns_named named.its g ks next named.unopposed) count
      (and_parts (valid s (added s table count ks)) true ok).0 (and_parts (valid t (added t table count ks)) true ok_too).0)
  by_action (Update table single rows ks) about none ok ok_too =
      let rest : ViewTable → Option Refusal = λ w. to_records seen w (Update table single rows ks) in
      let named = named_table seen table rest none in
      let next : Option Refusal = on_values ks (on_rules seen named.its ks rows (length rows)) in
      let there = rows_named named.its rows (on_columns named.its ks next) named.unopposed in
      any_alike x s t i (row_ids rows) (written s table (row_ids rows) ks) (written t table (row_ids rows) ks) ok ok_too
      (written_alike x s t alike table rest named ks (λ g. columns_named named.its g ks next there.1) (row_ids rows) there.0)
  by_action (Remove table single rows) about none ok ok_too =
      let rest : ViewTable → Option Refusal = λ w. to_records seen w (Remove table single rows) in
      let named = named_table seen table rest none in
      let there = rows_named named.its rows None named.unopposed in
      first_denial x s i (BulkRemove table (row_ids rows)) (clearings s table (row_ids rows) (referrers s table table false)) (clearings_follow s table (row_ids rows) (referrers s table table false))
      ∙ ap (denied_by x i) (removed_alike x s t alike table rest named (row_ids rows) there.0)
      ∙ sym (first_denial x t i (BulkRemove table (row_ids rows)) (clearings t table (row_ids rows) (referrers t table table false)) (clearings_follow t table (row_ids rows) (referrers t table table false)))
  by_action (AddTable table cs) about none ok ok_too = absurd (cc)
  by_action (RemoveTable table) about none ok ok_too = absurd (cc)
  by_action (RenameTable table new) about none ok ok_too = absurd (cc)
  by_action (AddColumn table c) about none ok ok_too = absurd (cc)
  by_action (RemoveColumn table column) about none ok ok_too = absurd (cc)
  by_action (RenameColumn table column new) about none ok ok_too = absurd (cc)
  by_action (ModifyColumn table c) about none ok ok_too = absurd (cc)

-- ---- documents that show a user the same

-- nothing in the view stands against it
pub none_shown : (i : ℕ) (o : Option Refusal) (kind : Option LimitKind) → opposed i o kind ≡ None → o ≡ None
none_shown i None kind h = refl
none_shown i (Some this) kind h = absurd (cc)

look_alike : (user : User) (s t : Document) → SeeAlike user s t → LookAlike (context user s) s t
look_alike user s t h = record {
  whole = h.whole;
  other = h.other;
  views = h.views ∙ ap (λ c. view_in c t) (sym h.contexts);
  closed = h.closed;
}

pub records_same : AllowedLaw → RecordsLaw
records_same law user s t a h about formed unopposed unopposed_too =
    let x : Ctx = context user s in
    let alike : LookAlike x s t = look_alike user s t h in
    let none : objection_to (view_in x s) a ≡ None = none_shown 0 (objection_to (view_in x s) a) (over (after s a)) unopposed in
    let none_too : objection_to (view_in x t) a ≡ None = ap (λ v. objection_to v a) (sym alike.views) ∙ none in
    by_action x s t 0 alike a about none
    (steps_valid s a h.whole (law x s a h.whole none) about formed)
    (steps_valid t a h.other (law x t a h.other none_too) about formed)
    ∙ ap (λ c. denial_of c t 0 (steps_of t a)) h.contexts
