-- Of a closed user no decision rests on more than the view.
use Rattle.std.proofs.Common.{◌≡◌, ◌∙◌, ap, refl, subst, sym, ℕ, Bool, true, false, cond, ◌&&◌, ◌||◌, List, [], ◌∷◌, Option, Some, None, bytes_eq}
use Rattle.std.specs.List.{list_any}
use Rattle.std.proofs.lemmas.Bool.{and_parts}
use Rattle.formula_parse.specs.Lexemes.{is_id}
use Rattle.cell_types.specs.declared.value.CellValue.{CellValue}
use Rattle.doc_model.specs.declared.view.ViewCol.{ViewCol}
use Rattle.doc_model.specs.declared.view.ViewTable.{ViewTable}
use Rattle.doc_model.specs.ByIds.{find_id, has_id}
use Rattle.doc_model.specs.Changes.{shown_table_id}
use Rattle.doc_model.specs.Document.{Document}
use Rattle.doc_model.specs.MetadataIds.{is_metadata_id}
use Rattle.doc_model.specs.Rows.{has}
use Rattle.doc_model.specs.ViewEdits.{shown_id}
use Rattle.doc_model.proofs.ByIdsLaws.{found_has, found_id}
use Rattle.doc_readers.specs.Parts.{grid_at}
use Rattle.acl_formula.specs.Asked.{Asked}
use Rattle.acl_formula.specs.RuleFields.{field_of, read, row_id}
use Rattle.acl_formula.specs.RuleRow.{RuleRow}
use Rattle.acl_formula.specs.declared.mention.Mention.{Mention}
use Rattle.acl_formula.specs.declared.mention.Mention.TheVariants as mention
use Rattle.acl_formula.specs.declared.permissions.Perm.{Perm}
use Rattle.acl_formula.specs.declared.permissions.Perm.TheVariants as perm
use Rattle.acl_formula.specs.declared.user_info.UserInfo.{UserInfo}
use Rattle.acl_rules.specs.declared.decision.Ctx.{Ctx}
use Rattle.acl_rules.specs.Chain.{chain_of}
use Rattle.acl_rules.specs.Decided.{decision_in}
use Rattle.acl_reading.specs.RulesLet.{rules_let}
use Rattle.censored_view.specs.Readable.{row_of}
use Rattle.censored_view.specs.View.{view}
use Rattle.rule_audit.specs.declared.faults.Audit.{Audit}
use Rattle.rule_audit.specs.declared.stop.Stop.{Stop}
use Rattle.rule_audit.specs.Closed.{IsClosed, chain_fault, chain_stop, column_fault, columns_fault, first_fault, formula_fault, leak_of, or_fault, rows_fault, ruled_fault, table_fault, tables_fault}
use Rattle.rule_audit.specs.Laws.{AgreeOn, mention_value}
use Rattle.rule_audit.specs.Open.{open_columns}
use Rattle.rule_audit.specs.Reached.{has_open, is_column_safe, is_field_safe, is_given, is_safe, reach_stop}
use Rattle.rule_audit.specs.SeenLaws.{IsSeen, RemovalLaw, WritingLaw, asked_of}
use Rattle.rule_audit.specs.Stops.{bad_row, first_stop}
use Rattle.rule_audit.proofs.ReachLemmas.{same_decision}
use Rattle.rule_audit.proofs.SeenLemmas.{seen_cells}

-- ---- no fault of all is none of each

fault_parts : (a b : Option Audit) → or_fault a b ≡ None → (a ≡ None) × (b ≡ None)
fault_parts None b h = (refl, h)
fault_parts (Some f) b h = absurd (cc)

none_found : {X : Type 0} (id : X → List ℕ) (f : X → Option Audit) (c : List ℕ) (xs : List X) (x : X) → first_fault f xs ≡ None → find_id id c xs ≡ Some x → f x ≡ None
none_found id f c [] x h e = absurd (cc)
none_found id f c (y ∷ xs) x h e =
    let both = fault_parts (f y) (first_fault f xs) h in
    elim (bytes_eq (id y) c) as (λ b. cond b (Some y) (find_id id c xs) ≡ Some x → f x ≡ None) [
      | true ↦ λ e. let same : y ≡ x = cc in ap f (sym same) ∙ both.0
      | false ↦ λ e. none_found id f c xs x both.1 e
    ] e

no_leak : (table : List ℕ) (column : Option (List ℕ)) (p : Perm) (o : Option ℕ) → leak_of table column p o ≡ None → o ≡ None
no_leak table column p None h = refl
no_leak table column p (Some row) h = absurd (cc)

module _ (x : Ctx) (s : Document) (v : ViewTable) (seen : IsSeen x s v) (closed : IsClosed x (view (rules_let x) s)) where
  unfaulted : ruled_fault x (open_columns x v) v ≡ None
  unfolding table_fault
  unfaulted =
      ap (λ b. cond b None (ruled_fault x (open_columns x v) v)) (sym seen.plain)
      ∙ none_found shown_table_id (table_fault x) v.id (view (rules_let x) s) v closed seen.found

  halves : (rows_fault x (open_columns x v) v.id ≡ None) × (columns_fault x (open_columns x v) v.id v.columns ≡ None)
  halves = fault_parts (rows_fault x (open_columns x v) v.id) (columns_fault x (open_columns x v) v.id v.columns) unfaulted

  row_halves : (chain_fault x perm.C (open_columns x v) v.id None ≡ None) × (chain_fault x perm.D (open_columns x v) v.id None ≡ None)
  row_halves = fault_parts (chain_fault x perm.C (open_columns x v) v.id None) (chain_fault x perm.D (open_columns x v) v.id None) halves.0

  pub new_sealed : bad_row (chain_stop x perm.C (open_columns x v) v.id None) ≡ None
  new_sealed = no_leak v.id None perm.C (bad_row (chain_stop x perm.C (open_columns x v) v.id None)) row_halves.0

  pub gone_sealed : bad_row (chain_stop x perm.D (open_columns x v) v.id None) ≡ None
  gone_sealed = no_leak v.id None perm.D (bad_row (chain_stop x perm.D (open_columns x v) v.id None)) row_halves.1

  pub changed_sealed : (c : List ℕ) → has_id shown_id v.columns c ≡ true → bad_row (chain_stop x perm.U (open_columns x v) v.id (Some c)) ≡ None
  changed_sealed c h =
      let d = found_has shown_id c v.columns h in
      let named : shown_id d.0 ≡ c = found_id shown_id c v.columns d.0 d.1 in
      let none = none_found shown_id (column_fault x (open_columns x v) v.id) c v.columns d.0 halves.1 d.1 in
      let parts = fault_parts (chain_fault x perm.U (open_columns x v) v.id (Some d.0.id)) (formula_fault v.id d.0) none in
      subst (λ n. bad_row (chain_stop x perm.U (open_columns x v) v.id (Some n)) ≡ None) named
      (no_leak v.id (Some d.0.id) perm.U (bad_row (chain_stop x perm.U (open_columns x v) v.id (Some d.0.id))) parts.0)

-- ---- what is asked of a row that goes

-- a column that is safe is open
safe_open : (p : Perm) (n : List ℕ) (ds : List ViewCol) → is_column_safe p ds n ≡ true → has_id shown_id ds n ≡ true
safe_open p n [] h = absurd (cc)
safe_open p n (d ∷ ds) h =
    elim (bytes_eq d.id n) as (λ b. ((b && is_given p d) || is_column_safe p ds n) ≡ true → (b || has_id shown_id ds n) ≡ true) [
      | true ↦ λ h. refl
      | false ↦ λ h. safe_open p n ds h
    ] h

module _ (x : Ctx) (s t : Document) (v : ViewTable) (r : ℕ) (in_s : IsSeen x s v) (in_t : IsSeen x t v)
    (here : has (grid_at s v.id).rows r ≡ true) (there : has (grid_at t v.id).rows r ≡ true) where
  abbrev gone_s : RuleRow
  gone_s = row_of (grid_at s v.id) r

  abbrev gone_t : RuleRow
  gone_t = row_of (grid_at t v.id) r

  field_same : (p : Perm) (n : List ℕ) → is_field_safe p (open_columns x v) n ≡ true → field_of (Some gone_s) n ≡ field_of (Some gone_t) n
  field_same p n h =
      elim (is_id n) as (λ b. cond b (has_open (open_columns x v)) (is_column_safe p (open_columns x v) n) ≡ true → cond b (row_id r) (read (gone_s.cell n)) ≡ cond b (row_id r) (read (gone_t.cell n))) [
        | true ↦ λ h. refl
        | false ↦ λ h.
            let opened = safe_open p n (open_columns x v) h in
            ap read (seen_cells x s v n r in_s opened here ∙ sym (seen_cells x t v n r in_t opened there))
      ] h

  pub rows_agree : (p : Perm) → AgreeOn (is_safe p (open_columns x v)) (asked_of x (Some gone_s) (Some gone_s)) (asked_of x (Some gone_t) (Some gone_t))
  rows_agree p = record { user = refl; mentions = by }
    where
      by : (m : Mention) → is_safe p (open_columns x v) m ≡ true → mention_value (asked_of x (Some gone_s) (Some gone_s)) m ≡ mention_value (asked_of x (Some gone_t) (Some gone_t)) m
      by (mention.Rec n) h = field_same p n h
      by (mention.NewRec n) h = field_same p n h
      by (mention.User n) h = refl

pub removal_same : RemovalLaw
removal_same x s t v r in_s in_t closed here there =
    same_decision (is_safe perm.D (open_columns x v))
    (asked_of x (Some (row_of (grid_at s v.id) r)) (Some (row_of (grid_at s v.id) r)))
    (asked_of x (Some (row_of (grid_at t v.id) r)) (Some (row_of (grid_at t v.id) r)))
    perm.D (chain_of x.book (Some v.id) None)
    (rows_agree x s t v r in_s in_t here there perm.D)
    (gone_sealed x s v in_s closed)

pub writing_same : WritingLaw
writing_same x s v a b seen closed user = (
  λ agree. same_decision (is_safe perm.C (open_columns x v)) a b perm.C (chain_of x.book (Some v.id) None) agree
      (ap (λ (u : UserInfo). bad_row (first_stop (reach_stop u perm.C (is_safe perm.C (open_columns x v))) (chain_of x.book (Some v.id) None))) user
      ∙ new_sealed x s v seen closed),
  λ c h agree. same_decision (is_safe perm.U (open_columns x v)) a b perm.U (chain_of x.book (Some v.id) (Some c)) agree
      (ap (λ (u : UserInfo). bad_row (first_stop (reach_stop u perm.U (is_safe perm.U (open_columns x v))) (chain_of x.book (Some v.id) (Some c)))) user
      ∙ changed_sealed x s v seen closed c h),
)
