-- What nothing stands against names what is shown.
use Rattle.std.proofs.Common.{◌≡◌, ◌∙◌, ap, sym, refl, ℕ, ℤ, Bool, true, false, ◌||◌, not, List, [], ◌∷◌, map, Option, Some, None, unwrap_or}
use Rattle.std.specs.List.{list_all, list_any}
use Rattle.std.proofs.lemmas.Bool.{and_parts}
use Rattle.cell_types.specs.Reference.{row_number}
use Rattle.doc_model.specs.declared.column.CellColumn.{CellColumn}
use Rattle.doc_model.specs.declared.column.ColDef.{ColDef}
use Rattle.doc_model.specs.declared.refusal.Refusal.{Refusal}
use Rattle.doc_model.specs.declared.refusal.Refusal.TheVariants as refusal
use Rattle.doc_model.specs.declared.user_action.UserColumn.{UserColumn}
use Rattle.doc_model.specs.declared.view.ViewTable.{ViewTable}
use Rattle.doc_model.specs.ByIds.{find_id, has_id}
use Rattle.doc_model.specs.Changes.{shown_table_id}
use Rattle.doc_model.specs.Document.{Document}
use Rattle.doc_model.specs.DocumentLaws.{IsWhole}
use Rattle.doc_model.specs.Grid.{Grid}
use Rattle.doc_model.specs.MetadataIds.{is_acl_id, is_metadata_id, is_schema_id}
use Rattle.doc_model.specs.Rows.{has}
use Rattle.doc_model.specs.ViewEdits.{shown_id}
use Rattle.doc_model.proofs.ByIdsLaws.{found_id}
use Rattle.doc_model.proofs.Choices.{both_true}
use Rattle.acl_rules.specs.declared.decision.Ctx.{Ctx}
use Rattle.acl_reading.specs.RulesLet.{rules_let}
use Rattle.censored_view.specs.View.{view}
use Rattle.recalc.specs.Evaluated.{filled}
use Rattle.recalc.proofs.FilledLaws.{laid_out_law}
use Rattle.user_actions.specs.Given.{have_no_duplicates, is_row}
use Rattle.user_actions.specs.Steps.{fitted, row_ids}
use Rattle.user_objections.specs.Objections.{against, in_records, in_table, is_computed, is_shown, on_columns, on_rows}
use Rattle.rule_audit.specs.Closed.{IsClosed}
use Rattle.rule_audit.specs.SeenLaws.{IsSeen}
use Rattle.audited_checks.specs.CheckLaws.{AreShown, AreShownColumns, ShowAlike}

-- ---- tables

-- a table that is shown of a whole document
pub seen_table : (x : Ctx) (s : Document) → IsWhole s → (table : List ℕ) (v : ViewTable) → is_metadata_id table ≡ false → find_id shown_table_id table (view (rules_let x) (filled s)) ≡ Some v → IsSeen x (filled s) v
seen_table x s whole table v apart there =
    let name : v.id ≡ table = found_id shown_table_id table (view (rules_let x) (filled s)) v there in
    record {
      laid_out = laid_out_law s whole;
      plain = ap is_metadata_id name ∙ apart;
      found = ap (λ n. find_id shown_table_id n (view (rules_let x) (filled s))) name ∙ there;
    }

-- two whole documents that a context, by which a user is closed, shows the same
pub record LookAlike (x : Ctx) (s t : Document) : Type 0 where
  pub whole : IsWhole s
  pub other : IsWhole t
  pub views : view (rules_let x) (filled s) ≡ view (rules_let x) (filled t)
  pub closed : IsClosed x (view (rules_let x) (filled s))

pub both_show : (x : Ctx) (s t : Document) → LookAlike x s t → (table : List ℕ) (v : ViewTable) → is_metadata_id table ≡ false → find_id shown_table_id table (view (rules_let x) (filled s)) ≡ Some v → ShowAlike x (filled s) (filled t) v
both_show x s t alike table v apart there = record {
  seen = seen_table x s alike.whole table v apart there;
  other = seen_table x t alike.other table v apart (ap (find_id shown_table_id table) (sym alike.views) ∙ there);
  closed = alike.closed;
}

-- a table that is none of the schema nor of the access rules
pub none_of_own : (table : List ℕ) → is_schema_id table ≡ false → is_acl_id table ≡ false → is_metadata_id table ≡ false
none_of_own table schema acl = ap (λ b. b || is_acl_id table) schema ∙ acl

-- ---- objections that do not apply

pub applies_not : (b : Bool) (this : Refusal) (next : Option Refusal) → against b this next ≡ None → (b ≡ false) × (next ≡ None)
applies_not true this next h = absurd (cc)
applies_not false this next h = (refl, h)

holds : (b : Bool) (this : Refusal) (next : Option Refusal) → against (not b) this next ≡ None → (b ≡ true) × (next ≡ None)
holds true this next h = (refl, h)
holds false this next h = absurd (cc)

-- a table that a record action may name
pub record IsNamed (v : List ViewTable) (table : List ℕ) (rest : ViewTable → Option Refusal) : Type 0 where
  pub outside : is_schema_id table ≡ false
  pub its : ViewTable
  pub found : find_id shown_table_id table v ≡ Some its
  pub unopposed : rest its ≡ None

pub named_table : (v : List ViewTable) (table : List ℕ) (rest : ViewTable → Option Refusal) → in_records v table rest ≡ None → IsNamed v table rest
named_table v table rest h =
    let first = applies_not (is_schema_id table) refusal.MetaTable (in_table v table rest) h in
    elim (find_id shown_table_id table v) as (λ (o : Option ViewTable). find_id shown_table_id table v ≡ o → elim o as (λ _. Option Refusal) [ None ↦ Some refusal.NoSuchTable | Some w ↦ rest w ] ≡ None → IsNamed v table rest) [
      | None ↦ λ is e. absurd (cc)
      | Some w ↦ λ is e. record { outside = first.0; its = w; found = is; unopposed = e }
    ] refl first.1

-- ---- rows

row_shown : (rows : List ℕ) (n : ℤ) → is_row rows n ≡ true → has rows (unwrap_or (row_number n) 0) ≡ true
row_shown rows n h =
    elim (row_number n) as (λ (o : Option ℕ). elim o as (λ _. Bool) [ None ↦ false | Some r ↦ has rows r ] ≡ true → has rows (unwrap_or o 0) ≡ true) [
      | None ↦ λ no. absurd (cc)
      | Some r ↦ λ here. here
    ] h

all_shown : (rows : List ℕ) (ns : List ℤ) → list_all (is_row rows) ns ≡ true → list_all (has rows) (row_ids ns) ≡ true
all_shown rows [] h = refl
all_shown rows (n ∷ ns) h =
    let parts = and_parts (is_row rows n) (list_all (is_row rows) ns) h in
    both_true (has rows (unwrap_or (row_number n) 0)) (list_all (has rows) (row_ids ns)) (row_shown rows n parts.0) (all_shown rows ns parts.1)

-- rows that are named are shown, and nothing behind them applies
pub rows_named : (v : ViewTable) (ns : List ℤ) (next : Option Refusal) → on_rows v ns next ≡ None → AreShown v (row_ids ns) × (next ≡ None)
rows_named v ns next h =
    let once = applies_not (not (have_no_duplicates ns)) refusal.DuplicateRow (against (not (list_all (is_row v.rows) ns)) refusal.NoSuchRow next) h in
    let there = holds (list_all (is_row v.rows) ns) refusal.NoSuchRow next once.1 in
    (all_shown v.rows ns there.0, there.1)

-- ---- columns

fitted_shown : (v : ViewTable) (g : Grid ColDef) (ks : List UserColumn) → list_all (is_shown v.columns) ks ≡ true → AreShownColumns v (map (fitted g) ks)
fitted_shown v g [] h = refl
fitted_shown v g (k ∷ ks) h =
    let parts = and_parts (is_shown v.columns k) (list_all (is_shown v.columns) ks) h in
    both_true (has_id shown_id v.columns k.id) (list_all (λ (l : CellColumn). has_id shown_id v.columns l.id) (map (fitted g) ks)) parts.0 (fitted_shown v g ks parts.1)

-- columns that are given are shown, however their values are fitted
pub columns_named : (v : ViewTable) (g : Grid ColDef) (ks : List UserColumn) (next : Option Refusal) → on_columns v ks next ≡ None → AreShownColumns v (map (fitted g) ks)
columns_named v g ks next h =
    fitted_shown v g ks (holds (list_all (is_shown v.columns) ks) refusal.NoSuchColumn (against (list_any (is_computed v.columns) ks) refusal.FormulaColumn next) h).0
