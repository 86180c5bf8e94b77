-- What nothing stands against is allowed.
use Rattle.std.proofs.Common.{ℕ, ℤ, Bool, true, false, cond, not, ◌&&◌, ◌||◌, eqb, List, [], ◌∷◌, length, ◌≡◌, refl, sym, ap, ◌∙◌, Option, Some, None}
use Rattle.std.proofs.lemmas.Bool.{and_parts, or_parts, eqb-true, true≢false, false≢true}
use Rattle.std.specs.List.{list_all, list_any, AllByRecursion}
use Rattle.std.specs.Option.{is_some}
use Rattle.cell_types.specs.NameRule.{is_name}
use Rattle.cell_types.specs.Reference.{row_number}
use Rattle.doc_model.specs.declared.column.ColDef.{ColDef}
use Rattle.doc_model.specs.declared.user_action.UserAction.TheVariants.{Add, Update, Remove, AddTable, RemoveTable, RenameTable, AddColumn, RemoveColumn, RenameColumn, ModifyColumn}
use Rattle.doc_model.specs.declared.user_action.UserCol.{UserCol}
use Rattle.doc_model.specs.declared.user_action.UserColumn.{UserColumn}
use Rattle.doc_model.specs.declared.view.ViewCol.{ViewCol}
use Rattle.doc_model.specs.declared.view.ViewTable.{ViewTable}
use Rattle.doc_model.specs.ByIds.{find_id, has_id}
use Rattle.doc_model.specs.Changes.{shown_table_id}
use Rattle.doc_model.specs.Column.{column_id}
use Rattle.doc_model.specs.Document.{Table, Document, table_id}
use Rattle.doc_model.specs.MetadataIds.{is_schema_id, is_acl_id, is_metadata_id}
use Rattle.doc_model.specs.Rows.{all_in, has}
use Rattle.doc_model.specs.Valid.{is_data, passes, record_table, schema_table}
use Rattle.doc_model.specs.ViewEdits.{shown_id}
use Rattle.doc_model.proofs.ByIdsLaws.{found_all, found_id, has_found, has_id-find}
use Rattle.doc_model.proofs.Choices.{both_true}
use Rattle.doc_model.specs.declared.refusal.Refusal.{Refusal}
use Rattle.doc_model.specs.declared.refusal.Refusal.TheVariants as refusal
use Rattle.user_actions.specs.Allowed.{may_give, may_name}
use Rattle.user_actions.specs.Columns.{may_be_new, may_become}
use Rattle.user_actions.specs.Given.{have_no_duplicates, has_base, has_good_id, is_row}
use Rattle.user_objections.specs.Objections.{against, in_records, in_schema, in_table, is_computed, is_shown, on_change, on_columns, on_rows, on_rules, on_values, to_records, to_schema}
use Rattle.user_objections.specs.Unopposed.{IsColumnOf, IsTableOf, UnopposedLaw}

-- nothing applies
against_none : (b : Bool) (o : Refusal) (next : Option Refusal) → against b o next ≡ None → (b ≡ false) × (next ≡ None)
against_none true o next h = absurd (cc)
against_none false o next h = (refl, h)

lone_false : (b : Bool) (o : Refusal) → against b o None ≡ None → b ≡ false
lone_false true o h = absurd (cc)
lone_false false o h = refl

lone_none : (b : Bool) (o : Refusal) → against (not b) o None ≡ None → b ≡ true
lone_none true o h = refl
lone_none false o h = absurd (cc)

needs_none : (b : Bool) (o : Refusal) (next : Option Refusal) → against (not b) o next ≡ None → (b ≡ true) × (next ≡ None)
needs_none true o next h = (refl, h)
needs_none false o next h = absurd (cc)

-- the table is in the view
table_none : (v : List ViewTable) (table : List ℕ) (rest : ViewTable → Option Refusal) → in_table v table rest ≡ None → (t : ViewTable) × (find_id shown_table_id table v ≡ Some t) × (rest t ≡ None)
table_none v table rest h =
    elim (find_id shown_table_id table v) as (λ (o : Option ViewTable). find_id shown_table_id table v ≡ o → elim o as (λ _. Option Refusal) [ None ↦ Some refusal.NoSuchTable | Some t ↦ rest t ] ≡ None
    → (t : ViewTable) × (find_id shown_table_id table v ≡ Some t) × (rest t ≡ None)) [
      | None ↦ λ is e. absurd (cc)
      | Some t ↦ λ is e. (t, is, e)
    ] refl h

-- and so in the document
module _ (s : Document) (v : List ViewTable) (shown : AllByRecursion (IsTableOf s) v) (table : List ℕ) (left_out : Bool) (plain : left_out ≡ false) where
  there : (t : ViewTable) → find_id shown_table_id table v ≡ Some t → (test : Table → Bool) → ((p : IsTableOf s t) → test p.table ≡ true) → passes (cond left_out None (find_id table_id table s)) test ≡ true
  there t found test holds =
      let p : IsTableOf s t = found_all shown_table_id (IsTableOf s) table v t shown found in
      let known : find_id table_id table s ≡ Some p.table = ap (λ id. find_id table_id id s) (sym (found_id shown_table_id table v t found)) ∙ p.found in
      ap (λ b. passes (cond b None (find_id table_id table s)) test) plain ∙ ap (λ o. passes o test) known ∙ holds p

schema_none : (s : Document) (v : List ViewTable) → AllByRecursion (IsTableOf s) v → (table : List ℕ) (rest : ViewTable → Option Refusal) (test : Table → Bool)
    → ((t : ViewTable) (p : IsTableOf s t) → rest t ≡ None → test p.table ≡ true) → in_schema v table rest ≡ None → passes (schema_table s table) test ≡ true
schema_none s v shown table rest test holds h =
    let a : (is_metadata_id table ≡ false) × (in_table v table rest ≡ None) = against_none (is_metadata_id table) refusal.MetaTable (in_table v table rest) h in
    let t : (t : ViewTable) × (find_id shown_table_id table v ≡ Some t) × (rest t ≡ None) = table_none v table rest a.1 in
    there s v shown table (is_metadata_id table) a.0 t.0 t.1 test (λ p. holds t.0 p t.2)

records_none : (s : Document) (v : List ViewTable) → AllByRecursion (IsTableOf s) v → (table : List ℕ) (rest : ViewTable → Option Refusal) (test : Table → Bool)
    → ((t : ViewTable) (p : IsTableOf s t) → rest t ≡ None → test p.table ≡ true) → in_records v table rest ≡ None → passes (record_table s table) test ≡ true
records_none s v shown table rest test holds h =
    let a : (is_schema_id table ≡ false) × (in_table v table rest ≡ None) = against_none (is_schema_id table) refusal.MetaTable (in_table v table rest) h in
    let t : (t : ViewTable) × (find_id shown_table_id table v ≡ Some t) × (rest t ≡ None) = table_none v table rest a.1 in
    there s v shown table (is_schema_id table) a.0 t.0 t.1 test (λ p. holds t.0 p t.2)

-- a column of the view is in the table
module _ (tab : Table) (columns : List ViewCol) (shown : AllByRecursion (IsColumnOf tab) columns) where
  column_known : (c : List ℕ) → has_id shown_id columns c ≡ true → (k : ViewCol) × (find_id shown_id c columns ≡ Some k) × ((d : ColDef) × (find_id column_id c tab.grid.columns ≡ Some d) × (d.info.is_formula ≡ k.is_formula))
  column_known c h =
      elim (find_id shown_id c columns) as (λ (o : Option ViewCol). find_id shown_id c columns ≡ o → (k : ViewCol) × (find_id shown_id c columns ≡ Some k) × ((d : ColDef) × (find_id column_id c tab.grid.columns ≡ Some d) × (d.info.is_formula ≡ k.is_formula))) [
        | None ↦ λ none. absurd (true≢false (sym h ∙ has_id-find shown_id c columns ∙ ap is_some none))
        | Some k ↦ λ found.
            let p : IsColumnOf tab k = found_all shown_id (IsColumnOf tab) c columns k shown found in
            (k, found, (p.column, ap (λ id. find_id column_id id tab.grid.columns) (sym (found_id shown_id c columns k found)) ∙ p.found, p.same_kind))
      ] refl

  column_has : (c : List ℕ) → has_id shown_id columns c ≡ true → has_id column_id tab.grid.columns c ≡ true
  column_has c h = let k = column_known c h in has_found column_id c tab.grid.columns k.2.0 k.2.1

  column_data : (c : List ℕ) (k : ViewCol) → find_id shown_id c columns ≡ Some k → k.is_formula ≡ false → is_data tab.grid c ≡ true
  column_data c k found plain =
      let p : IsColumnOf tab k = found_all shown_id (IsColumnOf tab) c columns k shown found in
      let known : find_id column_id c tab.grid.columns ≡ Some p.column = ap (λ id. find_id column_id id tab.grid.columns) (sym (found_id shown_id c columns k found)) ∙ p.found in
      ap (λ o. passes o (λ d. not d.info.is_formula)) known ∙ ap not (p.same_kind ∙ plain)

  given_data : (k : UserColumn) → is_shown columns k ≡ true → is_computed columns k ≡ false → is_data tab.grid k.id ≡ true
  given_data k here plain =
      let c = column_known k.id here in
      column_data k.id c.0 c.1 (sym (ap (λ (o : Option ViewCol). elim o [ None ↦ false | Some d ↦ d.is_formula ]) c.1) ∙ plain)

  all_given : (ks : List UserColumn) → list_all (is_shown columns) ks ≡ true → list_any (is_computed columns) ks ≡ false → list_all has_base ks ≡ true → list_all (may_give tab.grid) ks ≡ true
  all_given [] a b c = refl
  all_given (k ∷ ks) a b c =
      let a2 : (is_shown columns k ≡ true) × (list_all (is_shown columns) ks ≡ true) = and_parts (is_shown columns k) (list_all (is_shown columns) ks) a in
      let b2 : (is_computed columns k ≡ false) × (list_any (is_computed columns) ks ≡ false) = or_parts (is_computed columns k) (list_any (is_computed columns) ks) b in
      let c2 : (has_base k ≡ true) × (list_all has_base ks ≡ true) = and_parts (has_base k) (list_all has_base ks) c in
      both_true (may_give tab.grid k) (list_all (may_give tab.grid) ks) (both_true (is_data tab.grid k.id) (has_base k) (given_data k a2.0 b2.0) c2.0) (all_given ks a2.1 b2.1 c2.1)

-- a row of the view is in the table
all_in_has : (qs rows : List ℕ) (r : ℕ) → all_in qs rows ≡ true → has qs r ≡ true → has rows r ≡ true
all_in_has [] rows r h here = absurd (false≢true here)
all_in_has (q ∷ qs) rows r h here =
    let p : (has rows q ≡ true) × (all_in qs rows ≡ true) = and_parts (has rows q) (all_in qs rows) h in
    elim (eqb q r) as (λ b. eqb q r ≡ b → (b || has qs r) ≡ true → has rows r ≡ true) [
      | true ↦ λ is _. ap (has rows) (sym (eqb-true q r is)) ∙ p.0
      | false ↦ λ _ rest. all_in_has qs rows r p.1 rest
    ] refl here

row_known : (shown rows : List ℕ) → all_in shown rows ≡ true → (n : ℤ) → is_row shown n ≡ true → is_row rows n ≡ true
row_known shown rows all n h =
    elim (row_number n) as (λ (o : Option ℕ). elim o as (λ _. Bool) [ None ↦ false | Some r ↦ has shown r ] ≡ true → elim o as (λ _. Bool) [ None ↦ false | Some r ↦ has rows r ] ≡ true) [
      | None ↦ λ no. absurd (false≢true no)
      | Some r ↦ λ here. all_in_has shown rows r all here
    ] h

rows_known : (shown rows : List ℕ) → all_in shown rows ≡ true → (ns : List ℤ) → list_all (is_row shown) ns ≡ true → list_all (is_row rows) ns ≡ true
rows_known shown rows all [] h = refl
rows_known shown rows all (n ∷ ns) h =
    let p : (is_row shown n ≡ true) × (list_all (is_row shown) ns ≡ true) = and_parts (is_row shown n) (list_all (is_row shown) ns) h in
    both_true (is_row rows n) (list_all (is_row rows) ns) (row_known shown rows all n p.0) (rows_known shown rows all ns p.1)

-- what the parts of objections ask
columns_none : (s : Document) (t : ViewTable) (p : IsTableOf s t) (ks : List UserColumn) (next : Option Refusal) → (next ≡ None → list_all has_base ks ≡ true) → on_columns t ks next ≡ None → list_all (may_give p.table.grid) ks ≡ true
columns_none s t p ks next base h =
    let a : (list_all (is_shown t.columns) ks ≡ true) × (against (list_any (is_computed t.columns) ks) refusal.FormulaColumn next ≡ None) = needs_none (list_all (is_shown t.columns) ks) refusal.NoSuchColumn (against (list_any (is_computed t.columns) ks) refusal.FormulaColumn next) h in
    let b : (list_any (is_computed t.columns) ks ≡ false) × (next ≡ None) = against_none (list_any (is_computed t.columns) ks) refusal.FormulaColumn next a.1 in
    all_given p.table t.columns p.columns ks a.0 b.0 (base b.1)

rows_none : (s : Document) (t : ViewTable) (p : IsTableOf s t) (rows : List ℤ) (next : Option Refusal) → on_rows t rows next ≡ None → (may_name p.table.grid.rows rows ≡ true) × (next ≡ None)
rows_none s t p rows next h =
    let a : (have_no_duplicates rows ≡ true) × (against (not (list_all (is_row t.rows) rows)) refusal.NoSuchRow next ≡ None) = needs_none (have_no_duplicates rows) refusal.DuplicateRow (against (not (list_all (is_row t.rows) rows)) refusal.NoSuchRow next) h in
    let b : (list_all (is_row t.rows) rows ≡ true) × (next ≡ None) = needs_none (list_all (is_row t.rows) rows) refusal.NoSuchRow next a.1 in
    (both_true (have_no_duplicates rows) (list_all (is_row p.table.grid.rows) rows) a.0 (rows_known t.rows p.table.grid.rows p.rows rows b.0), b.1)

values_none : (ks : List UserColumn) (next : Option Refusal) → on_values ks next ≡ None → list_all has_base ks ≡ true
values_none ks next h = (needs_none (list_all has_base ks) refusal.BadValue next h).0

change_none : (s : Document) (t : ViewTable) (p : IsTableOf s t) (c : UserCol) → on_change t c ≡ None → passes (find_id column_id c.id p.table.grid.columns) (λ d. may_become d.info.is_formula c) ≡ true
change_none s t p c h =
    elim (find_id shown_id c.id t.columns) as (λ (o : Option ViewCol). find_id shown_id c.id t.columns ≡ o → elim o as (λ _. Option Refusal) [ None ↦ Some refusal.NoSuchColumn | Some d ↦ against (not (may_become d.is_formula c)) refusal.BadValue None ] ≡ None
    → passes (find_id column_id c.id p.table.grid.columns) (λ d. may_become d.info.is_formula c) ≡ true) [
      | None ↦ λ is e. absurd (cc)
      | Some d ↦ λ found e.
          let q : IsColumnOf p.table d = found_all shown_id (IsColumnOf p.table) c.id t.columns d p.columns found in
          let known : find_id column_id c.id p.table.grid.columns ≡ Some q.column = ap (λ id. find_id column_id id p.table.grid.columns) (sym (found_id shown_id c.id t.columns d found)) ∙ q.found in
          ap (λ o. passes o (λ (d : ColDef). may_become d.info.is_formula c)) known ∙ ap (λ b. may_become b c) q.same_kind ∙ lone_none (may_become d.is_formula c) refusal.BadValue e
    ] refl h

pub is_allowed-unopposed : UnopposedLaw
is_allowed-unopposed s (Add table single count has_row_ids ks) u =
    records_none s u.view u.shown table (λ t. to_records u.view t (Add table single count has_row_ids ks)) (λ t. list_all (may_give t.grid) ks)
    (λ t p none.
    let next : Option Refusal = on_values ks (on_rules u.view t ks [] count) in
    columns_none s t p ks (against has_row_ids refusal.BadValue next) (λ n. values_none ks (on_rules u.view t ks [] count) (against_none has_row_ids refusal.BadValue next n).1) none) u.none
is_allowed-unopposed s (Update table single rows ks) u =
    records_none s u.view u.shown table (λ t. to_records u.view t (Update table single rows ks)) (λ t. may_name t.grid.rows rows && list_all (may_give t.grid) ks)
    (λ t p none.
    let rules : Option Refusal = on_rules u.view t ks rows (length rows) in
    let r : (may_name p.table.grid.rows rows ≡ true) × (on_columns t ks (on_values ks rules) ≡ None) = rows_none s t p rows (on_columns t ks (on_values ks rules)) none in
    both_true (may_name p.table.grid.rows rows) (list_all (may_give p.table.grid) ks) r.0 (columns_none s t p ks (on_values ks rules) (values_none ks rules) r.1)) u.none
is_allowed-unopposed s (Remove table single rows) u =
    records_none s u.view u.shown table (λ t. to_records u.view t (Remove table single rows)) (λ t. may_name t.grid.rows rows) (λ t p none. (rows_none s t p rows None none).0) u.none
is_allowed-unopposed s (AddTable table cs) u =
    let a : (is_metadata_id table ≡ false) × (against (not (is_name table && list_all has_good_id cs)) refusal.BadName (against (not (list_all may_be_new cs)) refusal.BadValue None) ≡ None) = against_none (is_metadata_id table) refusal.MetaTable (against (not (is_name table && list_all has_good_id cs)) refusal.BadName (against (not (list_all may_be_new cs)) refusal.BadValue None)) u.none in
    let b : ((is_name table && list_all has_good_id cs) ≡ true) × (against (not (list_all may_be_new cs)) refusal.BadValue None ≡ None) = needs_none (is_name table && list_all has_good_id cs) refusal.BadName (against (not (list_all may_be_new cs)) refusal.BadValue None) a.1 in
    both_true (is_name table && list_all has_good_id cs) (list_all may_be_new cs) b.0 (lone_none (list_all may_be_new cs) refusal.BadValue b.1)
is_allowed-unopposed s (RemoveTable table) u =
    schema_none s u.view u.shown table (λ t. to_schema t (RemoveTable table)) (λ t. true) (λ t p none. refl) u.none
is_allowed-unopposed s (RenameTable table new) u =
    schema_none s u.view u.shown table (λ t. to_schema t (RenameTable table new)) (λ t. is_name new) (λ t p none. lone_none (is_name new) refusal.BadName none) u.none
is_allowed-unopposed s (AddColumn table c) u =
    schema_none s u.view u.shown table (λ t. to_schema t (AddColumn table c)) (λ t. is_name c.id && may_be_new c)
    (λ t p none.
    let a : (is_name c.id ≡ true) × (against (not (may_be_new c)) refusal.BadValue None ≡ None) = needs_none (is_name c.id) refusal.BadName (against (not (may_be_new c)) refusal.BadValue None) none in
    both_true (is_name c.id) (may_be_new c) a.0 (lone_none (may_be_new c) refusal.BadValue a.1)) u.none
is_allowed-unopposed s (RemoveColumn table column) u =
    schema_none s u.view u.shown table (λ t. to_schema t (RemoveColumn table column)) (λ t. has_id column_id t.grid.columns column)
    (λ t p none. column_has p.table t.columns p.columns column (lone_none (has_id shown_id t.columns column) refusal.NoSuchColumn none)) u.none
is_allowed-unopposed s (RenameColumn table column new) u =
    schema_none s u.view u.shown table (λ t. to_schema t (RenameColumn table column new)) (λ t. has_id column_id t.grid.columns column && is_name new)
    (λ t p none.
    let a : (has_id shown_id t.columns column ≡ true) × (against (not (is_name new)) refusal.BadName None ≡ None) = needs_none (has_id shown_id t.columns column) refusal.NoSuchColumn (against (not (is_name new)) refusal.BadName None) none in
    both_true (has_id column_id p.table.grid.columns column) (is_name new) (column_has p.table t.columns p.columns column a.0) (lone_none (is_name new) refusal.BadName a.1)) u.none
is_allowed-unopposed s (ModifyColumn table c) u =
    schema_none s u.view u.shown table (λ t. to_schema t (ModifyColumn table c)) (λ t. passes (find_id column_id c.id t.grid.columns) (λ d. may_become d.info.is_formula c)) (λ t p none. change_none s t p c none) u.none
