-- What stands against a user action rests on the tables and the rows that it asks for.
use Rattle.std.proofs.Common.{ℕ, zero, suc, ℤ, Bool, true, false, not, ◌||◌, ◌&&◌, eqb, List, [], ◌∷◌, map, filter, length, ◌≡◌, refl, sym, ap, ◌∙◌, Option, Some, None, option_map, unwrap_or}
use Rattle.std.proofs.lemmas.Bool.{or_right}
use Rattle.std.proofs.lemmas.Slice.Eq.{bytes_eq-Decides}
use Rattle.std.specs.List.{list_all}
use Rattle.std.specs.Str.{bytes_eq}
use Rattle.cell_types.specs.declared.value.CellValue.{CellValue}
use Rattle.cell_types.specs.Conversion.{fit}
use Rattle.cell_types.specs.Reference.{row_number}
use Rattle.doc_model.specs.declared.user_action.UserAction.{UserAction}
use Rattle.doc_model.specs.declared.user_action.UserAction.TheVariants.{Add, Update, Remove, AddTable, RemoveTable, RenameTable, AddColumn, RemoveColumn, RenameColumn, ModifyColumn}
use Rattle.doc_model.specs.declared.user_action.UserColumn.{UserColumn}
use Rattle.doc_model.specs.declared.view.ViewTable.{ViewTable}
use Rattle.doc_model.specs.ByIds.{find_id}
use Rattle.doc_model.specs.Changes.{grid, shown_table_id}
use Rattle.doc_model.specs.MetadataIds.{resources_id, rules_id}
use Rattle.doc_model.specs.Rows.{has}
use Rattle.doc_model.proofs.ByIdsLaws.{found_id}
use Rattle.doc_model.proofs.RowsLaws.{number_itself, has-filter}
use Rattle.doc_model.proofs.WholeLaws.{resources_rules_apart}
use Rattle.doc_model.specs.declared.refusal.Refusal.{Refusal}
use Rattle.doc_model.specs.declared.refusal.Refusal.TheVariants as refusal
use Rattle.plain_view.specs.PartsOfViews.{passing}
use Rattle.plain_view.proofs.PartLemmas.{find-mapped}
use Rattle.plain_view.proofs.PartLemmasCells.{cell_passed}
use Rattle.user_actions.specs.Kinds.{table_of}
use Rattle.user_actions.specs.Given.{have_no_duplicates, is_row}
use Rattle.user_objections.specs.Objections.{against, in_records, in_schema, objection_to, on_columns, on_rows, on_rules, on_values, to_records, to_schema}
use Rattle.user_objections.specs.RuleRows.{cell_before, given_or, resource_rows, row_after, row_named, type_shown, value_given}
use Rattle.user_actions.specs.Steps.{row_ids}
use Rattle.user_objections.proofs.ObjectionLemmas.{in_records-same, in_schema-same, on_rules-same}
use Rattle.view_refusals.specs.Parts.{is_row_requested, rows_requested}

-- a table with the rows of it that an action asks for
abbrev cut : UserAction → ViewTable → ViewTable
cut a t = passing (is_row_requested a t.id) t

-- the table that it names is cut to the rows that it names
cut_named : (a : UserAction) (t : ViewTable) → bytes_eq t.id (table_of a) ≡ true → cut a t ≡ passing (has (rows_requested a)) t
cut_named a t is = ap (λ b. passing (λ r. not b || has (rows_requested a) r) t) is

-- ---- the rows that an action names

row_kept : (test : ℕ → Bool) (rows : List ℕ) (n : ℤ) → ((r : ℕ) → row_number n ≡ Some r → test r ≡ true) → is_row (filter test rows) n ≡ is_row rows n
row_kept test rows n named =
    elim (row_number n) as (λ (o : Option ℕ). row_number n ≡ o → elim o as (λ _. Bool) [ None ↦ false | Some r ↦ has (filter test rows) r ] ≡ elim o as (λ _. Bool) [ None ↦ false | Some r ↦ has rows r ]) [
      | None ↦ λ _. refl
      | Some r ↦ λ is. has-filter test rows r ∙ ap (λ b. b && has rows r) (named r is)
    ] refl

rows_kept : (test : ℕ → Bool) (rows : List ℕ) (ns : List ℤ) → ((r : ℕ) → has (row_ids ns) r ≡ true → test r ≡ true) → list_all (is_row (filter test rows)) ns ≡ list_all (is_row rows) ns
rows_kept test rows [] named = refl
rows_kept test rows (n ∷ ns) named =
    ap (λ b. b && list_all (is_row (filter test rows)) ns) (row_kept test rows n (λ r is. named r
    (ap (λ (o : Option ℕ). eqb (unwrap_or o 0) r || has (row_ids ns) r) is ∙ ap (λ b. b || has (row_ids ns) r) (number_itself r))))
    ∙ ap (λ b. is_row rows n && b) (rows_kept test rows ns (λ r here. named r (or_right (eqb (unwrap_or (row_number n) 0) r) (has (row_ids ns) r) here)))

on_rows-passing : (t : ViewTable) (ns : List ℤ) (next : Option Refusal) → on_rows (passing (has (row_ids ns)) t) ns next ≡ on_rows t ns next
on_rows-passing t ns next =
    ap (λ b. against (not (have_no_duplicates ns)) refusal.DuplicateRow (against (not b) refusal.NoSuchRow next)) (rows_kept (has (row_ids ns)) t.rows ns (λ r here. here))

-- ---- the rows that result

-- a row that is named at an index is one of those that are named
named_has : (ns : List ℤ) (n r : ℕ) → row_named ns n ≡ Some r → has (row_ids ns) r ≡ true
named_has [] n r h = absurd (cc)
named_has (m ∷ ns) zero r h = ap (λ (o : Option ℕ). eqb (unwrap_or o 0) r || has (row_ids ns) r) h ∙ ap (λ b. b || has (row_ids ns) r) (number_itself r)
named_has (m ∷ ns) (suc n) r h = or_right (eqb (unwrap_or (row_number m) 0) r) (has (row_ids ns) r) (named_has ns n r h)

before_passing : (test : ℕ → Bool) (t : ViewTable) (o : Option ℕ) → ((r : ℕ) → o ≡ Some r → test r ≡ true) → (column : List ℕ) → cell_before (passing test t) o column ≡ cell_before t o column
before_passing test t None passes column = refl
before_passing test t (Some r) passes column = cell_passed test (grid t) column r (passes r refl)

given_same : (t : ViewTable) (ks : List UserColumn) (n : ℕ) (before kept : List ℕ → CellValue) (column : List ℕ) → kept column ≡ before column → given_or t ks n kept column ≡ given_or t ks n before column
given_same t ks n before kept column same =
    elim (value_given ks n column) as (λ (o : Option CellValue). elim o as (λ _. CellValue) [ None ↦ kept column | Some v ↦ fit (type_shown t column) v ] ≡ elim o as (λ _. CellValue) [ None ↦ before column | Some v ↦ fit (type_shown t column) v ]) [
      | None ↦ same
      | Some v ↦ refl
    ]

after_passing : (t : ViewTable) (ks : List UserColumn) (ns : List ℤ) (n : ℕ) (column : List ℕ) → row_after (passing (has (row_ids ns)) t) ks ns n column ≡ row_after t ks ns n column
after_passing t ks ns n column =
    given_same t ks n (cell_before t (row_named ns n)) (cell_before (passing (has (row_ids ns)) t) (row_named ns n)) column
    (before_passing (has (row_ids ns)) t (row_named ns n) (λ r is. named_has ns n r is) column)

-- ---- the tables that it asks for

pub every_row : (rows : List ℕ) → filter (λ r. true) rows ≡ rows
every_row [] = refl
every_row (r ∷ rows) = ap (λ l. r ∷ l) (every_row rows)

-- all rows of the resources are there
module _ (a : UserAction) (rules : table_of a ≡ rules_id) where
  cut_resources : (t : ViewTable) → t.id ≡ resources_id → (cut a t).rows ≡ t.rows
  cut_resources t is =
      ap (λ b. filter (λ r. not b || has (rows_requested a) r) t.rows) (ap (λ id. bytes_eq id (table_of a)) is ∙ ap (bytes_eq resources_id) rules ∙ resources_rules_apart)
      ∙ every_row t.rows

  rows_cut : (v : List ViewTable) → resource_rows (map (cut a) v) ≡ resource_rows v
  rows_cut v =
      ap (λ (o : Option ViewTable). elim o as (λ _. List ℕ) [ None ↦ [] | Some t ↦ t.rows ]) (find-mapped shown_table_id shown_table_id (cut a) (λ t. refl) resources_id v)
      ∙ elim (find_id shown_table_id resources_id v) as (λ (o : Option ViewTable). find_id shown_table_id resources_id v ≡ o
      → elim (option_map (cut a) o) as (λ _. List ℕ) [ None ↦ [] | Some t ↦ t.rows ] ≡ elim o as (λ _. List ℕ) [ None ↦ [] | Some t ↦ t.rows ]) [
        | None ↦ λ _. refl
        | Some t ↦ λ is. cut_resources t (found_id shown_table_id resources_id v t is)
      ] refl

module _ (v : List ViewTable) (a : UserAction) where
  abbrev part : List ViewTable
  part = map (cut a) v

  found_part : find_id shown_table_id (table_of a) part ≡ option_map (cut a) (find_id shown_table_id (table_of a) v)
  found_part = find-mapped shown_table_id shown_table_id (cut a) (λ t. refl) (table_of a) v

  -- what is asked of the table with the rows that the action names
  records_part : ((t : ViewTable) → t.id ≡ table_of a → to_records part (passing (has (rows_requested a)) t) a ≡ to_records v t a)
      → in_records part (table_of a) (λ t. to_records part t a) ≡ in_records v (table_of a) (λ t. to_records v t a)
  records_part same =
      in_records-same v part (table_of a) (λ t. to_records v t a) (λ t. to_records part t a) (cut a) found_part
      (λ t is.
      let named : t.id ≡ table_of a = found_id shown_table_id (table_of a) v t is in
      ap (λ u. to_records part u a) (cut_named a t ((bytes_eq-Decides t.id (table_of a)).1 named)) ∙ same t named)

  schema_part : ((t : ViewTable) → to_schema (cut a t) a ≡ to_schema t a) → in_schema part (table_of a) (λ t. to_schema t a) ≡ in_schema v (table_of a) (λ t. to_schema t a)
  schema_part same = in_schema-same v part (table_of a) (λ t. to_schema t a) (λ t. to_schema t a) (cut a) found_part (λ t is. same t)

  resources_part : (t : ViewTable) → t.id ≡ table_of a → bytes_eq rules_id t.id ≡ true → resource_rows part ≡ resource_rows v
  resources_part t named is = rows_cut a (sym named ∙ sym ((bytes_eq-Decides rules_id t.id).0 is)) v

pub objection_to-cut : (v : List ViewTable) (a : UserAction) → objection_to (map (cut a) v) a ≡ objection_to v a
objection_to-cut v (Add table single count has_row_ids ks) =
    let a : UserAction = Add table single count has_row_ids ks in
    records_part v a (λ t named. ap (λ o. on_columns t ks (against has_row_ids refusal.BadValue (on_values ks o)))
    (on_rules-same v (map (cut a) v) t (passing (has []) t) ks [] count refl (resources_part v a t named) (λ n column. refl)))
objection_to-cut v (Update table single rows ks) =
    let a : UserAction = Update table single rows ks in
    records_part v a (λ t named.
    on_rows-passing t rows (on_columns t ks (on_values ks (on_rules (map (cut a) v) (passing (has (row_ids rows)) t) ks rows (length rows))))
    ∙ ap (λ o. on_rows t rows (on_columns t ks (on_values ks o)))
    (on_rules-same v (map (cut a) v) t (passing (has (row_ids rows)) t) ks rows (length rows) refl (resources_part v a t named) (after_passing t ks rows)))
objection_to-cut v (Remove table single rows) =
    records_part v (Remove table single rows) (λ t named. on_rows-passing t rows None)
objection_to-cut v (AddTable table cs) = refl
objection_to-cut v (RemoveTable table) = schema_part v (RemoveTable table) (λ t. refl)
objection_to-cut v (RenameTable table new) = schema_part v (RenameTable table new) (λ t. refl)
objection_to-cut v (AddColumn table c) = schema_part v (AddColumn table c) (λ t. refl)
objection_to-cut v (RemoveColumn table column) = schema_part v (RemoveColumn table column) (λ t. refl)
objection_to-cut v (RenameColumn table column new) = schema_part v (RenameColumn table column new) (λ t. refl)
objection_to-cut v (ModifyColumn table c) = schema_part v (ModifyColumn table c) (λ t. refl)
