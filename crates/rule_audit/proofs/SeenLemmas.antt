-- What a view tells of the cells of open columns.
use Rattle.std.proofs.Common.{◌≡◌, ◌∙◌, ap, refl, subst, sym, ℕ, Bool, true, false, cond, ◌&&◌, ◌||◌, List, [], ◌∷◌, filter, map, Option, Some, None, bytes_eq, unwrap_or}
use Rattle.std.specs.List.{list_any}
use Rattle.std.proofs.lemmas.Bool.{and_parts, or_parts}
use Rattle.std.proofs.lemmas.Slice.Eq.{bytes_eq-Decides}
use Rattle.cell_types.specs.declared.value.CellValue.{CellValue}
use Rattle.cell_types.specs.declared.value.CellValue.TheVariants.{Null, Censored}
use Rattle.doc_model.specs.declared.column.ColDef.{ColDef}
use Rattle.doc_model.specs.declared.view.ViewCol.{ViewCol}
use Rattle.doc_model.specs.declared.view.ViewTable.{ViewTable}
use Rattle.doc_model.specs.ByIds.{find_id, has_id}
use Rattle.doc_model.specs.Changes.{grid, shown_table_id}
use Rattle.doc_model.specs.Column.{column_id}
use Rattle.doc_model.specs.Document.{Document, Table, table_id}
use Rattle.doc_model.specs.Grid.{Grid, cell}
use Rattle.doc_model.specs.MetadataIds.{is_acl_id, is_metadata_id, is_schema_id}
use Rattle.doc_model.specs.Rows.{has}
use Rattle.doc_model.specs.Schema.{no_grid}
use Rattle.doc_model.specs.ViewEdits.{shown_id}
use Rattle.doc_model.proofs.ByIdsLaws.{found_has, found_id, has_id-by_id, has_id-map}
use Rattle.doc_model.proofs.GridLaws.{cell-grid_of}
use Rattle.doc_model.proofs.RowsLaws.{has-filter}
use Rattle.doc_readers.specs.Parts.{grid_at}
use Rattle.acl_formula.specs.RuleRow.{RuleRow}
use Rattle.acl_rules.specs.declared.decision.Ctx.{Ctx}
use Rattle.acl_reading.specs.RulesLet.{is_owner, rules_let, shown_of as let_of}
use Rattle.censored_view.specs.Readable.{Readable, hidden, row_of, whole}
use Rattle.censored_view.specs.View.{is_row_shown, is_shown, shown_column, shown_columns, shown_rows, shown_value, view}
use Rattle.censored_view.proofs.ShownRows.{its_cell, its_columns, its_grid, its_rows, shown_grid}
use Rattle.censored_view.proofs.ViewLemmas.{find-view, seen_whole}
use Rattle.rule_audit.specs.Open.{is_open, open_columns}
use Rattle.rule_audit.specs.SeenLaws.{IsSeen, RowsLaw, SeenLaw}
use Rattle.rule_audit.proofs.OpenLemmas.{open_read}

-- ---- tables that are none of the document's own

plain_lets : (x : Ctx) (t : List ℕ) → is_metadata_id t ≡ false → rules_let x t ≡ let_of x t
plain_lets x t plain =
    let both : (is_schema_id t ≡ false) × (is_acl_id t ≡ false) = or_parts (is_schema_id t) (is_acl_id t) plain in
    ap (λ (b : Bool). cond b hidden (cond (is_acl_id t) (cond (is_owner x) whole hidden) (let_of x t))) both.0
    ∙ ap (λ (b : Bool). cond b (cond (is_owner x) whole hidden) (let_of x t)) both.1

-- ---- open columns

or_true : (b : Bool) → (b || true) ≡ true
or_true true = refl
or_true false = refl

module _ (x : Ctx) (t : List ℕ) (c : List ℕ) where
  abbrev OpenIn : List ViewCol → Bool
  OpenIn ds = has_id shown_id (filter (λ (d : ViewCol). is_open x t d.id) ds) c

  -- an open column is a column, and open
  pub open_parts : (ds : List ViewCol) → OpenIn ds ≡ true → (has_id shown_id ds c ≡ true) × (is_open x t c ≡ true)
  open_parts [] h = absurd (cc)
  open_parts (d ∷ ds) h =
      elim (is_open x t d.id) as (λ b. is_open x t d.id ≡ b → has_id shown_id (cond b (d ∷ filter (λ (d : ViewCol). is_open x t d.id) ds) (filter (λ (d : ViewCol). is_open x t d.id) ds)) c ≡ true → (has_id shown_id (d ∷ ds) c ≡ true) × (is_open x t c ≡ true)) [
        | true ↦ λ is h. elim (bytes_eq d.id c) as (λ e. bytes_eq d.id c ≡ e → (e || OpenIn ds) ≡ true → ((e || has_id shown_id ds c) ≡ true) × (is_open x t c ≡ true)) [
          | true ↦ λ same h. (refl, ap (is_open x t) (sym ((bytes_eq-Decides d.id c).0 same)) ∙ is)
          | false ↦ λ apart h. open_parts ds h
        ] refl h
        | false ↦ λ isnt h. let rest = open_parts ds h in (ap (λ b. bytes_eq d.id c || b) rest.0 ∙ or_true (bytes_eq d.id c), rest.1)
      ] refl h

-- what passes a test is there
filter_has : (p : ColDef → Bool) (ds : List ColDef) (c : List ℕ) → has_id column_id (filter p ds) c ≡ true → has_id column_id ds c ≡ true
filter_has p [] c h = h
filter_has p (d ∷ ds) c h =
    elim (p d) as (λ b. has_id column_id (cond b (d ∷ filter p ds) (filter p ds)) c ≡ true → has_id column_id (d ∷ ds) c ≡ true) [
      | true ↦ λ h. elim (bytes_eq d.id c) as (λ e. (e || has_id column_id (filter p ds) c) ≡ true → (e || has_id column_id ds c) ≡ true) [ true ↦ λ h. refl | false ↦ λ h. filter_has p ds c h ] h
      | false ↦ λ h. ap (λ b. bytes_eq d.id c || b) (filter_has p ds c h) ∙ or_true (bytes_eq d.id c)
    ] h

any_found : (f : List ℕ → Bool) (c : List ℕ) (ds : List ViewCol) (d : ViewCol) → find_id shown_id c ds ≡ Some d → f d.id ≡ true → list_any (λ (e : ViewCol). f e.id) ds ≡ true
any_found f c [] d e h = absurd (cc)
any_found f c (y ∷ ds) d e h =
    elim (bytes_eq y.id c) as (λ b. cond b (Some y) (find_id shown_id c ds) ≡ Some d → (f y.id || list_any (λ (e : ViewCol). f e.id) ds) ≡ true) [
      | true ↦ λ e. let same : y ≡ d = cc in ap (λ b. b || list_any (λ (e : ViewCol). f e.id) ds) (ap (λ (z : ViewCol). f z.id) same ∙ h)
      | false ↦ λ e. ap (λ b. f y.id || b) (any_found f c ds d e h) ∙ or_true (f y.id)
    ] e

-- a row that may be read in a shown column is shown
row_read : (q : Readable) (row : RuleRow) (c : List ℕ) (ds : List ViewCol) (d : ViewCol) → find_id shown_id c ds ≡ Some d → q.cell (Some d.id) row ≡ true → is_row_shown q ds row ≡ true
row_read q row c [] d e h = absurd (cc)
row_read q row c (y ∷ ds) d e h = any_found (λ n. q.cell (Some n) row) c (y ∷ ds) d e h

-- ---- a table of the view

-- what is seen of a table that may be there
of_table : (q : Readable) (t : List ℕ) (o : Option Table) (v : ViewTable) → seen_whole q t o ≡ Some v
    → v ≡ shown_rows q t (shown_columns q (elim o as (λ _. Grid ColDef) [ None ↦ no_grid | Some u ↦ u.grid ]).columns)
    (map (row_of (elim o as (λ _. Grid ColDef) [ None ↦ no_grid | Some u ↦ u.grid ])) (elim o as (λ _. Grid ColDef) [ None ↦ no_grid | Some u ↦ u.grid ]).rows)
of_table q t None v e = absurd (cc)
of_table q t (Some u) v e =
    elim (is_shown q u.grid.columns) as (λ b. cond b (Some (shown_rows q t (shown_columns q u.grid.columns) (map (row_of u.grid) u.grid.rows))) None ≡ Some v → v ≡ shown_rows q t (shown_columns q u.grid.columns) (map (row_of u.grid) u.grid.rows)) [
      | true ↦ λ e. let same : shown_rows q t (shown_columns q u.grid.columns) (map (row_of u.grid) u.grid.rows) ≡ v = cc in sym same
      | false ↦ λ e. absurd (cc)
    ] e

module _ (x : Ctx) (s : Document) (v : ViewTable) (seen : IsSeen x s v) where
  abbrev its : Grid ColDef
  its = grid_at s v.id

  abbrev lets : Readable
  lets = rules_let x v.id

  shape : grid v ≡ its_grid lets its its.rows
  shape =
      ap grid (of_table lets v.id (find_id table_id v.id s) v (sym (find-view (rules_let x) s seen.laid_out v.id) ∙ seen.found))
      ∙ shown_grid lets its its.rows v.id

  columns_are : v.columns ≡ its_columns lets its its.rows
  columns_are = ap (λ (h : Grid ViewCol). h.columns) shape

  rows_are : v.rows ≡ its_rows lets its its.rows
  rows_are = ap (λ (h : Grid ViewCol). h.rows) shape

  module _ (c : List ℕ) (opened : has_id shown_id (open_columns x v) c ≡ true) where
    parts : (has_id shown_id v.columns c ≡ true) × (is_open x v.id c ≡ true)
    parts = open_parts x v.id c v.columns opened

    may_read : (row : RuleRow) → lets.cell (Some c) row ≡ true
    may_read row = ap (λ (q : Readable). q.cell (Some c) row) (plain_lets x v.id seen.plain) ∙ open_read x v.id c row parts.1

    there : (d : ViewCol) × (find_id shown_id c (its_columns lets its its.rows) ≡ Some d)
    there = found_has shown_id c (its_columns lets its its.rows) (ap (λ ds. has_id shown_id ds c) (sym columns_are) ∙ parts.0)

    named : shown_id there.0 ≡ c
    named = found_id shown_id c (its_columns lets its its.rows) there.0 there.1

    reads_there : (row : RuleRow) → lets.cell (Some there.0.id) row ≡ true
    reads_there row = ap (λ n. lets.cell (Some n) row) named ∙ may_read row

    all_shown : (r : ℕ) → is_row_shown lets (its_columns lets its its.rows) (row_of its r) ≡ true
    all_shown r = row_read lets (row_of its r) c (its_columns lets its its.rows) there.0 there.1 (reads_there (row_of its r))

    all_rows : (r : ℕ) → has (its_rows lets its its.rows) r ≡ has its.rows r
    all_rows r = has-filter (λ r. is_row_shown lets (its_columns lets its its.rows) (row_of its r)) its.rows r ∙ ap (λ b. b && has its.rows r) (all_shown r)

    pub rows_told : (r : ℕ) → has v.rows r ≡ has its.rows r
    rows_told r = ap (λ rs. has rs r) rows_are ∙ all_rows r

    -- the document has the column
    has_column : has_id column_id its.columns c ≡ true
    has_column =
        let kept : List ColDef = filter (λ (d : ColDef). lets.column d.id) its.columns in
        filter_has (λ (d : ColDef). lets.column d.id) its.columns c
        (sym (has_id-map shown_id (shown_column lets) kept c)
        ∙ sym (has_id-by_id shown_id (map (shown_column lets) kept) c)
        ∙ ap (λ ds. has_id shown_id ds c) (sym columns_are)
        ∙ parts.0)

    module _ (r : ℕ) (here : has its.rows r ≡ true) where
      held : (row_of its r).cell c ≡ Some (cell column_id its c r)
      held =
          ap (λ b. cond (b && has its.rows r) (Some (cell column_id its c r)) None) has_column
          ∙ ap (λ b. cond b (Some (cell column_id its c r)) None) here

      -- the cell of the view is that of the row
      told : cell shown_id (grid v) c r ≡ cell column_id its c r
      told =
          ap (λ h. cell shown_id h c r) shape
          ∙ ap (λ n. cell shown_id (its_grid lets its its.rows) n r) (sym named)
          ∙ cell-grid_of shown_id (its_columns lets its its.rows) (its_rows lets its its.rows) (its_cell lets its its.rows) there.0 r
          (ap (λ n. find_id shown_id n (its_columns lets its its.rows)) named ∙ there.1) (all_rows r ∙ here)
          ∙ ap (λ b. cond b (unwrap_or ((row_of its r).cell there.0.id) Null) Censored) (reads_there (row_of its r))
          ∙ ap (λ n. unwrap_or ((row_of its r).cell n) Null) named
          ∙ ap (λ o. unwrap_or o Null) held

      pub cell_told : (row_of its r).cell c ≡ Some (cell shown_id (grid v) c r)
      cell_told = held ∙ ap (λ w. let o : Option CellValue = Some w in o) (sym told)

pub seen_cells : SeenLaw
seen_cells x s v c r seen opened here = cell_told x s v seen c opened r here

pub seen_rows : RowsLaw
seen_rows x s v c r seen opened = rows_told x s v seen c opened r
