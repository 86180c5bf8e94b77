-- What a document and what is kept of it tell of a cell.
use Rattle.std.proofs.Common.{ℕ, zero, suc, Bool, true, false, cond, ◌&&◌, List, [], ◌∷◌, slice_get, ◌≡◌, refl, sym, ap, ◌∙◌, Option, Some, None}
use Rattle.std.specs.Borrow.{Bor}
use Rattle.std.specs.Prelude.{map}
use Rattle.std.specs.Option.{is_some, option_copied}
use Rattle.cell_types.specs.declared.value.CellValue.{CellValue}
use Rattle.doc_model.specs.declared.column.ColDef.{ColDef}
use Rattle.doc_model.proofs.ByIdsLaws.{has_id-find}
use Rattle.doc_model.specs.ByIds.{find_id, has_id}
use Rattle.doc_model.specs.Column.{column_id}
use Rattle.doc_model.specs.Document.{Table, Document, table_id}
use Rattle.doc_model.specs.Grid.{Grid, cell}
use Rattle.doc_model.specs.Readers.{cell_at}
use Rattle.doc_model.specs.Rows.{IsAscending, has}
use Rattle.doc_model.specs.Schema.{no_grid}
use Rattle.doc_readers.specs.Parts.{grid_at}
use Rattle.formula_eval.specs.Reader.{Told, known, no_table, no_column, no_row}
use Rattle.recalc.specs.Cells.{cell_of}
use Rattle.recalc.specs.declared.kept.KeptColumn.{KeptColumn}
use Rattle.recalc.specs.declared.kept.KeptTable.{KeptTable}
use Rattle.recalc.specs.Evaluated.{formula_in, base_in, sheet_of}
use Rattle.recalc.specs.Kept.{ColumnShape, IsKeptOf, column_at, held_at, held_column, held_in, held_table, kept_column_id, kept_table_id}
use Rattle.recalc.specs.Seen.{told_beside, told_or_needed, told_or_no_row, joined}
use Rattle.recalc.specs.Sheet.{over, told_by}
use Rattle.recalc.proofs.KeptLemmas.{find_table, find_column, table_of, column_of, match_none, shape_kept, shape_blank, column_kept, column_blank}
use Rattle.recalc.proofs.PlaceLemmas.{held-get}

pub grid_found : (s : Document) (t : List ℕ) (u : Table) → find_id table_id t s ≡ Some u → grid_at s t ≡ u.grid
grid_found s t u h = ap (λ (o : Option Table). elim o as (λ _. Grid ColDef) [ None ↦ no_grid | Some t ↦ t.grid ]) h

-- what is held of a table and a column that are found
pub held_found : (s : Document) (ks : List KeptTable) (t c : List ℕ) (r : ℕ) (k : KeptTable) → Some k ≡ find_id kept_table_id t ks → (e : KeptColumn) → Some e ≡ find_id kept_column_id c k.columns.items
    → held_in (grid_at s t).rows e.values.items r ≡ held_at s ks (cell_of t c r)
held_found s ks t c r k h e g = ap (held_column (grid_at s t).rows r) g ∙ ap (held_table (grid_at s t).rows c r) h

has_at : (rows : List ℕ) (r i : ℕ) → slice_get rows i ≡ Some r → has rows r ≡ true
has_at [] r zero h = absurd (cc)
has_at [] r (suc i) h = absurd (cc)
has_at (q ∷ rows) r zero h = let same : q ≡ r = cc in ap (λ b. Rattle.std.specs.Prelude.◌||◌ b (has rows r)) (Rattle.std.proofs.lemmas.Bool.eq-eqb q r same)
has_at (q ∷ rows) r (suc i) h = Rattle.std.proofs.lemmas.Bool.or_right (Rattle.std.specs.Prelude.nat_eq q r) (has rows r) (has_at rows r i h)

module _ (s : Document) (ks : List KeptTable) (kept : IsKeptOf s ks) (t c : List ℕ) (r : ℕ) where
  abbrev pub told : Told
  told = (over (sheet_of s) (held_at s ks)).cell (cell_of t c r)

  abbrev in_table : Option Table → Told
  in_table x = told_by (elim x as (λ _. Option (List ℕ)) [ None ↦ None | Some u ↦ elim (find_id column_id c u.grid.columns) as (λ _. Option (List ℕ)) [ None ↦ None | Some d ↦ formula_in u.grid r d ] ])
      (elim x as (λ _. Told) [ None ↦ no_table | Some u ↦ base_in u.grid (cell_of t c r) (find_id column_id c u.grid.columns) ]) (held_at s ks (cell_of t c r))

  abbrev in_column : Grid ColDef → Option ColDef → Told
  in_column g x = told_by (elim x as (λ _. Option (List ℕ)) [ None ↦ None | Some d ↦ formula_in g r d ]) (base_in g (cell_of t c r) x) (held_at s ks (cell_of t c r))

  pub table_absent : None ≡ find_id kept_table_id t ks → no_table ≡ told
  table_absent h = ap in_table (sym (match_none shape_kept shape_blank (find_id kept_table_id t ks) (find_id table_id t s) (find_table s ks kept t) (sym h)))

  module _ (k : KeptTable) (here : Some k ≡ find_id kept_table_id t ks) where
    by_grid : (u : Table) → find_id table_id t s ≡ Some u → in_column u.grid (find_id column_id c u.grid.columns) ≡ told
    by_grid u h = ap in_table (sym h)

    pub column_absent : None ≡ find_id kept_column_id c k.columns.items → no_column ≡ told
    column_absent h =
        let u = table_of s ks kept t k here in
        ap (in_column u.0.grid) (sym (match_none column_kept (column_blank u.0.grid.rows) (find_id kept_column_id c k.columns.items) (find_id column_id c u.0.grid.columns) (find_column k u.0 u.2 c) (sym h))) ∙ by_grid u.0 u.1

    module _ (e : KeptColumn) (found : Some e ≡ find_id kept_column_id c k.columns.items) where
      abbrev in_bools : Table → ColDef → Bool → Bool → Told
      in_bools u d f h = told_by (cond (f && h) (Some d.info.formula) None) (cond h (known (cell column_id u.grid c r)) no_row) (held_at s ks (cell_of t c r))

      by_column : (u : Table) → find_id table_id t s ≡ Some u → (d : ColDef) → find_id column_id c u.grid.columns ≡ Some d → in_bools u d d.info.is_formula (has u.grid.rows r) ≡ told
      by_column u h d g = ap (in_column u.grid) (sym g) ∙ by_grid u h

      kind : (rows : List ℕ) (d : ColDef) → column_kept e ≡ column_blank rows d → e.is_formula ≡ d.info.is_formula
      kind rows d same = ap (λ (x : ColumnShape). x.is_formula) same

      pub data_told : false ≡ e.is_formula → told_or_no_row (cell_at s t c r) ≡ told
      data_told is =
          let u = table_of s ks kept t k here in
          let d = column_of k u.0 u.2 c e found in
          ap (λ (o : Option Table). told_or_no_row (elim o as (λ _. Option CellValue) [ None ↦ None | Some u ↦ cond (has_id column_id u.grid.columns c && has u.grid.rows r) (Some (cell column_id u.grid c r)) None ])) u.1
          ∙ ap (λ b. told_or_no_row (cond (b && has u.0.grid.rows r) (Some (cell column_id u.0.grid c r)) None)) (has_id-find column_id c u.0.grid.columns ∙ ap is_some d.1)
          ∙ either u.0 d.0 (has u.0.grid.rows r)
          ∙ ap (λ b. in_bools u.0 d.0 b (has u.0.grid.rows r)) (is ∙ kind u.0.grid.rows d.0 d.2)
          ∙ by_column u.0 u.1 d.0 d.1
        where
          either : (u : Table) (d : ColDef) (b : Bool) → told_or_no_row (cond b (Some (cell column_id u.grid c r)) None) ≡ in_bools u d false b
          either u d true = refl
          either u d false = refl

      pub row_absent : true ≡ e.is_formula → has (grid_at s t).rows r ≡ false → no_row ≡ told
      row_absent is h =
          let u = table_of s ks kept t k here in
          let d = column_of k u.0 u.2 c e found in
          ap (λ b. in_bools u.0 d.0 true b) (sym (ap (λ (g : Grid ColDef). has g.rows r) (sym (grid_found s t u.0 u.1)) ∙ h))
          ∙ ap (λ b. in_bools u.0 d.0 b (has u.0.grid.rows r)) (is ∙ kind u.0.grid.rows d.0 d.2)
          ∙ by_column u.0 u.1 d.0 d.1

      pub value_held : true ≡ e.is_formula → has (grid_at s t).rows r ≡ true → told_or_needed (held_in (grid_at s t).rows e.values.items r) ≡ told
      value_held is h =
          let u = table_of s ks kept t k here in
          let d = column_of k u.0 u.2 c e found in
          ap told_or_needed (held_found s ks t c r k here e found)
          ∙ by_value u.0 d.0 (held_at s ks (cell_of t c r))
          ∙ ap (λ b. in_bools u.0 d.0 true b) (sym (ap (λ (g : Grid ColDef). has g.rows r) (sym (grid_found s t u.0 u.1)) ∙ h))
          ∙ ap (λ b. in_bools u.0 d.0 b (has u.0.grid.rows r)) (is ∙ kind u.0.grid.rows d.0 d.2)
          ∙ by_column u.0 u.1 d.0 d.1
        where
          by_value : (u : Table) (d : ColDef) (o : Option CellValue) → told_or_needed o ≡ told_by (Some d.info.formula) (known (cell column_id u.grid c r)) o
          by_value u d None = refl
          by_value u d (Some v) = refl

      pub value_there : true ≡ e.is_formula → (i : ℕ) → IsAscending (grid_at s t).rows → slice_get (grid_at s t).rows i ≡ Some r → told_or_needed (joined (slice_get e.values.items i)) ≡ told
      value_there is i ascends at =
          ap told_or_needed (held-get (grid_at s t).rows e.values.items i r ascends at) ∙ value_held is (has_at (grid_at s t).rows r i at)

-- the cells of a data column of which something is kept
pub column_told : (s : Document) (ks : List KeptTable) → IsKeptOf s ks → (t c : List ℕ) (e : KeptColumn) → Some e ≡ column_at ks t c → false ≡ e.is_formula
    → (r : ℕ) → told_or_no_row (cell_at s t c r) ≡ (over (sheet_of s) (held_at s ks)).cell (cell_of t c r)
column_told s ks kept t c e there is r =
    elim (find_id kept_table_id t ks) as (λ x. Some e ≡ column_in c x → x ≡ find_id kept_table_id t ks → told_or_no_row (cell_at s t c r) ≡ told s ks kept t c r) [
      | None ↦ λ found _. absurd (cc)
      | Some k ↦ λ found here. data_told s ks kept t c r k here e found is
    ] there refl
  where
    column_in : List ℕ → Option KeptTable → Option KeptColumn
    column_in c None = None
    column_in c (Some k) = find_id kept_column_id c k.columns.items

-- what is told of cells that were looked up
pub mapped_told : (cells : List (Option (Bor CellValue))) (at : ℕ → Option CellValue) (asked : ℕ → Told) (rows : List ℕ) → map option_copied cells ≡ map at rows
    → ((r : ℕ) → told_or_no_row (at r) ≡ asked r) → map (λ cell. told_or_no_row (option_copied cell)) cells ≡ map asked rows
mapped_told [] at asked [] e h = refl
mapped_told [] at asked (r ∷ rows) e h = absurd (cc)
mapped_told (x ∷ cells) at asked [] e h = absurd (cc)
mapped_told (x ∷ cells) at asked (r ∷ rows) e h =
    let here : option_copied x ≡ at r = cc in
    let others : map option_copied cells ≡ map at rows = cc in
    ap (λ v. v ∷ map (λ cell. told_or_no_row (option_copied cell)) cells) (ap told_or_no_row here ∙ h r) ∙ ap (λ l. asked r ∷ l) (mapped_told cells at asked rows others h)

-- a row that is there, and one that is not, beside the values of a column
pub beside_there : (rows : List ℕ) (vs : List (Option CellValue)) (r i : ℕ) → IsAscending rows → slice_get rows i ≡ Some r → told_or_needed (joined (slice_get vs i)) ≡ told_beside rows vs r
beside_there rows vs r i ascends at =
    ap told_or_needed (held-get rows vs i r ascends at) ∙ ap (λ b. cond b (told_or_needed (held_in rows vs r)) no_row) (sym (has_at rows r i at))

pub beside_absent : (rows : List ℕ) (vs : List (Option CellValue)) (r : ℕ) → has rows r ≡ false → no_row ≡ told_beside rows vs r
beside_absent rows vs r h = ap (λ b. cond b (told_or_needed (held_in rows vs r)) no_row) (sym h)

-- the cells of a formula column
pub beside_told : (s : Document) (ks : List KeptTable) → IsKeptOf s ks → (t c : List ℕ) (e : KeptColumn) → Some e ≡ column_at ks t c → true ≡ e.is_formula
    → (r : ℕ) → told_beside (grid_at s t).rows e.values.items r ≡ (over (sheet_of s) (held_at s ks)).cell (cell_of t c r)
beside_told s ks kept t c e there is r =
    elim (find_id kept_table_id t ks) as (λ x. Some e ≡ column_in c x → x ≡ find_id kept_table_id t ks → told_beside (grid_at s t).rows e.values.items r ≡ told s ks kept t c r) [
      | None ↦ λ found _. absurd (cc)
      | Some k ↦ λ found here. by_row k here found (has (grid_at s t).rows r) refl
    ] there refl
  where
    column_in : List ℕ → Option KeptTable → Option KeptColumn
    column_in c None = None
    column_in c (Some k) = find_id kept_column_id c k.columns.items

    by_row : (k : KeptTable) → Some k ≡ find_id kept_table_id t ks → Some e ≡ find_id kept_column_id c k.columns.items → (b : Bool) → has (grid_at s t).rows r ≡ b
        → told_beside (grid_at s t).rows e.values.items r ≡ told s ks kept t c r
    by_row k here found true h = ap (λ b. cond b (told_or_needed (held_in (grid_at s t).rows e.values.items r)) no_row) h ∙ value_held s ks kept t c r k here e found is h
    by_row k here found false h = ap (λ b. cond b (told_or_needed (held_in (grid_at s t).rows e.values.items r)) no_row) h ∙ row_absent s ks kept t c r k here e found is h

-- what is told of each row alike
pub told_alike : (f g : ℕ → Told) (rows : List ℕ) → ((r : ℕ) → f r ≡ g r) → map f rows ≡ map g rows
told_alike f g [] h = refl
told_alike f g (r ∷ rows) h = ap (λ v. v ∷ map f rows) (h r) ∙ ap (λ l. g r ∷ l) (told_alike f g rows h)
