-- Cells that steps tell of, by row, and rows as they were.
use Rattle.std.proofs.Common.{ℕ, ◌+◌, ◌<◌, Bool, true, false, cond, ◌&&◌, List, [], ◌∷◌, ◌++◌, append_assoc, map, filter, take, length, get_or, ◌≡◌, refl, sym, ap, ◌∙◌, Option, Some, None, option_map, is_some, unwrap_or, find, nat_eq, slice_get, append-nil}
use Rattle.std.proofs.lemmas.Bool.{eqb-true}
use Rattle.std.proofs.lemmas.List.{map-append, take_more}
use Rattle.std.proofs.lemmas.List.Elements.{filter-append}
use Rattle.std.specs.Global.{Global}
use Rattle.std.specs.Prelude.{Vec}
use Rattle.std.specs.Str.{bytes_eq}
use Rattle.cell_types.specs.declared.cell.CellOld.{CellOld}
use Rattle.cell_types.specs.declared.value.CellValue.{CellValue}
use Rattle.doc_model.specs.declared.column.ColDef.{ColDef}
use Rattle.doc_model.specs.ByIds.{find_id, has_id}
use Rattle.doc_model.specs.Column.{column_id}
use Rattle.doc_model.specs.Grid.{Grid, cell}
use Rattle.doc_model.specs.Records.{or_else}
use Rattle.doc_model.specs.Rows.{has}
use Rattle.doc_model.proofs.ByIdsLaws.{found_id, has_id-find}
use Rattle.doc_model.proofs.GridLaws.{cell-grid_of}
use Rattle.acl_formula.specs.RuleFields.{cell_in}
use Rattle.acl_formula.specs.RuleRow.{RuleRow}
use Rattle.acl_formula.specs.declared.user_info.AttributeRow.{AttributeRow}
use Rattle.acl_formula.specs.declared.user_info.NamedCell.{NamedCell}
use Rattle.censored_view.specs.Readable.{row_of}
use Rattle.censored_view.proofs.PlacedLemmas.{all_taken, take_next}
use Rattle.action_censor.specs.Back.{all_rows_back, first_held, grid_back, held_before}
use Rattle.action_censor.specs.declared.steps.StepTrace.{StepTrace}
use Rattle.action_censor.specs.Step.{Step, is_in_row, step_of}
use Rattle.action_censor.specs.ToldCells.{listed, old_cell, told_cell, told_in_row, told_of_row}
use Rattle.action_censor.specs.TouchedTables.{kept_row, old_row}
use mathlib.Core.Path.{fun_ext}

-- ---- cells under their rows

-- one cell more is noted under its row
pub noted_more : (old new : ℕ → Option (Vec NamedCell Global)) (row r : ℕ) (o : NamedCell) (w : Vec NamedCell Global)
    → new r ≡ cond (nat_eq row r) (Some w) (old r) → w.items ≡ listed (old row) ++ o ∷ []
    → listed (new r) ≡ cond (nat_eq row r) (listed (old r) ++ o ∷ []) (listed (old r))
noted_more old new row r o w is items =
    elim (nat_eq row r) as (λ b. nat_eq row r ≡ b → new r ≡ cond b (Some w) (old r) → listed (new r) ≡ cond b (listed (old r) ++ o ∷ []) (listed (old r))) [
      | true ↦ λ same is. ap listed is ∙ items ∙ ap (λ q. listed (old q) ++ o ∷ []) (eqb-true row r same)
      | false ↦ λ _ is. ap listed is
    ] refl is

-- a cell of the table goes under its row, and no other cell
pub noted_of_table : (t : List ℕ) (r : ℕ) (o : CellOld) (cells : List NamedCell) → bytes_eq o.cell.table t ≡ true
    → cond (nat_eq o.cell.row r) (cells ++ told_cell o ∷ []) cells ≡ cells ++ told_in_row t r (o ∷ [])
noted_of_table t r o cells is =
    elim (nat_eq o.cell.row r) as (λ b. cond b (cells ++ told_cell o ∷ []) cells ≡ cells ++ map told_cell (cond (true && b) (o ∷ []) [])) [
      | true ↦ refl
      | false ↦ sym (append-nil cells)
    ]
    ∙ ap (λ b. cells ++ map told_cell (cond (b && nat_eq o.cell.row r) (o ∷ []) [])) (sym is)

pub noted_of_others : (t : List ℕ) (r : ℕ) (o : CellOld) (cells : List NamedCell) → bytes_eq o.cell.table t ≡ false
    → cells ≡ cells ++ told_in_row t r (o ∷ [])
noted_of_others t r o cells isnt =
    sym (append-nil cells) ∙ ap (λ b. cells ++ map told_cell (cond (b && nat_eq o.cell.row r) (o ∷ []) [])) (sym isnt)

-- one cell more of a step
pub step_next : (t : List ℕ) (r : ℕ) (all : List CellOld) (i : ℕ) (o : CellOld) (first old new : List NamedCell) → i < length all → o ≡ get_or all i o
    → old ≡ first ++ told_in_row t r (take i all) → new ≡ old ++ told_in_row t r (o ∷ []) → new ≡ first ++ told_in_row t r (take (i + 1) all)
step_next t r all i o first old new lt is so made =
    made ∙ ap (λ l. l ++ told_in_row t r (o ∷ [])) so
    ∙ append_assoc first (told_in_row t r (take i all)) (told_in_row t r (o ∷ []))
    ∙ ap (λ l. first ++ l)
    (sym (map-append told_cell (filter (is_in_row t r) (take i all)) (filter (is_in_row t r) (o ∷ [])))
    ∙ ap (map told_cell) (sym (filter-append (is_in_row t r) (take i all) (o ∷ [])))
    ∙ ap (told_in_row t r) (sym (take_more all i o lt ∙ ap (λ z. take i all ++ z ∷ []) (sym is))))

steps-append : (t : List ℕ) (r : ℕ) (ks : List Step) (k : Step) → told_of_row (ks ++ k ∷ []) t r ≡ told_of_row ks t r ++ told_in_row t r k.cells
steps-append t r [] k = append-nil (told_in_row t r k.cells)
steps-append t r (j ∷ ks) k =
    ap (λ l. told_in_row t r j.cells ++ l) (steps-append t r ks k)
    ∙ sym (append_assoc (told_in_row t r j.cells) (told_of_row ks t r) (told_in_row t r k.cells))

-- one step more
pub steps_next : (t : List ℕ) (r : ℕ) (all : List StepTrace) (i : ℕ) (k : StepTrace) (old new : List NamedCell) → i < length all → k ≡ get_or all i k
    → old ≡ told_of_row (map step_of (take i all)) t r → new ≡ old ++ told_in_row t r k.cells.now → new ≡ told_of_row (map step_of (take (i + 1) all)) t r
steps_next t r all i k old new lt is so made =
    made ∙ ap (λ l. l ++ told_in_row t r k.cells.now) so
    ∙ sym (steps-append t r (map step_of (take i all)) (step_of k))
    ∙ ap (λ l. told_of_row l t r) (sym (map-append step_of (take i all) (k ∷ [])))
    ∙ ap (λ l. told_of_row (map step_of l) t r) (sym (take_more all i k lt ∙ ap (λ z. take i all ++ z ∷ []) (sym is)))

-- ---- what is told of a row is what steps tell first

told-append : (xs ys : List NamedCell) (c : List ℕ) → cell_in (xs ++ ys) c ≡ or_else (cell_in xs c) (cell_in ys c)
told-append [] ys c = refl
told-append (x ∷ xs) ys c =
    elim (bytes_eq x.column c) as (λ b. cond b (Some x.value) (cell_in (xs ++ ys) c) ≡ or_else (cond b (Some x.value) (cell_in xs c)) (cell_in ys c)) [
      | true ↦ refl
      | false ↦ told-append xs ys c
    ]

told_before : (t : List ℕ) (r : ℕ) (c : List ℕ) (cells : List CellOld) → cell_in (told_in_row t r cells) c ≡ held_before cells t c r
told_before t r c [] = refl
told_before t r c (o ∷ cells) =
    let rest : Option CellOld = find (λ (o : CellOld). is_in_row t r o && bytes_eq o.cell.column c) cells in
    elim (is_in_row t r o) as (λ b. cell_in (map told_cell (cond b (o ∷ filter (is_in_row t r) cells) (filter (is_in_row t r) cells))) c ≡ option_map (λ (o : CellOld). o.old) (cond (b && bytes_eq o.cell.column c) (Some o) rest)) [
      | true ↦ elim (bytes_eq o.cell.column c) as (λ b. cond b (Some o.old) (cell_in (told_in_row t r cells) c) ≡ option_map (λ (o : CellOld). o.old) (cond b (Some o) rest)) [
        | true ↦ refl
        | false ↦ told_before t r c cells
      ]
      | false ↦ told_before t r c cells
    ]

pub told_first : (ks : List Step) (t : List ℕ) (r : ℕ) (c : List ℕ) → cell_in (told_of_row ks t r) c ≡ first_held ks t c r
told_first [] t r c = refl
told_first (k ∷ ks) t r c =
    told-append (told_in_row t r k.cells) (told_of_row ks t r) c
    ∙ ap (λ o. or_else o (cell_in (told_of_row ks t r) c)) (told_before t r c k.cells)
    ∙ ap (or_else (held_before k.cells t c r)) (told_first ks t r c)

-- ---- a row as it was

cell_made : (f : ColDef → CellValue) (ds : List ColDef) (c : List ℕ) → cell_in (map (λ (d : ColDef). let k : NamedCell = record { column = d.id; value = f d } in k) ds) c ≡ option_map f (find_id column_id c ds)
cell_made f [] c = refl
cell_made f (d ∷ ds) c =
    elim (bytes_eq d.id c) as (λ b. cond b (Some (f d)) (cell_in (map (λ (d : ColDef). let k : NamedCell = record { column = d.id; value = f d } in k) ds) c) ≡ option_map f (cond b (Some d) (find_id column_id c ds))) [
      | true ↦ refl
      | false ↦ cell_made f ds c
    ]

module _ (ks : List Step) (t : List ℕ) (g : Grid ColDef) (r : ℕ) (told : List NamedCell) (so : told ≡ told_of_row ks t r) (here : has (all_rows_back ks t g.rows) r ≡ true) where
  abbrev was : ColDef → CellValue
  was d = unwrap_or (cell_in told d.id) (cell column_id g d.id r)

  was_held : (d : ColDef) → find_id column_id d.id g.columns ≡ Some d → was d ≡ cell column_id (grid_back ks t g) d.id r
  was_held d found =
      ap (λ l. unwrap_or (cell_in l d.id) (cell column_id g d.id r)) so
      ∙ ap (λ o. unwrap_or o (cell column_id g d.id r)) (told_first ks t r d.id)
      ∙ sym (cell-grid_of column_id g.columns (all_rows_back ks t g.rows) (λ (d : ColDef) r. unwrap_or (first_held ks t d.id r) (cell column_id g d.id r)) d r found here)

  by_column : (c : List ℕ) (o : Option ColDef) → find_id column_id c g.columns ≡ o → option_map was o ≡ cond (is_some o && true) (Some (cell column_id (grid_back ks t g) c r)) None
  by_column c None found = refl
  by_column c (Some d) found =
      let named : d.id ≡ c = found_id column_id c g.columns d found in
      ap (λ v. let o : Option CellValue = Some v in o)
      (was_held d (ap (λ n. find_id column_id n g.columns) named ∙ found) ∙ ap (λ n. cell column_id (grid_back ks t g) n r) named)

  each_cell : (c : List ℕ) → (kept_row (record { row = r; cells = map (old_cell told g r) g.columns })).cell c ≡ (row_of (grid_back ks t g) r).cell c
  each_cell c =
      cell_made was g.columns c
      ∙ by_column c (find_id column_id c g.columns) refl
      ∙ ap (λ b. cond (b && true) (Some (cell column_id (grid_back ks t g) c r)) None) (sym (has_id-find column_id c g.columns))
      ∙ ap (λ b. cond (has_id column_id g.columns c && b) (Some (cell column_id (grid_back ks t g) c r)) None) (sym here)

  pub row_was : kept_row (record { row = r; cells = map (old_cell told g r) g.columns }) ≡ row_of (grid_back ks t g) r
  row_was =
      let old : AttributeRow = record { row = r; cells = map (old_cell told g r) g.columns } in
      let same : (kept_row old).cell ≡ (row_of (grid_back ks t g) r).cell = fun_ext each_cell in
      ap (λ f. let w : RuleRow = record { id = r; cell = f } in w) same

-- ---- cells of a row, one after another

pub cells_next : (f : ColDef → NamedCell) (all : List ColDef) (n : ℕ) (d : ColDef) (k : NamedCell) (ys zs : List NamedCell) → slice_get all n ≡ Some d → ys ≡ map f (take n all) → k ≡ f d → zs ≡ ys ++ k ∷ [] → zs ≡ map f (take (n + 1) all)
cells_next f all n d k ys zs at so is made =
    made ∙ ap (λ l. l ++ k ∷ []) so ∙ ap (λ z. map f (take n all) ++ z ∷ []) is
    ∙ sym (map-append f (take n all) (d ∷ [])) ∙ ap (map f) (sym (take_next all n d at))

pub cells_end : (f : ColDef → NamedCell) (all : List ColDef) (n : ℕ) (ys : List NamedCell) → slice_get all n ≡ None → ys ≡ map f (take n all) → ys ≡ map f all
cells_end f all n ys past so = so ∙ ap (map f) (all_taken all n past)

-- ---- rows that were there

pub none_added : (b : Bool) (rows : List RuleRow) (row : RuleRow) → b ≡ false → rows ≡ rows ++ cond b (row ∷ []) []
none_added b rows row isnt = sym (ap (λ b. rows ++ cond b (row ∷ []) []) isnt ∙ append-nil rows)

-- one row more that was there, as it was
module _ (ks : List Step) (t : List ℕ) (g : Grid ColDef) where
  pub old_next : (r : ℕ) (told : List NamedCell) (there : Bool) (ys zs : List RuleRow) → told ≡ told_of_row ks t r → there ≡ has (all_rows_back ks t g.rows) r
      → zs ≡ ys ++ cond there (old_row told g r ∷ []) [] → zs ≡ ys ++ cond (has (all_rows_back ks t g.rows) r) (row_of (grid_back ks t g) r ∷ []) []
  old_next r told there ys zs so is made =
      made ∙ ap (λ b. ys ++ cond b (old_row told g r ∷ []) []) is
      ∙ elim (has (all_rows_back ks t g.rows) r) as (λ b. has (all_rows_back ks t g.rows) r ≡ b → ys ++ cond b (old_row told g r ∷ []) [] ≡ ys ++ cond b (row_of (grid_back ks t g) r ∷ []) []) [
        | true ↦ λ here. ap (λ w. ys ++ w ∷ []) (row_was ks t g r told so here)
        | false ↦ λ _. refl
      ] refl
