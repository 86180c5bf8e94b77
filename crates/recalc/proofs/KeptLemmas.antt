-- What is kept of a document has its tables and columns.
use Rattle.std.proofs.Common.{ℕ, Bool, true, false, cond, ◌&&◌, List, [], ◌∷◌, map, length, get_or, ◌≡◌, refl, sym, ap, ◌∙◌, Option, Some, None}
use Rattle.std.proofs.Math.Seq.{map-set_same}
use Rattle.std.proofs.lemmas.Simd.{map-map}
use Rattle.std.proofs.lemmas.List.{length-set, length-map}
use Rattle.std.proofs.lemmas.Option.{get_or_from_slice_get}
use Rattle.std.specs.Option.{option_map}
use Rattle.std.specs.Str.{bytes_eq}
use Rattle.cell_types.specs.declared.cell.CellId.{CellId}
use Rattle.cell_types.specs.declared.value.CellValue.{CellValue}
use Rattle.formula_parse.specs.FormulaOf.{formula_of}
use Rattle.formula_parse.specs.Tree.{Tree}
use Rattle.doc_model.specs.declared.column.ColDef.{ColDef}
use Rattle.doc_model.specs.ByIds.{find_id}
use Rattle.doc_model.specs.Column.{column_id}
use Rattle.doc_model.specs.Document.{Table, Document, table_id}
use Rattle.doc_model.specs.Grid.{Grid}
use Rattle.doc_model.specs.Rows.{has}
use Rattle.doc_readers.specs.Parts.{grid_at}
use Rattle.recalc.specs.declared.kept.KeptColumn.{KeptColumn}
use Rattle.recalc.specs.declared.kept.KeptTable.{KeptTable}
use Rattle.recalc.specs.Evaluated.{formula_at, formula_in, sheet_of}
use Rattle.cell_types.specs.declared.column_type.ColType.{ColType}
use Rattle.recalc.specs.Kept.{column_at, ColumnShape, TableShape, ColumnPart, TablePart, IsKeptOf, blank_column, blank_table, column_part, column_shape, held_at, held_column, held_in, held_table, kept_column_id, kept_table_id, table_part, table_shape, tree_at}
use Rattle.recalc.specs.Put.{IsPutInColumn, IsPutInTable, IsPutInTables}

-- what is found among images of things
find-map : {X Y : Type 0} (f : X → Y) (id : Y → List ℕ) (c : List ℕ) (xs : List X) → find_id id c (map f xs) ≡ option_map f (find_id (λ x. id (f x)) c xs)
find-map f id c [] = refl
find-map f id c (x ∷ xs) = elim (bytes_eq (id (f x)) c) as (λ b. cond b (Some (f x)) (find_id id c (map f xs)) ≡ option_map f (cond b (Some x) (find_id (λ x. id (f x)) c xs))) [ true ↦ refl | false ↦ find-map f id c xs ]

pub match_some : {X Y Z : Type 0} (f : X → Z) (g : Y → Z) (o : Option X) (p : Option Y) → option_map f o ≡ option_map g p → (x : X) → o ≡ Some x → (y : Y) × (p ≡ Some y) × (f x ≡ g y)
match_some f g None p h x e = absurd (cc)
match_some f g (Some z) None h x e = absurd (cc)
match_some f g (Some z) (Some y) h x e = let same : z ≡ x = cc in let equal : f z ≡ g y = cc in (y, refl, sym (ap f same) ∙ equal)

pub match_none : {X Y Z : Type 0} (f : X → Z) (g : Y → Z) (o : Option X) (p : Option Y) → option_map f o ≡ option_map g p → o ≡ None → p ≡ None
match_none f g None None h e = refl
match_none f g None (Some y) h e = absurd (cc)
match_none f g (Some z) p h e = absurd (cc)

-- a table as it is kept, and as it would be kept blank
abbrev pub shape_kept : KeptTable → TableShape
shape_kept k = table_shape (table_part k)

abbrev pub shape_blank : Table → TableShape
shape_blank t = table_shape (blank_table t)

abbrev pub column_kept : KeptColumn → ColumnShape
column_kept e = column_shape (column_part e)

abbrev pub column_blank : List ℕ → ColDef → ColumnShape
column_blank rows d = column_shape (blank_column rows d)

pub find_table : (s : Document) (ks : List KeptTable) → IsKeptOf s ks → (c : List ℕ) → option_map shape_kept (find_id kept_table_id c ks) ≡ option_map shape_blank (find_id table_id c s)
find_table s ks kept c =
    sym (find-map shape_kept (λ (x : TableShape). x.id) c ks) ∙ ap (find_id (λ (x : TableShape). x.id) c) kept ∙ find-map shape_blank (λ (x : TableShape). x.id) c s

pub find_column : (k : KeptTable) (t : Table) → shape_kept k ≡ shape_blank t → (c : List ℕ)
    → option_map column_kept (find_id kept_column_id c k.columns.items) ≡ option_map (column_blank t.grid.rows) (find_id column_id c t.grid.columns)
find_column k t same c =
    sym (find-map column_kept (λ (x : ColumnShape). x.id) c k.columns.items)
    ∙ ap (find_id (λ (x : ColumnShape). x.id) c) (sym (map-map column_shape column_part k.columns.items) ∙ ap (λ (x : TableShape). x.columns) same ∙ map-map column_shape (blank_column t.grid.rows) t.grid.columns)
    ∙ find-map (column_blank t.grid.rows) (λ (x : ColumnShape). x.id) c t.grid.columns

-- the table and the column of what is kept
pub table_of : (s : Document) (ks : List KeptTable) → IsKeptOf s ks → (c : List ℕ) (k : KeptTable) → Some k ≡ find_id kept_table_id c ks → (t : Table) × (find_id table_id c s ≡ Some t) × (shape_kept k ≡ shape_blank t)
table_of s ks kept c k h = match_some shape_kept shape_blank (find_id kept_table_id c ks) (find_id table_id c s) (find_table s ks kept c) k (sym h)

pub column_of : (k : KeptTable) (t : Table) → shape_kept k ≡ shape_blank t → (c : List ℕ) (e : KeptColumn) → Some e ≡ find_id kept_column_id c k.columns.items
    → (d : ColDef) × (find_id column_id c t.grid.columns ≡ Some d) × (column_kept e ≡ column_blank t.grid.rows d)
column_of k t same c e h = match_some column_kept (column_blank t.grid.rows) (find_id kept_column_id c k.columns.items) (find_id column_id c t.grid.columns) (find_column k t same c) e (sym h)

abbrev pub none_each : ℕ → Option CellValue
none_each r = None

-- how many places a formula column has
pub places_of : (rows : List ℕ) (d : ColDef) (e : KeptColumn) → column_kept e ≡ column_blank rows d → d.info.is_formula ≡ true → length e.values.items ≡ length rows
places_of rows d e same is =
    ap (λ (x : ColumnShape). x.size) same ∙ ap (λ b. length (cond b (map none_each rows) [])) is ∙ length-map rows none_each

-- a value put keeps the shape
column_put : (old new : KeptColumn) (p : ℕ) (v w : Option CellValue) → IsPutInColumn old new p v w → column_kept new ≡ column_kept old
column_put old new p v w h = λ i. record { id = h.named i; ty = h.ty i; is_formula = h.kind i; tree = h.tree i; size = (ap length h.values ∙ length-set old.values.items p v) i }

table_put : (old new : KeptTable) (j p : ℕ) (v w : Option CellValue) → IsPutInTable old new j p v w → shape_kept new ≡ shape_kept old
table_put old new j p v w h = λ i. record { id = h.named i; columns = columns i }
  where
    same : column_kept h.is ≡ column_kept (get_or old.columns.items j h.was)
    same = column_put h.was h.is p v w h.put ∙ ap column_kept (sym (get_or_from_slice_get old.columns.items j h.was h.was h.here))

    columns : map column_shape (map column_part new.columns.items) ≡ map column_shape (map column_part old.columns.items)
    columns = map-map column_shape column_part new.columns.items ∙ ap (map column_kept) h.columns ∙ map-set_same column_kept old.columns.items j h.is h.was same
        ∙ sym (map-map column_shape column_part old.columns.items)

pub tables_put : (s : Document) (old new : List KeptTable) (i j p : ℕ) (v w : Option CellValue) → IsPutInTables old new i j p v w → IsKeptOf s old → IsKeptOf s new
tables_put s old new i j p v w h kept =
    ap (map shape_kept) h.tables
    ∙ map-set_same shape_kept old i h.is h.was (table_put h.was h.is j p v w h.put ∙ ap shape_kept (sym (get_or_from_slice_get old i h.was h.was h.here)))
    ∙ kept

-- of a document of which nothing is known
held_none_of : (rows all : List ℕ) (r : ℕ) → held_in rows (map (λ _. None) all) r ≡ None
held_none_of [] all r = refl
held_none_of (q ∷ rows) [] r = refl
held_none_of (q ∷ rows) (a ∷ all) r = elim (Rattle.std.specs.Prelude.nat_eq q r) as (λ b. cond b None (held_in rows (map (λ _. None) all) r) ≡ None) [ true ↦ refl | false ↦ held_none_of rows all r ]

held_no_values : (rows : List ℕ) (r : ℕ) → held_in rows [] r ≡ None
held_no_values [] r = refl
held_no_values (q ∷ rows) r = refl

module _ (s : Document) (ks : List KeptTable) (blank : map table_part ks ≡ map blank_table s) where
  pub blank_kept : IsKeptOf s ks
  blank_kept = sym (map-map table_shape table_part ks) ∙ ap (map table_shape) blank ∙ map-map table_shape blank_table s

  blank_column_held : (rows all : List ℕ) (d : ColDef) (e : KeptColumn) (r : ℕ) → column_part e ≡ blank_column all d → held_in rows e.values.items r ≡ None
  blank_column_held rows all d e r same =
      ap (λ (x : ColumnPart). held_in rows x.values r) same
      ∙ elim d.info.is_formula as (λ b. held_in rows (cond b (map (λ _. None) all) []) r ≡ None) [ true ↦ held_none_of rows all r | false ↦ held_no_values rows r ]

  in_columns : (rows : List ℕ) (k : KeptTable) (t : Table) (c : List ℕ) (r : ℕ) → table_part k ≡ blank_table t → (o : Option KeptColumn) → find_id kept_column_id c k.columns.items ≡ o → held_column rows r o ≡ None
  in_columns rows k t c r same None e = refl
  in_columns rows k t c r same (Some f) e =
      let found = match_some column_part (blank_column t.grid.rows) (find_id kept_column_id c k.columns.items) (find_id column_id c t.grid.columns)
      (sym (find-map column_part (λ (x : ColumnPart). x.id) c k.columns.items) ∙ ap (λ (x : TablePart). find_id (λ (x : ColumnPart). x.id) c x.columns) same ∙ find-map (blank_column t.grid.rows) (λ (x : ColumnPart). x.id) c t.grid.columns) f e in
      blank_column_held rows t.grid.rows found.0 f r found.2

  in_tables : (rows : List ℕ) (c : CellId) (o : Option KeptTable) → find_id kept_table_id c.table ks ≡ o → held_table rows c.column c.row o ≡ None
  in_tables rows c None e = refl
  in_tables rows c (Some k) e =
      let found = match_some table_part blank_table (find_id kept_table_id c.table ks) (find_id table_id c.table s)
      (sym (find-map table_part (λ (x : TablePart). x.id) c.table ks) ∙ ap (find_id (λ (x : TablePart). x.id) c.table) blank ∙ find-map blank_table (λ (x : TablePart). x.id) c.table s) k e in
      in_columns rows k found.0 c.column c.row found.2 (find_id kept_column_id c.column k.columns.items) refl

  pub blank_held : (c : CellId) → held_at s ks c ≡ None
  blank_held c = in_tables (grid_at s c.table).rows c (find_id kept_table_id c.table ks) refl

-- the formula that is kept is the one of the column's text
module _ (s : Document) (ks : List KeptTable) (kept : IsKeptOf s ks) (c : CellId) (f : List ℕ) (formula : formula_at s c ≡ Some f) where
  abbrev by_column : Grid ColDef → Option ColDef → Option (List ℕ)
  by_column g o = elim o as (λ _. Option (List ℕ)) [ None ↦ None | Some d ↦ formula_in g c.row d ]

  abbrev by_table : Option Table → Option (List ℕ)
  by_table o = elim o as (λ _. Option (List ℕ)) [ None ↦ None | Some t ↦ by_column t.grid (find_id column_id c.column t.grid.columns) ]

  no_formula : ◌≡◌ {A = Option (List ℕ)} None (Some f) → ⊥
  no_formula e = cc

  of_column : (t : Table) (d : ColDef) → by_column t.grid (Some d) ≡ Some f → cond d.info.is_formula (formula_of d.info.formula) None ≡ formula_of f
  of_column t d e = chosen d.info.is_formula (has t.grid.rows c.row) e
    where
      some_same : Some d.info.formula ≡ Some f → d.info.formula ≡ f
      some_same e = cc

      chosen : (a b : Bool) → cond (a && b) (Some d.info.formula) None ≡ Some f → cond a (formula_of d.info.formula) None ≡ formula_of f
      chosen true true e = ap formula_of (some_same e)
      chosen true false e = absurd (no_formula e)
      chosen false b e = absurd (no_formula e)

  in_kept : (k : KeptTable) (t : Table) → shape_kept k ≡ shape_blank t → (o : Option ColDef) → find_id column_id c.column t.grid.columns ≡ o → by_column t.grid o ≡ Some f
      → elim (find_id kept_column_id c.column k.columns.items) as (λ _. Option Tree) [ None ↦ None | Some e ↦ e.tree ] ≡ formula_of f
  in_kept k t same None at e = absurd (no_formula e)
  in_kept k t same (Some d) at e =
      let found = match_some (column_blank t.grid.rows) column_kept (find_id column_id c.column t.grid.columns) (find_id kept_column_id c.column k.columns.items) (sym (find_column k t same c.column)) d at in
      ap (λ (o : Option KeptColumn). elim o as (λ _. Option Tree) [ None ↦ None | Some e ↦ e.tree ]) found.1
      ∙ ap (λ (x : ColumnShape). x.tree) (sym found.2) ∙ of_column t d e

  in_document : (o : Option Table) → find_id table_id c.table s ≡ o → by_table o ≡ Some f → tree_at ks c ≡ formula_of f
  in_document None at e = absurd (no_formula e)
  in_document (Some t) at e =
      let found = match_some shape_blank shape_kept (find_id table_id c.table s) (find_id kept_table_id c.table ks) (sym (find_table s ks kept c.table)) t at in
      ap (λ (o : Option KeptTable). elim o as (λ _. Option Tree) [ None ↦ None | Some k ↦ elim (find_id kept_column_id c.column k.columns.items) as (λ _. Option Tree) [ None ↦ None | Some e ↦ e.tree ] ]) found.1
      ∙ in_kept found.0 t (sym found.2) (find_id column_id c.column t.grid.columns) refl e

  pub tree_kept : tree_at ks c ≡ formula_of f
  tree_kept = in_document (find_id table_id c.table s) refl formula

-- the type that is kept is the column's
module _ (s : Document) (ks : List KeptTable) (kept : IsKeptOf s ks) (t c : List ℕ) where
  abbrev type_of : Option KeptColumn → Option ColType
  type_of o = option_map (λ (e : KeptColumn). e.ty) o

  in_columns_kind : (rows : List ℕ) (o : Option KeptColumn) (p : Option ColDef) → option_map column_kept o ≡ option_map (column_blank rows) p → type_of o ≡ option_map (λ (d : ColDef). d.info.ty) p
  in_columns_kind rows None None h = refl
  in_columns_kind rows None (Some d) h = absurd (cc)
  in_columns_kind rows (Some e) None h = absurd (cc)
  in_columns_kind rows (Some e) (Some d) h = ap (option_map (λ (x : ColumnShape). x.ty)) h

  in_tables_kind : (o : Option KeptTable) (p : Option Table) → option_map shape_kept o ≡ option_map shape_blank p
      → type_of (elim o as (λ _. Option KeptColumn) [ None ↦ None | Some k ↦ find_id kept_column_id c k.columns.items ])
      ≡ option_map (λ (d : ColDef). d.info.ty) (elim p as (λ _. Option ColDef) [ None ↦ None | Some u ↦ find_id column_id c u.grid.columns ])
  in_tables_kind None None h = refl
  in_tables_kind None (Some u) h = absurd (cc)
  in_tables_kind (Some k) None h = absurd (cc)
  in_tables_kind (Some k) (Some u) h =
      let same : shape_kept k ≡ shape_blank u = cc in
      in_columns_kind u.grid.rows (find_id kept_column_id c k.columns.items) (find_id column_id c u.grid.columns) (find_column k u same c)

  pub kind_kept : type_of (column_at ks t c) ≡ (sheet_of s).kind t c
  kind_kept = in_tables_kind (find_id kept_table_id t ks) (find_id table_id t s) (find_table s ks kept t)

-- the formula of a column that is found
tree_by : (o : Option KeptTable) (c : List ℕ) (e : KeptColumn) → elim o as (λ _. Option KeptColumn) [ None ↦ None | Some k ↦ find_id kept_column_id c k.columns.items ] ≡ Some e
    → elim o as (λ _. Option Tree) [ None ↦ None | Some k ↦ elim (find_id kept_column_id c k.columns.items) as (λ _. Option Tree) [ None ↦ None | Some e ↦ e.tree ] ] ≡ e.tree
tree_by None c e h = absurd (cc)
tree_by (Some k) c e h = ap (λ (o : Option KeptColumn). elim o as (λ _. Option Tree) [ None ↦ None | Some e ↦ e.tree ]) h

pub tree_found : (ks : List KeptTable) (c : CellId) (e : KeptColumn) → column_at ks c.table c.column ≡ Some e → tree_at ks c ≡ e.tree
tree_found ks c e h = tree_by (find_id kept_table_id c.table ks) c.column e h

-- a column with a formula is kept
module _ (s : Document) (ks : List KeptTable) (kept : IsKeptOf s ks) (c : CellId) (f : List ℕ) (formula : formula_at s c ≡ Some f) where
  abbrev text_in : Grid ColDef → Option ColDef → Option (List ℕ)
  text_in g o = elim o as (λ _. Option (List ℕ)) [ None ↦ None | Some d ↦ formula_in g c.row d ]

  no_text : ◌≡◌ {A = Option (List ℕ)} None (Some f) → ⊥
  no_text e = cc

  none_typed : (g : Grid ColDef) (o : Option ColDef) → text_in g o ≡ Some f → option_map (λ (d : ColDef). d.info.ty) o ≡ None → ⊥
  none_typed g None e h = no_text e
  none_typed g (Some d) e h = absurd (cc)

  none_found : (o : Option Table) → elim o as (λ _. Option (List ℕ)) [ None ↦ None | Some t ↦ text_in t.grid (find_id column_id c.column t.grid.columns) ] ≡ Some f
      → option_map (λ (d : ColDef). d.info.ty) (elim o as (λ _. Option ColDef) [ None ↦ None | Some u ↦ find_id column_id c.column u.grid.columns ]) ≡ None → ⊥
  none_found None e h = no_text e
  none_found (Some t) e h = none_typed t.grid (find_id column_id c.column t.grid.columns) e h

  pub column_there : None ≡ column_at ks c.table c.column → ⊥
  column_there h = none_found (find_id table_id c.table s) formula (sym (kind_kept s ks kept c.table c.column) ∙ ap (option_map (λ (x : KeptColumn). x.ty)) (sym h))
