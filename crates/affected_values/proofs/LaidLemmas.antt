-- Values laid beside the rows of a document, over rows of one table that come or go, and back.
use Rattle.std.proofs.Common.{ℕ, Bool, true, false, cond, not, ◌&&◌, ◌||◌, List, [], ◌∷◌, map, length, ◌≡◌, refl, sym, ap, ◌∙◌, subst, inl, inr, Option, Some, None, unwrap_or}
use Rattle.std.proofs.lemmas.Bool.{false≢true, true≢false}
use Rattle.std.proofs.lemmas.List.{length-map}
use Rattle.std.proofs.lemmas.Simd.{map-map}
use Rattle.std.proofs.lemmas.Slice.Eq.{bytes_eq-Decides}
use Rattle.std.specs.List.{AllByRecursion}
use Rattle.std.specs.Option.{is_some}
use Rattle.std.specs.Str.{bytes_eq}
use Rattle.cell_types.specs.declared.cell.CellId.{CellId}
use Rattle.doc_model.specs.declared.action.DocAction.{DocAction}
use Rattle.doc_model.specs.declared.action.DocAction.TheVariants.{AddColumn, AddTable, BulkAdd, BulkRemove, BulkUpdate, ModifyColumn, RemoveColumn, RemoveTable, RenameColumn, RenameTable}
use Rattle.doc_model.specs.declared.column.ColDef.{ColDef}
use Rattle.doc_model.specs.Apply.{effect}
use Rattle.doc_model.specs.ByIds.{AreDistinct, find_id}
use Rattle.doc_model.specs.Column.{column_id, start_of}
use Rattle.doc_model.specs.Document.{Table, Document, on_grid, table_id, with_table}
use Rattle.doc_model.specs.Grid.{Grid}
use Rattle.doc_model.specs.MetadataIds.{is_schema_id}
use Rattle.doc_model.specs.Records.{add_rows, remove_rows}
use Rattle.doc_model.specs.Rows.{has}
use Rattle.doc_model.specs.Schema.{no_grid}
use Rattle.doc_model.specs.Valid.{passes, record_table, valid}
use Rattle.doc_model.proofs.Choices.{cond_true}
use Rattle.doc_readers.specs.Parts.{grid_at}
use Rattle.recalc.specs.declared.kept.KeptColumn.{KeptColumn}
use Rattle.recalc.specs.declared.kept.KeptTable.{KeptTable}
use Rattle.recalc.specs.Evaluated.{formula_at, formula_in}
use Rattle.recalc.specs.Kept.{ColumnShape, IsKeptOf, TableShape, blank_column, column_part, column_shape, held_at, held_table, kept_column_id, kept_table_id}
use Rattle.recalc.proofs.KeptLemmas.{column_blank, column_kept, find_table, match_some, none_each, shape_blank, shape_kept}
use Rattle.recalc.proofs.ToldCells.{grid_found}
use Rattle.affected_values.specs.declared.relaying.LaidAside.{LaidAside}
use Rattle.affected_values.specs.Carried.{moved_table}
use Rattle.affected_values.specs.Relaid.{CanBeLaid, ColumnValues, HasAside, HasPlaces, IsLaidAnew, IsLaidBack, IsMovedFrom, IsTableExchanged, aside_in, blank_of, is_beyond, places_in}
use Rattle.affected_values.proofs.RelaidLemmas.{IsAlikeBut, alike_back, alike_with, columns_alike, distinct_alike, found_alike, held_here, held_other, kept_laid, left_here, left_sizes, rows_alike}

some_same : {X : Type 0} (x y : X) → Some x ≡ Some y → x ≡ y
some_same x y e = cc

none_some : {X : Type 0} (x : X) → None ≡ Some x → ⊥
none_some x e = cc

-- ---- rows that come or go

-- such an action changes one table, and none of its columns
moved_parts : (s : Document) (a : DocAction) (t : List ℕ) → moved_table a ≡ Some t
    → (f : Grid ColDef → Grid ColDef) × (effect s a ≡ with_table t (on_grid f) s) × ((g : Grid ColDef) → (f g).columns ≡ g.columns)
moved_parts s (BulkAdd u rows ks) t h = (add_rows column_id start_of rows ks, ap (λ n. with_table n (on_grid (add_rows column_id start_of rows ks)) s) (some_same u t h), λ g. refl)
moved_parts s (BulkRemove u rows) t h = (remove_rows column_id rows, ap (λ n. with_table n (on_grid (remove_rows column_id rows)) s) (some_same u t h), λ g. refl)
moved_parts s (BulkUpdate u rows ks) t h = absurd (none_some t h)
moved_parts s (AddTable u r cs) t h = absurd (none_some t h)
moved_parts s (RemoveTable u) t h = absurd (none_some t h)
moved_parts s (RenameTable u n) t h = absurd (none_some t h)
moved_parts s (AddColumn u d) t h = absurd (none_some t h)
moved_parts s (RemoveColumn u c) t h = absurd (none_some t h)
moved_parts s (RenameColumn u c n) t h = absurd (none_some t h)
moved_parts s (ModifyColumn u c i) t h = absurd (none_some t h)

record_there : (s : Document) (t : List ℕ) (test : Table → Bool) → passes (record_table s t) test ≡ true → (u : Table) × (find_id table_id t s ≡ Some u)
record_there s t test = by_schema (is_schema_id t)
  where
    by_table : (o : Option Table) → passes o test ≡ true → (u : Table) × (o ≡ Some u)
    by_table None h = absurd (false≢true h)
    by_table (Some u) h = (u, refl)

    by_schema : (b : Bool) → passes (cond b None (find_id table_id t s)) test ≡ true → (u : Table) × (find_id table_id t s ≡ Some u)
    by_schema true h = absurd (false≢true h)
    by_schema false h = by_table (find_id table_id t s) h

-- the table is there
table_there : (s : Document) (a : DocAction) (t : List ℕ) → moved_table a ≡ Some t → valid s a ≡ true → (u : Table) × (find_id table_id t s ≡ Some u)
table_there s (BulkAdd u rows ks) t h ok = subst (λ n. (u : Table) × (find_id table_id n s ≡ Some u)) (some_same u t h) (record_there s u _ ok)
table_there s (BulkRemove u rows) t h ok = subst (λ n. (u : Table) × (find_id table_id n s ≡ Some u)) (some_same u t h) (record_there s u _ ok)
table_there s (BulkUpdate u rows ks) t h ok = absurd (none_some t h)
table_there s (AddTable u r cs) t h ok = absurd (none_some t h)
table_there s (RemoveTable u) t h ok = absurd (none_some t h)
table_there s (RenameTable u n) t h ok = absurd (none_some t h)
table_there s (AddColumn u d) t h ok = absurd (none_some t h)
table_there s (RemoveColumn u c) t h ok = absurd (none_some t h)
table_there s (RenameColumn u c n) t h ok = absurd (none_some t h)
table_there s (ModifyColumn u c i) t h ok = absurd (none_some t h)

pub moved_alike : (s next : Document) (id : List ℕ) → IsMovedFrom s next id → IsAlikeBut id s next
moved_alike s next id m =
    let p = moved_parts s m.action id m.moved in
    subst (IsAlikeBut id s) (sym (m.done ∙ cond_true (valid s m.action) (effect s m.action) s m.ok ∙ p.1)) (alike_with id p.0 p.2 s)

-- ---- the columns of the table

module _ (s : Document) (ks : List KeptTable) (kept : IsKeptOf s ks) (id : List ℕ) (there : (u : Table) × (find_id table_id id s ≡ Some u)) where
  kept_there : (k : KeptTable) × (find_id kept_table_id id ks ≡ Some k) × (shape_blank there.0 ≡ shape_kept k)
  kept_there = match_some shape_blank shape_kept (find_id table_id id s) (find_id kept_table_id id ks) (sym (find_table s ks kept id)) there.0 there.1

  columns_kept : map column_kept kept_there.0.columns.items ≡ map (column_blank (grid_at s id).rows) (grid_at s id).columns
  columns_kept =
      sym (map-map column_shape column_part kept_there.0.columns.items) ∙ ap (λ (y : TableShape). y.columns) (sym kept_there.2) ∙ map-map column_shape (blank_column there.0.grid.rows) there.0.grid.columns
      ∙ ap (λ (g : Grid ColDef). map (column_blank g.rows) g.columns) (sym (grid_found s id there.0 there.1))

  places_there : (rows : List ℕ) (ds : List ColDef) (es : List KeptColumn) → map column_kept es ≡ map (column_blank rows) ds → AllByRecursion (HasPlaces (length rows)) es
  places_there rows ds [] e = tt
  places_there rows [] (a ∷ es) e = absurd (cc)
  places_there rows (d ∷ ds) (a ∷ es) e =
      let first : column_kept a ≡ column_blank rows d = cc in
      let rest : map column_kept es ≡ map (column_blank rows) ds = cc in
      (ap (λ (x : ColumnShape). x.size) first ∙ size_of d.info.is_formula ∙ ap (λ (x : ColumnShape). places_in (length rows) x.is_formula) (sym first), places_there rows ds es rest)
    where
      size_of : (f : Bool) → length (cond f (map none_each rows) []) ≡ places_in (length rows) f
      size_of true = length-map rows none_each
      size_of false = refl

  kinds_kept : (n : ℕ) → map (λ (e : KeptColumn). places_in n e.is_formula) kept_there.0.columns.items ≡ map (λ (d : ColDef). places_in n d.info.is_formula) (grid_at s id).columns
  kinds_kept n =
      sym (map-map (λ (x : ColumnShape). places_in n x.is_formula) column_kept kept_there.0.columns.items) ∙ ap (map (λ (x : ColumnShape). places_in n x.is_formula)) columns_kept
      ∙ map-map (λ (x : ColumnShape). places_in n x.is_formula) (column_blank (grid_at s id).rows) (grid_at s id).columns

  -- beside values with places for other rows it can be laid
  pub can_be_laid : (rows others : List ℕ) (vs : List ColumnValues) → rows ≡ (grid_at s id).rows → map (λ v. length v.items) vs ≡ map (λ (d : ColDef). places_in (length others) d.info.is_formula) (grid_at s id).columns
      → CanBeLaid id rows others ks vs
  can_be_laid rows others vs is places = record {
    table = kept_there.0;
    here = kept_there.1;
    places = subst (λ rs. AllByRecursion (HasPlaces (length rs)) kept_there.0.columns.items) (sym is) (places_there (grid_at s id).rows (grid_at s id).columns kept_there.0.columns.items columns_kept);
    aside = places ∙ sym (kinds_kept (length others));
  }

  blank_size : (others : List ℕ) (e : KeptColumn) → length (blank_of others e) ≡ places_in (length others) e.is_formula
  blank_size others e = by e.is_formula
    where
      by : (b : Bool) → length (map none_each (cond b others [])) ≡ places_in (length others) b
      by true = length-map others none_each
      by false = refl

  blank_sizes : (others : List ℕ) (es : List KeptColumn) → map (λ e. length (blank_of others e)) es ≡ map (λ (e : KeptColumn). places_in (length others) e.is_formula) es
  blank_sizes others [] = refl
  blank_sizes others (e ∷ es) = λ i. blank_size others e i ∷ blank_sizes others es i

  -- blank values have such places
  pub blank_places : (others : List ℕ) (vs : List ColumnValues) → ((k : KeptTable) → find_id kept_table_id id ks ≡ Some k → map (λ v. v.items) vs ≡ map (blank_of others) k.columns.items)
      → map (λ v. length v.items) vs ≡ map (λ (d : ColDef). places_in (length others) d.info.is_formula) (grid_at s id).columns
  blank_places others vs blank =
      sym (map-map length (λ (v : ColumnValues). v.items) vs) ∙ ap (map length) (blank kept_there.0 kept_there.1) ∙ map-map length (blank_of others) kept_there.0.columns.items
      ∙ blank_sizes others kept_there.0.columns.items ∙ kinds_kept (length others)

  -- and hold nothing
  pub blank_held : (others : List ℕ) (vs : List ColumnValues) → ((k : KeptTable) → find_id kept_table_id id ks ≡ Some k → map (λ v. v.items) vs ≡ map (blank_of others) k.columns.items)
      → (ids : List (List ℕ)) (rows c : List ℕ) (r : ℕ) → aside_in ids rows vs c r ≡ None
  blank_held others vs blank ids rows c r = none_in kept_there.0.columns.items vs (blank kept_there.0 kept_there.1) ids
    where
      none_of : (rows all : List ℕ) → Rattle.recalc.specs.Kept.held_in rows (map none_each all) r ≡ None
      none_of [] all = refl
      none_of (q ∷ rows) [] = refl
      none_of (q ∷ rows) (p ∷ all) = elim (Rattle.std.proofs.Common.nat_eq q r) as (λ b. cond b None (Rattle.recalc.specs.Kept.held_in rows (map none_each all) r) ≡ None) [ true ↦ refl | false ↦ none_of rows all ]

      none_in : (es : List KeptColumn) (vs : List ColumnValues) → map (λ v. v.items) vs ≡ map (blank_of others) es → (ids : List (List ℕ)) → aside_in ids rows vs c r ≡ None
      none_in es vs e [] = refl
      none_in es [] e (id ∷ ids) = refl
      none_in [] (v ∷ vs) e (id ∷ ids) = absurd (cc)
      none_in (a ∷ es) (v ∷ vs) e (id ∷ ids) =
          let first : v.items ≡ blank_of others a = cc in
          let rest : map (λ (v : ColumnValues). v.items) vs ≡ map (blank_of others) es = cc in
          elim (bytes_eq id c) as (λ b. cond b (Rattle.recalc.specs.Kept.held_in rows v.items r) (aside_in ids rows vs c r) ≡ None) [
            | true ↦ ap (λ l. Rattle.recalc.specs.Kept.held_in rows l r) first ∙ none_of rows (cond a.is_formula others [])
            | false ↦ none_in es vs rest ids
          ]

-- ---- cells of rows

-- a formula cell stands in a row of its table
pub row_there : (s : Document) (c : CellId) → is_some (formula_at s c) ≡ true → has (grid_at s c.table).rows c.row ≡ true
row_there s c = by_table (find_id table_id c.table s)
  where
    by_flag : (a b : Bool) (f : List ℕ) → is_some (cond (a && b) (Some f) None) ≡ true → b ≡ true
    by_flag true true f h = refl
    by_flag true false f h = absurd (false≢true h)
    by_flag false b f h = absurd (false≢true h)

    by_column : (g : Grid ColDef) (o : Option ColDef) → is_some (elim o as (λ _. Option (List ℕ)) [ None ↦ None | Some d ↦ formula_in g c.row d ]) ≡ true → has g.rows c.row ≡ true
    by_column g None h = absurd (false≢true h)
    by_column g (Some d) h = by_flag d.info.is_formula (has g.rows c.row) d.info.formula h

    by_table : (o : Option Table) → is_some (elim o as (λ _. Option (List ℕ)) [ None ↦ None | Some u ↦ elim (find_id column_id c.column u.grid.columns) as (λ _. Option (List ℕ)) [ None ↦ None | Some d ↦ formula_in u.grid c.row d ] ]) ≡ true
        → has (elim o as (λ _. Grid ColDef) [ None ↦ no_grid | Some u ↦ u.grid ]).rows c.row ≡ true
    by_table None h = absurd (false≢true h)
    by_table (Some u) h = by_column u.grid (find_id column_id c.column u.grid.columns) h

-- so it is not in a row that the table does not have
pub not_beyond : (s : Document) (id : List ℕ) (c : CellId) → is_some (formula_at s c) ≡ true → is_beyond s id c ≡ false
not_beyond s id c there = by (bytes_eq c.table id) refl
  where
    by : (b : Bool) → bytes_eq c.table id ≡ b → (b && not (has (grid_at s id).rows c.row)) ≡ false
    by false e = refl
    by true e = ap (λ u. not (has (grid_at s u).rows c.row)) (sym ((bytes_eq-Decides c.table id).0 e)) ∙ ap not (row_there s c there)

abbrev formula_of_grid : Grid ColDef → CellId → Option (List ℕ)
formula_of_grid g c = elim (find_id column_id c.column g.columns) as (λ _. Option (List ℕ)) [ None ↦ None | Some d ↦ formula_in g c.row d ]

in_grid : (s : Document) (c : CellId) → formula_at s c ≡ formula_of_grid (grid_at s c.table) c
in_grid s c = by (find_id table_id c.table s)
  where
    by : (o : Option Table) → elim o as (λ _. Option (List ℕ)) [ None ↦ None | Some u ↦ formula_of_grid u.grid c ] ≡ formula_of_grid (elim o as (λ _. Grid ColDef) [ None ↦ no_grid | Some u ↦ u.grid ]) c
    by None = refl
    by (Some u) = refl

-- a formula cell of a row that stays has its formula
pub formula_stays : (id : List ℕ) (s n : Document) → IsAlikeBut id s n → (c : CellId) → is_some (formula_at s c) ≡ true → is_beyond n id c ≡ false → formula_at s c ≡ formula_at n c
formula_stays id s n alike c there stays =
    in_grid s c
    ∙ (λ i. elim (find_id column_id c.column (columns_alike id s n alike c.table i)) as (λ _. Option (List ℕ)) [ None ↦ None | Some d ↦ cond (d.info.is_formula && (row_there s c there ∙ sym has_now) i) (Some d.info.formula) None ])
    ∙ sym (in_grid n c)
  where
    by : (b : Bool) → bytes_eq c.table id ≡ b → (b && not (has (grid_at n id).rows c.row)) ≡ false → has (grid_at n c.table).rows c.row ≡ true
    by true e h = ap (λ u. has (grid_at n u).rows c.row) ((bytes_eq-Decides c.table id).0 e) ∙ not_false (has (grid_at n id).rows c.row) h
      where
        not_false : (b : Bool) → not b ≡ false → b ≡ true
        not_false true h = refl
        not_false false h = absurd (true≢false h)
    by false e h = ap (λ rs. has rs c.row) (sym (rows_alike id s n alike c.table e)) ∙ row_there s c there

    has_now : has (grid_at n c.table).rows c.row ≡ true
    has_now = by (bytes_eq c.table id) refl stays

flip : {X : Type 0} (b : Bool) (x y : X) → cond b x y ≡ cond (not b) y x
flip true x y = refl
flip false x y = refl

-- ---- over two documents that differ in the rows of a table

module _ (s n : Document) (id : List ℕ) (alike : IsAlikeBut id s n) (distinct : AreDistinct table_id s) (ks new : List KeptTable) (vs ws : List ColumnValues) (kept : IsKeptOf s ks)
    (x : IsTableExchanged id (grid_at s id).rows (grid_at n id).rows ks vs new ws) where
  abbrev ids : List (List ℕ)
  ids = map column_id (grid_at s id).columns

  pub held_laid : (c : CellId) → is_some (formula_at n c) ≡ true → held_at n new c ≡ cond (is_beyond s id c) (aside_in ids (grid_at n id).rows vs c.column c.row) (held_at s ks c)
  held_laid c there = by (bytes_eq c.table id) refl
    where
      by : (b : Bool) → bytes_eq c.table id ≡ b → held_at n new c ≡ cond (b && not (has (grid_at s id).rows c.row)) (aside_in ids (grid_at n id).rows vs c.column c.row) (held_at s ks c)
      by false e = held_other s n id alike distinct ks new vs ws kept x c e
      by true e =
          let name : c.table ≡ id = (bytes_eq-Decides c.table id).0 e in
          ap (λ u. held_table (grid_at n u).rows c.column c.row (find_id kept_table_id u new)) name
          ∙ held_here s n id alike distinct ks new vs ws kept x c.column c.row (ap (λ u. has (grid_at n u).rows c.row) (sym name) ∙ row_there n c there)
          ∙ flip (has (grid_at s id).rows c.row) (held_table (grid_at s id).rows c.column c.row (find_id kept_table_id id ks)) (aside_in ids (grid_at n id).rows vs c.column c.row)
          ∙ ap (λ u. cond (not (has (grid_at s id).rows c.row)) (aside_in ids (grid_at n id).rows vs c.column c.row) (held_table (grid_at s u).rows c.column c.row (find_id kept_table_id u ks))) (sym name)

  -- what was held of a row that goes is laid aside
  pub left_laid : (c : CellId) → is_some (formula_at s c) ≡ true → is_beyond n id c ≡ true → aside_in ids (grid_at s id).rows ws c.column c.row ≡ held_at s ks c
  left_laid c there beyond =
      let p = parts (bytes_eq c.table id) (has (grid_at n id).rows c.row) beyond in
      let name : c.table ≡ id = (bytes_eq-Decides c.table id).0 p.0 in
      left_here s n id alike distinct ks new vs ws kept x c.column c.row (ap (λ u. has (grid_at s u).rows c.row) (sym name) ∙ row_there s c there)
      ∙ ap (λ b. cond b (aside_in ids (grid_at n id).rows vs c.column c.row) (held_table (grid_at s id).rows c.column c.row (find_id kept_table_id id ks))) p.1
      ∙ ap (λ u. held_table (grid_at s u).rows c.column c.row (find_id kept_table_id u ks)) (sym name)
    where
      parts : (a b : Bool) → (a && not b) ≡ true → (a ≡ true) × (b ≡ false)
      parts true false h = (refl, refl)
      parts true true h = absurd (false≢true h)
      parts false b h = absurd (false≢true h)

-- ---- laid anew, and back

module _ (s next : Document) (id rows : List ℕ) (m : IsMovedFrom s next id) (were : rows ≡ (grid_at s id).rows) (ks : List KeptTable) (kept : IsKeptOf s ks) (others : List ℕ) (now : others ≡ (grid_at next id).rows) where
  the_table : (u : Table) × (find_id table_id id s ≡ Some u)
  the_table = table_there s m.action id m.moved m.ok

  abbrev IsBlank : List ColumnValues → Type 0
  IsBlank vs = (k : KeptTable) → find_id kept_table_id id ks ≡ Some k → map (λ v. v.items) vs ≡ map (blank_of others) k.columns.items

  pub can_lay : (vs : List ColumnValues) → IsBlank vs → CanBeLaid id rows others ks vs
  can_lay vs blank = can_be_laid s ks kept id the_table rows others vs were (blank_places s ks kept id the_table others vs blank)

  pub laid_anew : (vs : List ColumnValues) (new : List KeptTable) (aside : LaidAside) → IsBlank vs → IsTableExchanged id rows others ks vs new aside.columns.items
      → aside.table ≡ id → aside.rows.items ≡ rows → Rattle.doc_model.specs.Rows.IsAscending rows → IsLaidAnew s next id ks new aside
  laid_anew vs new aside blank done named has_rows ascending = record {
    of_document = kept_laid s next id alike distinct ks new vs aside.columns.items kept x;
    held = λ c there. held_laid s next id alike distinct ks new vs aside.columns.items kept x c there
        ∙ ap (λ o. cond (is_beyond s id c) o (held_at s ks c)) (blank_held s ks kept id the_table others vs blank (map column_id (grid_at s id).columns) (grid_at next id).rows c.column c.row);
    table = named;
    has_aside = record {
      ascending = subst Rattle.doc_model.specs.Rows.IsAscending (sym has_rows) ascending;
      rows = has_rows ∙ were ∙ ap (λ u. (grid_at s u).rows) (sym named);
      places = places;
    };
    left = λ c there beyond. ap (λ u. aside_in (map column_id (grid_at s u).columns) aside.rows.items aside.columns.items c.column c.row) named
        ∙ ap (λ rs. aside_in (map column_id (grid_at s id).columns) rs aside.columns.items c.column c.row) (has_rows ∙ were)
        ∙ left_laid s next id alike distinct ks new vs aside.columns.items kept x c there beyond;
  }
    where
      alike : IsAlikeBut id s next
      alike = moved_alike s next id m

      distinct : AreDistinct table_id s
      distinct = m.whole.sound.distinct

      x : IsTableExchanged id (grid_at s id).rows (grid_at next id).rows ks vs new aside.columns.items
      x = subst (λ rs. IsTableExchanged id rs (grid_at next id).rows ks vs new aside.columns.items) were (subst (λ rs. IsTableExchanged id rows rs ks vs new aside.columns.items) now done)

      places : map (λ v. length v.items) aside.columns.items ≡ map (λ (d : ColDef). places_in (length aside.rows.items) d.info.is_formula) (grid_at s aside.table).columns
      places = left_sizes s next id alike distinct ks new vs aside.columns.items kept x ∙ ap (λ rs. map (λ (d : ColDef). places_in (length rs) d.info.is_formula) (grid_at s id).columns) (sym (has_rows ∙ were))
          ∙ ap (λ u. map (λ (d : ColDef). places_in (length aside.rows.items) d.info.is_formula) (grid_at s u).columns) (sym named)

module _ (s next : Document) (aside : LaidAside) (m : IsMovedFrom s next aside.table) (has_aside : HasAside s aside) (ks : List KeptTable) (kept : IsKeptOf next ks) (rows : List ℕ) (now : rows ≡ (grid_at next aside.table).rows) where
  abbrev id : List ℕ
  id = aside.table

  alike : IsAlikeBut id next s
  alike = alike_back id s next (moved_alike s next id m)

  there_after : (u : Table) × (find_id table_id id next ≡ Some u)
  there_after = let t = table_there s m.action id m.moved m.ok in found_alike id s next (moved_alike s next id m) id t.0 t.1

  pub can_lay_back : CanBeLaid id rows aside.rows.items ks aside.columns.items
  can_lay_back = can_be_laid next ks kept id there_after rows aside.rows.items aside.columns.items now (has_aside.places ∙ ap (map (λ (d : ColDef). places_in (length aside.rows.items) d.info.is_formula)) (sym (columns_alike id next s alike id)))

  pub laid_back : (new : List KeptTable) (ws : List ColumnValues) → IsTableExchanged id rows aside.rows.items ks aside.columns.items new ws → IsLaidBack s next ks new aside
  laid_back new ws done = record {
    of_document = kept_laid next s id alike distinct ks new aside.columns.items ws kept x;
    held = λ c there. held_laid next s id alike distinct ks new aside.columns.items ws kept x c there
        ∙ ap (λ ds. cond (is_beyond next id c) (aside_in (map column_id ds) (grid_at s id).rows aside.columns.items c.column c.row) (held_at next ks c)) (columns_alike id next s alike id)
        ∙ ap (λ rs. cond (is_beyond next id c) (aside_in (map column_id (grid_at s id).columns) rs aside.columns.items c.column c.row) (held_at next ks c)) (sym has_aside.rows);
  }
    where
      distinct : AreDistinct table_id next
      distinct = distinct_alike id s next (moved_alike s next id m) m.whole.sound.distinct

      x : IsTableExchanged id (grid_at next id).rows (grid_at s id).rows ks aside.columns.items new ws
      x = subst (λ rs. IsTableExchanged id rs (grid_at s id).rows ks aside.columns.items new ws) now (subst (λ rs. IsTableExchanged id rows rs ks aside.columns.items new ws) has_aside.rows done)
