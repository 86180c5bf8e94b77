-- The data columns that are read in every row, in the document and in the view.
use Rattle.std.proofs.Common.{◌≡◌, ◌∙◌, ap, refl, subst, sym, ℕ, Bool, true, false, cond, ◌&&◌, ◌||◌, List, [], ◌∷◌, filter, map, Option, Some, None, bytes_eq}
use Rattle.std.specs.List.{AllByRecursion, list_any}
use Rattle.std.specs.Option.{option_map}
use Rattle.std.proofs.lemmas.Bool.{false≢true}
use Rattle.std.proofs.lemmas.Slice.Eq.{bytes_eq-Decides}
use Rattle.cell_types.specs.declared.column_type.ColType.{ColType}
use Rattle.cell_types.specs.declared.column_type.ColType.TheVariants as type
use Rattle.doc_model.specs.declared.column.ColDef.{ColDef}
use Rattle.doc_model.specs.declared.view.ViewCol.{ViewCol}
use Rattle.doc_model.specs.declared.view.ViewTable.{ViewTable}
use Rattle.doc_model.specs.ByIds.{AreDistinct, find_id, has_id}
use Rattle.doc_model.specs.Column.{column_id}
use Rattle.doc_model.specs.Document.{Document, Table, table_id}
use Rattle.doc_model.specs.Grid.{Grid}
use Rattle.doc_model.specs.Schema.{no_grid}
use Rattle.doc_model.specs.ViewEdits.{shown_id}
use Rattle.doc_model.proofs.Choices.{keep, not_true}
use Rattle.doc_model.proofs.ByIdsLaws.{AreDistinct-IsByIds, IsByIds-by_id, find-filtered, has_apart}
use Rattle.doc_readers.specs.Parts.{grid_at}
use Rattle.plain_view.proofs.PartLemmas.{find-mapped}
use Rattle.acl_formula.specs.declared.permissions.Perm.TheVariants as perm
use Rattle.acl_rules.specs.declared.decision.Ctx.{Ctx}
use Rattle.acl_reading.specs.RulesLet.{rules_let}
use Rattle.censored_view.specs.Readable.{Readable, row_of}
use Rattle.censored_view.specs.View.{is_shown, shown_column, shown_columns, shown_rows}
use Rattle.censored_view.proofs.ColumnWalk.{distinct_columns}
use Rattle.censored_view.proofs.PlacedLemmas.{find-by_id}
use Rattle.censored_view.proofs.ViewLemmas.{find-view, seen_whole}
use Rattle.recalc.specs.Evaluated.{filled, value_of}
use Rattle.recalc.proofs.FilledLemmas.{filled_table, find_filled}
use Rattle.recalc.proofs.WatchedCells.{grid_filled}
use Rattle.rule_audit.specs.Open.{is_open, open_columns}
use Rattle.rule_audit.specs.Reached.{is_column_safe, is_given}
use Rattle.rule_audit.specs.SeenLaws.{IsSeen}
use Rattle.audited_checks.proofs.AlikeLemmas.{among_open}
use Rattle.audited_cells.specs.CellLaws.{TypesLaw}

-- ---- columns that are shown

-- what an id finds among them
pub find_shown : (q : Readable) (c : List ℕ) (ds : List ColDef) → AreDistinct column_id ds → find_id shown_id c (shown_columns q ds) ≡ option_map (shown_column q) (keep (λ (d : ColDef). q.column d.id) (find_id column_id c ds))
find_shown q c ds distinct =
    find-by_id shown_id c (map (shown_column q) (filter (λ (d : ColDef). q.column d.id) ds))
    ∙ find-mapped column_id shown_id (shown_column q) (λ d. refl) c (filter (λ (d : ColDef). q.column d.id) ds)
    ∙ ap (option_map (shown_column q)) (find-filtered column_id (λ (d : ColDef). q.column d.id) c ds distinct)

pub behind_shown : (q : Readable) (o : Option ColDef) (e : ViewCol) → option_map (shown_column q) (keep (λ (d : ColDef). q.column d.id) o) ≡ Some e → (d : ColDef) × ((o ≡ Some d) × (shown_column q d ≡ e))
behind_shown q None e h = absurd (cc)
behind_shown q (Some d) e h =
    elim (q.column d.id) as (λ b. option_map (shown_column q) (cond b (Some d) None) ≡ Some e → (f : ColDef) × ((◌≡◌ {A = Option ColDef} (Some d) (Some f)) × (shown_column q f ≡ e))) [
      | true ↦ λ h. let same : shown_column q d ≡ e = cc in (d, (refl, same))
      | false ↦ λ h. absurd (cc)
    ] h

-- ---- safe columns

any_filtered : (p f : ViewCol → Bool) (ds : List ViewCol) → list_any p (filter f ds) ≡ true → list_any p ds ≡ true
any_filtered p f [] h = h
any_filtered p f (d ∷ ds) h =
    elim (f d) as (λ b. list_any p (cond b (d ∷ filter f ds) (filter f ds)) ≡ true → (p d || list_any p ds) ≡ true) [
      | true ↦ λ h. elim (p d) as (λ e. (e || list_any p (filter f ds)) ≡ true → (e || list_any p ds) ≡ true) [ true ↦ λ h. refl | false ↦ λ h. any_filtered p f ds h ] h
      | false ↦ λ h. ap (λ b. p d || b) (any_filtered p f ds h) ∙ elim (p d) as (λ b. (b || true) ≡ true) [ true ↦ refl | false ↦ refl ]
    ] h

module _ (c : List ℕ) where
  its_own : (d : ViewCol) (ds : List ViewCol) → bytes_eq d.id c ≡ true → AllByRecursion (λ (y : ViewCol). bytes_eq d.id y.id ≡ false) ds → (is_given perm.U d || is_column_safe perm.U ds c) ≡ true → is_given perm.U d ≡ true
  its_own d ds same apart h =
      elim (is_given perm.U d) as (λ g. (g || is_column_safe perm.U ds c) ≡ true → g ≡ true) [
        | true ↦ λ h. refl
        | false ↦ λ h.
            let is : d.id ≡ c = (bytes_eq-Decides d.id c).0 same in
            let none : has_id shown_id ds c ≡ false = subst (λ n. has_id shown_id ds n ≡ false) is (has_apart shown_id d.id ds apart) in
            absurd (false≢true (sym none ∙ among_open perm.U c ds h))
      ] h

  -- the column of a safe id is a data column
  found_safe : (ds : List ViewCol) → AreDistinct shown_id ds → is_column_safe perm.U ds c ≡ true → (e : ViewCol) × ((find_id shown_id c ds ≡ Some e) × (is_given perm.U e ≡ true))
  found_safe [] distinct h = absurd (cc)
  found_safe (d ∷ ds) distinct h =
      elim (bytes_eq d.id c) as (λ b. bytes_eq d.id c ≡ b → ((b && is_given perm.U d) || is_column_safe perm.U ds c) ≡ true → (e : ViewCol) × ((cond b (Some d) (find_id shown_id c ds) ≡ Some e) × (is_given perm.U e ≡ true))) [
        | true ↦ λ same h. (d, (refl, its_own d ds same distinct.0 h))
        | false ↦ λ apart h. found_safe ds distinct.1 h
      ] refl h

-- ---- in a document

-- the type that a view tells of a column
abbrev pub view_type : ViewTable → List ℕ → ColType
view_type v c = elim (find_id shown_id c v.columns) [ None ↦ type.Any | Some e ↦ e.ty ]

-- a data column of the document's table, as the view tells it
pub record ColumnHere (s : Document) (v : ViewTable) (c : List ℕ) : Type 0 where
  pub table : Table
  pub at : find_id table_id v.id s ≡ Some table
  pub column : ColDef
  pub there : find_id column_id c table.grid.columns ≡ Some column
  pub shown : ViewCol
  pub told : find_id shown_id c v.columns ≡ Some shown
  pub types : column.info.ty ≡ shown.ty
  pub no_formula : column.info.is_formula ≡ false

-- its type is the one that the view tells
pub told_type : (s : Document) (v : ViewTable) (c : List ℕ) (col : ColumnHere s v c) → col.column.info.ty ≡ view_type v c
told_type s v c col = col.types ∙ sym (ap (λ (o : Option ViewCol). elim o as (λ (o : Option ViewCol). ColType) [ None ↦ type.Any | Some e ↦ e.ty ]) col.told)

module _ (x : Ctx) (s : Document) (v : ViewTable) (seen : IsSeen x (filled s) v) where
  abbrev lets : Readable
  lets = rules_let x v.id

  table_behind : (o : Option Table) → seen_whole lets v.id o ≡ Some v → (u : Table) × ((o ≡ Some u) × (v.columns ≡ shown_columns lets u.grid.columns))
  table_behind None e = absurd (cc)
  table_behind (Some u) e =
      elim (is_shown lets u.grid.columns) as (λ b. cond b (Some (shown_rows lets v.id (shown_columns lets u.grid.columns) (map (row_of u.grid) u.grid.rows))) None ≡ Some v → (w : Table) × ((◌≡◌ {A = Option Table} (Some u) (Some w)) × (v.columns ≡ shown_columns lets w.grid.columns))) [
        | true ↦ λ e. let same : shown_rows lets v.id (shown_columns lets u.grid.columns) (map (row_of u.grid) u.grid.rows) ≡ v = cc in (u, (refl, ap (λ (w : ViewTable). w.columns) (sym same)))
        | false ↦ λ e. absurd (cc)
      ] e

  unfilled : (o : Option Table) (u : Table) → option_map (filled_table (value_of s)) o ≡ Some u → (y : Table) × ((o ≡ Some y) × (filled_table (value_of s) y ≡ u))
  unfilled None u e = absurd (cc)
  unfilled (Some y) u e = let same : filled_table (value_of s) y ≡ u = cc in (y, (refl, same))

  -- the table of the document, whose columns the view shows
  pub its_table : (y : Table) × ((find_id table_id v.id s ≡ Some y) × (v.columns ≡ shown_columns lets y.grid.columns))
  its_table =
      let whole = table_behind (find_id table_id v.id (filled s)) (sym (find-view (rules_let x) (filled s) seen.laid_out v.id) ∙ seen.found) in
      let own = unfilled (find_id table_id v.id s) whole.0 (sym (find_filled (value_of s) v.id s) ∙ whole.1.0) in
      (own.0, (own.1.0, whole.1.1 ∙ ap (λ (u : Table). shown_columns lets u.grid.columns) (sym own.1.1)))

  distinct : AreDistinct column_id its_table.0.grid.columns
  distinct = subst (λ (g : Grid ColDef). AreDistinct column_id g.columns) (grid_filled (value_of s) s its_table.0 v.id its_table.1.0) (distinct_columns (filled s) seen.laid_out v.id)

  distinct_shown : AreDistinct shown_id v.columns
  distinct_shown =
      subst (AreDistinct shown_id) (sym its_table.1.1)
      (AreDistinct-IsByIds shown_id (shown_columns lets its_table.0.grid.columns) (IsByIds-by_id shown_id (map (shown_column lets) (filter (λ (d : ColDef). lets.column d.id) its_table.0.grid.columns))))

  pub column_here : (c : List ℕ) → is_column_safe perm.U (open_columns x v) c ≡ true → ColumnHere s v c
  column_here c safe =
      let any : is_column_safe perm.U v.columns c ≡ true = any_filtered (λ (d : ViewCol). bytes_eq d.id c && is_given perm.U d) (λ (d : ViewCol). is_open x v.id d.id) v.columns safe in
      let one = found_safe c v.columns distinct_shown any in
      let behind = behind_shown lets (find_id column_id c its_table.0.grid.columns) one.0 (sym (find_shown lets c its_table.0.grid.columns distinct) ∙ ap (find_id shown_id c) (sym its_table.1.1) ∙ one.1.0) in
      record {
        table = its_table.0;
        at = its_table.1.0;
        column = behind.0;
        there = behind.1.0;
        shown = one.0;
        told = one.1.0;
        types = ap (λ (e : ViewCol). e.ty) behind.1.1;
        no_formula = ap (λ (e : ViewCol). e.is_formula) behind.1.1 ∙ not_true one.0.is_formula one.1.1;
      }

-- the table of this id
pub grid_here : (s : Document) (id : List ℕ) (y : Table) → find_id table_id id s ≡ Some y → grid_at s id ≡ y.grid
grid_here s id y at = ap (λ (o : Option Table). elim o as (λ (o : Option Table). Grid ColDef) [ None ↦ no_grid | Some u ↦ u.grid ]) at

pub safe_column : TypesLaw
safe_column x s v c seen safe =
    let col = column_here x s v seen c safe in (
      col.shown,
      col.column,
      record {
        there = ap (λ (g : Grid ColDef). find_id column_id c g.columns) (grid_here s v.id col.table col.at) ∙ col.there;
        shown = col.told;
        types = col.types;
        no_formula = col.no_formula;
      },
    )
