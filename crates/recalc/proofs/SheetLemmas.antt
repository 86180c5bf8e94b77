-- A document as formulas see it.
use Rattle.std.proofs.Common.{ℕ, Bool, true, false, cond, ◌&&◌, ◌||◌, nat_eq, List, [], ◌∷◌, ◌++◌, map, ◌≡◌, inl, inr, refl, sym, ap, ◌∙◌, subst, Option, Some, None}
use Rattle.std.proofs.lemmas.Bool.{false≢true, eqb-true}
use Rattle.std.proofs.lemmas.Slice.Eq.{bytes_eq-Decides}
use Rattle.std.specs.Option.{option_map}
use Rattle.std.specs.Str.{bytes_eq}
use Rattle.cell_types.specs.declared.cell.CellId.{CellId}
use Rattle.doc_model.specs.declared.column.ColDef.{ColDef}
use Rattle.doc_model.specs.ByIds.{find_id}
use Rattle.doc_model.specs.Rows.{has}
use Rattle.doc_model.specs.Grid.{Grid}
use Rattle.doc_model.specs.Column.{column_id}
use Rattle.doc_model.specs.Document.{Table, Document, table_id}
use Rattle.doc_model.specs.Schema.{no_grid}
use Rattle.doc_readers.specs.Parts.{grid_at}
use Rattle.formula_eval.specs.Reader.{Told, known, no_table, no_row, needed}
use Rattle.recalc.specs.Cells.{cell_of}
use Rattle.recalc.specs.Sheet.{IsIn}
use Rattle.recalc.specs.Evaluated.{formula_in, formula_at, base_in, base_at, cells_of_column, cells_of_columns, formula_cells, sheet_of}
use Rattle.recalc.specs.Stack.{IsSheet}

in_left : (c : CellId) (xs ys : List CellId) → IsIn c xs → IsIn c (xs ++ ys)
in_left c [] ys i = absurd i
in_left c (x ∷ xs) ys (inl e) = inl e
in_left c (x ∷ xs) ys (inr i) = inr (in_left c xs ys i)

in_right : (c : CellId) (xs ys : List CellId) → IsIn c ys → IsIn c (xs ++ ys)
in_right c [] ys i = i
in_right c (x ∷ xs) ys i = inr (in_right c xs ys i)

in_rows : (c : CellId) (t d : List ℕ) (rows : List ℕ) → t ≡ c.table → d ≡ c.column → has rows c.row ≡ true → IsIn c (map (cell_of t d) rows)
in_rows c t d [] p q h = absurd (false≢true h)
in_rows c t d (r ∷ rows) p q h =
    elim (nat_eq r c.row) as (λ b. nat_eq r c.row ≡ b → (b || has rows c.row) ≡ true → IsIn c (map (cell_of t d) (r ∷ rows))) [
      | true ↦ λ e _. let n = eqb-true r c.row e in inl (λ i. record { table = p i; column = q i; row = n i })
      | false ↦ λ _ h. inr (in_rows c t d rows p q h)
    ] refl h

some_formula : (b : Bool) (f : List ℕ) (x : List ℕ) → cond b (Some x) None ≡ Some f → b ≡ true
some_formula true f x e = refl
some_formula false f x e = absurd (cc)

and_both : (a b : Bool) → (a && b) ≡ true → (a ≡ true) × (b ≡ true)
and_both true b e = (refl, e)
and_both false b e = absurd (false≢true e)

in_column : (c : CellId) (t : List ℕ) (g : Grid ColDef) (d : ColDef) (f : List ℕ) → t ≡ c.table → d.id ≡ c.column → formula_in g c.row d ≡ Some f → IsIn c (cells_of_column t g d)
in_column c t g d f p q e =
    let h = and_both d.info.is_formula (has g.rows c.row) (some_formula (d.info.is_formula && has g.rows c.row) f d.info.formula e) in
    subst (λ b. IsIn c (cond b (map (cell_of t d.id) g.rows) [])) (sym h.0) (in_rows c t d.id g.rows p q h.1)

in_columns : (c : CellId) (t : List ℕ) (g : Grid ColDef) (f : List ℕ) (ds : List ColDef) → t ≡ c.table
    → elim (find_id column_id c.column ds) as (λ (o : Option ColDef). Option (List ℕ)) [ None ↦ None | Some d ↦ formula_in g c.row d ] ≡ Some f → IsIn c (cells_of_columns t g ds)
in_columns c t g f [] p e = absurd (cc)
in_columns c t g f (d ∷ ds) p e =
    elim (bytes_eq d.id c.column) as (λ b. bytes_eq d.id c.column ≡ b → elim (cond b (Some d) (find_id column_id c.column ds)) as (λ (o : Option ColDef). Option (List ℕ)) [ None ↦ None | Some d ↦ formula_in g c.row d ] ≡ Some f → IsIn c (cells_of_columns t g (d ∷ ds))) [
      | true ↦ λ is e. in_left c (cells_of_column t g d) (cells_of_columns t g ds) (in_column c t g d f p ((bytes_eq-Decides d.id c.column).0 is) e)
      | false ↦ λ _ e. in_right c (cells_of_column t g d) (cells_of_columns t g ds) (in_columns c t g f ds p e)
    ] refl e

in_tables : (c : CellId) (f : List ℕ) (s : Document) → formula_at s c ≡ Some f → IsIn c (formula_cells s)
in_tables c f [] e = absurd (cc)
in_tables c f (t ∷ s) e =
    elim (bytes_eq t.id c.table) as (λ b. bytes_eq t.id c.table ≡ b
    → elim (cond b (Some t) (find_id table_id c.table s)) as (λ (o : Option Table). Option (List ℕ)) [ None ↦ None | Some t ↦ elim (find_id column_id c.column t.grid.columns) as (λ (o : Option ColDef). Option (List ℕ)) [ None ↦ None | Some d ↦ formula_in t.grid c.row d ] ] ≡ Some f → IsIn c (formula_cells (t ∷ s))) [
      | true ↦ λ is e. in_left c (cells_of_columns t.id t.grid t.grid.columns) (formula_cells s) (in_columns c t.id t.grid f t.grid.columns ((bytes_eq-Decides t.id c.table).0 is) e)
      | false ↦ λ _ e. in_right c (cells_of_columns t.id t.grid t.grid.columns) (formula_cells s) (in_tables c f s e)
    ] refl e

never_needed : (s : Document) (c : CellId) → base_at s c ≡ needed → ⊥
never_needed s c =
    elim (find_id table_id c.table s) as (λ (o : Option Table). elim o as (λ _. Told) [ None ↦ no_table | Some t ↦ base_in t.grid c (find_id column_id c.column t.grid.columns) ] ≡ needed → ⊥) [
      | None ↦ λ e. absurd (cc)
      | Some t ↦ in_grid t.grid (find_id column_id c.column t.grid.columns)
    ]
  where
    in_grid : (g : Grid ColDef) (o : Option ColDef) → base_in g c o ≡ needed → ⊥
    in_grid g None e = absurd (cc)
    in_grid g (Some d) e = either (has g.rows c.row) (known (Rattle.doc_model.specs.Grid.cell column_id g c.column c.row)) (λ q. known_needed q) e
      where
        known_needed : known (Rattle.doc_model.specs.Grid.cell column_id g c.column c.row) ≡ needed → ⊥
        known_needed q = cc

        either : (b : Bool) (o : Told) → (o ≡ needed → ⊥) → cond b o no_row ≡ needed → ⊥
        either true o h e = h e
        either false o h e = cc

pub is_sheet : (s : Document) → IsSheet (sheet_of s)
is_sheet s = record { listed = λ c f e. in_tables c f s e; told = never_needed s }

-- the formula and the type of a cell whose column is found
pub formula_here : (s : Document) (c : CellId) (x : List ℕ) (d : ColDef) → formula_at s c ≡ Some x → Some d ≡ find_id column_id c.column (grid_at s c.table).columns
    → (formula_at s c ≡ Some d.info.formula) × ((sheet_of s).kind c.table c.column ≡ Some d.info.ty)
formula_here s c x d =
    elim (find_id table_id c.table s) as (λ (o : Option Table). elim o as (λ _. Option (List ℕ)) [ None ↦ None | Some t ↦ by_column t.grid (find_id column_id c.column t.grid.columns) ] ≡ Some x
    → Some d ≡ find_id column_id c.column (elim o as (λ _. Grid ColDef) [ None ↦ no_grid | Some t ↦ t.grid ]).columns
    → (elim o as (λ _. Option (List ℕ)) [ None ↦ None | Some t ↦ by_column t.grid (find_id column_id c.column t.grid.columns) ] ≡ Some d.info.formula)
    × (option_map (λ (d : ColDef). d.info.ty) (elim o as (λ _. Option ColDef) [ None ↦ None | Some t ↦ find_id column_id c.column t.grid.columns ]) ≡ Some d.info.ty)) [
      | None ↦ λ e _. absurd (no_formula e)
      | Some t ↦ λ e h. (in_grid t.grid (find_id column_id c.column t.grid.columns) e h, ap (option_map (λ (d : ColDef). d.info.ty)) (sym h))
    ]
  where
    by_column : Grid ColDef → Option ColDef → Option (List ℕ)
    by_column g o = elim o as (λ _. Option (List ℕ)) [ None ↦ None | Some d ↦ formula_in g c.row d ]

    no_formula : ◌≡◌ {A = Option (List ℕ)} None (Some x) → ⊥
    no_formula e = cc

    in_grid : (g : Grid ColDef) (o : Option ColDef) → by_column g o ≡ Some x → Some d ≡ o → by_column g o ≡ Some d.info.formula
    in_grid g o e h = ap (by_column g) (sym h) ∙ is_formula (d.info.is_formula && has g.rows c.row) (ap (by_column g) h ∙ e)
      where
        is_formula : (b : Bool) → cond b (Some d.info.formula) None ≡ Some x → cond b (Some d.info.formula) None ≡ Some d.info.formula
        is_formula true e = refl
        is_formula false e = absurd (no_formula e)
