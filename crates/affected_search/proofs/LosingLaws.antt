-- The cells that an action on records may lose, column by column and table by table.
use Rattle.std.proofs.Common.{ℕ, nat_eq, eqb, length, Bool, true, false, cond, not, ◌||◌, ◌&&◌, List, [], ◌∷◌, ◌++◌, map, filter, Vec, Global, Option, Some, None, ◌≡◌, refl, sym, ap, ◌∙◌, arith}
use Rattle.std.proofs.lemmas.Bool.{true≢false, or_parts}
use Rattle.std.proofs.Math.Dec.{eqb-suc-zero}
use Rattle.std.specs.List.{AllByRecursion}
use Rattle.std.specs.Option.{is_some, option_map}
use Rattle.cell_types.specs.declared.cell.CellOld.{CellOld}
use Rattle.doc_model.specs.declared.action.DocAction.{DocAction}
use Rattle.doc_model.specs.Column.{column_id}
use Rattle.doc_model.specs.Document.{Document, table_id}
use Rattle.doc_model.specs.Grid.{cell}
use Rattle.doc_model.specs.Rows.{has}
use Rattle.doc_model.proofs.RowsLaws.{each_has, has-filter}
use Rattle.doc_readers.specs.Parts.{grid_at}
use Rattle.lookup_index.specs.Under.{under_key}
use Rattle.recalc.specs.Cells.{cell_of}
use Rattle.recalc.specs.InOrder.{in_order}
use Rattle.recalc.specs.Lost.{all_cells, cells_at}
use Rattle.recalc.specs.MayLose.{may_lose_column, may_lose_row}
use Rattle.recalc.proofs.LosingCells.{column_passing, columns_passing, flat, ids_enough, table_passing, tables_passing}
use Rattle.dep_graph.specs.declared.numbers.CellNumber.{CellNumber}
use Rattle.dep_graph.specs.declared.numbers.ColumnNumber.{ColumnNumber}
use Rattle.dep_graph.specs.Graph.{Graph}
use Rattle.dep_graph.specs.Numbers.{is_column}
use Rattle.dep_graph.specs.Names.{number_in}
use Rattle.dep_graph.specs.Sources.{column_in, column_of}
use Rattle.affected_search.specs.ByColumn.{HasRowsOf}
use Rattle.affected_search.specs.Losing.{are_some, found_rows, has_rows, is_named, is_table_named, named_rows, written_rows}
use Rattle.affected_search.specs.Narrow.{is_narrow, is_written}
use Rattle.affected_search.specs.Reached.{is_among}
use Rattle.affected_search.specs.Sheets.{is_found}

-- ---- rows

or_assoc : (a b c : Bool) → (a || (b || c)) ≡ ((a || b) || c)
or_assoc true b c = refl
or_assoc false b c = refl

has_append : (xs ys : List ℕ) (r : ℕ) → has (xs ++ ys) r ≡ (has xs r || has ys r)
has_append [] ys r = refl
has_append (x ∷ xs) ys r = ap (λ b. eqb x r || b) (has_append xs ys r) ∙ or_assoc (eqb x r) (has xs r) (has ys r)

has_chosen : (b : Bool) (rows : List ℕ) (r : ℕ) → has (cond b rows []) r ≡ (b && has rows r)
has_chosen true rows r = refl
has_chosen false rows r = refl

and_true : (b : Bool) → (b && true) ≡ b
and_true true = refl
and_true false = refl

-- a list that has none
none_there : {X : Type 0} (xs : List X) → not (nat_eq (length xs) 0) ≡ false → xs ≡ []
none_there [] e = refl
none_there (x ∷ xs) e = absurd (true≢false (sym (ap not (eqb-suc-zero (length xs))) ∙ e))

pub nothing_there : {X : Type 0} (xs : List X) → length xs ≡ 0 → xs ≡ []
nothing_there [] e = refl
nothing_there (x ∷ xs) e = absurd (omega (arith, e))

pub no_number : (o : Option ℕ) → is_some o ≡ false → o ≡ None
no_number None e = refl
no_number (Some n) e = absurd (true≢false e)

no_rows_pass : (rows : List ℕ) → filter (has []) rows ≡ []
no_rows_pass [] = refl
no_rows_pass (r ∷ rows) = no_rows_pass rows

-- tests that answer alike keep the same
same_filter : {X : Type 0} (p q : X → Bool) (xs : List X) → ((x : X) → p x ≡ q x) → filter p xs ≡ filter q xs
same_filter p q [] h = refl
same_filter p q (x ∷ xs) h = ap (λ b. cond b (x ∷ filter p xs) (filter p xs)) (h x) ∙ ap (λ l. cond (q x) (x ∷ l) l) (same_filter p q xs h)

module _ (names : List (List ℕ)) (index : List (ColumnNumber × Vec ℕ Global)) where
  -- ---- the index tells the found cells

  pub found_told : (graph : Graph) (cells : List CellNumber) → graph.names ≡ names → HasRowsOf cells index → (t c : List ℕ) (r : ℕ) → has (found_rows names index t c) r ≡ is_found graph cells (cell_of t c r)
  found_told graph cells same so t c r = by (column_in names t c) ∙ ap (λ (ns : List (List ℕ)). is_found (record { names = ns; reads = graph.reads }) cells (cell_of t c r)) (sym same)
    where
      by : (o : Option ColumnNumber) → has (elim o as (λ _. List ℕ) [ None ↦ [] | Some k ↦ under_key is_column index k ]) r ≡ elim (option_map {U = CellNumber} (λ k. record { column = k; row = r }) o) as (λ _. Bool) [ None ↦ false | Some k ↦ is_among cells k ]
      by None = refl
      by (Some k) = so (record { column = k; row = r })

  module _ (v : Document) (a : DocAction) where
    pub same_narrow : (graph : Graph) (cells : List CellNumber) → graph.names ≡ names → HasRowsOf cells index → filter (is_named names index v a) (all_cells v) ≡ filter (is_narrow graph cells v a) (all_cells v)
    same_narrow graph cells same so = same_filter (is_named names index v a) (is_narrow graph cells v a) (all_cells v) (λ o. ap (λ b. b || is_written v a o) (found_told graph cells same so o.cell.table o.cell.column o.cell.row))

    -- ---- one column

    module _ (t c : List ℕ) where
      abbrev rows_there : List ℕ
      rows_there = (grid_at v t).rows

      abbrev named : List ℕ
      named = named_rows names index a t (written_rows v a t) c

      abbrev cell_there : ℕ → CellOld
      cell_there r = record { cell = cell_of t c r; old = cell column_id (grid_at v t) c r }

      passes : (r : ℕ) → has rows_there r ≡ true → is_named names index v a (cell_there r) ≡ has named r
      passes r here =
          sym (has_append (found_rows names index t c) (cond (may_lose_column a c) (written_rows v a t) []) r
          ∙ ap (λ b. has (found_rows names index t c) r || b)
          (has_chosen (may_lose_column a c) (written_rows v a t) r ∙ ap (λ b. may_lose_column a c && b) (has-filter (may_lose_row v a t) rows_there r ∙ ap (λ b. may_lose_row v a t r && b) here ∙ and_true (may_lose_row v a t r))))

      kept : (rows : List ℕ) → AllByRecursion (λ r. has rows_there r ≡ true) rows → filter (is_named names index v a) (cells_at t (grid_at v t) c rows) ≡ cells_at t (grid_at v t) c (filter (has named) rows)
      kept [] h = refl
      kept (r ∷ rows) h =
          ap (λ b. cond b (cell_there r ∷ filter (is_named names index v a) (cells_at t (grid_at v t) c rows)) (filter (is_named names index v a) (cells_at t (grid_at v t) c rows))) (passes r h.0)
          ∙ ap (λ l. cond (has named r) (cell_there r ∷ l) l) (kept rows h.1)
          ∙ by (has named r)
        where
          by : (b : Bool) → cond b (cell_there r ∷ cells_at t (grid_at v t) c (filter (has named) rows)) (cells_at t (grid_at v t) c (filter (has named) rows)) ≡ cells_at t (grid_at v t) c (cond b (r ∷ filter (has named) rows) (filter (has named) rows))
          by true = refl
          by false = refl

      pub column_named : column_passing v (is_named names index v a) t c ≡ cells_at t (grid_at v t) c (filter (has named) rows_there)
      column_named = kept rows_there (each_has (λ r. has rows_there r ≡ true) rows_there (λ r h. h))

      column_none : has_rows names index a t (written_rows v a t) c ≡ false → column_passing v (is_named names index v a) t c ≡ []
      column_none isnt =
          column_named ∙ ap (λ l. cells_at t (grid_at v t) c (filter (has l) rows_there)) none ∙ ap (cells_at t (grid_at v t) c) (no_rows_pass rows_there)
        where
          two : (are_some (found_rows names index t c) ≡ false) × ((are_some (written_rows v a t) && may_lose_column a c) ≡ false)
          two = or_parts (are_some (found_rows names index t c)) (are_some (written_rows v a t) && may_lose_column a c) isnt

          unwritten : (b : Bool) (rows : List ℕ) → (are_some rows && b) ≡ false → cond b rows [] ≡ []
          unwritten true rows e = none_there rows (sym (and_true (are_some rows)) ∙ e)
          unwritten false rows e = refl

          none : named ≡ []
          none = ap (λ l. l ++ cond (may_lose_column a c) (written_rows v a t) []) (none_there (found_rows names index t c) two.0) ∙ unwritten (may_lose_column a c) (written_rows v a t) two.1

    -- ---- the columns of a table

    pub table_columns : (t : List ℕ) → flat (column_passing v (is_named names index v a) t) (in_order (filter (has_rows names index a t (written_rows v a t)) (map column_id (grid_at v t).columns))) ≡ table_passing v (is_named names index v a) t
    table_columns t =
        ids_enough (column_passing v (is_named names index v a) t) (has_rows names index a t (written_rows v a t)) (map column_id (grid_at v t).columns) (column_none t)
        ∙ sym (columns_passing v (is_named names index v a) t (in_order (map column_id (grid_at v t).columns)))

    table_none : (t : List ℕ) → is_table_named names index v a t ≡ false → table_passing v (is_named names index v a) t ≡ []
    table_none t isnt =
        sym (table_columns t)
        ∙ ap (λ l. flat (column_passing v (is_named names index v a) t) (in_order l)) (none_there (filter (has_rows names index a t (written_rows v a t)) (map column_id (grid_at v t).columns)) isnt)

    -- ---- the tables

    -- one that has no number, and is not written
    pub unknown_table : (t : List ℕ) → number_in names t ≡ None → written_rows v a t ≡ [] → is_table_named names index v a t ≡ false
    unknown_table t unknown unwritten = ap (λ l. not (nat_eq (length l) 0)) (no_column (map column_id (grid_at v t).columns))
      where
        no_rows : (c : List ℕ) → has_rows names index a t (written_rows v a t) c ≡ false
        no_rows c =
            ap (λ o. are_some (elim (column_of o (number_in names c)) as (λ _. List ℕ) [ None ↦ [] | Some k ↦ under_key is_column index k ]) || (are_some (written_rows v a t) && may_lose_column a c)) unknown
            ∙ ap (λ rows. are_some rows && may_lose_column a c) unwritten

        no_column : (cs : List (List ℕ)) → filter (has_rows names index a t (written_rows v a t)) cs ≡ []
        no_column [] = refl
        no_column (c ∷ cs) = ap (λ b. cond b (c ∷ filter (has_rows names index a t (written_rows v a t)) cs) (filter (has_rows names index a t (written_rows v a t)) cs)) (no_rows c) ∙ no_column cs

    pub tables_enough : flat (table_passing v (is_named names index v a)) (in_order (filter (is_table_named names index v a) (map table_id v))) ≡ filter (is_named names index v a) (all_cells v)
    tables_enough =
        ids_enough (table_passing v (is_named names index v a)) (is_table_named names index v a) (map table_id v) table_none
        ∙ sym (tables_passing v (is_named names index v a) (in_order (map table_id v)))
