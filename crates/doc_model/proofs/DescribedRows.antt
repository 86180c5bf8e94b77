-- What describes columns in a row of the table of columns, where tables and columns change.
use Rattle.std.proofs.Common.{ℕ, Bool, true, false, cond, not, List, [], ◌∷◌, map, ◌≡◌, refl, sym, ap, ◌∙◌, Option, Some, None, option_map, eqb, ltb}
use Rattle.std.proofs.lemmas.Bool.{eqb-true, false≢true}
use Rattle.std.specs.List.{AllByRecursion}
use Rattle.std.specs.Str.{bytes_eq}
use Rattle.doc_model.specs.declared.column.ColDef.{ColDef}
use Rattle.doc_model.specs.ByIds.{with_id, without_id}
use Rattle.doc_model.specs.Column.{column_row}
use Rattle.doc_model.specs.Document.{Table, table_id, table_row, put_by_row}
use Rattle.doc_model.specs.Records.{or_else}
use Rattle.doc_model.specs.Schema.{Described, described_row, all_columns, put_described, in_order}
use Rattle.doc_model.proofs.FirstRows.{first_at, first-append}

-- what is described in a row
abbrev pub described_at : ℕ → List Described → Option Described
described_at r es = first_at described_row r es

swapped : {A : Type 0} (a b : Bool) (x y : A) (o : Option A) → (a ≡ true → b ≡ true → ⊥) → cond b (Some x) (cond a (Some y) o) ≡ cond a (Some y) (cond b (Some x) o)
swapped true true x y o h = absurd (h refl refl)
swapped true false x y o h = refl
swapped false true x y o h = refl
swapped false false x y o h = refl

put_at : (e : Described) (es : List Described) (r : ℕ) → described_at r (put_described e es) ≡ cond (eqb e.column.row r) (Some e) (described_at r es)
put_at e [] r = refl
put_at e (x ∷ xs) r =
    elim (ltb e.column.row x.column.row) as (λ b. described_at r (cond b (e ∷ x ∷ xs) (cond (eqb e.column.row x.column.row) (e ∷ xs) (x ∷ put_described e xs))) ≡ cond (eqb e.column.row r) (Some e) (described_at r (x ∷ xs))) [
      | true ↦ refl
      | false ↦ elim (eqb e.column.row x.column.row) as (λ b. eqb e.column.row x.column.row ≡ b → described_at r (cond b (e ∷ xs) (x ∷ put_described e xs)) ≡ cond (eqb e.column.row r) (Some e) (described_at r (x ∷ xs))) [
        | true ↦ λ is. in_place (eqb e.column.row r) (eqb x.column.row r) (ap (λ n. eqb n r) (eqb-true e.column.row x.column.row is))
        | false ↦ λ apart.
            ap (λ o. cond (eqb x.column.row r) (Some x) o) (put_at e xs r)
            ∙ swapped (eqb e.column.row r) (eqb x.column.row r) x e (described_at r xs) (λ a b. false≢true (sym apart ∙ ap (eqb e.column.row) (eqb-true x.column.row r b) ∙ a))
      ] refl
    ]
  where
    in_place : (a b : Bool) → a ≡ b → cond a (Some e) (described_at r xs) ≡ cond a (Some e) (cond b (Some x) (described_at r xs))
    in_place true b h = refl
    in_place false true h = absurd (false≢true h)
    in_place false false h = refl

-- the order by rows does not show
pub described-in_order : (es : List Described) (r : ℕ) → described_at r (in_order es) ≡ described_at r es
described-in_order [] r = refl
described-in_order (e ∷ es) r = put_at e (in_order es) r ∙ ap (λ o. cond (eqb e.column.row r) (Some e) o) (described-in_order es r)

-- ---- table by table

abbrev pub described_in : Table → List Described
described_in t = map (λ (d : ColDef). let e : Described = record { parent = t.row; column = d } in e) t.grid.columns

-- the same of the columns of a table
columns-at : (parent : ℕ) (ds : List ColDef) (r : ℕ) → described_at r (map (λ (d : ColDef). let e : Described = record { parent = parent; column = d } in e) ds) ≡ option_map (λ (d : ColDef). let e : Described = record { parent = parent; column = d } in e) (first_at column_row r ds)
columns-at parent [] r = refl
columns-at parent (d ∷ ds) r =
    elim (eqb d.row r) as (λ b. cond b (Some (let e : Described = record { parent = parent; column = d } in e)) (described_at r (map (λ (d : ColDef). let e : Described = record { parent = parent; column = d } in e) ds)) ≡ option_map (λ (d : ColDef). let e : Described = record { parent = parent; column = d } in e) (cond b (Some d) (first_at column_row r ds))) [
      | true ↦ refl
      | false ↦ columns-at parent ds r
    ]

-- tables that describe the same in the row
pub same_described : (t u : Table) (r : ℕ) → u.row ≡ t.row → first_at column_row r u.grid.columns ≡ first_at column_row r t.grid.columns → described_at r (described_in u) ≡ described_at r (described_in t)
same_described t u r row e =
    columns-at u.row u.grid.columns r
    ∙ ap (λ o. option_map (λ (d : ColDef). let e : Described = record { parent = u.row; column = d } in e) o) e
    ∙ ap (λ n. option_map (λ (d : ColDef). let e : Described = record { parent = n; column = d } in e) (first_at column_row r t.grid.columns)) row
    ∙ sym (columns-at t.row t.grid.columns r)

none_described : (t : Table) (r : ℕ) → first_at column_row r t.grid.columns ≡ None → described_at r (described_in t) ≡ None
none_described t r e = columns-at t.row t.grid.columns r ∙ ap (λ o. option_map (λ (d : ColDef). let e : Described = record { parent = t.row; column = d } in e) o) e

all-at : (t : Table) (p : List Table) (r : ℕ) → described_at r (all_columns (t ∷ p)) ≡ or_else (described_at r (described_in t)) (described_at r (all_columns p))
all-at t p r = first-append described_row (described_in t) (all_columns p) r

module _ (id : List ℕ) (r : ℕ) where
  -- one table changed
  pub described-with_table : (f : Table → Table) → (p : List Table) → AllByRecursion (λ t. bytes_eq (table_id t) id ≡ true → described_at r (described_in (f t)) ≡ described_at r (described_in t)) p → described_at r (all_columns (with_id table_id id f p)) ≡ described_at r (all_columns p)
  described-with_table f [] h = refl
  described-with_table f (t ∷ p) h =
      all-at (cond (bytes_eq t.id id) (f t) t) (with_id table_id id f p) r
      ∙ ap (λ o. or_else (described_at r (described_in (cond (bytes_eq t.id id) (f t) t))) o) (described-with_table f p h.1)
      ∙ ap (λ o. or_else o (described_at r (all_columns p)))
      (elim (bytes_eq t.id id) as (λ b. (b ≡ true → described_at r (described_in (f t)) ≡ described_at r (described_in t)) → described_at r (described_in (cond b (f t) t)) ≡ described_at r (described_in t)) [ true ↦ λ k. k refl | false ↦ λ _. refl ] h.0)
      ∙ sym (all-at t p r)

  -- one table gone
  pub described-without_table : (p : List Table) → AllByRecursion (λ t. bytes_eq (table_id t) id ≡ true → first_at column_row r t.grid.columns ≡ None) p → described_at r (all_columns (without_id table_id id p)) ≡ described_at r (all_columns p)
  described-without_table [] h = refl
  described-without_table (t ∷ p) h =
      elim (bytes_eq t.id id) as (λ b. (b ≡ true → first_at column_row r t.grid.columns ≡ None) → described_at r (all_columns (cond (not b) (t ∷ without_id table_id id p) (without_id table_id id p))) ≡ described_at r (all_columns (t ∷ p))) [
        | true ↦ λ k.
            described-without_table p h.1
            ∙ sym (ap (λ o. or_else o (described_at r (all_columns p))) (none_described t r (k refl)))
            ∙ sym (all-at t p r)
        | false ↦ λ _.
            all-at t (without_id table_id id p) r
            ∙ ap (λ o. or_else (described_at r (described_in t)) o) (described-without_table p h.1)
            ∙ sym (all-at t p r)
      ] h.0

-- one table more
pub described-put_table : (t : Table) (p : List Table) (r : ℕ) → first_at column_row r t.grid.columns ≡ None → described_at r (all_columns (put_by_row table_row t p)) ≡ described_at r (all_columns p)
described-put_table t [] r none = all-at t [] r ∙ ap (λ o. or_else o None) (none_described t r none)
described-put_table t (u ∷ p) r none =
    elim (ltb t.row u.row) as (λ b. described_at r (all_columns (cond b (t ∷ u ∷ p) (u ∷ put_by_row table_row t p))) ≡ described_at r (all_columns (u ∷ p))) [
      | true ↦ all-at t (u ∷ p) r ∙ ap (λ o. or_else o (described_at r (all_columns (u ∷ p)))) (none_described t r none)
      | false ↦
          all-at u (put_by_row table_row t p) r
          ∙ ap (λ o. or_else (described_at r (described_in u)) o) (described-put_table t p r none)
          ∙ sym (all-at u p r)
    ]
