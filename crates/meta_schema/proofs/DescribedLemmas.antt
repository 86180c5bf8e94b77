-- The columns of one table among those that are described in order.
use Rattle.std.proofs.Common.{ℕ, Bool, true, false, cond, not, ◌||◌, List, [], ◌∷◌, ◌++◌, map, filter, ◌≡◌, ◌<◌, refl, sym, ap, subst, ◌∙◌, eqb, ltb, arith, append-nil}
use Rattle.std.proofs.lemmas.Bool.{and_parts, lt-ltb, ltb-true, ne_eqb, eqb-false}
use Rattle.std.proofs.lemmas.Bool.Decides.{Decides-int_eq}
use Rattle.std.proofs.lemmas.List.Elements.{filter-append}
use Rattle.std.specs.Prelude.{pos}
use Rattle.std.specs.Ordering.{int_eq}
use Rattle.std.specs.List.{AllByRecursion}
use Rattle.doc_model.specs.declared.column.ColDef.{ColDef}
use Rattle.doc_model.specs.Column.{column_row}
use Rattle.doc_model.specs.Document.{Table, table_row}
use Rattle.doc_model.specs.Rows.{has, has_no_duplicates, IsAscending}
use Rattle.doc_model.specs.Schema.{Described, described_row, put_described, in_order, all_columns}
use Rattle.doc_model.proofs.Choices.{cond_true, cond_false, false_from, not_true, each_weaker, each_both, each_map, each_unmapped, each_filter, filter_none, filter_all}
use Rattle.doc_model.proofs.SchemaLaws.{has-in_order, IsAscending-in_order}

-- a column of the table of that row
abbrev pub described : ℕ → ColDef → Described
described row d = record { parent = row; column = d }

-- whether it is one of the table of that row
abbrev pub is_under : ℕ → Described → Bool
is_under row e = int_eq (pos e.parent) (pos row)

abbrev pub column_part : Described → ColDef
column_part e = e.column

-- ---- order and choice

put_low : (e : Described) (es : List Described) → AllByRecursion (λ x. e.column.row < x.column.row) es → put_described e es ≡ e ∷ es
put_low e [] h = refl
put_low e (x ∷ es) h = cond_true (ltb e.column.row x.column.row) (e ∷ x ∷ es) (cond (eqb e.column.row x.column.row) (e ∷ es) (x ∷ put_described e es)) (lt-ltb e.column.row x.column.row h.0)

put_high : (e x : Described) (es : List Described) → ltb e.column.row x.column.row ≡ false → eqb e.column.row x.column.row ≡ false → put_described e (x ∷ es) ≡ x ∷ put_described e es
put_high e x es low apart =
    cond_false (ltb e.column.row x.column.row) (e ∷ x ∷ es) (cond (eqb e.column.row x.column.row) (e ∷ es) (x ∷ put_described e es)) low
    ∙ cond_false (eqb e.column.row x.column.row) (e ∷ es) (x ∷ put_described e es) apart

-- columns whose rows ascend are in order
pub in_order_again : (es : List Described) → IsAscending (map described_row es) → in_order es ≡ es
in_order_again [] a = refl
in_order_again (e ∷ es) a =
    ap (put_described e) (in_order_again es a.1) ∙ put_low e es (each_unmapped (λ q. e.column.row < q) described_row es a.0)

pub neither : (a b : Bool) → (a || b) ≡ false → (a ≡ false) × (b ≡ false)
neither true b e = absurd (cc)
neither false b e = (refl, e)

module _ (p : Described → Bool) where
  chosen : (e x : Described) (es : List Described) → ltb e.column.row x.column.row ≡ false → eqb e.column.row x.column.row ≡ false
      → cond (p x) (x ∷ cond (p e) (put_described e es) es) (cond (p e) (put_described e es) es) ≡ cond (p e) (put_described e (cond (p x) (x ∷ es) es)) (cond (p x) (x ∷ es) es)
  chosen e x es low apart =
      elim (p x) as (λ b. cond b (x ∷ cond (p e) (put_described e es) es) (cond (p e) (put_described e es) es) ≡ cond (p e) (put_described e (cond b (x ∷ es) es)) (cond b (x ∷ es) es)) [
        | true ↦ elim (p e) as (λ b. x ∷ cond b (put_described e es) es ≡ cond b (put_described e (x ∷ es)) (x ∷ es)) [ true ↦ sym (put_high e x es low apart) | false ↦ refl ]
        | false ↦ refl
      ]

  filter-put_described : (e : Described) (es : List Described) → IsAscending (map described_row es) → has (map described_row es) e.column.row ≡ false
      → filter p (put_described e es) ≡ cond (p e) (put_described e (filter p es)) (filter p es)
  filter-put_described e [] a new = refl
  filter-put_described e (x ∷ es) a new =
      elim (ltb e.column.row x.column.row) as (λ b. ltb e.column.row x.column.row ≡ b → filter p (put_described e (x ∷ es)) ≡ cond (p e) (put_described e (filter p (x ∷ es))) (filter p (x ∷ es))) [
        | true ↦ λ is. first is
        | false ↦ λ low. later low (λ new. filter-put_described e es a.1 new)
      ] refl
    where
      first : ltb e.column.row x.column.row ≡ true → filter p (put_described e (x ∷ es)) ≡ cond (p e) (put_described e (filter p (x ∷ es))) (filter p (x ∷ es))
      first is =
          let below : e.column.row < x.column.row = ltb-true e.column.row x.column.row is in
          let all : AllByRecursion (λ y. e.column.row < y.column.row) (x ∷ es)
          = (below, each_weaker (λ y. x.column.row < y.column.row) (λ y. e.column.row < y.column.row) (λ y l. omega arith) es (each_unmapped (λ q. x.column.row < q) described_row es a.0)) in
          ap (filter p) (put_low e (x ∷ es) all)
          ∙ ap (λ ys. cond (p e) ys (filter p (x ∷ es))) (sym (put_low e (filter p (x ∷ es)) (each_filter (λ y. e.column.row < y.column.row) p (x ∷ es) all)))

      later : ltb e.column.row x.column.row ≡ false → (has (map described_row es) e.column.row ≡ false → filter p (put_described e es) ≡ cond (p e) (put_described e (filter p es)) (filter p es)) → filter p (put_described e (x ∷ es)) ≡ cond (p e) (put_described e (filter p (x ∷ es))) (filter p (x ∷ es))
      later low rest =
          let two : (eqb x.column.row e.column.row ≡ false) × (has (map described_row es) e.column.row ≡ false) = neither (eqb x.column.row e.column.row) (has (map described_row es) e.column.row) new in
          let apart : eqb e.column.row x.column.row ≡ false = turned two.0 in
          ap (filter p) (put_high e x es low apart)
          ∙ ap (λ ys. cond (p x) (x ∷ ys) ys) (rest two.1)
          ∙ chosen e x (filter p es) low apart
        where
          turned : eqb x.column.row e.column.row ≡ false → eqb e.column.row x.column.row ≡ false
          turned isnt = ne_eqb e.column.row x.column.row (λ is. eqb-false x.column.row e.column.row isnt (sym is))

  -- what is chosen of columns in order is what is chosen, in order
  pub filter-in_order : (es : List Described) → has_no_duplicates (map described_row es) ≡ true → filter p (in_order es) ≡ in_order (filter p es)
  filter-in_order [] once = refl
  filter-in_order (e ∷ es) once =
      let two : (not (has (map described_row es) e.column.row) ≡ true) × (has_no_duplicates (map described_row es) ≡ true) = and_parts (not (has (map described_row es) e.column.row)) (has_no_duplicates (map described_row es)) once in
      filter-put_described e (in_order es) (IsAscending-in_order es) (has-in_order es e.column.row ∙ not_true (has (map described_row es) e.column.row) two.0)
      ∙ ap (λ xs. cond (p e) (put_described e xs) xs) (filter-in_order es two.1)
      ∙ elim (p e) as (λ b. cond b (put_described e (in_order (filter p es))) (in_order (filter p es)) ≡ in_order (cond b (e ∷ filter p es) (filter p es))) [ true ↦ refl | false ↦ refl ]

-- ---- the columns of one table

under_itself : (row : ℕ) → int_eq (pos row) (pos row) ≡ true
under_itself row = (Decides-int_eq (pos row) (pos row)).1 refl

under_apart : (a b : ℕ) → (a ≡ b → ⊥) → int_eq (pos a) (pos b) ≡ false
under_apart a b apart = false_from (int_eq (pos a) (pos b)) (λ is. let same : pos a ≡ pos b = (Decides-int_eq (pos a) (pos b)).0 is in apart (cc))

-- the columns of tables of other rows
others_none : (row : ℕ) (plain : List Table) → AllByRecursion (λ t. t.row ≡ row → ⊥) plain → AllByRecursion (λ e. is_under row e ≡ false) (all_columns plain)
others_none row [] h = tt
others_none row (t ∷ plain) h = joined (map (described t.row) t.grid.columns) (each_map (λ e. is_under row e ≡ false) (described t.row) t.grid.columns (λ d. under_apart t.row row h.0)) (others_none row plain h.1)
  where
    joined : (es : List Described) → AllByRecursion (λ e. is_under row e ≡ false) es → AllByRecursion (λ e. is_under row e ≡ false) (all_columns plain) → AllByRecursion (λ e. is_under row e ≡ false) (es ++ all_columns plain)
    joined [] k rest = rest
    joined (e ∷ es) k rest = (k.0, joined es k.1 rest)

-- among the columns of all tables those of each table are its own
pub each_own : (plain : List Table) → IsAscending (map table_row plain) → AllByRecursion (λ t. filter (is_under t.row) (all_columns plain) ≡ map (described t.row) t.grid.columns) plain
each_own [] a = tt
each_own (t ∷ plain) a = (
  filter-append (is_under t.row) (map (described t.row) t.grid.columns) (all_columns plain)
      ∙ ap (λ es. es ++ filter (is_under t.row) (all_columns plain)) (filter_all (is_under t.row) (map (described t.row) t.grid.columns) (each_map (λ e. is_under t.row e ≡ true) (described t.row) t.grid.columns (λ d. under_itself t.row)))
      ∙ ap (λ es. map (described t.row) t.grid.columns ++ es) (filter_none (is_under t.row) (all_columns plain) (others_none t.row plain (each_weaker (λ v. t.row < v.row) (λ v. v.row ≡ t.row → ⊥) (λ v l e. absurd (omega arith)) plain above)))
      ∙ append-nil (map (described t.row) t.grid.columns),
  each_weaker (λ v. (t.row < v.row) × (filter (is_under v.row) (all_columns plain) ≡ map (described v.row) v.grid.columns)) (λ v. filter (is_under v.row) (all_columns (t ∷ plain)) ≡ map (described v.row) v.grid.columns) later plain
      (each_both (λ v. t.row < v.row) (λ v. filter (is_under v.row) (all_columns plain) ≡ map (described v.row) v.grid.columns) plain above (each_own plain a.1)),
)
  where
    above : AllByRecursion (λ v. t.row < v.row) plain
    above = each_unmapped (λ q. t.row < q) table_row plain a.0

    later : (v : Table) → (t.row < v.row) × (filter (is_under v.row) (all_columns plain) ≡ map (described v.row) v.grid.columns) → filter (is_under v.row) (all_columns (t ∷ plain)) ≡ map (described v.row) v.grid.columns
    later v h =
        let below : t.row < v.row = h.0 in
        filter-append (is_under v.row) (map (described t.row) t.grid.columns) (all_columns plain)
        ∙ ap (λ es. es ++ filter (is_under v.row) (all_columns plain)) (filter_none (is_under v.row) (map (described t.row) t.grid.columns) (each_map (λ e. is_under v.row e ≡ false) (described t.row) t.grid.columns (λ d. under_apart t.row v.row (λ e. absurd (omega arith)))))
        ∙ h.1

rows_described : (row : ℕ) (ds : List ColDef) → map described_row (map (described row) ds) ≡ map column_row ds
rows_described row [] = refl
rows_described row (d ∷ ds) = ap (λ rows. d.row ∷ rows) (rows_described row ds)

columns_described : (row : ℕ) (ds : List ColDef) → map column_part (map (described row) ds) ≡ ds
columns_described row [] = refl
columns_described row (d ∷ ds) = ap (λ xs. d ∷ xs) (columns_described row ds)

-- in order they are its columns
pub columns_chosen : (plain : List Table) (t : Table) → has_no_duplicates (map described_row (all_columns plain)) ≡ true → filter (is_under t.row) (all_columns plain) ≡ map (described t.row) t.grid.columns → IsAscending (map column_row t.grid.columns)
    → map column_part (filter (is_under t.row) (in_order (all_columns plain))) ≡ t.grid.columns
columns_chosen plain t once own a =
    ap (map column_part) (filter-in_order (is_under t.row) (all_columns plain) once ∙ ap in_order own ∙ in_order_again (map (described t.row) t.grid.columns) (subst IsAscending (sym (rows_described t.row t.grid.columns)) a))
    ∙ columns_described t.row t.grid.columns
