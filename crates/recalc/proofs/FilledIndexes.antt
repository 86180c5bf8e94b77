-- Indexes that are made row by row.
use Rattle.std.proofs.Common.{ℕ, Bool, true, false, cond, ◌&&◌, ◌||◌, eqb, List, [], ◌∷◌, ◌++◌, ◌≡◌, refl, sym, ap, ◌∙◌, subst, Option, Some, None, Vec}
use Rattle.std.proofs.lemmas.Bool.{false≢true, eqb-true, or_left, or_right}
use Rattle.std.specs.Global.{Global}
use Rattle.std.specs.Option.{is_some, option_map}
use Rattle.cell_types.specs.declared.column_type.ColType.{ColType}
use Rattle.cell_types.specs.declared.value.CellValue.{CellValue}
use Rattle.doc_model.specs.declared.column.ColDef.{ColDef}
use Rattle.doc_model.specs.ByIds.{find_id, has_id}
use Rattle.doc_model.specs.Column.{column_id}
use Rattle.doc_model.specs.Document.{Table, Document, table_id}
use Rattle.doc_model.specs.Grid.{Grid, cell}
use Rattle.doc_model.specs.Readers.{cell_at, rows_at}
use Rattle.doc_model.specs.Rows.{has, insert_row}
use Rattle.doc_model.specs.Schema.{no_grid}
use Rattle.doc_model.proofs.ByIdsLaws.{has_id-find}
use Rattle.doc_model.proofs.RowsLaws.{has-insert_row, number_itself}
use Rattle.doc_readers.specs.Parts.{grid_at}
use Rattle.formula_eval.specs.Reader.{Told, known, no_table, no_row}
use Rattle.lookup_index.specs.Under.{IsInserted, under}
use Rattle.recalc.specs.declared.indexes.ColumnIndex.{ColumnIndex}
use Rattle.recalc.specs.Cells.{cell_of}
use Rattle.recalc.specs.Evaluated.{base_at, base_in, formula_at, formula_in, sheet_of}
use Rattle.recalc.specs.Indexes.{AreIndexes, AreUnder, IsInBucket, IsIndex}
use Rattle.recalc.specs.Sheet.{Sheet}

in_front : (rows : List ℕ) (r p : ℕ) → has rows p ≡ true → has (rows ++ r ∷ []) p ≡ true
in_front [] r p h = absurd (false≢true h)
in_front (q ∷ rows) r p h =
    elim (eqb q p) as (λ b. (b || has rows p) ≡ true → (b || has (rows ++ r ∷ []) p) ≡ true) [ true ↦ λ _. refl | false ↦ λ h. in_front rows r p h ] h

at_end : (rows : List ℕ) (r p : ℕ) → eqb r p ≡ true → has (rows ++ r ∷ []) p ≡ true
at_end [] r p h = or_left (eqb r p) false h
at_end (q ∷ rows) r p h = or_right (eqb q p) (has (rows ++ r ∷ []) p) (at_end rows r p h)

either_part : (rows : List ℕ) (r p : ℕ) → eqb r p ≡ false → has (rows ++ r ∷ []) p ≡ true → has rows p ≡ true
either_part [] r p other h = absurd (false≢true (sym (ap (λ b. b || false) other) ∙ h))
either_part (q ∷ rows) r p other h =
    elim (eqb q p) as (λ b. (b || has (rows ++ r ∷ []) p) ≡ true → (b || has rows p) ≡ true) [ true ↦ λ _. refl | false ↦ λ h. either_part rows r p other h ] h

module _ (s : Sheet) (t c : List ℕ) (ty : ColType) where
  pub filled_none : (index : List (ℕ × Vec ℕ Global)) → ((q : ℕ) → under index q ≡ []) → AreUnder s t c ty index []
  filled_none index e = record {
    each = λ r h. absurd (false≢true h);
    only = λ q r h. absurd (false≢true (sym (ap (λ l. has l r) (e q)) ∙ h));
    exact = λ q r h. absurd (false≢true (sym (ap (λ l. has l r) (e q)) ∙ h));
  }

  module _ (old new : List (ℕ × Vec ℕ Global)) (rows : List ℕ) (r q : ℕ) (before : AreUnder s t c ty old rows) (here : IsInBucket s t c ty r q) (put : IsInserted old new q r) where
    stays : (x p : ℕ) → has (under old x) p ≡ true → has (under new x) p ≡ true
    stays x p h =
        ap (λ l. has l p) (put x)
        ∙ elim (eqb q x) as (λ b. has (cond b (insert_row r (under old x)) (under old x)) p ≡ true) [
          | true ↦ has-insert_row r (under old x) p ∙ or_right (eqb r p) (has (under old x) p) h
          | false ↦ h
        ]

    is_put : (p : ℕ) → eqb r p ≡ true → has (under new q) p ≡ true
    is_put p is =
        ap (λ l. has l p) (put q)
        ∙ ap (λ b. has (cond b (insert_row r (under old q)) (under old q)) p) (number_itself q)
        ∙ has-insert_row r (under old q) p ∙ or_left (eqb r p) (has (under old q) p) is

    no_other : (x p : ℕ) → has (under new x) p ≡ true → has (rows ++ r ∷ []) p ≡ true
    no_other x p h =
        elim (eqb q x) as (λ b. has (cond b (insert_row r (under old x)) (under old x)) p ≡ true → has (rows ++ r ∷ []) p ≡ true) [
          | true ↦ λ h. elim (eqb r p) as (λ b. eqb r p ≡ b → (b || has (under old x) p) ≡ true → has (rows ++ r ∷ []) p ≡ true) [
            | true ↦ λ is _. at_end rows r p is
            | false ↦ λ _ h. in_front rows r p (before.only x p h)
          ] refl (sym (has-insert_row r (under old x) p) ∙ h)
          | false ↦ λ h. in_front rows r p (before.only x p h)
        ] (sym (ap (λ l. has l p) (put x)) ∙ h)

    no_other_bucket : (x p : ℕ) → has (under new x) p ≡ true → IsInBucket s t c ty p x
    no_other_bucket x p h =
        elim (eqb q x) as (λ b. eqb q x ≡ b → has (cond b (insert_row r (under old x)) (under old x)) p ≡ true → IsInBucket s t c ty p x) [
          | true ↦ λ same h. elim (eqb r p) as (λ b. eqb r p ≡ b → (b || has (under old x) p) ≡ true → IsInBucket s t c ty p x) [
            | true ↦ λ is _. subst (λ z. IsInBucket s t c ty p z) (eqb-true q x same) (subst (λ z. IsInBucket s t c ty z q) (eqb-true r p is) here)
            | false ↦ λ _ h. before.exact x p h
          ] refl (sym (has-insert_row r (under old x) p) ∙ h)
          | false ↦ λ _ h. before.exact x p h
        ] refl (sym (ap (λ l. has l p) (put x)) ∙ h)

    pub filled_more : AreUnder s t c ty new (rows ++ r ∷ [])
    filled_more = record {
      each = λ p h. elim (eqb r p) as (λ b. eqb r p ≡ b → (x : ℕ) × IsInBucket s t c ty p x × (has (under new x) p ≡ true)) [
        | true ↦ λ is. (q, subst (λ z. IsInBucket s t c ty z q) (eqb-true r p is) here, is_put p is)
        | false ↦ λ other. let u = before.each p (either_part rows r p other h) in (u.0, u.1, stays u.0 p u.2)
      ] refl;
      only = no_other;
      exact = no_other_bucket;
    }

-- ---- what a document tells of a data column

pub told_base : (s : Document) (t c : List ℕ) (r : ℕ) (v : CellValue) → cell_at s t c r ≡ Some v → base_at s (cell_of t c r) ≡ known v
told_base s t c r v =
    elim (find_id table_id t s) as (λ (o : Option Table).
    elim o as (λ _. Option CellValue) [ None ↦ None | Some u ↦ cond (has_id column_id u.grid.columns c && has u.grid.rows r) (Some (cell column_id u.grid c r)) None ] ≡ Some v
    → elim o as (λ _. Told) [ None ↦ no_table | Some u ↦ base_in u.grid (cell_of t c r) (find_id column_id c u.grid.columns) ] ≡ known v) [
      | None ↦ λ h. absurd (cc)
      | Some u ↦ λ h. by_column u.grid (find_id column_id c u.grid.columns) (ap (λ b. cond (b && has u.grid.rows r) (Some (cell column_id u.grid c r)) None) (sym (has_id-find column_id c u.grid.columns)) ∙ h)
    ]
  where
    by_row : (x : CellValue) (b : Bool) → cond b (Some x) None ≡ Some v → cond b (known x) no_row ≡ known v
    by_row x true h = let same : x ≡ v = cc in ap (λ y. known y) same
    by_row x false h = absurd (cc)

    by_column : (g : Grid ColDef) (o : Option ColDef) → cond (is_some o && has g.rows r) (Some (cell column_id g c r)) None ≡ Some v → base_in g (cell_of t c r) o ≡ known v
    by_column g None h = absurd (cc)
    by_column g (Some d) h = by_row (cell column_id g c r) (has g.rows r) h

-- the type of the column, that its cells have no formula, and the rows of its table
pub told_column : (s : Document) (t : List ℕ) (d : ColDef) → Some d ≡ find_id column_id d.id (grid_at s t).columns → d.info.is_formula ≡ false
    → ((sheet_of s).kind t d.id ≡ Some d.info.ty) × ((r : ℕ) → formula_at s (cell_of t d.id r) ≡ None) × (rows_at s t ≡ Some (grid_at s t).rows)
told_column s t d here plain =
    elim (find_id table_id t s) as (λ (o : Option Table).
    Some d ≡ find_id column_id d.id (elim o as (λ _. Grid ColDef) [ None ↦ no_grid | Some u ↦ u.grid ]).columns
    → (option_map (λ (e : ColDef). e.info.ty) (elim o as (λ _. Option ColDef) [ None ↦ None | Some u ↦ find_id column_id d.id u.grid.columns ]) ≡ Some d.info.ty)
    × ((r : ℕ) → elim o as (λ _. Option (List ℕ)) [ None ↦ None | Some u ↦ by_column u.grid r (find_id column_id d.id u.grid.columns) ] ≡ None)
    × (elim o as (λ _. Option (List ℕ)) [ None ↦ None | Some u ↦ Some u.grid.rows ] ≡ Some (elim o as (λ _. Grid ColDef) [ None ↦ no_grid | Some u ↦ u.grid ]).rows)) [
      | None ↦ λ h. absurd (cc)
      | Some u ↦ λ h. (ap (option_map (λ (e : ColDef). e.info.ty)) (sym h), λ r. ap (by_column u.grid r) (sym h) ∙ ap (λ b. cond (b && has u.grid.rows r) (Some d.info.formula) None) plain, refl)
    ] here
  where
    by_column : Grid ColDef → ℕ → Option ColDef → Option (List ℕ)
    by_column g r o = elim o as (λ _. Option (List ℕ)) [ None ↦ None | Some e ↦ formula_in g r e ]

-- one more index
pub indexed_more : (s : Sheet) (xs : List ColumnIndex) (x : ColumnIndex) → AreIndexes s xs → IsIndex s x.table x.column x.index → AreIndexes s (xs ++ x ∷ [])
indexed_more s [] x a h = (h, tt)
indexed_more s (y ∷ ys) x a h = (a.0, indexed_more s ys x a.1 h)

pub index_named : (s : Sheet) (t c : List ℕ) (index : List (ℕ × Vec ℕ Global)) (x : ColumnIndex) → x.table ≡ t → x.column ≡ c → x.index ≡ index → IsIndex s t c index → IsIndex s x.table x.column x.index
index_named s t c index x p q e h =
    subst (λ n. IsIndex s n x.column x.index) (sym p) (subst (λ n. IsIndex s t n x.index) (sym q) (subst (λ n. IsIndex s t c n) (sym e) h))
