-- What formula cells hold is fitted, so it holds no records but in columns of type Any.
use Rattle.std.proofs.Common.{◌≡◌, ◌∙◌, ap, refl, subst, sym, ℕ, zero, suc, pos, Bool, true, false, cond, List, [], ◌∷◌, Option, Some, None, length, bytes_eq}
use Rattle.std.specs.List.{AllByRecursion}
use Rattle.std.specs.Prelude.{nat_le}
use Rattle.cell_types.specs.declared.cell.CellId.{CellId}
use Rattle.cell_types.specs.declared.column_type.ColType.{ColType}
use Rattle.cell_types.specs.declared.column_type.ColType.TheVariants as ty
use Rattle.cell_types.specs.declared.value.CellValue.{CellValue}
use Rattle.cell_types.specs.declared.value.CellValue.TheVariants as value
use Rattle.cell_types.specs.Conversion.{as_text, default_value, fit, int_or, list_of_rows, row_of_number, row_or, rows_or, says_false, says_true, single_or}
use Rattle.cell_types.specs.Decimal.{decimal_of}
use Rattle.cell_types.specs.Reference.{row_items, row_number, rows_in}
use Rattle.cell_types.specs.TextBound.{text_bound}
use Rattle.cell_types.specs.ValueText.{value_text}
use Rattle.formula_eval.specs.Reader.{known}
use Rattle.formula_eval.specs.Run.{Out, gives, raises, stops}
use Rattle.formula_eval.specs.Eval.{as_result, ev, is_too_long}
use Rattle.formula_eval.specs.OfText.{evaluated_some, evaluated_text}
use Rattle.formula_parse.specs.FormulaOf.{formula_of}
use Rattle.formula_parse.specs.Tree.{Tree}
use Rattle.formula_eval.specs.Reader.{Reader}
use Rattle.formula_records.specs.declared.tables.RecordTables.TheVariants.{Any}
use Rattle.formula_records.specs.RecordTables.{none}
use Rattle.formula_records.specs.Recs.{Column, Columns, recs, stored, stored_by}
use Rattle.renamed_values.specs.HeldRecords.{IsPlain, ItemOf, RecordsOf}
use Rattle.renamed_values.specs.RecordsLaw.{IsTyped}
use Rattle.recalc.specs.Sheet.{Sheet, Values, eval, finished, over, row_of, run_of, told_by, value_by}
use Rattle.cell_types.specs.declared.value.RowRef.{RowRef}
use Rattle.cell_types.specs.declared.value.ErrKind.TheVariants as err
use Rattle.renamed_values.specs.TypedSheet.{IsTypedSheet, TypedLaw}
use Rattle.renamed_values.proofs.PlainNameLemmas.{formula_plain}
use Rattle.renamed_values.proofs.RecordLemmas.{Gives, formula_gives, gives_wider, seq_gives}
use Rattle.renamed_values.proofs.RecordTableLemmas.{in_any, in_none, wider}

default_bare : (k : ColType) → RecordsOf none (default_value k)
default_bare ty.Any = tt
default_bare ty.Text = tt
default_bare ty.Int = tt
default_bare ty.Bool = tt
default_bare ty.Date = tt
default_bare (ty.Ref u) = tt
default_bare (ty.RefList u) = tt

text_bare : (k : ColType) (v : CellValue) → RecordsOf none (as_text k v)
text_bare k v = elim (nat_le (length (value_text v)) text_bound) as (λ b. RecordsOf none (cond b (value.Text (value_text v)) (default_value k))) [ true ↦ tt | false ↦ default_bare k ]

rows_bare : (rows : List ℕ) → AllByRecursion (ItemOf none) (row_items rows)
rows_bare [] = tt
rows_bare (r ∷ rows) = (tt, rows_bare rows)

list_bare : (rows : List ℕ) → RecordsOf none (list_of_rows rows)
list_bare [] = tt
list_bare (r ∷ rows) = rows_bare (r ∷ rows)

row_or_bare : (v : CellValue) (o : Option ℕ) → RecordsOf none v → RecordsOf none (row_or v o)
row_or_bare v None h = h
row_or_bare v (Some r) h = tt

rows_or_bare : (v : CellValue) (o : Option (List ℕ)) → RecordsOf none v → RecordsOf none (rows_or v o)
rows_or_bare v None h = h
rows_or_bare v (Some rows) h = list_bare rows

single_bare : (v : CellValue) (o : Option ℕ) → RecordsOf none v → RecordsOf none (single_or v o)
single_bare v None h = h
single_bare v (Some r) h = elim (nat_le r 0) as (λ b. RecordsOf none (cond b value.Null (value.List (row_items (r ∷ []))))) [ true ↦ tt | false ↦ rows_bare (r ∷ []) ]

fitted : (k : ColType) (v : CellValue) → RecordsOf Any v → RecordsOf (stored_by k true) (fit k v)
fitted ty.Any v h = h
fitted ty.Text value.Null h = tt
fitted ty.Text (value.Int n) h = text_bare ty.Text (value.Int n)
fitted ty.Text (value.Bool b) h = text_bare ty.Text (value.Bool b)
fitted ty.Text (value.Text t) h = tt
fitted ty.Text (value.Date n) h = text_bare ty.Text (value.Date n)
fitted ty.Text (value.Rec r) h = text_bare ty.Text (value.Rec r)
fitted ty.Text (value.RecSet s) h = text_bare ty.Text (value.RecSet s)
fitted ty.Text (value.List is) h = text_bare ty.Text (value.List is)
fitted ty.Text (value.Err e) h = tt
fitted ty.Text value.Censored h = tt
fitted ty.Int value.Null h = tt
fitted ty.Int (value.Int n) h = tt
fitted ty.Int (value.Bool b) h = tt
fitted ty.Int (value.Text []) h = tt
fitted ty.Int (value.Text (c ∷ cs)) h = elim (decimal_of (c ∷ cs)) as (λ o. RecordsOf none (int_or (value.Text (c ∷ cs)) o)) [ None ↦ tt | Some n ↦ tt ]
fitted ty.Int (value.Date n) h = tt
fitted ty.Int (value.Rec r) h = text_bare ty.Int (value.Rec r)
fitted ty.Int (value.RecSet s) h = text_bare ty.Int (value.RecSet s)
fitted ty.Int (value.List is) h = text_bare ty.Int (value.List is)
fitted ty.Int (value.Err e) h = tt
fitted ty.Int value.Censored h = tt
fitted ty.Bool value.Null h = tt
fitted ty.Bool (value.Int n) h = tt
fitted ty.Bool (value.Bool b) h = tt
fitted ty.Bool (value.Text []) h = tt
fitted ty.Bool (value.Text (c ∷ cs)) h =
    elim (says_true (c ∷ cs)) as (λ b. RecordsOf none (cond b (value.Bool true) (cond (says_false (c ∷ cs)) (value.Bool false) (value.Text (c ∷ cs))))) [
      | true ↦ tt
      | false ↦ elim (says_false (c ∷ cs)) as (λ b. RecordsOf none (cond b (value.Bool false) (value.Text (c ∷ cs)))) [ true ↦ tt | false ↦ tt ]
    ]
fitted ty.Bool (value.Date n) h = text_bare ty.Bool (value.Date n)
fitted ty.Bool (value.Rec r) h = text_bare ty.Bool (value.Rec r)
fitted ty.Bool (value.RecSet s) h = text_bare ty.Bool (value.RecSet s)
fitted ty.Bool (value.List is) h = text_bare ty.Bool (value.List is)
fitted ty.Bool (value.Err e) h = tt
fitted ty.Bool value.Censored h = tt
fitted ty.Date value.Null h = tt
fitted ty.Date (value.Int n) h = tt
fitted ty.Date (value.Bool b) h = text_bare ty.Date (value.Bool b)
fitted ty.Date (value.Text []) h = tt
fitted ty.Date (value.Text (c ∷ cs)) h = tt
fitted ty.Date (value.Date n) h = tt
fitted ty.Date (value.Rec r) h = text_bare ty.Date (value.Rec r)
fitted ty.Date (value.RecSet s) h = text_bare ty.Date (value.RecSet s)
fitted ty.Date (value.List is) h = text_bare ty.Date (value.List is)
fitted ty.Date (value.Err e) h = tt
fitted ty.Date value.Censored h = tt
fitted (ty.Ref u) value.Null h = tt
fitted (ty.Ref u) (value.Int n) h = row_or_bare (as_text (ty.Ref u) (value.Int n)) (row_number n) (text_bare (ty.Ref u) (value.Int n))
fitted (ty.Ref u) (value.Bool b) h = text_bare (ty.Ref u) (value.Bool b)
fitted (ty.Ref u) (value.Text []) h = tt
fitted (ty.Ref u) (value.Text (c ∷ cs)) h = row_or_bare (value.Text (c ∷ cs)) (row_of_number (decimal_of (c ∷ cs))) tt
fitted (ty.Ref u) (value.Date n) h = text_bare (ty.Ref u) (value.Date n)
fitted (ty.Ref u) (value.Rec r) h = elim (bytes_eq r.table u) as (λ b. RecordsOf none (cond b (value.Int (pos r.row)) (as_text (ty.Ref u) (value.Rec r)))) [ true ↦ tt | false ↦ text_bare (ty.Ref u) (value.Rec r) ]
fitted (ty.Ref u) (value.RecSet s) h = text_bare (ty.Ref u) (value.RecSet s)
fitted (ty.Ref u) (value.List is) h = text_bare (ty.Ref u) (value.List is)
fitted (ty.Ref u) (value.Err e) h = tt
fitted (ty.Ref u) value.Censored h = tt
fitted (ty.RefList u) value.Null h = tt
fitted (ty.RefList u) (value.Int n) h = single_bare (as_text (ty.RefList u) (value.Int n)) (row_number n) (text_bare (ty.RefList u) (value.Int n))
fitted (ty.RefList u) (value.Bool b) h = text_bare (ty.RefList u) (value.Bool b)
fitted (ty.RefList u) (value.Text []) h = tt
fitted (ty.RefList u) (value.Text (c ∷ cs)) h = tt
fitted (ty.RefList u) (value.Date n) h = text_bare (ty.RefList u) (value.Date n)
fitted (ty.RefList u) (value.Rec r) h = elim (bytes_eq r.table u) as (λ b. RecordsOf none (cond b (single_or value.Null (Some r.row)) (as_text (ty.RefList u) (value.Rec r)))) [ true ↦ single_bare value.Null (Some r.row) tt | false ↦ text_bare (ty.RefList u) (value.Rec r) ]
fitted (ty.RefList u) (value.RecSet s) h = elim (bytes_eq s.table u) as (λ b. RecordsOf none (cond b (list_of_rows s.rows) (as_text (ty.RefList u) (value.RecSet s)))) [ true ↦ list_bare s.rows | false ↦ text_bare (ty.RefList u) (value.RecSet s) ]
fitted (ty.RefList u) (value.List is) h = rows_or_bare (as_text (ty.RefList u) (value.List is)) (rows_in u is) (text_bare (ty.RefList u) (value.List is))
fitted (ty.RefList u) (value.Err e) h = tt
fitted (ty.RefList u) value.Censored h = tt

-- the value of a finished run in a column of the type
finished_holds : (k : ColType) (o : Out CellValue) → Gives (RecordsOf Any) o → (v : CellValue) → finished (Some k) o ≡ Some v → RecordsOf (stored_by k true) v
finished_holds k (gives u) h v e = subst (RecordsOf (stored_by k true)) (same_some (fit k u) v e) (fitted k u h)
  where
    or_null : Option CellValue → CellValue
    or_null None = value.Null
    or_null (Some w) = w

    same_some : (a b : CellValue) → Some a ≡ Some b → a ≡ b
    same_some a b e = ap or_null e
finished_holds k (raises u) h v e = subst (RecordsOf (stored_by k true)) (let same : value.Err u ≡ v = cc in same) tt
finished_holds k (stops s) h v e = absurd (cc)

-- what the formula of a text gives
result_gives : (v : CellValue) → RecordsOf Any v → Gives (RecordsOf Any) (as_result v)
result_gives v h = elim (is_too_long v) as (λ b. Gives (RecordsOf Any) (cond b (raises err.Overflow) (gives v))) [ true ↦ tt | false ↦ h ]

text_gives : (k : Columns) (x : Reader) → IsTyped k x → (at : RowRef) → IsPlain at.table → (f : List ℕ) → Gives (RecordsOf Any) (evaluated_text x at f).out
unfolding evaluated_text
text_gives k x typed at p f = by (formula_of f) refl
  where
    by : (o : Option Tree) → formula_of f ≡ o → Gives (RecordsOf Any) (evaluated_some x at o).out
    by None e = tt
    by (Some t) e =
        seq_gives (RecordsOf Any) (RecordsOf Any) (ev x at t) _
        (gives_wider (recs k at.table t) Any (in_any (recs k at.table t)) (ev x at t).out (formula_gives k x typed at p t (formula_plain f t e)))
        (λ v h. result_gives v h)

same_known : (a b : CellValue) → known a ≡ known b → a ≡ b
same_known a b e = cc

module _ (k : Columns) (s : Sheet) (h : IsTypedSheet k s) where
  base_holds : (c : CellId) → IsPlain c.table → (v : CellValue) → s.base c ≡ known v → RecordsOf (stored (k c.table c.column)) v
  base_holds c p v e = wider none (stored (k c.table c.column)) (in_none (stored (k c.table c.column))) v (h.base c v p e)

  module _ (n : ℕ) (typed : IsTyped k (over s (eval n s))) where
    formula_holds : (c : CellId) → IsPlain c.table → (f : List ℕ) → s.formula c ≡ Some f → (v : CellValue) → eval (suc n) s c ≡ Some v → RecordsOf (stored (k c.table c.column)) v
    formula_holds c p f e v g = by (h.formula c f p e)
      where
        by : (d : Column) × (k c.table c.column ≡ Some d) × (d.is_formula ≡ true) × (s.kind c.table c.column ≡ Some d.ty) → RecordsOf (stored (k c.table c.column)) v
        by d =
            subst (λ (o : Option Column). RecordsOf (stored o) v) (sym d.1)
            (subst (λ (b : Bool). RecordsOf (stored_by d.0.ty b) v) (sym d.2)
            (finished_holds d.0.ty (run_of (over s (eval n s)) c f).out (text_gives k (over s (eval n s)) typed (row_of c) p f) v (let g' : value_by s (eval n s) c (Some f) ≡ Some v = ap (value_by s (eval n s) c) (sym e) ∙ g in ap (λ (o : Option ColType). finished o (run_of (over s (eval n s)) c f).out) (sym d.3) ∙ g')))

  -- what is told of a cell, with values that columns may hold
  cell_holds : (w : Values) → ((c : CellId) → IsPlain c.table → (f : List ℕ) → s.formula c ≡ Some f → (v : CellValue) → w c ≡ Some v → RecordsOf (stored (k c.table c.column)) v)
      → (c : CellId) (v : CellValue) → IsPlain c.table → told_by (s.formula c) (s.base c) (w c) ≡ known v → RecordsOf (stored (k c.table c.column)) v
  cell_holds w holds c v p e = by (s.formula c) (w c) refl refl e
    where
      by : (f : Option (List ℕ)) (o : Option CellValue) → s.formula c ≡ f → w c ≡ o → told_by f (s.base c) o ≡ known v → RecordsOf (stored (k c.table c.column)) v
      by None o i j e = base_holds c p v e
      by (Some f) None i j e = absurd (cc)
      by (Some f) (Some u) i j e = holds c p f i v (j ∙ ap Some (same_known u v e))

  pub typed_each : (n : ℕ) → IsTyped k (over s (eval n s))
  typed_each zero = record { kind = h.kind; cell = cell_holds (eval zero s) (λ c p f i v e. absurd (cc)) }
  typed_each (suc n) = record { kind = h.kind; cell = cell_holds (eval (suc n) s) (formula_holds n (typed_each n)) }

pub typed_so : TypedLaw
typed_so k s h n = typed_each k s h n
