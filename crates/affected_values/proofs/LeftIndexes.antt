-- Indexes but for some rows: rows taken out of them, put in, and carried over an action.
use Rattle.std.proofs.Common.{ℕ, suc, ◌+◌, ◌<◌, ◌≤◌, arith, Bool, true, false, cond, not, ◌&&◌, ◌||◌, eqb, List, [], ◌∷◌, ◌++◌, map, take, length, get_or, ◌≡◌, refl, sym, ap, ◌∙◌, subst, Option, Some, None, Vec}
use Rattle.std.proofs.lemmas.Bool.{true≢false, false≢true, eqb-true}
use Rattle.std.proofs.lemmas.List.{take_more, take_all}
use Rattle.std.specs.Global.{Global}
use Rattle.std.specs.List.{list_any}
use Rattle.std.specs.Option.{option_map}
use Rattle.std.specs.Str.{bytes_eq}
use Rattle.cell_types.specs.declared.cell.CellId.{CellId}
use Rattle.cell_types.specs.declared.cell.Read.{Read}
use Rattle.cell_types.specs.declared.cell.Read.TheVariants.{Cell}
use Rattle.cell_types.specs.declared.column_type.ColType.{ColType}
use Rattle.cell_types.specs.declared.value.CellValue.{CellValue}
use Rattle.doc_model.specs.declared.action.DocAction.{DocAction}
use Rattle.doc_model.specs.declared.action.DocAction.TheVariants.{BulkAdd, BulkUpdate, BulkRemove, AddTable, RemoveTable, RenameTable, AddColumn, RemoveColumn, RenameColumn, ModifyColumn}
use Rattle.doc_model.specs.declared.column.CellColumn.{CellColumn}
use Rattle.doc_model.specs.declared.column.ColDef.{ColDef}
use Rattle.doc_model.specs.Apply.{apply, effect}
use Rattle.doc_model.specs.ByIds.{find_id}
use Rattle.doc_model.specs.Column.{column_id, start_of}
use Rattle.doc_model.specs.Document.{Table, Document, on_grid, table_id, with_table}
use Rattle.doc_model.specs.Grid.{Grid}
use Rattle.doc_model.specs.Readers.{rows_at}
use Rattle.doc_model.specs.Records.{add_rows, remove_rows, update_rows}
use Rattle.doc_model.specs.Rows.{has, without}
use Rattle.doc_model.specs.Valid.{valid}
use Rattle.doc_model.proofs.ByRowLaws.{find-with_id}
use Rattle.doc_model.proofs.Choices.{cond_true}
use Rattle.doc_model.proofs.RowsLaws.{has-filter, has-insert_rows, number_itself}
use Rattle.formula_eval.specs.Reader.{known}
use Rattle.lookup_index.specs.Buckets.{bucket_of}
use Rattle.lookup_index.specs.Under.{IsInserted, IsRemoved, under}
use Rattle.recalc.specs.declared.indexes.ColumnIndex.{ColumnIndex}
use Rattle.recalc.specs.Cells.{cell_of}
use Rattle.recalc.specs.Evaluated.{sheet_of}
use Rattle.recalc.specs.Indexes.{AreIndexes, AreUnder, IsInBucket, IsIndex}
use Rattle.recalc.specs.Sheet.{Sheet}
use Rattle.recalc.proofs.FilledIndexes.{filled_more}
use Rattle.affected_cells.specs.Touched.{Touch, cells_written, touched_by}
use Rattle.affected_cells.specs.TouchedRight.{IsTouchedRight}
use Rattle.affected_cells.proofs.KeptLaws.{update_law}
use Rattle.affected_cells.proofs.RowsLaw.{came_added, came_removed}
use Rattle.affected_values.specs.Indexing.{IsIndexBut, IsLeft, LeftBackLaw, LeftOverLaw, leaves_column, rows_of}
use Rattle.affected_values.proofs.IndexLemmas.{TellsSame, index_back, index_left, tells_same, turned, under_same, update_same}

-- ---- what stands in lists of rows

-- rows are the same where the same stands in them
module _ (s : Sheet) (u c : List ℕ) (ty : ColType) (index : List (ℕ × Vec ℕ Global)) where
  pub under_of : (xs ys : List ℕ) → ((r : ℕ) → has xs r ≡ has ys r) → AreUnder s u c ty index xs → AreUnder s u c ty index ys
  under_of xs ys same under = record {
    each = λ r h. under.each r (same r ∙ h);
    only = λ q r h. sym (same r) ∙ under.only q r h;
    exact = under.exact;
  }

pub has-last : (rows : List ℕ) (r p : ℕ) → has (rows ++ r ∷ []) p ≡ (has rows p || eqb r p)
has-last [] r p = by (eqb r p)
  where
    by : (b : Bool) → (b || false) ≡ (false || b)
    by true = refl
    by false = refl
has-last (q ∷ rows) r p = ap (λ b. eqb q p || b) (has-last rows r p) ∙ by (eqb q p) (has rows p) (eqb r p)
  where
    by : (a b d : Bool) → (a || (b || d)) ≡ ((a || b) || d)
    by true b d = refl
    by false b d = refl

-- a number that stands not among the rows
total : List ℕ → ℕ
total [] = 0
total (r ∷ rows) = r + total rows

above : (rows : List ℕ) (n : ℕ) → total rows < n → has rows n ≡ false
unfolding total
above [] n h = refl
above (r ∷ rows) n h = ap (λ b. b || has rows n) (apart (eqb r n) refl) ∙ above rows n (omega (arith, h))
  where
    apart : (b : Bool) → eqb r n ≡ b → b ≡ false
    apart false is = refl
    apart true is = let same : r ≡ n = eqb-true r n is in absurd (omega (arith, h, same))

pub some_other : (rows : List ℕ) → (n : ℕ) × (has rows n ≡ false)
some_other rows = (suc (total rows), above rows (suc (total rows)) (omega arith))

-- ---- a row taken out

module _ (s : Sheet) (u c : List ℕ) (ty : ColType) (old new : List (ℕ × Vec ℕ Global)) (rows : List ℕ) (r q : ℕ) (before : AreUnder s u c ty old rows) (here : IsInBucket s u c ty r q) (out : IsRemoved old new q r) where
  -- a row is in one bucket alone
  one_bucket : (x : ℕ) → IsInBucket s u c ty r x → x ≡ q
  one_bucket x b =
      let same : b.value ≡ here.value = told_once b.value here.value (sym b.told ∙ here.told) in
      b.of_value ∙ ap (λ v. bucket_of (Rattle.formula_eval.specs.Reading.as_read ty v)) same ∙ sym here.of_value
    where
      told_once : (v w : CellValue) → known v ≡ known w → v ≡ w
      told_once v w e = cc

  has_out : (x p : ℕ) → has (under new x) p ≡ cond (eqb q x) (not (eqb r p || false) && has (under old x) p) (has (under old x) p)
  has_out x p =
      ap (λ l. has l p) (out x)
      ∙ elim (eqb q x) as (λ b. has (cond b (without (r ∷ []) (under old x)) (under old x)) p ≡ cond b (not (eqb r p || false) && has (under old x) p) (has (under old x) p)) [
        | true ↦ has-filter (λ z. not (has (r ∷ []) z)) (under old x) p
        | false ↦ refl
      ]

  was : (x p : ℕ) → has (under new x) p ≡ true → has (under old x) p ≡ true
  was x p h = by (eqb q x) (eqb r p) (has (under old x) p) (sym (has_out x p) ∙ h)
    where
      by : (a b d : Bool) → cond a (not (b || false) && d) d ≡ true → d ≡ true
      by true true d h = absurd (false≢true h)
      by true false d h = h
      by false b d h = h

  gone : (x : ℕ) → has (under new x) r ≡ true → ⊥
  gone x h = by (eqb q x) refl (sym (has_out x r) ∙ h)
    where
      itself : (d : Bool) → (not (eqb r r || false) && d) ≡ false
      itself d = ap (λ b. not (b || false) && d) (number_itself r)

      by : (a : Bool) → eqb q x ≡ a → cond a (not (eqb r r || false) && has (under old x) r) (has (under old x) r) ≡ true → ⊥
      by true is h = true≢false (sym h ∙ itself (has (under old x) r))
      by false apart h =
          let same : x ≡ q = one_bucket x (before.exact x r h) in
          true≢false (sym (number_itself q) ∙ ap (λ n. eqb q n) (sym same) ∙ apart)

  stays : (x p : ℕ) → eqb r p ≡ false → has (under old x) p ≡ true → has (under new x) p ≡ true
  stays x p other h = has_out x p ∙ by (eqb q x) (eqb r p) (has (under old x) p) other h
    where
      by : (a b d : Bool) → b ≡ false → d ≡ true → cond a (not (b || false) && d) d ≡ true
      by true true d e h = absurd (true≢false e)
      by true false d e h = h
      by false b d e h = h

  pub under_less : AreUnder s u c ty new (without (r ∷ []) rows)
  under_less = record {
    each = λ p h. let parts = split (eqb r p) (has rows p) (sym (has-filter (λ z. not (has (r ∷ []) z)) rows p) ∙ h) in let b = before.each p parts.1 in (b.0, b.1, stays b.0 p parts.0 b.2);
    only = λ x p h. has-filter (λ z. not (has (r ∷ []) z)) rows p ∙ joined x p h (eqb r p) refl;
    exact = λ x p h. before.exact x p (was x p h);
  }
    where
      split : (a b : Bool) → (not (a || false) && b) ≡ true → (a ≡ false) × (b ≡ true)
      split true b h = absurd (false≢true h)
      split false b h = (refl, h)

      joined : (x p : ℕ) → has (under new x) p ≡ true → (b : Bool) → eqb r p ≡ b → (not (b || false) && has rows p) ≡ true
      joined x p h true is = absurd (gone x (ap (λ z. has (under new x) z) (eqb-true r p is) ∙ h))
      joined x p h false is = before.only x p (was x p h)

-- ---- rows taken out of an index before an action

module _ (s : Sheet) (u c : List ℕ) (index : List (ℕ × Vec ℕ Global)) where
  pub none_out : IsIndex s u c index → IsIndexBut s [] u c index
  none_out is = record {
    ty = is.ty;
    kind = is.kind;
    no_formula = λ r _. is.no_formula r;
    rows = is.rows;
    listed = is.listed;
    filled = under_of s u c is.ty index is.rows (without [] is.rows) (λ r. sym (has-filter (λ z. not (has [] z)) is.rows r)) is.filled;
  }

one_kind : (s : Sheet) (u c : List ℕ) (ty ty' : ColType) → s.kind u c ≡ Some ty → s.kind u c ≡ Some ty' → ty ≡ ty'
one_kind s u c ty ty' h g = found (sym h ∙ g)
  where
    found : ◌≡◌ {A = Option ColType} (Some ty) (Some ty') → ty ≡ ty'
    found e = cc

module _ (s : Sheet) (u c : List ℕ) (gone : List ℕ) (r : ℕ) where
  more_gone : (rows : List ℕ) (p : ℕ) → has (without (r ∷ []) (without gone rows)) p ≡ has (without (gone ++ r ∷ []) rows) p
  more_gone rows p =
      has-filter (λ z. not (has (r ∷ []) z)) (without gone rows) p
      ∙ ap (λ b. not (eqb r p || false) && b) (has-filter (λ z. not (has gone z)) rows p)
      ∙ by (eqb r p) (has gone p) (has rows p)
      ∙ ap (λ b. not b && has rows p) (sym (has-last gone r p))
      ∙ sym (has-filter (λ z. not (has (gone ++ r ∷ []) z)) rows p)
    where
      by : (a b d : Bool) → (not (a || false) && (not b && d)) ≡ (not (b || a) && d)
      by true true d = refl
      by true false d = refl
      by false true d = refl
      by false false d = refl

  fewer : (p : ℕ) → has (gone ++ r ∷ []) p ≡ false → has gone p ≡ false
  fewer p h = by (has gone p) (eqb r p) (sym (has-last gone r p) ∙ h)
    where
      by : (a b : Bool) → (a || b) ≡ false → a ≡ false
      by true b h = absurd (true≢false h)
      by false b h = refl

  -- a row taken out from under its bucket
  pub one_out : (old new : List (ℕ × Vec ℕ Global)) (ty : ColType) (q : ℕ) → IsIndexBut s gone u c old → s.kind u c ≡ Some ty → IsInBucket s u c ty r q → IsRemoved old new q r
      → IsIndexBut s (gone ++ r ∷ []) u c new
  one_out old new ty q is kind here out =
      let same : ty ≡ is.ty = one_kind s u c ty is.ty kind is.kind in
      record {
        ty = is.ty;
        kind = is.kind;
        no_formula = λ p h. is.no_formula p (fewer p h);
        rows = is.rows;
        listed = is.listed;
        filled = under_of s u c is.ty new (without (r ∷ []) (without gone is.rows)) (without (gone ++ r ∷ []) is.rows) (more_gone is.rows)
            (under_less s u c is.ty old new (without gone is.rows) r q is.filled (subst (λ z. IsInBucket s u c z r q) same here) out);
      }

  -- a row that is not there
  pub none_there : (index : List (ℕ × Vec ℕ Global)) (rows : List ℕ) → IsIndexBut s gone u c index → s.rows u ≡ Some rows → has rows r ≡ false → IsIndexBut s (gone ++ r ∷ []) u c index
  none_there index rows is listed free = record {
    ty = is.ty;
    kind = is.kind;
    no_formula = λ p h. is.no_formula p (fewer p h);
    rows = is.rows;
    listed = is.listed;
    filled = under_of s u c is.ty index (without gone is.rows) (without (gone ++ r ∷ []) is.rows) same is.filled;
  }
    where
      rows_once : ◌≡◌ {A = Option (List ℕ)} (Some is.rows) (Some rows) → is.rows ≡ rows
      rows_once e = cc

      absent : (p : ℕ) → eqb r p ≡ true → has is.rows p ≡ false
      absent p e = ap (has is.rows) (sym (eqb-true r p e)) ∙ ap (λ l. has l r) (rows_once (sym is.listed ∙ listed)) ∙ free

      by : (p : ℕ) (a b : Bool) → eqb r p ≡ a → (not b && has is.rows p) ≡ (not (b || a) && has is.rows p)
      by p true true e = refl
      by p true false e = absent p e
      by p false true e = refl
      by p false false e = refl

      same : (p : ℕ) → has (without gone is.rows) p ≡ has (without (gone ++ r ∷ []) is.rows) p
      same p =
          has-filter (λ z. not (has gone z)) is.rows p ∙ by p (eqb r p) (has gone p) refl
          ∙ ap (λ b. not b && has is.rows p) (sym (has-last gone r p))
          ∙ sym (has-filter (λ z. not (has (gone ++ r ∷ []) z)) is.rows p)

-- ---- rows put in after an action

-- of the rows of an action the first ones are in, and all other rows
pub record IsFilling (s : Sheet) (u c : List ℕ) (ty : ColType) (index : List (ℕ × Vec ℕ Global)) (rows gone : List ℕ) (i : ℕ) : Type 0 where
  pub there : List ℕ
  pub filled : AreUnder s u c ty index there
  pub has_there : (p : ℕ) → has there p ≡ (has rows p && (not (has gone p) || has (take i gone) p))

module _ (s : Sheet) (u c : List ℕ) (ty : ColType) (rows gone : List ℕ) where
  pub filling_none : (index : List (ℕ × Vec ℕ Global)) → IsIndexBut s gone u c index → s.kind u c ≡ Some ty → s.rows u ≡ Some rows → IsFilling s u c ty index rows gone 0
  filling_none index is kind listed = record {
    there = without gone is.rows;
    filled = subst (λ z. AreUnder s u c z index (without gone is.rows)) (one_kind s u c is.ty ty is.kind kind) is.filled;
    has_there = λ p. has-filter (λ z. not (has gone z)) is.rows p ∙ ap (λ l. not (has gone p) && has l p) (rows_once (sym is.listed ∙ listed)) ∙ by (has gone p) (has rows p);
  }
    where
      rows_once : ◌≡◌ {A = Option (List ℕ)} (Some is.rows) (Some rows) → is.rows ≡ rows
      rows_once e = cc

      by : (a b : Bool) → (not a && b) ≡ (b && (not a || false))
      by true true = refl
      by true false = refl
      by false true = refl
      by false false = refl

  module _ (old : List (ℕ × Vec ℕ Global)) (i : ℕ) (within : i < length gone) (is : IsFilling s u c ty old rows gone i) where
    abbrev row : ℕ
    row = get_or gone i 0

    has_next : (p : ℕ) → has (take (i + 1) gone) p ≡ (has (take i gone) p || eqb row p)
    has_next p = ap (λ l. has l p) (take_more gone i 0 within) ∙ has-last (take i gone) row p

    pub filling_more : (new : List (ℕ × Vec ℕ Global)) (q : ℕ) → has rows row ≡ true → IsInBucket s u c ty row q → IsInserted old new q row → IsFilling s u c ty new rows gone (i + 1)
    filling_more new q there here put = record {
      there = is.there ++ row ∷ [];
      filled = filled_more s u c ty old new is.there row q is.filled here put;
      has_there = λ p.
          has-last is.there row p ∙ ap (λ b. b || eqb row p) (is.has_there p)
          ∙ by p (eqb row p) (has gone p) (has (take i gone) p) refl
          ∙ ap (λ b. has rows p && (not (has gone p) || b)) (sym (has_next p));
    }
      where
        by : (p : ℕ) (a g f : Bool) → eqb row p ≡ a → ((has rows p && (not g || f)) || a) ≡ (has rows p && (not g || (f || a)))
        by p true g f e = tests (has rows p) g f (ap (has rows) (sym (eqb-true row p e)) ∙ there)
          where
            tests : (h g f : Bool) → h ≡ true → ((h && (not g || f)) || true) ≡ (h && (not g || (f || true)))
            tests true true true e = refl
            tests true true false e = refl
            tests true false f e = refl
            tests false g f e = absurd (false≢true e)
        by p false g f e = tests (has rows p) g f
          where
            tests : (h g f : Bool) → ((h && (not g || f)) || false) ≡ (h && (not g || (f || false)))
            tests true true true = refl
            tests true true false = refl
            tests true false f = refl
            tests false g f = refl

    pub filling_same : has rows row ≡ false → IsFilling s u c ty old rows gone (i + 1)
    filling_same absent = record {
      there = is.there;
      filled = is.filled;
      has_there = λ p. is.has_there p ∙ by p (eqb row p) (has gone p) (has (take i gone) p) refl ∙ ap (λ b. has rows p && (not (has gone p) || b)) (sym (has_next p));
    }
      where
        by : (p : ℕ) (a g f : Bool) → eqb row p ≡ a → (has rows p && (not g || f)) ≡ (has rows p && (not g || (f || a)))
        by p true g f e = tests (has rows p) (ap (has rows) (sym (eqb-true row p e)) ∙ absent)
          where
            tests : (h : Bool) → h ≡ false → (h && (not g || f)) ≡ (h && (not g || (f || true)))
            tests false e = refl
            tests true e = absurd (true≢false e)
        by p false g f e = ap (λ b. has rows p && (not g || b)) (last f)
          where
            last : (f : Bool) → f ≡ (f || false)
            last true = refl
            last false = refl

  pub filling_all : (index : List (ℕ × Vec ℕ Global)) (i : ℕ) → length gone ≤ i → IsFilling s u c ty index rows gone i → AreUnder s u c ty index rows
  filling_all index i all is =
      under_of s u c ty index is.there rows (λ p. is.has_there p ∙ ap (λ l. has rows p && (not (has gone p) || has l p)) (take_all i gone all) ∙ by (has rows p) (has gone p)) is.filled
    where
      by : (h g : Bool) → (h && (not g || g)) ≡ h
      by true true = refl
      by true false = refl
      by false g = refl

-- ---- over an action

module _ (s t : Sheet) (touched : Read → Bool) (alike : TellsSame s t touched) (gone u c : List ℕ) (index : List (ℕ × Vec ℕ Global))
    (free : (r : ℕ) → has gone r ≡ false → touched (Cell (cell_of u c r)) ≡ false)
    (after : (rows : List ℕ) → s.rows u ≡ Some rows → (next : List ℕ) × (t.rows u ≡ Some next) × ((r : ℕ) → has gone r ≡ false → has next r ≡ has rows r)) where
  but_after : IsIndexBut s gone u c index → IsIndexBut t gone u c index
  but_after is =
      let other = some_other gone in
      let moved = after is.rows is.listed in
      record {
        ty = is.ty;
        kind = sym (alike.cell (cell_of u c other.0) (free other.0 other.1)).0 ∙ is.kind;
        no_formula = λ r h. (plain r h).0;
        rows = moved.0;
        listed = moved.1;
        filled = under_of t u c is.ty index (without gone is.rows) (without gone moved.0) (same moved.0 moved.2) (under_same s t u c is.ty index (without gone is.rows) (λ r h. (plain r (outside r h)).1) is.filled);
      }
    where
      plain : (r : ℕ) → has gone r ≡ false → (t.formula (cell_of u c r) ≡ None) × (s.base (cell_of u c r) ≡ t.base (cell_of u c r))
      plain r h = (alike.cell (cell_of u c r) (free r h)).1 (is.no_formula r h)

      outside : (r : ℕ) → has (without gone is.rows) r ≡ true → has gone r ≡ false
      outside r h = by (has gone r) (has is.rows r) (sym (has-filter (λ z. not (has gone z)) is.rows r) ∙ h)
        where
          by : (a b : Bool) → (not a && b) ≡ true → a ≡ false
          by true b h = absurd (false≢true h)
          by false b h = refl

      same : (next : List ℕ) → ((r : ℕ) → has gone r ≡ false → has next r ≡ has is.rows r) → (r : ℕ) → has (without gone is.rows) r ≡ has (without gone next) r
      same next h r = has-filter (λ z. not (has gone z)) is.rows r ∙ by (has gone r) refl ∙ sym (has-filter (λ z. not (has gone z)) next r)
        where
          by : (a : Bool) → has gone r ≡ a → (not a && has is.rows r) ≡ (not a && has next r)
          by true e = refl
          by false e = sym (h r e)

some_same : {X : Type 0} (x y : X) → Some x ≡ Some y → x ≡ y
some_same x y e = cc

none_some : {X : Type 0} (x : X) → None ≡ Some x → ⊥
none_some x e = cc

-- the rows of a table, where those of one table change
module _ (gone id : List ℕ) (f : Grid ColDef → Grid ColDef) (keeps : (g : Grid ColDef) (r : ℕ) → has gone r ≡ false → has (f g).rows r ≡ has g.rows r) where
  told : Option Table → Option (List ℕ)
  told o = elim o as (λ _. Option (List ℕ)) [ None ↦ None | Some u ↦ Some u.grid.rows ]

  rows_after : (s : Document) (u rows : List ℕ) → rows_at s u ≡ Some rows
      → (next : List ℕ) × (rows_at (with_table id (on_grid f) s) u ≡ Some next) × ((r : ℕ) → has gone r ≡ false → has next r ≡ has rows r)
  unfolding told
  rows_after s u rows h =
      let x = by (bytes_eq id u) (find_id table_id u s) h in
      (x.0, ap told (find-with_id table_id id (on_grid f) (λ y. refl) s u) ∙ x.1, x.2)
    where
      by : (b : Bool) (o : Option Table) → told o ≡ Some rows → (next : List ℕ) × (told (cond b (option_map (on_grid f) o) o) ≡ Some next) × ((r : ℕ) → has gone r ≡ false → has next r ≡ has rows r)
      by b None h = absurd (none_some rows h)
      by true (Some x) h = ((f x.grid).rows, refl, λ r e. keeps x.grid r e ∙ ap (λ l. has l r) (some_same x.grid.rows rows h))
      by false (Some x) h = (x.grid.rows, refl, λ r e. ap (λ l. has l r) (some_same x.grid.rows rows h))

  rows_before : (s : Document) (u next : List ℕ) → rows_at (with_table id (on_grid f) s) u ≡ Some next
      → (rows : List ℕ) × (rows_at s u ≡ Some rows) × ((r : ℕ) → has gone r ≡ false → has rows r ≡ has next r)
  unfolding told
  rows_before s u next h = by (bytes_eq id u) (find_id table_id u s) (sym (ap told (find-with_id table_id id (on_grid f) (λ y. refl) s u)) ∙ h)
    where
      by : (b : Bool) (o : Option Table) → told (cond b (option_map (on_grid f) o) o) ≡ Some next → (rows : List ℕ) × (told o ≡ Some rows) × ((r : ℕ) → has gone r ≡ false → has rows r ≡ has next r)
      by true None h = absurd (none_some next h)
      by false None h = absurd (none_some next h)
      by true (Some x) h = (x.grid.rows, refl, λ r e. sym (keeps x.grid r e) ∙ ap (λ l. has l r) (some_same (f x.grid).rows next h))
      by false (Some x) h = (x.grid.rows, refl, λ r e. ap (λ l. has l r) (some_same x.grid.rows next h))

not_among : (a b : Bool) → b ≡ false → ((a && b) || false) ≡ false
not_among true true h = h
not_among true false h = refl
not_among false b h = refl

no_cell_written : (t rows u c : List ℕ) (r : ℕ) (ks : List CellColumn) → has rows r ≡ false
    → list_any (λ (m : Touch). touched_by m (Cell (cell_of u c r))) (map (λ (k : CellColumn). cells_written t k.id rows) ks) ≡ false
no_cell_written t rows u c r [] h = refl
no_cell_written t rows u c r (k ∷ ks) h =
    ap (λ b. b || list_any (λ (m : Touch). touched_by m (Cell (cell_of u c r))) (map (λ (l : CellColumn). cells_written t l.id rows) ks)) (by (bytes_eq u t) (bytes_eq c k.id) (has rows r) h)
    ∙ no_cell_written t rows u c r ks h
  where
    by : (a b d : Bool) → d ≡ false → (a && (b && d)) ≡ false
    by true true d h = h
    by true false d h = refl
    by false b d h = refl

-- an action on records changes the grid of one table, and no rows but its own
record IsOfRows (s : Document) (a : DocAction) (id gone : List ℕ) : Type 0 where
  f : Grid ColDef → Grid ColDef
  done : apply s a ≡ with_table id (on_grid f) s
  keeps : (g : Grid ColDef) (r : ℕ) → has gone r ≡ false → has (f g).rows r ≡ has g.rows r
  touched : Read → Bool
  alike : TellsSame (sheet_of s) (sheet_of (apply s a)) touched
  free : (u c : List ℕ) (r : ℕ) → has gone r ≡ false → touched (Cell (cell_of u c r)) ≡ false

module _ (s : Document) where
  done_so : (a : DocAction) (id : List ℕ) (f : Grid ColDef → Grid ColDef) → valid s a ≡ true → effect s a ≡ with_table id (on_grid f) s → apply s a ≡ with_table id (on_grid f) s
  done_so a id f ok e = cond_true (valid s a) (effect s a) s ok ∙ e

  of_rows : (a : DocAction) (rows : List ℕ) → valid s a ≡ true → rows_of a ≡ Some rows → (id : List ℕ) × IsOfRows s a id rows
  of_rows (BulkUpdate t rs ks) rows ok e = (
    t,
    subst (IsOfRows s (BulkUpdate t rs ks) t) (some_same rs rows e) (record {
      f = update_rows column_id rs ks;
      done = done_so (BulkUpdate t rs ks) t (update_rows column_id rs ks) ok refl;
      keeps = λ g r _. refl;
      touched = λ q. list_any (λ (m : Touch). touched_by m q) (map (λ (k : CellColumn). cells_written t k.id rs) ks);
      alike = update_same s t rs ks ok;
      free = λ u c r h. no_cell_written t rs u c r ks h;
    }),
  )
  of_rows (BulkAdd t rs ks) rows ok e = (
    t,
    subst (IsOfRows s (BulkAdd t rs ks) t) (some_same rs rows e) (record {
      f = add_rows column_id start_of rs ks;
      done = done_so (BulkAdd t rs ks) t (add_rows column_id start_of rs ks) ok refl;
      keeps = λ g r h. has-insert_rows rs g.rows r ∙ ap (λ b. b || has g.rows r) h;
      touched = _;
      alike = tells_same (sheet_of s) (sheet_of (apply s (BulkAdd t rs ks))) _ _ (came_added s t rs ks ok);
      free = λ u c r h. not_among (bytes_eq u t) (has rs r) h;
    }),
  )
  of_rows (BulkRemove t rs) rows ok e = (
    t,
    subst (IsOfRows s (BulkRemove t rs) t) (some_same rs rows e) (record {
      f = remove_rows column_id rs;
      done = done_so (BulkRemove t rs) t (remove_rows column_id rs) ok refl;
      keeps = λ g r h. has-filter (λ z. not (has rs z)) g.rows r ∙ ap (λ b. not b && has g.rows r) h;
      touched = _;
      alike = tells_same (sheet_of s) (sheet_of (apply s (BulkRemove t rs))) _ _ (came_removed s t rs ok);
      free = λ u c r h. not_among (bytes_eq u t) (has rs r) h;
    }),
  )
  of_rows (AddTable t n ds) rows ok e = absurd (none_some rows e)
  of_rows (RemoveTable t) rows ok e = absurd (none_some rows e)
  of_rows (RenameTable t new) rows ok e = absurd (none_some rows e)
  of_rows (AddColumn t d) rows ok e = absurd (none_some rows e)
  of_rows (RemoveColumn t d) rows ok e = absurd (none_some rows e)
  of_rows (RenameColumn t d new) rows ok e = absurd (none_some rows e)
  of_rows (ModifyColumn t d info) rows ok e = absurd (none_some rows e)

  module _ (u c : List ℕ) (index : List (ℕ × Vec ℕ Global)) (a : DocAction) (rows : List ℕ) (ok : valid s a ≡ true) (e : rows_of a ≡ Some rows) where
    but_over : IsIndexBut (sheet_of s) rows u c index → IsIndexBut (sheet_of (apply s a)) rows u c index
    but_over =
        let x = of_rows a rows ok e in
        but_after (sheet_of s) (sheet_of (apply s a)) x.1.touched x.1.alike rows u c index (x.1.free u c)
        (λ rs h. let y = rows_after rows x.0 x.1.f x.1.keeps s u rs h in (y.0, ap (λ d. rows_at d u) x.1.done ∙ y.1, y.2))

    but_back : IsIndexBut (sheet_of (apply s a)) rows u c index → IsIndexBut (sheet_of s) rows u c index
    but_back =
        let x = of_rows a rows ok e in
        but_after (sheet_of (apply s a)) (sheet_of s) x.1.touched (turned (sheet_of s) (sheet_of (apply s a)) x.1.touched x.1.alike) rows u c index (x.1.free u c)
        (λ rs h. rows_before rows x.0 x.1.f x.1.keeps s u rs (sym (ap (λ d. rows_at d u) x.1.done) ∙ h))

-- ---- indexes that are left, over an action

module _ (a : DocAction) (i : ColumnIndex) where
  abbrev But : Sheet → Option (List ℕ) → Type 0
  But d o = elim o as (λ _. Type 0) [ None ↦ ⊥ | Some rows ↦ IsIndexBut d rows i.table i.column i.index ]

  abbrev pub Left : Sheet → Bool → Type 0
  Left d b = elim b as (λ _. Type 0) [ true ↦ IsIndex d i.table i.column i.index | false ↦ But d (rows_of a) ]

  module _ (s : Document) (ok : valid s a ≡ true) where
    by_rows : (o : Option (List ℕ)) → rows_of a ≡ o → But (sheet_of s) o → But (sheet_of (apply s a)) o
    by_rows None e h = h
    by_rows (Some rows) e h = but_over s i.table i.column i.index a rows ok e h

    by_column : (b : Bool) → leaves_column a i.table i.column ≡ b → Left (sheet_of s) b → Left (sheet_of (apply s a)) b
    by_column true e h = index_left s a ok i e h
    by_column false e h = by_rows (rows_of a) refl h

    one_after : IsLeft (sheet_of s) a i → IsLeft (sheet_of (apply s a)) a i
    one_after h = by_column (leaves_column a i.table i.column) refl h

pub left_after : LeftOverLaw
left_after s a ok [] all = tt
left_after s a ok (i ∷ indexes) all = (one_after a i s ok all.0, left_after s a ok indexes all.1)

-- ---- and back

pub left_back : LeftBackLaw
left_back s a t rows ok of is [] all = tt
left_back s a t rows ok of is (i ∷ indexes) all = (by (not (bytes_eq i.table t)) refl all.0, left_back s a t rows ok of is indexes all.1)
  where
    by : (b : Bool) → not (bytes_eq i.table t) ≡ b → Left (BulkRemove t rows) i (sheet_of (apply s a)) b → Left (BulkRemove t rows) i (sheet_of s) b
    by true e h = index_back s a t ok of i e h
    by false e h = but_back s i.table i.column i.index a rows ok is h

pub last_index : (s : Sheet) (indexes : List ColumnIndex) (i : ColumnIndex) → AreIndexes s (indexes ++ i ∷ []) → IsIndex s i.table i.column i.index
last_index s [] i all = all.0
last_index s (j ∷ indexes) i all = last_index s indexes i all.1
