-- Cells keep their values where a column gets a new name, with each fuel.
use Rattle.std.proofs.Common.{◌≡◌, ◌∙◌, ap, refl, subst, sym, ℕ, zero, suc, List, Option, Some, None, length}
use Rattle.std.specs.Option.{unwrap_or}
use Rattle.cell_types.specs.declared.cell.CellId.{CellId}
use Rattle.cell_types.specs.declared.column_type.ColType.{ColType}
use Rattle.cell_types.specs.declared.value.CellValue.{CellValue}
use Rattle.cell_types.specs.declared.value.CellValue.TheVariants as value
use Rattle.cell_types.specs.declared.value.ErrKind.TheVariants as err
use Rattle.cell_types.specs.declared.value.RowRef.{RowRef}
use Rattle.formula_parse.specs.FormulaOf.{formula_of}
use Rattle.formula_parse.specs.Tree.{Tree}
use Rattle.formula_eval.specs.Eval.{as_result, ev}
use Rattle.formula_eval.specs.OfText.{evaluated_some, evaluated_text}
use Rattle.formula_eval.specs.Reader.{Told, cell_at}
use Rattle.formula_records.specs.Recs.{Columns}
use Rattle.rename_marks.specs.declared.column_rename.ColumnRename.{ColumnRename}
use Rattle.rename_texts.specs.Renamed.{Rename, renamed}
use Rattle.renamed_values.specs.HeldRecords.{IsPlain}
use Rattle.renamed_values.specs.PlainNames.{NamesPlain}
use Rattle.renamed_values.specs.RecordsLaw.{IsTyped}
use Rattle.formula_eval.specs.Run.{Out, done, gives, raises, stops}
use Rattle.renamed_values.specs.SameEv.{IsKept, IsMoved, SameOut}
use Rattle.renamed_values.specs.SameSheet.{Follow, FollowIn, IsMovedSheet, SameSheetLaw, SameValueLaw, moved_cell}
use Rattle.recalc.specs.Sheet.{Sheet, Values, eval, finished, over, row_of, run_of, told_by, value_by}
use Rattle.renamed_values.proofs.PlainNameLemmas.{formula_plain}
use Rattle.renamed_values.proofs.SameEvLemmas.{same_ev, then_same}
use Rattle.renamed_values.proofs.TypedLemmas.{typed_so}

finished_same : (k : Option ColType) (o p : Out CellValue) → SameOut o p → finished k p ≡ finished k o
finished_same k (gives v) (gives w) h = ap (λ (u : CellValue). finished k (gives u)) (sym h)
finished_same k (gives v) (raises e) h = absurd h
finished_same k (gives v) (stops e) h = absurd h
finished_same k (raises v) (gives w) h = absurd h
finished_same k (raises e) (raises f) h = ap (λ u. finished k (raises u)) (sym h)
finished_same k (raises v) (stops e) h = absurd h
finished_same k (stops v) (gives w) h = absurd h
finished_same k (stops v) (raises e) h = absurd h
finished_same k (stops v) (stops e) h = refl

-- of a cell with a formula the value alone is told
value_alone : (f g : List ℕ) (a b : Told) (o : Option CellValue) → told_by (Some g) b o ≡ told_by (Some f) a o
value_alone f g a b None = refl
value_alone f g a b (Some u) = refl

module _ (m : ColumnRename) (r : List ℕ → Rename) (k : Columns) (s t : Sheet) (h : IsMovedSheet m r k s t) where
  -- what the formulas see, with values that are the same
  told_same : (v w : Values) (c : CellId) → w (moved_cell m c) ≡ v c → IsPlain c.table → IsKept m c.table c.column
      → told_by (t.formula (moved_cell m c)) (t.base (moved_cell m c)) (w (moved_cell m c)) ≡ told_by (s.formula c) (s.base c) (v c)
  told_same v w c e p kept = by (s.formula c) (t.formula (moved_cell m c)) (h.formula c p kept)
    where
      by : (f g : Option (List ℕ)) → FollowIn m r k c.table f g → told_by g (t.base (moved_cell m c)) (w (moved_cell m c)) ≡ told_by f (s.base c) (v c)
      by None None i = h.base c p kept
      by None (Some g) i = absurd i
      by (Some f) None i = absurd i
      by (Some f) (Some g) i = ap (told_by (Some g) (t.base (moved_cell m c))) e ∙ value_alone f g (s.base c) (t.base (moved_cell m c)) (v c)

  readers : (v w : Values) → ((c : CellId) → IsPlain c.table → IsKept m c.table c.column → w (moved_cell m c) ≡ v c) → IsMoved m (over s v) (over t w)
  readers v w e = record {
    old = h.old;
    new = h.new;
    rows = h.rows;
    kind = h.kind;
    cell = λ a n row p kept. told_same v w (cell_at a n row) (e (cell_at a n row) p kept) p kept;
  }

  some_same : (v w : Values) (at : RowRef) → IsTyped k (over s v) → IsMoved m (over s v) (over t w) → IsPlain at.table
      → (f g : Option Tree) → ((u : Tree) → f ≡ Some u → NamesPlain u) → Follow m (r at.table) k at.table f g
      → SameOut (evaluated_some (over s v) at f).out (evaluated_some (over t w) at g).out
  some_same v w at typed same p None None n i = refl
  some_same v w at typed same p None (Some g) n i = absurd i
  some_same v w at typed same p (Some f) None n i = absurd i
  some_same v w at typed same p (Some f) (Some g) n i =
      subst (λ (u : Tree). SameOut (evaluated_some (over s v) at (Some f)).out (evaluated_some (over t w) at (Some u)).out) (sym i.1)
      (then_same (ev (over s v) at f) (ev (over t w) at (renamed (r at.table) f)) (λ u. done (as_result u)) (same_ev m (r at.table) k (over s v) (over t w) at f typed same p (n f refl) i.0))

  pub fuel_same : (n : ℕ) (c : CellId) → IsPlain c.table → IsKept m c.table c.column → eval n t (moved_cell m c) ≡ eval n s c
  unfolding evaluated_text
  fuel_same zero c p kept = refl
  fuel_same (suc n) c p kept = by (fuel_same n) (s.formula c) (t.formula (moved_cell m c)) (h.formula c p kept)
    where
      by : ((d : CellId) → IsPlain d.table → IsKept m d.table d.column → eval n t (moved_cell m d) ≡ eval n s d)
          → (f g : Option (List ℕ)) → FollowIn m r k c.table f g → value_by t (eval n t) (moved_cell m c) g ≡ value_by s (eval n s) c f
      by ih None None i = refl
      by ih None (Some g) i = absurd i
      by ih (Some f) None i = absurd i
      by ih (Some f) (Some g) i =
          ap (λ (o : Option ColType). finished o (run_of (over t (eval n t)) (moved_cell m c) g).out) (h.kind c.table c.column p kept)
          ∙ finished_same (s.kind c.table c.column) (run_of (over s (eval n s)) c f).out (run_of (over t (eval n t)) (moved_cell m c) g).out
          (some_same (eval n s) (eval n t) (row_of c) (typed_so k s h.typed n) (readers (eval n s) (eval n t) ih) p (formula_of f) (formula_of g) (formula_plain f) i)

pub same_sheet : SameSheetLaw
same_sheet m r k s t h n c p kept = fuel_same m r k s t h n c p kept

pub same_value : SameValueLaw
same_value m r k s t h size c p kept =
    ap (λ (n : ℕ). unwrap_or (eval n t (moved_cell m c)) (value.Err err.Circular)) size
    ∙ ap (λ (o : Option CellValue). unwrap_or o (value.Err err.Circular)) (fuel_same m r k s t h (length s.cells) c p kept)
