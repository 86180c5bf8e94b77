-- Formulas over a reader and over one that has a column under a new name.
use Rattle.std.specs.Prelude.{ℕ, false, ◌&&◌, cond, List, ◌≡◌, ⊤, bytes_eq}
use Rattle.cell_types.specs.declared.value.RowRef.{RowRef}
use Rattle.formula_parse.specs.Lexemes.{is_id}
use Rattle.formula_parse.specs.Tree.{Tree, dollar, binary, prefix, conditional, parentheses, list, call, attribute, lookup, Trees, no_trees, one_more, Keys, no_keys, one_key}
use Rattle.formula_eval.specs.Eval.{ev}
use Rattle.formula_eval.specs.Reader.{Reader, cell_at}
use Rattle.formula_eval.specs.Run.{Out, gives, raises, stops}
use Rattle.formula_records.specs.declared.tables.RecordTables.{RecordTables}
use Rattle.formula_records.specs.RecordTables.{IsIn, only}
use Rattle.formula_records.specs.Recs.{Columns, recs}
use Rattle.rename_marks.specs.declared.column_rename.ColumnRename.{ColumnRename}
use Rattle.rename_texts.specs.Renamed.{Rename, named, renamed}
use Rattle.renamed_values.specs.HeldRecords.{IsPlain}
use Rattle.renamed_values.specs.PlainNames.{NamesPlain}
use Rattle.renamed_values.specs.RecordsLaw.{IsTyped}

-- the name of a column then
abbrev pub moved : ColumnRename → List ℕ → List ℕ → List ℕ
moved m t n = cond (bytes_eq t m.table && bytes_eq n m.old) m.new n

-- it is not the new name in that table
abbrev pub IsKept : ColumnRename → List ℕ → List ℕ → Type 0
IsKept m t n = (bytes_eq t m.table && bytes_eq n m.new) ≡ false

-- outside the metadata the second reader has the column under its new name, and all else as it was
pub record IsMoved (m : ColumnRename) (x y : Reader) : Type 0 where
  pub old : is_id m.old ≡ false
  pub new : is_id m.new ≡ false
  pub rows : (t : List ℕ) → IsPlain t → y.rows t ≡ x.rows t
  pub kind : (t n : List ℕ) → IsPlain t → IsKept m t n → y.kind t (moved m t n) ≡ x.kind t n
  pub cell : (t n : List ℕ) (r : ℕ) → IsPlain t → IsKept m t n
      → y.cell (cell_at t (moved m t n) r) ≡ x.cell (cell_at t n r)

-- in each of these tables the name is the column's then
abbrev pub Fits : ColumnRename → RecordTables → List ℕ → List ℕ → Type 0
Fits m q n n' = (t : List ℕ) → IsIn q t → IsKept m t n × (moved m t n ≡ n')

-- each name is replaced as it has to be
abbrev mutual
  pub AllFit : ColumnRename → Rename → Columns → List ℕ → Tree → Type 0
  AllFit m r k own (dollar n) = Fits m (only own) n (named r r.own n)
  AllFit m r k own (binary o a b) = AllFit m r k own a × AllFit m r k own b
  AllFit m r k own (prefix o a) = AllFit m r k own a
  AllFit m r k own (conditional a c b) =
      AllFit m r k own a × AllFit m r k own c × AllFit m r k own b
  AllFit m r k own (parentheses a) = AllFit m r k own a
  AllFit m r k own (list ts) = EachFits m r k own ts
  AllFit m r k own (call n ts) = EachFits m r k own ts
  AllFit m r k own (attribute a n) =
      AllFit m r k own a × Fits m (recs k own a) n (named r (r.attribute a) n)
  AllFit m r k own (lookup l t ks) = KeysFit m r k own t ks
  AllFit m r k own _ = ⊤

  pub EachFits : ColumnRename → Rename → Columns → List ℕ → Trees → Type 0
  EachFits m r k own no_trees = ⊤
  EachFits m r k own (one_more t ts) = AllFit m r k own t × EachFits m r k own ts

  pub KeysFit : ColumnRename → Rename → Columns → List ℕ → List ℕ → Keys → Type 0
  KeysFit m r k own t no_keys = ⊤
  KeysFit m r k own t (one_key n a ks) =
      IsKept m t n × (moved m t n ≡ named r (r.table t) n) × AllFit m r k own a
      × KeysFit m r k own t ks

module _ {A : Type 0} where
  -- the same value, the same error, or both stop
  abbrev pub SameOut : Out A → Out A → Type 0
  SameOut (gives v) (gives w) = v ≡ w
  SameOut (raises e) (raises f) = e ≡ f
  SameOut (stops s) (stops t) = ⊤
  SameOut _ _ = ⊥

-- the renamed formula comes to the same over the second reader
abbrev pub SameEvLaw : Type 0
SameEvLaw = (m : ColumnRename) (r : Rename) (k : Columns) (x y : Reader) (at : RowRef) (t : Tree)
    → IsTyped k x → IsMoved m x y → IsPlain at.table → NamesPlain t → AllFit m r k at.table t
    → SameOut (ev x at t).out (ev y at (renamed r t)).out
