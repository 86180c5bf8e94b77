-- Cells put under their columns, one after the other.
use Rattle.std.proofs.Common.{ℕ, Bool, true, false, cond, ◌&&◌, ◌||◌, nat_eq, List, [], ◌+◌, ◌<◌, take, get_or, length, Vec, Global, ◌≡◌, refl, sym, ap, ◌∙◌}
use Rattle.std.proofs.lemmas.List.Folds.{list_any_more}
use Rattle.doc_model.specs.Rows.{has, insert_row}
use Rattle.doc_model.proofs.Choices.{or_false}
use Rattle.doc_model.proofs.RowsLaws.{has-insert_row}
use Rattle.lookup_index.specs.Under.{under_key, IsPutUnder}
use Rattle.dep_graph.specs.declared.numbers.CellNumber.{CellNumber}
use Rattle.dep_graph.specs.declared.numbers.ColumnNumber.{ColumnNumber}
use Rattle.dep_graph.specs.Numbers.{is_cell, is_column}
use Rattle.affected_search.specs.ByColumn.{HasRowsOf}
use Rattle.affected_search.specs.Reached.{is_among}
use Rattle.affected_search.proofs.ReachedLaws.{cell_equiv}

put_test : (k : Bool) (rows : List ℕ) (row x : ℕ) → has (cond k (insert_row row rows) rows) x ≡ (has rows x || (k && nat_eq row x))
put_test true rows row x = has-insert_row row rows x ∙ turned (nat_eq row x) (has rows x)
  where
    turned : (e b : Bool) → (e || b) ≡ (b || e)
    turned true true = refl
    turned true false = refl
    turned false true = refl
    turned false false = refl
put_test false rows row x = sym (or_false (has rows x))

pub no_rows : (index : List (ColumnNumber × Vec ℕ Global)) → ((k : ColumnNumber) → under_key is_column index k ≡ []) → HasRowsOf [] index
no_rows index none c = ap (λ rows. has rows c.row) (none c.column)

pub row_put : (old new : List (ColumnNumber × Vec ℕ Global)) (cells : List CellNumber) (i : ℕ) (x : CellNumber) → i < length cells → x ≡ get_or cells i x → HasRowsOf (take i cells) old → IsPutUnder is_column old new x.column x.row → HasRowsOf (take (i + 1) cells) new
row_put old new cells i x l e was put c =
    ap (λ rows. has rows c.row) (put c.column) ∙ put_test (is_column x.column c.column) (under_key is_column old c.column) x.row c.row
    ∙ ap (λ b. b || is_cell x c) (was c) ∙ ap (λ b. is_among (take i cells) c || b) (cell_equiv.symm x c)
    ∙ sym (list_any_more (is_cell c) cells i x l ∙ ap (λ y. is_among (take i cells) c || is_cell c y) (sym e))
