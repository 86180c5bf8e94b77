-- The definitions compute: small formulas over a small reader.
use Rattle.std.proofs.Common.{ℕ, pos, true, cond, List, [], ◌∷◌, ◌≡◌, refl, Some, None, bytes_eq, codes, nat_eq}
use Rattle.cell_types.specs.declared.cell.Read.TheVariants.{Cell, Key, Rows}
use Rattle.cell_types.specs.declared.column_type.ColType.TheVariants as ty
use Rattle.cell_types.specs.declared.value.CellItem.TheVariants as item
use Rattle.cell_types.specs.declared.value.CellValue.TheVariants as value
use Rattle.cell_types.specs.declared.value.ErrKind.TheVariants as err
use Rattle.cell_types.specs.declared.value.RowRef.{RowRef}
use Rattle.formula_parse.specs.declared.operator.BinaryOp.TheVariants as op
use Rattle.formula_parse.specs.declared.operator.LookupKind.TheVariants as look
use Rattle.formula_parse.specs.Tree.{Tree, number, text, dollar, binary, parentheses, call, attribute, every, lookup, Trees, no_trees, one_more, no_keys, one_key}
use Rattle.formula_parse.specs.Lexemes as X2
use Rattle.formula_eval.specs.declared.note.Note.TheVariants as note
use Rattle.formula_eval.specs.Function as X3
use Rattle.formula_eval.specs.Eval as X4
use Rattle.formula_eval.specs.Reader.{Told, known, no_table, no_column, no_row, needed, Reader, cell_at}
use Rattle.formula_eval.specs.Run.{gives, raises, stops, circular, need}
use Rattle.formula_eval.specs.Eval.{evaluated}

-- the tags of rows 1 to 3
abbrev pub tags : ℕ → Told
tags r =
    cond (nat_eq r 1) (known (value.List (item.Text (codes "a") ∷ item.Text (codes "b") ∷ [])))
    (cond (nat_eq r 2) (known (value.List (item.Text (codes "b") ∷ [])))
    (cond (nat_eq r 3) (known (value.Text (codes "a"))) no_row))

abbrev pub other : List ℕ → ℕ → Told
other n r =
    cond (bytes_eq n (codes "N")) (known (value.Int (pos 7)))
    (cond (bytes_eq n (codes "X")) (known (value.Err err.Circular))
    (cond (bytes_eq n (codes "F")) needed no_column))

abbrev pub small : Reader
small = record {
  kind = λ t c. cond (bytes_eq t (codes "P")) (Some ty.Any) None;
  rows = λ t. cond (bytes_eq t (codes "P")) (Some (1 ∷ 2 ∷ 3 ∷ [])) None;
  cell = λ d. cond (bytes_eq d.table (codes "P")) (cond (bytes_eq d.column (codes "Tags")) (tags d.row) (other d.column d.row)) no_table;
}

abbrev pub at : RowRef
at = record { table = codes "P"; row = 1 }

abbrev pub one_argument : Tree → Trees
one_argument t = one_more t no_trees

-- len(P.lookupRecords(Tags=CONTAINS("a")))
pub found_once : evaluated small at (call (codes "len") (one_argument (lookup look.Records (codes "P") (one_key (codes "Tags") (call (codes "CONTAINS") (one_argument (text (codes "a")))) no_keys)))) ≡ record { out = gives (value.Int (pos 1)); notes = note.Read (Rows (codes "P")) ∷ note.Read (Key (codes "P") (codes "Tags")) ∷ note.Met (codes "P") (record { column = codes "Tags"; value = value.Text (codes "a"); contains = true } ∷ []) ∷ [] }
unfolding X2.id_word X3.function_of X4.contains_word X4.result_bound
found_once = refl

-- in parentheses it is a call of CONTAINS, which is no function
no_function : (evaluated small at (lookup look.Records (codes "P") (one_key (codes "Tags") (parentheses (call (codes "CONTAINS") (one_argument (text (codes "a"))))) no_keys))).out ≡ raises err.Name
unfolding X2.id_word X3.function_of X4.contains_word X4.result_bound
no_function = refl

-- a plain key agrees with the text alone
plain_key : (evaluated small at (lookup look.One (codes "P") (one_key (codes "Tags") (text (codes "a")) no_keys))).out ≡ gives (value.Rec (record { table = codes "P"; row = 3 }))
unfolding X2.id_word X3.function_of X4.contains_word X4.result_bound
plain_key = refl

-- IFERROR($N // 0, -1), and IFERROR($X, 1) of a circular cell
caught : (evaluated small at (call (codes "IFERROR") (one_more (binary op.Divide (dollar (codes "N")) (number 0)) (one_argument (number 1))))).out ≡ gives (value.Int (pos 1))
unfolding X2.id_word X3.function_of X4.contains_word X4.result_bound
caught = refl

not_caught : (evaluated small at (call (codes "IFERROR") (one_more (dollar (codes "X")) (one_argument (number 1))))).out ≡ stops circular
unfolding X2.id_word X3.function_of X4.contains_word X4.result_bound
not_caught = refl

-- IFERROR()
counts : (evaluated small at (call (codes "IFERROR") no_trees)).out ≡ raises err.WrongType
unfolding X2.id_word X3.function_of X4.contains_word X4.result_bound
counts = refl

-- 1 or $F does not read F, 0 or $F needs it
decided : evaluated small at (binary op.Or (number 1) (dollar (codes "F"))) ≡ record { out = gives (value.Int (pos 1)); notes = [] }
unfolding X2.id_word X3.function_of X4.contains_word X4.result_bound
decided = refl

needs : evaluated small at (binary op.Or (number 0) (dollar (codes "F"))) ≡ record { out = stops (need (cell_at (codes "P") (codes "F") 1 ∷ [])); notes = note.Read (Cell (cell_at (codes "P") (codes "F") 1)) ∷ [] }
unfolding X2.id_word X3.function_of X4.contains_word X4.result_bound
needs = refl

-- Q.all of a table that is not there, and an attribute of P.all
no_such_table : evaluated small at (every (codes "Q")) ≡ record { out = raises err.Name; notes = note.Read (Rows (codes "Q")) ∷ note.All (codes "Q") ∷ [] }
unfolding X2.id_word X3.function_of X4.contains_word X4.result_bound
no_such_table = refl

sum_of_column : (evaluated small at (call (codes "SUM") (one_argument (attribute (every (codes "P")) (codes "N"))))).out ≡ gives (value.Int (pos 21))
unfolding X2.id_word X3.function_of X4.contains_word X4.result_bound
sum_of_column = refl
