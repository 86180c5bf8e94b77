-- Equality does not depend on which value stands left.
use Rattle.std.proofs.Common.{◌≡◌, ℤ, ◌&&◌, List, [], ◌∷◌, Option, Some, None, refl}
use Rattle.std.proofs.lemmas.Cmp.{nat_eq_equiv, int_eq_equiv, nat_list_eq_equiv}
use Rattle.std.specs.Cmp.Lexicographic.{pointwise}
use Rattle.cell_types.specs.declared.value.CellItem.{CellItem}
use Rattle.cell_types.specs.declared.value.CellValue.{CellValue}
use Rattle.cell_types.specs.declared.value.CellValue.TheVariants as value
use Rattle.cell_types.specs.declared.value.RowRef.{RowRef}
use Rattle.cell_types.specs.declared.value.RowSet.{RowSet}
use Rattle.cell_types.specs.Item.{value_of_item}
use Rattle.value_ops.specs.Equality.{are_equal_numbers, are_equal_rows, are_equal_row_sets, is_equal_but_lists, is_equal_item, is_equal}
use Rattle.value_ops.specs.Numbers.{number_of}

numbers_turned : (x y : Option ℤ) → are_equal_numbers x y ≡ are_equal_numbers y x
numbers_turned None None = refl
numbers_turned None (Some b) = refl
numbers_turned (Some a) None = refl
numbers_turned (Some a) (Some b) = int_eq_equiv.symm a b

rows_turned : (r s : RowRef) → are_equal_rows r s ≡ are_equal_rows s r
rows_turned r s = λ i. nat_eq_equiv.symm r.row s.row i && nat_list_eq_equiv.symm r.table s.table i

row_sets_turned : (r s : RowSet) → are_equal_row_sets r s ≡ are_equal_row_sets s r
row_sets_turned r s = λ i. nat_list_eq_equiv.symm r.table s.table i && nat_list_eq_equiv.symm r.rows s.rows i

but_lists_turned : (a b : CellValue) → is_equal_but_lists a b ≡ is_equal_but_lists b a
but_lists_turned value.Null value.Null = refl
but_lists_turned (value.Text t) (value.Text u) = nat_list_eq_equiv.symm t u
but_lists_turned (value.Date m) (value.Date n) = int_eq_equiv.symm m n
but_lists_turned (value.Rec r) (value.Rec s) = rows_turned r s
but_lists_turned (value.RecSet r) (value.RecSet s) = row_sets_turned r s
but_lists_turned a value.Null = numbers_turned (number_of a) (number_of value.Null)
but_lists_turned a b = numbers_turned (number_of a) (number_of b)

items_turned : (is js : List CellItem) → pointwise is_equal_item is js ≡ pointwise is_equal_item js is
items_turned [] [] = refl
items_turned [] (j ∷ js) = refl
items_turned (i ∷ is) [] = refl
items_turned (i ∷ is) (j ∷ js) = λ k. but_lists_turned (value_of_item i) (value_of_item j) k && items_turned is js k

pub equal_turned : (a b : CellValue) → is_equal a b ≡ is_equal b a
equal_turned (value.List is) (value.List js) = items_turned is js
equal_turned a (value.List js) = but_lists_turned a (value.List js)
equal_turned a b = but_lists_turned a b
