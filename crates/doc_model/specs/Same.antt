-- Whether two values or columns are equal, as tests. 1 and true are two values.
use Rattle.std.specs.Prelude.{ℕ, Bool, true, false, ◌&&◌, nat_eq, List, [], ◌∷◌, Option, Some, None}
use Rattle.std.specs.Bool.{beq}
use Rattle.std.specs.Ordering.{int_eq}
use Rattle.std.specs.Str.{bytes_eq}
use Rattle.cell_types.specs.declared.column_type.ColType.{ColType}
use Rattle.cell_types.specs.declared.column_type.ColType.TheVariants as type
use Rattle.cell_types.specs.declared.value.CellItem.{CellItem}
use Rattle.cell_types.specs.declared.value.CellItem.TheVariants as item
use Rattle.cell_types.specs.declared.value.CellValue.{CellValue}
use Rattle.cell_types.specs.declared.value.CellValue.TheVariants as value
use Rattle.cell_types.specs.declared.value.ErrKind.{ErrKind}
use Rattle.cell_types.specs.declared.value.ErrKind.TheVariants as error
use Rattle.cell_types.specs.declared.value.RowRef.{RowRef}
use Rattle.doc_model.specs.declared.view.ViewCol.{ViewCol}

abbrev pub same_row : RowRef → RowRef → Bool
same_row a b = bytes_eq a.table b.table && nat_eq a.row b.row

abbrev pub same_item : CellItem → CellItem → Bool
same_item item.Null item.Null = true
same_item (item.Int a) (item.Int b) = int_eq a b
same_item (item.Bool a) (item.Bool b) = beq a b
same_item (item.Text a) (item.Text b) = bytes_eq a b
same_item (item.Date a) (item.Date b) = int_eq a b
same_item (item.Rec a) (item.Rec b) = same_row a b
same_item _ _ = false

abbrev pub same_items : List CellItem → List CellItem → Bool
same_items [] [] = true
same_items (a ∷ as') (b ∷ bs) = same_item a b && same_items as' bs
same_items _ _ = false

abbrev pub same_error : ErrKind → ErrKind → Bool
same_error error.Circular error.Circular = true
same_error error.ZeroDivision error.ZeroDivision = true
same_error error.WrongType error.WrongType = true
same_error error.Attribute error.Attribute = true
same_error error.Key error.Key = true
same_error error.Name error.Name = true
same_error error.Overflow error.Overflow = true
same_error error.Syntax error.Syntax = true
same_error _ _ = false

abbrev pub same_value : CellValue → CellValue → Bool
same_value value.Null value.Null = true
same_value (value.Int a) (value.Int b) = int_eq a b
same_value (value.Bool a) (value.Bool b) = beq a b
same_value (value.Text a) (value.Text b) = bytes_eq a b
same_value (value.Date a) (value.Date b) = int_eq a b
same_value (value.Rec a) (value.Rec b) = same_row a b
same_value (value.RecSet a) (value.RecSet b) = bytes_eq a.table b.table && bytes_eq a.rows b.rows
same_value (value.List a) (value.List b) = same_items a b
same_value (value.Err a) (value.Err b) = same_error a b
same_value value.Censored value.Censored = true
same_value _ _ = false

abbrev pub same_type : ColType → ColType → Bool
same_type type.Any type.Any = true
same_type type.Text type.Text = true
same_type type.Int type.Int = true
same_type type.Bool type.Bool = true
same_type type.Date type.Date = true
same_type (type.Ref a) (type.Ref b) = bytes_eq a b
same_type (type.RefList a) (type.RefList b) = bytes_eq a b
same_type _ _ = false

abbrev pub same_text : Option (List ℕ) → Option (List ℕ) → Bool
same_text None None = true
same_text (Some a) (Some b) = bytes_eq a b
same_text _ _ = false

abbrev pub same_column : ViewCol → ViewCol → Bool
same_column a b =
    bytes_eq a.id b.id && same_type a.ty b.ty && beq a.is_formula b.is_formula
    && same_text a.formula b.formula
