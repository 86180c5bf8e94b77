-- The tests of equality tell equality.
use Rattle.std.proofs.Common.{ℕ, true, ◌&&◌, List, [], ◌∷◌, ◌≡◌, refl, ap, subst, ◌∙◌, Option, Some, None}
use Rattle.std.proofs.lemmas.Bool.{false≢true, and_parts, eqb-true, eq-eqb}
use Rattle.std.proofs.lemmas.Bool.Decides.{Decides-int_eq}
use Rattle.std.proofs.lemmas.Slice.Eq.{bytes_eq-Decides}
use Rattle.std.specs.Bool.{Decides, beq}
use Rattle.std.specs.Cmp.{booleans_Decides}
use Rattle.std.specs.Ordering.{int_eq}
use Rattle.std.specs.Str.{bytes_eq}
use Rattle.cell_types.specs.declared.column_type.ColType.{ColType}
use Rattle.cell_types.specs.declared.column_type.ColType.TheVariants as type
use Rattle.cell_types.specs.declared.value.CellItem.{CellItem}
use Rattle.cell_types.specs.declared.value.CellItem.TheVariants as item
use Rattle.cell_types.specs.declared.value.CellValue.{CellValue}
use Rattle.cell_types.specs.declared.value.CellValue.TheVariants as value
use Rattle.cell_types.specs.declared.value.ErrKind.{ErrKind}
use Rattle.cell_types.specs.declared.value.ErrKind.TheVariants as error
use Rattle.cell_types.specs.declared.value.RowRef.{RowRef}
use Rattle.cell_types.specs.declared.value.RowSet.{RowSet}
use Rattle.doc_model.specs.declared.view.ViewCol.{ViewCol}
use Rattle.doc_model.specs.Same.{same_row, same_item, same_items, same_error, same_value, same_type, same_text, same_column}
use Rattle.doc_model.proofs.Choices.{both_true, parts_4}

bytes_same : (a b : List ℕ) → bytes_eq a b ≡ true → a ≡ b
bytes_same a b e = (bytes_eq-Decides a b).0 e

bytes_itself : (a : List ℕ) → bytes_eq a a ≡ true
bytes_itself a = (bytes_eq-Decides a a).1 refl

row_same : (a b : RowRef) → same_row a b ≡ true → a ≡ b
row_same a b e =
    let two : (bytes_eq a.table b.table ≡ true) × _ = and_parts (bytes_eq a.table b.table) (Rattle.std.specs.Prelude.nat_eq a.row b.row) e in
    ap (λ t. let x : RowRef = record { table = t; row = a.row } in x) (bytes_same a.table b.table two.0)
    ∙ ap (λ r. let x : RowRef = record { table = b.table; row = r } in x) (eqb-true a.row b.row two.1)

row_itself : (a : RowRef) → same_row a a ≡ true
row_itself a = both_true (bytes_eq a.table a.table) (Rattle.std.specs.Prelude.nat_eq a.row a.row) (bytes_itself a.table) (eq-eqb a.row a.row refl)

item_same : (a b : CellItem) → same_item a b ≡ true → a ≡ b
item_same item.Null item.Null e = refl
item_same (item.Int a) (item.Int b) e = ap item.Int ((Decides-int_eq a b).0 e)
item_same (item.Bool a) (item.Bool b) e = ap item.Bool ((booleans_Decides a b).0 e)
item_same (item.Text a) (item.Text b) e = ap item.Text (bytes_same a b e)
item_same (item.Date a) (item.Date b) e = ap item.Date ((Decides-int_eq a b).0 e)
item_same (item.Rec a) (item.Rec b) e = ap item.Rec (row_same a b e)
item_same _ _ e = absurd (false≢true e)

item_itself : (a : CellItem) → same_item a a ≡ true
item_itself item.Null = refl
item_itself (item.Int a) = (Decides-int_eq a a).1 refl
item_itself (item.Bool a) = (booleans_Decides a a).1 refl
item_itself (item.Text a) = bytes_itself a
item_itself (item.Date a) = (Decides-int_eq a a).1 refl
item_itself (item.Rec a) = row_itself a

items_same : (as' bs : List CellItem) → same_items as' bs ≡ true → as' ≡ bs
items_same [] [] e = refl
items_same (a ∷ as') (b ∷ bs) e =
    let two : (same_item a b ≡ true) × (same_items as' bs ≡ true) = and_parts (same_item a b) (same_items as' bs) e in
    ap (λ x. x ∷ as') (item_same a b two.0) ∙ ap (λ xs. b ∷ xs) (items_same as' bs two.1)
items_same _ _ e = absurd (false≢true e)

items_itself : (as' : List CellItem) → same_items as' as' ≡ true
items_itself [] = refl
items_itself (a ∷ as') = both_true (same_item a a) (same_items as' as') (item_itself a) (items_itself as')

error_same : (a b : ErrKind) → same_error a b ≡ true → a ≡ b
error_same error.Circular error.Circular e = refl
error_same error.ZeroDivision error.ZeroDivision e = refl
error_same error.WrongType error.WrongType e = refl
error_same error.Attribute error.Attribute e = refl
error_same error.Key error.Key e = refl
error_same error.Name error.Name e = refl
error_same error.Overflow error.Overflow e = refl
error_same error.Syntax error.Syntax e = refl
error_same _ _ e = absurd (false≢true e)

error_itself : (a : ErrKind) → same_error a a ≡ true
error_itself error.Circular = refl
error_itself error.ZeroDivision = refl
error_itself error.WrongType = refl
error_itself error.Attribute = refl
error_itself error.Key = refl
error_itself error.Name = refl
error_itself error.Overflow = refl
error_itself error.Syntax = refl

value_same : (a b : CellValue) → same_value a b ≡ true → a ≡ b
value_same value.Null value.Null e = refl
value_same (value.Int a) (value.Int b) e = ap value.Int ((Decides-int_eq a b).0 e)
value_same (value.Bool a) (value.Bool b) e = ap value.Bool ((booleans_Decides a b).0 e)
value_same (value.Text a) (value.Text b) e = ap value.Text (bytes_same a b e)
value_same (value.Date a) (value.Date b) e = ap value.Date ((Decides-int_eq a b).0 e)
value_same (value.Rec a) (value.Rec b) e = ap value.Rec (row_same a b e)
value_same (value.RecSet a) (value.RecSet b) e =
    let two : (bytes_eq a.table b.table ≡ true) × (bytes_eq a.rows b.rows ≡ true) = and_parts (bytes_eq a.table b.table) (bytes_eq a.rows b.rows) e in
    ap (λ t. let x : RowSet = record { table = t; rows = a.rows } in value.RecSet x) (bytes_same a.table b.table two.0)
    ∙ ap (λ r. let x : RowSet = record { table = b.table; rows = r } in value.RecSet x) (bytes_same a.rows b.rows two.1)
value_same (value.List a) (value.List b) e = ap value.List (items_same a b e)
value_same (value.Err a) (value.Err b) e = ap value.Err (error_same a b e)
value_same value.Censored value.Censored e = refl
value_same _ _ e = absurd (false≢true e)

value_itself : (a : CellValue) → same_value a a ≡ true
value_itself value.Null = refl
value_itself (value.Int a) = (Decides-int_eq a a).1 refl
value_itself (value.Bool a) = (booleans_Decides a a).1 refl
value_itself (value.Text a) = bytes_itself a
value_itself (value.Date a) = (Decides-int_eq a a).1 refl
value_itself (value.Rec a) = row_itself a
value_itself (value.RecSet a) = both_true (bytes_eq a.table a.table) (bytes_eq a.rows a.rows) (bytes_itself a.table) (bytes_itself a.rows)
value_itself (value.List a) = items_itself a
value_itself (value.Err a) = error_itself a
value_itself value.Censored = refl

pub same_value-Decides : (a b : CellValue) → Decides (same_value a b) (a ≡ b)
same_value-Decides a b = (value_same a b, λ e. subst (λ c. same_value a c ≡ true) e (value_itself a))

type_same : (a b : ColType) → same_type a b ≡ true → a ≡ b
type_same type.Any type.Any e = refl
type_same type.Text type.Text e = refl
type_same type.Int type.Int e = refl
type_same type.Bool type.Bool e = refl
type_same type.Date type.Date e = refl
type_same (type.Ref a) (type.Ref b) e = ap type.Ref (bytes_same a b e)
type_same (type.RefList a) (type.RefList b) e = ap type.RefList (bytes_same a b e)
type_same _ _ e = absurd (false≢true e)

type_itself : (a : ColType) → same_type a a ≡ true
type_itself type.Any = refl
type_itself type.Text = refl
type_itself type.Int = refl
type_itself type.Bool = refl
type_itself type.Date = refl
type_itself (type.Ref a) = bytes_itself a
type_itself (type.RefList a) = bytes_itself a

text_same : (a b : Option (List ℕ)) → same_text a b ≡ true → a ≡ b
text_same None None e = refl
text_same (Some a) (Some b) e = ap Some (bytes_same a b e)
text_same None (Some b) e = absurd (false≢true e)
text_same (Some a) None e = absurd (false≢true e)

text_itself : (a : Option (List ℕ)) → same_text a a ≡ true
text_itself None = refl
text_itself (Some a) = bytes_itself a

column_same : (a b : ViewCol) → same_column a b ≡ true → a ≡ b
column_same a b e =
    let four : (bytes_eq a.id b.id ≡ true) × (same_type a.ty b.ty ≡ true) × (beq a.is_formula b.is_formula ≡ true) × (same_text a.formula b.formula ≡ true)
    = parts_4 (bytes_eq a.id b.id) (same_type a.ty b.ty) (beq a.is_formula b.is_formula) (same_text a.formula b.formula) e in
    ap (λ x. let c : ViewCol = record { id = x; ty = a.ty; is_formula = a.is_formula; formula = a.formula } in c) (bytes_same a.id b.id four.0)
    ∙ ap (λ x. let c : ViewCol = record { id = b.id; ty = x; is_formula = a.is_formula; formula = a.formula } in c) (type_same a.ty b.ty four.1)
    ∙ ap (λ x. let c : ViewCol = record { id = b.id; ty = b.ty; is_formula = x; formula = a.formula } in c) ((booleans_Decides a.is_formula b.is_formula).0 four.2)
    ∙ ap (λ x. let c : ViewCol = record { id = b.id; ty = b.ty; is_formula = b.is_formula; formula = x } in c) (text_same a.formula b.formula four.3)

column_itself : (a : ViewCol) → same_column a a ≡ true
column_itself a =
    both_true ((bytes_eq a.id a.id && same_type a.ty a.ty) && beq a.is_formula a.is_formula) (same_text a.formula a.formula)
    (both_true (bytes_eq a.id a.id && same_type a.ty a.ty) (beq a.is_formula a.is_formula)
    (both_true (bytes_eq a.id a.id) (same_type a.ty a.ty) (bytes_itself a.id) (type_itself a.ty))
    ((booleans_Decides a.is_formula a.is_formula).1 refl))
    (text_itself a.formula)

pub same_column-Decides : (a b : ViewCol) → Decides (same_column a b) (a ≡ b)
same_column-Decides a b = (column_same a b, λ e. subst (λ c. same_column a c ≡ true) e (column_itself a))
