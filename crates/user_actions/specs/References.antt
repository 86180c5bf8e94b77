-- Columns that refer to a table, where rows of the table go or the table is renamed.
use Rattle.std.specs.Prelude.{ℕ, pos, Bool, true, false, cond, not, ◌&&◌, ◌||◌, nat_lt, List, [], ◌∷◌, ◌++◌, map, filter, Some, None}
use Rattle.std.specs.List.{list_all, list_any}
use Rattle.std.specs.Str.{bytes_eq}
use Rattle.cell_types.specs.declared.column_type.ColType.{ColType}
use Rattle.cell_types.specs.declared.column_type.ColType.TheVariants as type
use Rattle.cell_types.specs.declared.value.CellItem.{CellItem}
use Rattle.cell_types.specs.declared.value.CellItem.TheVariants as item
use Rattle.cell_types.specs.declared.value.CellValue.{CellValue}
use Rattle.cell_types.specs.declared.value.CellValue.TheVariants as value
use Rattle.cell_types.specs.Reference.{row_number}
use Rattle.doc_model.specs.declared.action.DocAction.TheVariants.{ModifyColumn}
use Rattle.doc_model.specs.declared.action.Step.{Step}
use Rattle.doc_model.specs.declared.column.ColDef.{ColDef}
use Rattle.doc_model.specs.declared.column.ColInfo.{ColInfo}
use Rattle.doc_model.specs.ByIds.{precedes}
use Rattle.doc_model.specs.Document.{Document, table_id}
use Rattle.doc_model.specs.MetadataIds.{is_metadata_id, is_schema_id}
use Rattle.doc_model.specs.Rows.{without}
use Rattle.doc_readers.specs.Parts.{grid_at}
use Rattle.user_actions.specs.CellUpdates.{update_changed}
use Rattle.user_actions.specs.declared.referrers.Referrer.{Referrer}
use Rattle.user_actions.specs.Marked.{indirect}
use Rattle.user_actions.specs.Given.{is_row}

-- whether a column of the type refers to the table
abbrev pub refers_to : List ℕ → ColType → Bool
refers_to table (type.Ref t) = bytes_eq t table
refers_to table (type.RefList t) = bytes_eq t table
refers_to table _ = false

-- whether the column refers to the table; where cells are cleared, a data column
abbrev pub is_referrer : List ℕ → Bool → ColDef → Bool
is_referrer table retypes d =
    refers_to table d.info.ty && (retypes || not d.info.is_formula)

-- what the table of an id is called once another is renamed
abbrev pub renamed_id : List ℕ → List ℕ → List ℕ → List ℕ
renamed_id old new id = cond (bytes_eq id old) new id

abbrev pub referrer : List ℕ → ColDef → Referrer
referrer table d = record { table = table; column = d }

-- those of the columns that refer to a table, in the table of an id
abbrev pub referrers_among : List ℕ → (ColDef → Bool) → List ColDef → List Referrer
referrers_among id test columns = map (referrer id) (filter test columns)

-- the tables that are left out: where columns change their types the metadata tables, and where
-- cells are cleared the schema tables, which schema actions alone write
abbrev pub is_left_out : Bool → List ℕ → Bool
is_left_out true id = is_metadata_id id
is_left_out false id = is_schema_id id

-- the columns of a table that refer to another one, under its id once that is renamed
abbrev pub referrers_in : Document → List ℕ → List ℕ → Bool → List ℕ → List Referrer
referrers_in s old new retypes id =
    cond (is_left_out retypes id) []
    (referrers_among (renamed_id old new id) (is_referrer old retypes) (grid_at s id).columns)

-- the columns of these tables
abbrev pub referrers_of : Document → List ℕ → List ℕ → Bool → List (List ℕ) → List Referrer
referrers_of s old new retypes [] = []
referrers_of s old new retypes (id ∷ ids) =
    referrers_in s old new retypes id ++ referrers_of s old new retypes ids

-- whether the first stands before the second: by table id, and then by column id
abbrev pub stands_before : Referrer → Referrer → Bool
stands_before a b =
    precedes a.table b.table || (bytes_eq a.table b.table && precedes a.column.id b.column.id)

-- before the first that it stands before
abbrev pub put_referrer : Referrer → List Referrer → List Referrer
put_referrer x [] = x ∷ []
put_referrer x (y ∷ ys) = cond (stands_before x y) (x ∷ y ∷ ys) (y ∷ put_referrer x ys)

-- one after another
abbrev pub put_referrers : List Referrer → List Referrer → List Referrer
put_referrers [] ys = ys
put_referrers (x ∷ xs) ys = put_referrers xs (put_referrer x ys)

-- all columns that refer to the old id, in the order of ids as they are when it is the new one
abbrev pub referrers : Document → List ℕ → List ℕ → Bool → List Referrer
referrers s old new retypes =
    put_referrers (referrers_of s old new retypes (map table_id s)) []

-- whether the item is a row number from 1
abbrev pub is_row_item : CellItem → Bool
is_row_item (item.Int n) = elim (row_number n) [ None ↦ false | Some r ↦ nat_lt 0 r ]
is_row_item _ = false

-- whether the item is one of the rows
abbrev pub is_gone : List ℕ → CellItem → Bool
is_gone gone (item.Int n) = is_row gone n
is_gone gone _ = false

-- whether the items are row numbers from 1, and one of them is gone
abbrev pub name_gone : List ℕ → List CellItem → Bool
name_gone gone items = list_all is_row_item items && list_any (is_gone gone) items

-- a list of the items, null where there is none
abbrev pub list_or_null : List CellItem → CellValue
list_or_null [] = value.Null
list_or_null (i ∷ items) = value.List (i ∷ items)

-- a reference without the rows that are gone
abbrev pub cleared_reference : List ℕ → CellValue → CellValue
cleared_reference gone (value.Int n) = cond (is_row gone n) (value.Int (pos 0)) (value.Int n)
cleared_reference gone v = v

-- a list of references without them
abbrev pub cleared_list : List ℕ → CellValue → CellValue
cleared_list gone (value.List items) =
    cond (name_gone gone items) (list_or_null (filter (λ i. not (is_gone gone i)) items))
    (value.List items)
cleared_list gone v = v

-- the cell of a column of references without them
abbrev pub cleared : List ℕ → ColType → CellValue → CellValue
cleared gone (type.Ref t) v = cleared_reference gone v
cleared gone (type.RefList t) v = cleared_list gone v
cleared gone ty v = v

-- the rows of a table that stay where rows of one table go
abbrev pub rows_staying : Document → List ℕ → List ℕ → List ℕ → List ℕ
rows_staying s table gone id =
    cond (bytes_eq id table) (without gone (grid_at s id).rows) (grid_at s id).rows

-- the cells of the columns cleared of the rows of a table that are gone
abbrev pub clearings : Document → List ℕ → List ℕ → List Referrer → List Step
clearings s table gone [] = []
clearings s table gone (k ∷ ks) =
    update_changed k.table (grid_at s k.table) k.column.id (cleared gone k.column.info.ty)
    (rows_staying s table gone k.table)
    ++ clearings s table gone ks

-- a type of references to another table
abbrev pub type_to : List ℕ → ColType → ColType
type_to new (type.Ref t) = type.Ref new
type_to new (type.RefList t) = type.RefList new
type_to new ty = ty

-- the column refers to the table under its new id
abbrev pub info_to : List ℕ → ColInfo → ColInfo
info_to new info = record {
  ty = type_to new info.ty;
  is_formula = info.is_formula;
  formula = info.formula;
}

abbrev pub led_to : List ℕ → Referrer → Step
led_to new k = indirect (ModifyColumn k.table k.column.id (info_to new k.column.info))
