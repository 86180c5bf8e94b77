-- What the rename of a column makes of the columns of a view.
use Rattle.std.specs.Prelude.{ℕ, Bool, false, not, ◌&&◌, ◌||◌, cond, List, [], ◌∷◌, ◌++◌, filter, Option, Some, None}
use Rattle.std.specs.Str.{bytes_eq}
use Rattle.cell_types.specs.declared.column_type.ColType.{ColType}
use Rattle.cell_types.specs.declared.column_type.ColType.TheVariants as ty
use Rattle.doc_model.specs.declared.user_action.UserAction.{UserAction}
use Rattle.doc_model.specs.declared.user_action.UserAction.TheVariants.{ModifyColumn}
use Rattle.doc_model.specs.declared.view.ViewCol.{ViewCol}
use Rattle.doc_model.specs.declared.view.ViewTable.{ViewTable}
use Rattle.doc_model.specs.ByIds.{precedes}
use Rattle.doc_model.specs.MetadataIds.{is_metadata_id}
use Rattle.formula_records.specs.ShownColumns.{columns_of}
use Rattle.rename_marks.specs.declared.column_rename.ColumnRename.{ColumnRename}
use Rattle.rename_marks.specs.Scope.{in_column}
use Rattle.rename_flow.specs.declared.column_parts.Place.{Place}
use Rattle.rename_flow.specs.declared.column_parts.Place.TheVariants as place
use Rattle.rename_flow.specs.Changes.{formula_change}
use Rattle.rename_flow.specs.Parts.{Part, count_where}

-- whether it is the renamed column
abbrev pub is_renamed : ColumnRename → ViewTable → ViewCol → Bool
is_renamed r w d = bytes_eq w.id r.table && bytes_eq d.id r.old

-- its id after the rename
abbrev pub id_after : ColumnRename → ViewTable → ViewCol → List ℕ
id_after r w d = cond (is_renamed r w d) r.new d.id

-- where a column then stands: before the renamed one's new place, as all those of other tables, in
-- this place, or behind it
abbrev pub is_at : ColumnRename → ViewTable → Place → ViewCol → Bool
is_at r w place.Renamed d = is_renamed r w d
is_at r w place.Before d =
    not (is_renamed r w d) && (not (bytes_eq w.id r.table) || precedes d.id r.new)
is_at r w place.Behind d =
    not (is_renamed r w d) && not (not (bytes_eq w.id r.table) || precedes d.id r.new)

-- a new formula as an action
abbrev pub modified : ColumnRename → ViewTable → ViewCol → Option (List ℕ) → List UserAction
modified r w d None = []
modified r w d (Some text) =
    ModifyColumn w.id (record {
      id = id_after r w d;
      ty = None;
      is_formula = None;
      formula = Some text;
    }) ∷ []

-- whether a type names a metadata table
abbrev pub leads_to_metadata : ColType → Bool
leads_to_metadata (ty.Ref t) = is_metadata_id t
leads_to_metadata (ty.RefList t) = is_metadata_id t
leads_to_metadata k = false

-- a column's formula, and its type: outside the metadata tables one that names them counts
abbrev pub formula_part : List ViewTable → ColumnRename → ViewTable → ViewCol → Part
formula_part v r w d =
    let c = formula_change r (in_column (columns_of v) w.id) d.formula in
    record { actions = modified r w d c.text; unresolved = c.unresolved }

abbrev pub is_about_metadata : ViewTable → ViewCol → Bool
is_about_metadata w d = not (is_metadata_id w.id) && leads_to_metadata d.ty

abbrev pub type_part : ViewTable → ViewCol → Part
type_part w d = count_where (is_about_metadata w d)

-- of columns, of a table and of tables: columns in the order of their ids after the rename
abbrev pub parts_each : List ViewTable → ColumnRename → ViewTable → List ViewCol → List Part
parts_each v r w [] = []
parts_each v r w (d ∷ ds) = formula_part v r w d ∷ (type_part w d ∷ parts_each v r w ds)

abbrev pub parts_at : List ViewTable → ColumnRename → ViewTable → Place → List Part
parts_at v r w p = parts_each v r w (filter (is_at r w p) w.columns)

abbrev pub table_parts : List ViewTable → ColumnRename → ViewTable → List Part
table_parts v r w =
    parts_at v r w place.Before ++ (parts_at v r w place.Renamed ++ parts_at v r w place.Behind)

abbrev pub column_parts : List ViewTable → ColumnRename → List ViewTable → List Part
column_parts v r [] = []
column_parts v r (w ∷ ws) = table_parts v r w ++ column_parts v r ws
