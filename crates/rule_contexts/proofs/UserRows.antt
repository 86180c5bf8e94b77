-- What rules know of a user depends on the tables of attributes alone.
use Rattle.std.proofs.Common.{ℕ, cond, ◌&&◌, List, map, ◌≡◌, refl, sym, ap, ◌∙◌, Option, Some, None, find}
use Rattle.std.specs.List.{AllByRecursion}
use Rattle.cell_types.specs.declared.value.CellValue.{CellValue}
use Rattle.doc_model.specs.declared.column.ColDef.{ColDef}
use Rattle.doc_model.specs.declared.user.User.{User}
use Rattle.doc_model.specs.ByIds.{find_id, has_id}
use Rattle.doc_model.specs.Column.{column_id}
use Rattle.doc_model.specs.Document.{Document, Table, table_id}
use Rattle.doc_model.specs.Grid.{Grid, cell}
use Rattle.doc_model.specs.Readers.{cell_at}
use Rattle.doc_model.specs.Rows.{has}
use Rattle.doc_model.specs.Schema.{no_grid}
use Rattle.doc_model.proofs.Choices.{each_weaker, map_each}
use Rattle.doc_readers.specs.Parts.{grid_at}
use Rattle.acl_formula.specs.declared.user_info.Attribute.{Attribute}
use Rattle.acl_formula.specs.declared.user_info.AttributeRow.{AttributeRow}
use Rattle.acl_formula.specs.declared.user_info.UserInfo.{UserInfo}
use Rattle.user_attrs.specs.UserInfos.{attribute_for, holds, kept_row, property_value, row_with, user_info}
use Rattle.user_attrs.specs.declared.attribute_rule.AttributeRule.{AttributeRule}

-- what is told of a grid's cell
abbrev told : Grid ColDef → List ℕ → ℕ → Option CellValue
told g c r = cond (has_id column_id g.columns c && has g.rows r) (Some (cell column_id g c r)) None

cell_in_grid : (s : Document) (table c : List ℕ) (r : ℕ) → cell_at s table c r ≡ told (grid_at s table) c r
cell_in_grid s table c r =
    elim (find_id table_id table s) as (λ (o : Option Table). elim o as (λ _. Option CellValue) [ None ↦ None | Some u ↦ told u.grid c r ] ≡ told (elim o as (λ _. Grid ColDef) [ None ↦ no_grid | Some u ↦ u.grid ]) c r) [
      | None ↦ refl
      | Some u ↦ refl
    ]

module _ (s t : Document) (table : List ℕ) (same : grid_at s table ≡ grid_at t table) where
  column_same : (c : List ℕ) → cell_at s table c ≡ cell_at t table c
  column_same c = λ i. λ r. (cell_in_grid s table c r ∙ ap (λ (g : Grid ColDef). told g c r) same ∙ sym (cell_in_grid t table c r)) i

  row_same : (c : List ℕ) (v : CellValue) → row_with s table c v ≡ row_with t table c v
  row_same c v =
      ap (λ (f : ℕ → Option CellValue). find (λ r. holds v (f r)) (grid_at s table).rows) (column_same c)
      ∙ ap (λ (g : Grid ColDef). find (λ r. holds v (cell_at t table c r)) g.rows) same

  kept_same : (o : Option ℕ) → kept_row s table o ≡ kept_row t table o
  kept_same None = refl
  kept_same (Some r) =
      ap (λ (g : Grid ColDef). let o : Option AttributeRow = Some (record { row = r; cells = map (λ (d : ColDef). record { column = d.id; value = cell column_id g d.id r }) g.columns }) in o) same

-- an attribute whose table is the same
attribute_same : (s t : Document) (u : User) (a : AttributeRule) → grid_at s a.table ≡ grid_at t a.table → attribute_for s u a ≡ attribute_for t u a
attribute_same s t u a same =
    ap (λ o. let made : Attribute = record { name = a.name; row = o } in made)
    (kept_same s t a.table same (row_with s a.table a.column (property_value u a.property))
    ∙ ap (kept_row t a.table) (row_same s t a.table same a.column (property_value u a.property)))

pub info_same : (s t : Document) (u : User) (rules : List AttributeRule) → AllByRecursion (λ (a : AttributeRule). grid_at s a.table ≡ grid_at t a.table) rules → user_info rules u s ≡ user_info rules u t
info_same s t u rules same =
    ap (λ attributes. let info : UserInfo = record { user = u; attributes = attributes } in info)
    (map_each (attribute_for s u) (attribute_for t u) rules
    (each_weaker (λ (a : AttributeRule). grid_at s a.table ≡ grid_at t a.table) (λ (a : AttributeRule). attribute_for s u a ≡ attribute_for t u a) (attribute_same s t u) rules same))
