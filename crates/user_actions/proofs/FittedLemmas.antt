-- A given column as the table holds it.
use Rattle.std.proofs.Common.{List, map, ◌≡◌, refl, sym, ap, ◌∙◌, Option, Some, None}
use Rattle.cell_types.specs.declared.column_type.ColType.{ColType}
use Rattle.cell_types.specs.declared.column_type.ColType.TheVariants as type
use Rattle.cell_types.specs.Conversion.{fit}
use Rattle.doc_model.specs.declared.column.CellColumn.{CellColumn}
use Rattle.doc_model.specs.declared.column.ColDef.{ColDef}
use Rattle.doc_model.specs.declared.user_action.UserColumn.{UserColumn}
use Rattle.doc_model.specs.ByIds.{find_id}
use Rattle.doc_model.specs.Column.{column_id}
use Rattle.doc_model.specs.Grid.{Grid}
use Rattle.doc_model.proofs.ByIdsLaws.{found_id}
use Rattle.user_actions.specs.Steps.{fitted}

pub fitted_found : (g : Grid ColDef) (k : UserColumn) (d : ColDef) → find_id column_id k.id g.columns ≡ Some d → let made : CellColumn = record { id = d.id; values = map (fit d.info.ty) k.values } in made ≡ fitted g k
fitted_found g k d found =
    ap (λ id. let x : CellColumn = record { id = id; values = map (fit d.info.ty) k.values } in x) (found_id column_id k.id g.columns d found)
    ∙ sym (ap (λ (o : Option ColDef). let x : CellColumn = record { id = k.id; values = map (fit (elim o as (λ _. ColType) [ None ↦ type.Any | Some d ↦ d.info.ty ])) k.values } in x) found)
