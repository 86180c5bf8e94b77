use Rattle.std.proofs.Common.{◌≡◌, IfOk, unwrap_or, subst, ap, ◌∙◌}
use Rattle.cell_types.specs.declared.value.CellValue.TheVariants.{Null}
use Rattle.row_tables.proofs.KeptLaws.{kept_or}
use Rattle.row_tables.proofs.table.RowTable.stored.Goals as goal

pub returns-in-Some : goal.returns-in-Some
returns-in-Some c =
    subst (λ w. IfOk c.copy_of.result (λ v. v ≡ w)) (ap (λ o. unwrap_or o Null) c.in-Some.ensures ∙ kept_or c.args.self.now.grid c.args.column.now c.args.row) c.copy_of.ensures

pub returns-in-None : goal.returns-in-None
returns-in-None c = ap (λ o. unwrap_or o Null) c.in-None.ensures ∙ kept_or c.args.self.now.grid c.args.column.now c.args.row
