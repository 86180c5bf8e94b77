use Rattle.std.proofs.Common.{◌∙◌, sym}
use Rattle.affected_values.proofs.HeldNone.{held_none, none_there, nothing_out}
use Rattle.affected_values.proofs.taking.take_value.Goals as goal

pub returns-clause-taken : goal.returns-clause-taken
returns-clause-taken g c =
    let s = g.D.DocReader.document c.args.tables.now in
    nothing_out s c.args.kept.now.items c.requires.of_document c.args.cell.now (sym c.is_formula_cell.ensures ∙ c.if-is_formula_cell.false)

pub returns-clause-before : goal.returns-clause-before
returns-clause-before g c =
    let s = g.D.DocReader.document c.args.tables.now in
    sym (held_none s c.args.kept.now.items c.requires.of_document c.args.cell.now (none_there s c.args.cell.now (sym c.is_formula_cell.ensures ∙ c.if-is_formula_cell.false)))
