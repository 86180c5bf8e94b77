use Rattle.ruled_renames.proofs.PlannedRowLemmas.{planned_rows}
use Rattle.ruled_renames.proofs.laws.planned_rows_law.Goals as goal

pub returns : goal.returns
returns c =
    planned_rows c.rename_laws.ensures.written c.rename_laws.ensures.lexemes c.rename_laws.ensures.height c.rename_laws.ensures.stands c.rewritten_rule_law.ensures
    c.renamed_list_law.ensures c.attribute_read_law.ensures
