use Rattle.planned_renames.proofs.PlannedTexts.{planned_values}
use Rattle.planned_renames.proofs.laws.planned_values_law.Goals as goal

pub returns : goal.returns
returns c =
    planned_values c.rename_laws.ensures.written c.rename_laws.ensures.lexemes c.rename_laws.ensures.height c.rename_laws.ensures.stands c.rewritten_law.ensures.formula c.resolved_law.ensures
    c.expanded_texts_law.ensures
