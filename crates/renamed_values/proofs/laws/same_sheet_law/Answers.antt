use Rattle.renamed_values.proofs.SameSheetLemmas.{same_sheet, same_value}
use Rattle.renamed_values.proofs.laws.same_sheet_law.Goals as goal

pub returns : goal.returns
returns c = record { fuel = same_sheet; value = same_value }
