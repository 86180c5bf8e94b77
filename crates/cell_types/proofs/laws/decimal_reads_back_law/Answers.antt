use Rattle.cell_types.proofs.DecimalTexts.{decimal_reads_back}
use Rattle.cell_types.proofs.laws.decimal_reads_back_law.Goals as goal

pub returns : goal.returns
returns c = decimal_reads_back
