use Rattle.io_edges.proofs.LineLemmas.{kept_of-whole, length-kept_of}
use Rattle.io_edges.proofs.laws.kept_law.Goals as goal

pub returns : goal.returns
returns c = record { whole = kept_of-whole; size = length-kept_of }
