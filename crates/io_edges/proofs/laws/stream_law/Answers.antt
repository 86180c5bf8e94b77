use Rattle.io_edges.proofs.LineLemmas.{lines_of-stream_of, lines_of-rest, stream_of-push}
use Rattle.io_edges.proofs.laws.stream_law.Goals as goal

pub returns : goal.returns
returns c = record { whole = lines_of-stream_of; last = lines_of-rest; more = stream_of-push }
