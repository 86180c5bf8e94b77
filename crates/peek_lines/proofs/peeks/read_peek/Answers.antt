use Rattle.grist_json.proofs.Exactly.{found_of, none_of}
use Rattle.peek_lines.specs.Peeks.{SpellsPeek, peek_at}
use Rattle.peek_lines.proofs.PeekLemmas.{none_asked, peek_found, peek_none}
use Rattle.peek_lines.proofs.peeks.read_peek.Goals as goal

pub returns : goal.returns
returns c = record {
  found = found_of peek_at SpellsPeek peek_found c.peek_in.result c.args.line.now c.peek_in.ensures;
  none = none_of peek_at SpellsPeek peek_none c.peek_in.result c.args.line.now c.peek_in.ensures;
  exact = c.peek_in.ensures;
  no_request = none_asked c.peek_in.result c.args.line.now c.peek_in.ensures;
}
