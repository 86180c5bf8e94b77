use Rattle.grist_json.proofs.PrintLemmas.{frame_text-compact_text}
use Rattle.grist_json.proofs.laws.frame_law.Goals as goal

pub returns : goal.returns
returns c = frame_text-compact_text
