use Rattle.grist_json.proofs.RequestLemmas.{request_once}
use Rattle.grist_json.proofs.FrameLemmas.{frame_once}
use Rattle.grist_json.proofs.UserLemmas.{user_once}
use Rattle.grist_json.proofs.laws.one_reading_law.Goals as goal

pub returns : goal.returns
returns c = record { request = request_once; frame = frame_once; user = user_once }
