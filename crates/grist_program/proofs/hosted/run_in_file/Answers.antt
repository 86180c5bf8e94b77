use Rattle.std.proofs.Crossing.{crosses}
use denote.Param.Send.{sendable}
use Rattle.grist_program.proofs.KeeperCrossing.{keeper-send}
use Rattle.grist_program.proofs.hosted.run_in_file.Goals as goal

pub run_over-status-requires-send-K : goal.run_over-status-requires-send-K
run_over-status-requires-send-K g c κs = search (sendable, keeper-send, crosses) depth 60
