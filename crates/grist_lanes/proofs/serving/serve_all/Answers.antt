use denote.Exit.{no}
use denote.Param.Send.{arg_send, param_send, param_sync, given_sync}
use Rattle.std.proofs.Crossing.{sync as heap-sync}
use mathlib.Core.List.{[]}
use mir.Syntax.{static}
use Rattle.bundle_core.specs.contracts.machine.Event as event
use Rattle.bundle_core.specs.contracts.machine.CoreOpening as opening
use Rattle.shot_core.specs.contracts.machine.ShotOut as out
use Rattle.shot_core.specs.contracts.shot_core.ShotCoreMachine as core-machine
use Rattle.doc_model.specs.contracts.entry.Entry as entry
use Rattle.std.specs.contracts.alloc.Global as global
use Rattle.grist_lanes.proofs.ShotCrossing.{lane-send, lent-sync, shot-gate-sync}
use Rattle.grist_lanes.specs.contracts.serving.serve_all.{K-row, W-row}
use Rattle.grist_lanes.proofs.serving.serve_all.Lts as lts
use Rattle.grist_lanes.proofs.serving.serve_all.Goals as goal

pub for_each_mut-requires-send-T : goal.for_each_mut-requires-send-T
for_each_mut-requires-send-T g c κs within = param_send 1 _ (arg_send _ no _ (lane-send _ _ _ g.K.Keeper g.W.Watcher c.type_bounds.send-P c.type_bounds.send-K c.type_bounds.send-W))

pub for_each_mut-requires-sync-F : goal.for_each_mut-requires-sync-F
for_each_mut-requires-sync-F g c κs within = param_sync 2 (lts.arg-3-2 g.row.R g.row.K g.row.W g.row.P g.row.P-Conn g.R.laws g.K.laws g.W.laws g.P.laws g.P.Conn.laws g.R.Threads g.R.Threads-dict g.R.Wait g.R.Wait-dict g.K.Keeper g.K.Keeper-dict g.W.Watcher g.W.Watcher-dict g.P.Port g.P.Port-dict g.P.Conn.Link g.P.Conn.Link-dict g.P.Conn.Source g.P.Conn.Source-dict g.P.Conn.Sink g.P.Conn.Sink-dict g.K.Destruct-dict g.W.Destruct-dict g.P.Destruct-dict g.P.Conn.Destruct-dict κs) (record { shared = λ d b o. (lent-sync [] static static static _ κs.0 _ g.row.R global.the_row _ (given_sync _ g.row.R c.type_bounds.sync-R) heap-sync (shot-gate-sync _ _ event.the_row entry.the_row out.the_row opening.the_row _ _ (core-machine.TheImpl.ghosts (K-row g.row.R g.row.K g.row.W g.row.P g.row.P-Conn) (W-row g.row.R g.row.K g.row.W g.row.P g.row.P-Conn) g.K.Keeper g.K.Keeper-dict g.W.Watcher g.W.Watcher-dict g.K.Destruct-dict g.W.Destruct-dict) c.type_bounds.send-K c.type_bounds.send-W)).shared d b o })
