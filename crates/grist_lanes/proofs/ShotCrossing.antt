-- That a core with shots, their readers and a lane may go to another thread, and that the gate of such a core may be lent to several.
-- A type with a snapshot in it has no such fact of its own, so the parts are put together here.
use Rattle.column_store.proofs.tables.ColumnTables.TheSendSync.{the_send as tables-send, the_sync as tables-sync}
use Rattle.document_shot.proofs.sessions.ShotSession.TheSendSync.{the_send as session-send, the_sync as session-sync}
use Rattle.document_shot.proofs.trail.Trail.TheLaws.TheKnot.{crosses as knot}
use Rattle.session_gate.proofs.gate.Gate.TheSendSync.{the_sync as gate-sync}
use Rattle.session_gate.proofs.pass.Pass.TheSendSync.{the_send as pass-send}
use Rattle.shot_cells.proofs.document.ShotDocument.TheSendSync.{the_field_send as document-send, the_field_sync as document-sync}
use Rattle.shot_documents.proofs.taking.DocumentChanges.TheSendSync.{the_field_send as changes-send}
use Rattle.snap_reads.proofs.past.Mark.TheSendSync.{the_send as mark-send}
use Rattle.snap_reads.proofs.reader.ShotReader.TheSendSync.{the_send as shotReader-send}
use Rattle.snap_reads.proofs.writer.ShotWriter.TheSendSync.{the_send as shotWriter-send}
use Rattle.std.proofs.option.Option.TheSendSync.{the_field_send as option-send}
use Rattle.std.proofs.Crossing.{crosses}
use denote.RattleType.{RattleType}
use mathlib.Core.List.{[], ◌∷◌}
use mir.Syntax.{Lifetime, Sym}
use base.Fml.{Lft}
use denote.Ref.{ShrRef}
use denote.Struct.Tuple.{TupleAt, type_at}
use denote.Struct.Field.{row_field}
use denote.Param.SendFields.{as_row_sync, declared_sync}
use denote.Param.Send.{IsSend, IsSync, sendable, recorded_send, recorded_sync, struct_send, struct_sync, view_send, view_sync, shr_sync}
use denote.Struct.Struct as S
use denote.Struct.Declared.{shape}
use Rattle.std.specs.contracts.vec.Vec as vec
use Rattle.std.specs.contracts.alloc.Global as global
use Rattle.std.specs.contracts.impls.GlobalAllocator as allocator
use Rattle.bundle_core.specs.contracts.machine.Event as event
use Rattle.bundle_core.specs.contracts.machine.CoreOpening as opening
use Rattle.bundle_core.specs.contracts.past.CorePast as past
use Rattle.column_store.specs.contracts.tables.ColumnTables as tables
use Rattle.column_store.specs.contracts.tables.ColumnBack as back
use Rattle.doc_keeper.specs.declared.keeper.Keeper as keeper
use Rattle.doc_model.specs.contracts.entry.Entry as entry
use Rattle.document_shot.specs.contracts.operation.DocumentOp as operation
use Rattle.document_shot.specs.contracts.reader.PeekReader as reader
use Rattle.document_shot.specs.contracts.sessions.ShotSession as session
use Rattle.document_shot.specs.contracts.shot.DocumentShot as shot
use Rattle.document_shot.specs.contracts.shot.DocumentShot.TheInside as shot-inside
use Rattle.document_shot.specs.contracts.trail.Trail as trail
use Rattle.document_shot.specs.contracts.writer.PeekWriter as writer
use Rattle.session_gate.specs.contracts.gate.Gate as gate
use Rattle.session_gate.specs.declared.machine.Machine as machine
use Rattle.shot_core.specs.contracts.machine.ShotOut as out
use Rattle.shot_core.specs.contracts.shot_core.ShotCore as core
use Rattle.shot_core.specs.contracts.shot_core.ShotCore.TheInside as inside
use Rattle.shot_core.specs.contracts.shot_core.ShotCoreMachine as core-machine
use Rattle.snap_reads.specs.contracts.past.Mark as mark
use Rattle.watch_box.specs.declared.watcher.Watcher as watcher
use Rattle.grist_lanes.specs.contracts.lanes.Lane as lane
use Rattle.grist_lanes.proofs.CoreCrossing.{watched-send}

-- the sessions of a shot
sessions-send : IsSend (vec.the_row session.the_row global.the_row allocator.TheImpl.ghosts)
sessions-send = search (sendable, session-send, crosses) depth 60

sessions-sync : IsSync (vec.the_row session.the_row global.the_row allocator.TheImpl.ghosts)
sessions-sync = search (sendable, session-sync, crosses) depth 60

-- what leads a shot on, in which the history has no bytes
past-send : IsSend past.the_row
past-send = search (sendable, crosses) depth 60

operation-send : IsSend operation.the_row
operation-send = let T = operation.the_type in recorded_send (S.Struct (shape T)) T.D T.to T.to_one (struct_send (shape T)
    (changes-send, (sessions-send, (search sendable, (past-send, tt)))))

-- what led to a shot, of which it keeps nothing
trail-send : IsSend (trail.the_field).row
trail-send = search (sendable, knot, crosses) depth 60

trail-sync : IsSync (trail.the_field).row
trail-sync = search (sendable, knot, crosses) depth 60

-- a shot, which goes to another thread with its writer, and which readers in others look at
shot-send : IsSend shot.the_row
shot-send = let T = shot-inside.the_type in view_send shot-inside.the_row _ _ _ _
    (recorded_send (S.Struct (shape T)) T.D T.to T.to_one (struct_send (shape T)
    ((search (sendable, crosses) depth 60), (document-send tables.the_row back.the_row tables-send, (sessions-send, (search sendable, (trail-send, tt)))))))

shot-sync : IsSync shot.the_row
shot-sync = let T = shot-inside.the_type in view_sync shot-inside.the_row _ _ _ _
    (recorded_sync (S.Struct (shape T)) T.D T.to T.to_one (struct_sync (shape T)
    ((search (sendable, crosses) depth 60), (document-sync tables.the_row back.the_row tables-sync, (sessions-sync, (search sendable, (trail-sync, tt)))))))

-- readers of shots and their writer
pub peekReader-send : IsSend reader.the_row
peekReader-send = search (sendable, shotReader-send, shot-sync) depth 60

pub peekWriter-send : IsSend writer.the_row
peekWriter-send = search (sendable, shotWriter-send, shot-send, shot-sync, operation-send) depth 60

-- a core with shots may go to another thread where its keeper and its watchers may
pub shotCore-send : (K W : RattleType) (g : keeper.Ghosts K.Denot) (h : watcher.Ghosts W.Denot) → IsSend K → IsSend W → IsSend (core.the_row K W g h)
shotCore-send K W g h k w = let T = inside.the_type K W g h in view_send (inside.the_row K W g h) _ _ _ _
    (recorded_send (S.Struct (shape T)) T.D T.to T.to_one (struct_send (shape T)
    ((search (sendable, crosses) depth 60), (watched-send K W g h k w, (peekWriter-send, (option-send mark.the_row mark-send, tt))))))

-- and then threads may share its gate
pub shot-gate-sync : (K W Event Entry Out Opening : RattleType) (g : keeper.Ghosts K.Denot) (h : watcher.Ghosts W.Denot) (m : machine.Ghosts (core.the_row K W g h).Denot Event.Denot Entry.Denot Out.Denot Opening.Denot) → IsSend K → IsSend W
    → IsSync (gate.the_row (core.the_row K W g h) Event Entry Out Opening m)
shot-gate-sync K W Event Entry Out Opening g h m k w = gate-sync (core.the_row K W g h) Event Entry Out Opening m (shotCore-send K W g h k w)

-- what a closure borrows of three places may be shared where each may
pub lent-sync : (ν : Sym) (ℓ ℓ′ ℓ″ : Lifetime) (κ κ′ κ″ : Lft) (R S T : RattleType) → IsSync R → IsSync S → IsSync T → IsSync (TupleAt ν (ShrRef ℓ κ R ∷ ShrRef ℓ′ κ′ S ∷ ShrRef ℓ″ κ″ T ∷ []))
lent-sync ν ℓ ℓ′ ℓ″ κ κ′ κ″ R S T r s t = declared_sync (type_at ν (ShrRef ℓ κ R ∷ ShrRef ℓ′ κ′ S ∷ ShrRef ℓ″ κ″ T ∷ []))
    (as_row_sync (row_field (ShrRef ℓ κ R)) (shr_sync ℓ κ R r), (as_row_sync (row_field (ShrRef ℓ′ κ′ S)) (shr_sync ℓ′ κ′ S s), (as_row_sync (row_field (ShrRef ℓ″ κ″ T)) (shr_sync ℓ″ κ″ T t), tt)))

-- a lane may go to another thread where its port may too
pub lane-send : (P K W : RattleType) (g : keeper.Ghosts K.Denot) (h : watcher.Ghosts W.Denot) → IsSend P → IsSend K → IsSend W → IsSend (lane.the_row P K W g h)
lane-send P K W g h p k w = let T = lane.the_type P K W g h in let none = core-machine.TheImpl.no_dict in recorded_send (S.Struct (shape T)) T.D T.to T.to_one (struct_send (shape T)
    (p, (pass-send (core.the_row K W g h) event.the_row entry.the_row out.the_row opening.the_row (core-machine.TheImpl.ghosts K W g none h none none none) (shotCore-send K W g h k w), (peekReader-send, (search sendable, tt)))))
