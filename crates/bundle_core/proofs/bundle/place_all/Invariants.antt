use Rattle.std.proofs.Common.{take}
use Rattle.context_changes.specs.Known.{AreKnown}
use Rattle.bundle_core.specs.Followed.{AreAllKnown}
use Rattle.bundle_core.proofs.bundle.place_all.Given as goal

abbrev pub invariant-loop-session : goal.invariant-loop-session
invariant-loop-session g l = record {
  known : AreKnown (g.D.DocReader.document l.doc) l.known;
  all : AreAllKnown l.known.contexts.items (take l.session-index l.sessions);
}
