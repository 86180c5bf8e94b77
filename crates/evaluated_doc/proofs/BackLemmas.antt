-- What cells read, on the way back of a change.
use Rattle.std.proofs.Common.{List, ◌∷◌, ◌++◌, ◌≡◌, sym, ap, ◌∙◌, subst}
use Rattle.doc_model.specs.Document.{Document}
use Rattle.dep_graph.specs.Graph.{Graph}
use Rattle.dep_graph.specs.Named.{Were}
use Rattle.known_reads.specs.Beside.{Beside, KnowsReads, KnowsWith, LaidLaw, LeadsReads}
use Rattle.known_reads.specs.Laid.{all_laid}

-- what was noted is laid aside
pub laid_before : LaidLaw → (now s : Document) (old new : Beside) (log : List Were) → LeadsReads now s log → new.graph ≡ old.graph → new.stale ≡ old.stale → new.owed ≡ log ∷ old.owed → KnowsReads now old → KnowsReads s new
laid_before law now s old new log leads graph stale owed knows = record {
  none = stale ∙ knows.none;
  each = subst (λ l. KnowsWith s new.graph (all_laid l)) (sym owed) (subst (λ (g : Graph). KnowsWith s g (log ++ all_laid old.owed)) (sym graph) (law now s old.graph log (all_laid old.owed) leads knows.each));
}
