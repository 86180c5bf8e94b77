-- What was laid aside recorded again.
use Rattle.std.proofs.Common.{List, [], ◌∷◌, ◌++◌, ◌≡◌, refl, sym, ap, ◌∙◌, subst}
use Rattle.doc_model.specs.Document.{Document}
use Rattle.dep_graph.specs.Graph.{Graph}
use Rattle.dep_graph.specs.Named.{Were}
use Rattle.dep_graph.proofs.NameLaws.{append_none}
use Rattle.recalc.specs.Evaluated.{sheet_of}
use Rattle.affected_search.specs.ExactNotes.{HasNotes}
use Rattle.known_reads.specs.Beside.{Beside, KnowsExact, KnowsReads, KnowsWith}
use Rattle.known_reads.specs.Laid.{all_laid, all_turned}
use Rattle.known_reads.specs.Watched.{IsWatched}
use Rattle.known_reads.proofs.WatchedLemmas.{known_before}

-- turned over, recorded as far as there was memory, and turned back
pub put_known : (s : Document) (old new : Beside) (turned left : List (List Were)) → all_turned turned ≡ all_laid old.owed → all_laid new.owed ≡ all_turned left ++ []
    → (KnowsWith s old.graph (all_turned turned) → KnowsWith s new.graph (all_turned left)) → new.stale ≡ old.stale → KnowsReads s old → KnowsReads s new
put_known s old new turned left all back put stale knows = record {
  none = stale ∙ knows.none;
  each = subst (KnowsWith s new.graph) (sym (back ∙ append_none (all_turned left))) (put (subst (KnowsWith s old.graph) (sym all) knows.each));
}

-- what was noted is laid aside
pub laid_noted : (s : Document) (first old new last : Beside) → KnowsExact s first → old.graph ≡ first.graph → old.log ≡ [] → old.owed ≡ first.owed → IsWatched old new
    → last.graph ≡ new.graph → last.stale ≡ [] → last.owed ≡ new.log ∷ new.owed → KnowsReads s last
laid_noted s first old new last exact same none owed watched graph stale laid = record {
  none = stale;
  each = subst (λ l. KnowsWith s last.graph (all_laid l)) (sym (laid ∙ ap (λ o. new.log ∷ o) (watched.owed ∙ owed ∙ exact.owed)))
      (subst (λ (g : Graph). KnowsWith s g (new.log ++ [])) (sym graph) (subst (KnowsWith s new.graph) (sym (append_none new.log))
      (known_before s old new (subst (λ (g : Graph). HasNotes g (sheet_of s)) (sym same) exact.each) watched none)));
}
