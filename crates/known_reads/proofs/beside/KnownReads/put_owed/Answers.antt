use Rattle.std.proofs.Common.{◌≡◌, ◌++◌, [], length, arith, ap, sym, ◌∙◌, subst}
use Rattle.dep_graph.specs.Graph.{Graph}
use Rattle.doc_model.specs.Document.{Document}
use Rattle.known_reads.specs.Beside.{Beside, KnowsExact, KnowsReads, KnowsWith}
use Rattle.known_reads.specs.Laid.{all_laid, all_turned}
use Rattle.dep_graph.proofs.RunLaws.{on_ok}
use Rattle.known_reads.proofs.BesideLemmas.{reads_exact}
use Rattle.known_reads.proofs.PuttingLemmas.{put_known}
use Rattle.known_reads.proofs.RecordedLemmas.{empty_list}
use Rattle.known_reads.proofs.beside.KnownReads.put_owed.Goals as goal

pub returns-clause-known : goal.returns-clause-known
returns-clause-known c = λ s knows.
    put_known s c.args.self.now _ c.turn_over.new.to c.put_all_back-done.new.turned (c.turn_over.ensures.turned ∙ ap (λ l. all_turned l ++ all_laid c.self.inside.owed) c.none-turned.ensures ∙ ap (λ (b : Beside). all_laid b.owed) c.self.view_is) (c.turn_over-2.ensures.laid ∙ ap (λ l. all_turned c.put_all_back-done.new.turned ++ all_laid l) c.turn_over.ensures.none)
    (subst (λ (b : Beside). KnowsWith s b.graph (all_turned c.turn_over.new.to) → KnowsWith s c.put_all_back-done.new.graph (all_turned c.put_all_back-done.new.turned)) c.self.view_is (c.put_all_back-done.ensures.known s)) (ap (λ (b : Beside). b.stale) c.self.view_is) knows

pub returns-clause-exact : goal.returns-clause-exact
returns-clause-exact c = on_ok c.put_all_back-done.result (λ done s knows.
    let left = ap length done in
    let none = ap length c.turn_over.ensures.none in
    let count = c.turn_over-2.ensures.count in
    let gone : length c.turn_over-2.new.to ≡ 0 = omega (arith, left, none, count) in
    reads_exact s _ (empty_list c.turn_over-2.new.to gone)
    (put_known s c.args.self.now _ c.turn_over.new.to c.put_all_back-done.new.turned (c.turn_over.ensures.turned ∙ ap (λ l. all_turned l ++ all_laid c.self.inside.owed) c.none-turned.ensures ∙ ap (λ (b : Beside). all_laid b.owed) c.self.view_is) (c.turn_over-2.ensures.laid ∙ ap (λ l. all_turned c.put_all_back-done.new.turned ++ all_laid l) c.turn_over.ensures.none)
    (subst (λ (b : Beside). KnowsWith s b.graph (all_turned c.turn_over.new.to) → KnowsWith s c.put_all_back-done.new.graph (all_turned c.put_all_back-done.new.turned)) c.self.view_is (c.put_all_back-done.ensures.known s)) (ap (λ (b : Beside). b.stale) c.self.view_is) knows))
    c.put_all_back-done.ensures.ok
