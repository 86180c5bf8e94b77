use Rattle.std.proofs.Common.{sym, ap, ◌∙◌, subst}
use Rattle.dep_graph.proofs.RunLaws.{on_ok}
use Rattle.known_reads.specs.Beside.{KnowsOthers}
use Rattle.known_reads.specs.Known.{AreRead}
use Rattle.known_reads.proofs.BesideLemmas.{all_known}
use Rattle.known_reads.proofs.KnownLemmas.{read_stays}
use Rattle.known_reads.proofs.beside.KnownReads.record_stale.Goals as goal

pub returns-clause-reads : goal.returns-clause-reads
returns-clause-reads g c =
    let s = g.D.DocReader.document c.args.tables.now in
    let was = c.self.inside in
    let new = c.record_cells.new.graph in
    on_ok c.record_cells.result (λ read.
    all_known s new was.stale.items (subst (AreRead s new) (c.as_slice-stale.ensures.value ∙ ap (λ v. v.items) c.replace-cells.ensures.value) read)
    (λ d other. read_stays s was.graph new c.record_cells.ensures.keeps d (subst (KnowsOthers s) (sym c.self.view_is) c.requires.others d other)))
    c.record_cells.ensures.ok
