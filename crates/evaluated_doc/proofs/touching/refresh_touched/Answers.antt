use Rattle.std.proofs.Common.{sym, subst}
use Rattle.affected_search.specs.ExactNotes.{HasNotes}
use Rattle.recalc.specs.Evaluated.{sheet_of}
use Rattle.known_reads.proofs.BesideLemmas.{exact_reads}
use Rattle.evaluated_doc.proofs.RefreshedLemmas.{right_but_found}
use Rattle.evaluated_doc.proofs.TouchedLemmas.{as_they_were}
use Rattle.evaluated_doc.proofs.touching.refresh_touched.Goals as goal

pub refresh_recording-requires-clause-others : goal.refresh_recording-requires-clause-others
refresh_recording-requires-clause-others g c =
    let s = g.D.DocReader.document c.args.tables.now in
    right_but_found s c.args.kept.now.items c.args.touched.now.reads c.args.touched.now.cells c.in_ok-cells.cells.items c.requires.of_document c.requires.others
    (c.in_ok-cells.ensures s (subst (λ x. HasNotes x (sheet_of s)) (sym c.graph.ensures) c.requires.known.each))

pub refresh_recording-requires-clause-reads : goal.refresh_recording-requires-clause-reads
refresh_recording-requires-clause-reads g c = λ d fresh other. c.requires.known.each d

pub returns-clause-known : goal.returns-clause-known
returns-clause-known g c = c.in-Err.ensures.laid (g.D.DocReader.document c.args.tables.now) c.requires.known

pub returns-in_err-cells-clause-known : goal.returns-in_err-cells-clause-known
returns-in_err-cells-clause-known g c =
    exact_reads (g.D.DocReader.document c.args.tables.now) c.args.reads.now c.requires.known.none c.requires.known.owed c.requires.known.each

pub returns-in_err-cells-clause-err : goal.returns-in_err-cells-clause-err
returns-in_err-cells-clause-err g c = as_they_were (g.D.DocReader.document c.args.tables.now) c.args.kept.now.items c.from_residual.result
