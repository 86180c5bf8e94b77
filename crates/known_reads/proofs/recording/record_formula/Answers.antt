use Rattle.std.proofs.Common.{◌∙◌, sym}
use Rattle.dep_graph.specs.Sources.{sources}
use Rattle.recalc.specs.Evaluated.{formula_at, sheet_of}
use Rattle.recalc.proofs.KeptLemmas.{column_there, tree_found, tree_kept}
use Rattle.recalc.proofs.Spots.{text_there}
use Rattle.known_reads.proofs.KnownLemmas.{at_err, needs_none, over_known, reads_kept}
use Rattle.known_reads.proofs.WatchedLemmas.{others_kept, others_none, others_set}
use Rattle.known_reads.proofs.recording.record_formula.Goals as goal

pub unreachable-requires : goal.unreachable-requires
unreachable-requires g c =
    let s = g.D.DocReader.document c.args.tables.now in
    let text = text_there (formula_at s c.args.cell.now) c.requires.there in
    column_there s c.args.kept.now c.requires.evaluated.of_document c.args.cell.now text.0 text.1 c.in_default.ensures

pub record_cell-requires-clause-known : goal.record_cell-requires-clause-known
record_cell-requires-clause-known g c = needs_none (g.D.DocReader.document c.args.tables.now) c.args.kept.now c.requires.evaluated

pub returns-in_err-notes-clause-err : goal.returns-in_err-notes-clause-err
returns-in_err-notes-clause-err g c =
    at_err c.from_residual-in_err-notes.result (reads_kept (sheet_of (g.D.DocReader.document c.args.tables.now)) c.args.graph.now c.record_cell.new.graph c.in_err-notes.ensures.err)

pub returns-in_err-index_lookups-clause-err : goal.returns-in_err-index_lookups-clause-err
returns-in_err-index_lookups-clause-err g c =
    let s = g.D.DocReader.document c.args.tables.now in
    let ks = c.args.kept.now in
    let cell = c.args.cell.now in
    let text = text_there (formula_at s cell) c.requires.there in
    at_err c.from_residual-in_err-index_lookups.result (c.in_ok-notes.ensures.noted (sheet_of s) text.0 text.1
    (sym (c.as_ref-tree.ensures.value ∙ sym (tree_found ks cell c.in-Some.column.now (sym c.in-Some.ensures)) ∙ tree_kept s ks c.requires.evaluated.of_document cell text.0 text.1))
    (over_known s ks c.requires.evaluated)).keeps

pub returns-clause-ok : goal.returns-clause-ok
returns-clause-ok g c =
    let s = g.D.DocReader.document c.args.tables.now in
    let ks = c.args.kept.now in
    let cell = c.args.cell.now in
    let text = text_there (formula_at s cell) c.requires.there in
    c.in_ok-notes.ensures.noted (sheet_of s) text.0 text.1
    (sym (c.as_ref-tree.ensures.value ∙ sym (tree_found ks cell c.in-Some.column.now (sym c.in-Some.ensures)) ∙ tree_kept s ks c.requires.evaluated.of_document cell text.0 text.1))
    (over_known s ks c.requires.evaluated)

pub returns-in_err-at-clause-same : goal.returns-in_err-at-clause-same
returns-in_err-at-clause-same g c = others_none c.args.graph.now c.args.cell.now

pub returns-in_err-notes-clause-same : goal.returns-in_err-notes-clause-same
returns-in_err-notes-clause-same g c = others_kept c.args.graph.now c.record_cell.new.graph c.args.cell.now c.in_err-notes.ensures.err

pub returns-in_err-index_lookups-clause-same : goal.returns-in_err-index_lookups-clause-same
returns-in_err-index_lookups-clause-same g c = others_set c.args.graph.now c.record_cell.new.graph c.args.cell.now (sources c.in_ok-notes.notes) c.in_ok-notes.ensures.set

pub returns-clause-same : goal.returns-clause-same
returns-clause-same g c = others_set c.args.graph.now c.record_cell.new.graph c.args.cell.now (sources c.in_ok-notes.notes) c.in_ok-notes.ensures.set
