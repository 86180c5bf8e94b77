use Rattle.std.proofs.Common.{◌≡◌, false, rules}
use Rattle.std.specs.Option.{is_some}
use Rattle.recalc.specs.Evaluated.{formula_at, sheet_of}
use Rattle.known_reads.proofs.KnownLemmas.{forgotten, kept_either}
use Rattle.known_reads.proofs.WatchedLemmas.{others_dropped}
use Rattle.known_reads.proofs.recording.record_where.Goals as goal

pub returns-clause-keeps : goal.returns-clause-keeps
returns-clause-keeps g c =
    kept_either (sheet_of (g.D.DocReader.document c.args.tables.now)) c.args.graph.now c.record_formula.new.graph c.args.cell.now
    c.record_formula.result c.record_formula.ensures.ok c.record_formula.ensures.err

pub returns-then-not-is_formula_cell-clause-ok : goal.returns-then-not-is_formula_cell-clause-ok
returns-then-not-is_formula_cell-clause-ok g c =
    let s = g.D.DocReader.document c.args.tables.now in
    let off : is_some (formula_at s c.args.cell.now) ≡ false = search rules in
    (forgotten s c.args.graph.now c.drop_reader.new.self c.args.cell.now c.drop_reader.ensures off).0

pub returns-then-not-is_formula_cell-clause-keeps : goal.returns-then-not-is_formula_cell-clause-keeps
returns-then-not-is_formula_cell-clause-keeps g c =
    let s = g.D.DocReader.document c.args.tables.now in
    let off : is_some (formula_at s c.args.cell.now) ≡ false = search rules in
    (forgotten s c.args.graph.now c.drop_reader.new.self c.args.cell.now c.drop_reader.ensures off).1

pub returns-then-not-is_formula_cell-clause-same : goal.returns-then-not-is_formula_cell-clause-same
returns-then-not-is_formula_cell-clause-same g c = others_dropped c.args.graph.now c.drop_reader.new.self c.args.cell.now c.drop_reader.ensures
