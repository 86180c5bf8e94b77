use Rattle.std.proofs.Common.{◌<◌, refl, ◌∙◌, length, arith}
use Rattle.std.proofs.lemmas.Option.{slice_get_within}
use Rattle.doc_readers.specs.Parts.{grid_at}
use Rattle.doc_readers.proofs.ColumnLemmas.{column_past, column_read}
use Rattle.recalc.specs.Evaluated.{cells_of_column}
use Rattle.recalc.proofs.Progress.{each_all, each_next}
use Rattle.affected_values.specs.Taken.{IsHeldWhere}
use Rattle.known_reads.specs.Walked.{AreHeld}
use Rattle.known_reads.proofs.StartedLemmas.{all_later, walked_done, walked_next, walked_within}
use Rattle.known_reads.proofs.WalkedLemmas.{of_columns}
use Rattle.affected_values.proofs.RowCellLemmas.{nothing_there}
use Rattle.known_reads.proofs.starting.settle_table.Goals as goal

pub loop-column-smaller : goal.loop-column-smaller
loop-column-smaller g c =
    let s = g.D.DocReader.document c.args.tables.now in
    let columns = (grid_at s c.args.table.now).columns in
    let within : c.loop-column.index < length columns = slice_get_within columns c.loop-column.index c.in-Some.column.now (column_read s c.args.table.now c.loop-column.index c.in-Some.column.now c.in-Some.ensures.told) in
    omega (arith, within)

pub loop-column-preserved : goal.loop-column-preserved
loop-column-preserved g c =
    let s = g.D.DocReader.document c.args.tables.now in
    let t = c.args.table.now in
    let walked = c.in_ok-settle_column.ensures.walked in
    record {
      walked = walked_next s c.args.kept.now.items c.loop-column.kept.items c.settle_column.new.kept.items c.args.reads.now c.loop-column.reads c.settle_column.new.reads c.args.steps.now c.loop-column.steps c.settle_column.new.steps
          c.loop-column.invariant.walked walked;
      known = each_next (λ d. AreHeld s c.loop-column.kept.items (cells_of_column t (grid_at s t) d)) (λ d. AreHeld s c.settle_column.new.kept.items (cells_of_column t (grid_at s t) d))
          (grid_at s t).columns c.loop-column.index _ c.in-Some.column.now
          (λ d. all_later s c.loop-column.kept.items c.settle_column.new.kept.items walked.further (cells_of_column t (grid_at s t) d)) refl
          (column_read s t c.loop-column.index c.in-Some.column.now c.in-Some.ensures.told) c.in_ok-settle_column.ensures.known c.loop-column.invariant.known;
      indexed = c.in_ok-settle_column.ensures.indexed;
      owed = c.settle_column.ensures.owed ∙ c.loop-column.invariant.owed;
      remembered = c.in_ok-settle_column.ensures.remembered;
    }

pub returns-clause-known : goal.returns-clause-known
returns-clause-known g c =
    let s = g.D.DocReader.document c.args.tables.now in
    let t = c.args.table.now in
    of_columns (IsHeldWhere s c.loop-column.kept.items) t (grid_at s t) (grid_at s t).columns
    (each_all (λ d. AreHeld s c.loop-column.kept.items (cells_of_column t (grid_at s t) d)) (grid_at s t).columns c.loop-column.index
    (nothing_there (grid_at s t).columns c.loop-column.index (column_past s t c.loop-column.index c.in_default.ensures.told)) c.loop-column.invariant.known)

pub returns-in_err-settle_column-clause-owed : goal.returns-in_err-settle_column-clause-owed
returns-in_err-settle_column-clause-owed g c = c.settle_column.ensures.owed ∙ c.loop-column.invariant.owed

pub returns-in_err-settle_column-clause-within : goal.returns-in_err-settle_column-clause-within
returns-in_err-settle_column-clause-within g c =
    walked_within (g.D.DocReader.document c.args.tables.now) c.args.kept.now.items c.loop-column.kept.items c.args.reads.now c.loop-column.reads c.args.steps.now c.loop-column.steps c.settle_column.new.steps c.loop-column.invariant.walked c.settle_column.ensures.within

pub returns-clause-within : goal.returns-clause-within
returns-clause-within g c =
    walked_done (g.D.DocReader.document c.args.tables.now) c.args.kept.now.items c.loop-column.kept.items c.args.reads.now c.loop-column.reads c.args.steps.now c.loop-column.steps c.loop-column.invariant.walked
