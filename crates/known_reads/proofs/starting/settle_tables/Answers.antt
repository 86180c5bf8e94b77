use Rattle.std.proofs.Common.{◌<◌, refl, ◌∙◌, length, arith}
use Rattle.std.proofs.lemmas.Option.{slice_get_within}
use Rattle.recalc.proofs.Progress.{cells_of_table, each_next}
use Rattle.recalc.proofs.WalkLemmas.{table_past, table_read}
use Rattle.affected_values.specs.Taken.{IsHeldWhere}
use Rattle.known_reads.specs.Walked.{AreHeld}
use Rattle.known_reads.proofs.StartedLemmas.{all_evaluated, all_later, plain_held, walked_done, walked_next, walked_within}
use Rattle.known_reads.proofs.WalkedLemmas.{of_cells, of_table}
use Rattle.affected_values.proofs.RowCellLemmas.{nothing_there}
use Rattle.known_reads.proofs.starting.settle_tables.Goals as goal

pub loop-table-smaller : goal.loop-table-smaller
loop-table-smaller g c =
    let s = g.D.DocReader.document c.args.tables.now in
    let t = table_read s c.loop-table.index c.in-Some.table.now c.in-Some.ensures.told in
    let within : c.loop-table.index < length s = slice_get_within s c.loop-table.index t.0 t.1 in
    omega (arith, within)

pub loop-table-preserved : goal.loop-table-preserved
loop-table-preserved g c =
    let s = g.D.DocReader.document c.args.tables.now in
    let t = table_read s c.loop-table.index c.in-Some.table.now c.in-Some.ensures.told in
    let walked = c.in_ok-settle_table.ensures.walked in
    record {
      walked = walked_next s c.args.kept.now.items c.loop-table.kept.items c.settle_table.new.kept.items c.args.reads.now c.loop-table.reads c.settle_table.new.reads c.args.steps.now c.loop-table.steps c.settle_table.new.steps
          c.loop-table.invariant.walked walked;
      known = each_next (λ t. AreHeld s c.loop-table.kept.items (cells_of_table t)) (λ t. AreHeld s c.settle_table.new.kept.items (cells_of_table t))
          s c.loop-table.index _ t.0
          (λ t. all_later s c.loop-table.kept.items c.settle_table.new.kept.items walked.further (cells_of_table t)) refl t.1
          (of_table (IsHeldWhere s c.settle_table.new.kept.items) s c.requires.whole c.loop-table.index t.0 c.in-Some.table.now t.1 t.2 c.in_ok-settle_table.ensures.known) c.loop-table.invariant.known;
      indexed = c.in_ok-settle_table.ensures.indexed;
      owed = c.settle_table.ensures.owed ∙ c.loop-table.invariant.owed;
      remembered = c.in_ok-settle_table.ensures.remembered;
    }

pub returns-clause-evaluated : goal.returns-clause-evaluated
returns-clause-evaluated g c =
    let s = g.D.DocReader.document c.args.tables.now in
    let ks = c.loop-table.kept.items in
    all_evaluated s ks c.loop-table.invariant.walked.further.settled
    (of_cells (IsHeldWhere s ks) s c.loop-table.index (nothing_there s c.loop-table.index (table_past s c.loop-table.index c.in_default.ensures.told)) c.loop-table.invariant.known (plain_held s ks))

pub returns-in_err-settle_table-clause-owed : goal.returns-in_err-settle_table-clause-owed
returns-in_err-settle_table-clause-owed g c = c.settle_table.ensures.owed ∙ c.loop-table.invariant.owed

pub returns-in_err-settle_table-clause-within : goal.returns-in_err-settle_table-clause-within
returns-in_err-settle_table-clause-within g c =
    walked_within (g.D.DocReader.document c.args.tables.now) c.args.kept.now.items c.loop-table.kept.items c.args.reads.now c.loop-table.reads c.args.steps.now c.loop-table.steps c.settle_table.new.steps c.loop-table.invariant.walked c.settle_table.ensures.within

pub returns-clause-within : goal.returns-clause-within
returns-clause-within g c =
    walked_done (g.D.DocReader.document c.args.tables.now) c.args.kept.now.items c.loop-table.kept.items c.args.reads.now c.loop-table.reads c.args.steps.now c.loop-table.steps c.loop-table.invariant.walked
