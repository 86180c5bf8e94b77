use Rattle.std.proofs.Common.{◌≤◌, refl, ◌∙◌, get_or, length, subst, arith}
use Rattle.cell_types.specs.declared.cell.CellId.{CellId}
use Rattle.doc_readers.specs.Parts.{grid_at}
use Rattle.recalc.specs.Cells.{cell_of}
use Rattle.recalc.proofs.Progress.{EachOf, each_more}
use Rattle.affected_values.specs.Taken.{IsHeldWhere}
use Rattle.known_reads.proofs.StartedLemmas.{held_later, walked_done, walked_next, walked_within}
use Rattle.known_reads.proofs.WalkedLemmas.{of_column}
use Rattle.known_reads.proofs.starting.settle_column.Goals as goal

pub loop-row-preserved : goal.loop-row-preserved
loop-row-preserved g c =
    let s = g.D.DocReader.document c.args.tables.now in
    let walked = c.in_ok-settle_unwatched.ensures.walked in
    let further = walked.further in
    record {
      walked = walked_next s c.args.kept.now.items c.loop-row.kept.items c.settle_unwatched.new.kept.items c.args.reads.now c.loop-row.reads c.settle_unwatched.new.reads c.args.steps.now c.loop-row.steps c.settle_unwatched.new.steps
          c.loop-row.invariant.walked walked;
      known = each_more (λ r. IsHeldWhere s c.loop-row.kept.items (cell_of c.args.table.now c.args.column.now.id r)) (λ r. IsHeldWhere s c.settle_unwatched.new.kept.items (cell_of c.args.table.now c.args.column.now.id r))
          c.rows_in-row-items.result.now c.loop-row.row-index _ _
          (λ r. held_later s c.loop-row.kept.items c.settle_unwatched.new.kept.items further (cell_of c.args.table.now c.args.column.now.id r)) refl
          (subst (λ (d : CellId). IsHeldWhere s c.settle_unwatched.new.kept.items d) (λ i. record { table = c.loop-row.invariant.table i; column = c.loop-row.invariant.column i; row = (get_or c.rows_in-row-items.result.now c.loop-row.row-index 0) }) c.in_ok-settle_unwatched.ensures.known)
          c.loop-row.invariant.known;
      indexed = c.in_ok-settle_unwatched.ensures.indexed;
      remembered = c.in_ok-settle_unwatched.ensures.remembered;
      owed = c.settle_unwatched.ensures.owed ∙ c.loop-row.invariant.owed;
      table = c.loop-row.invariant.table;
      column = c.loop-row.invariant.column;
    }

pub returns-clause-known : goal.returns-clause-known
returns-clause-known g c =
    let s = g.D.DocReader.document c.args.tables.now in
    let all : length c.rows_in-row-items.result.now ≤ c.loop-row.row-index = omega arith in
    of_column (IsHeldWhere s c.loop-row.kept.items) c.args.table.now (grid_at s c.args.table.now) c.args.column.now c.loop-row.row-index
    (subst (λ l. length l ≤ c.loop-row.row-index) c.rows_in-row-items.ensures.value all)
    (subst (λ l. EachOf (λ r. IsHeldWhere s c.loop-row.kept.items (cell_of c.args.table.now c.args.column.now.id r)) l c.loop-row.row-index) c.rows_in-row-items.ensures.value c.loop-row.invariant.known)

pub returns-in_err-settle_unwatched-clause-owed : goal.returns-in_err-settle_unwatched-clause-owed
returns-in_err-settle_unwatched-clause-owed g c = c.settle_unwatched.ensures.owed ∙ c.loop-row.invariant.owed

pub returns-in_err-settle_unwatched-clause-within : goal.returns-in_err-settle_unwatched-clause-within
returns-in_err-settle_unwatched-clause-within g c =
    walked_within (g.D.DocReader.document c.args.tables.now) c.args.kept.now.items c.loop-row.kept.items c.args.reads.now c.loop-row.reads c.args.steps.now c.loop-row.steps c.settle_unwatched.new.steps c.loop-row.invariant.walked c.settle_unwatched.ensures.within

pub returns-clause-within : goal.returns-clause-within
returns-clause-within g c =
    walked_done (g.D.DocReader.document c.args.tables.now) c.args.kept.now.items c.loop-row.kept.items c.args.reads.now c.loop-row.reads c.args.steps.now c.loop-row.steps c.loop-row.invariant.walked
