use Rattle.std.proofs.Common.{ℕ, ◌≡◌, ◌<◌, ◌≤◌, ◌∙◌, max, ap, refl, map, length, take, arith}
use Rattle.doc_model.specs.declared.column.ColDef.{ColDef}
use Rattle.doc_model.specs.Counts.{greatest}
use Rattle.doc_model.specs.Document.{Table}
use Rattle.doc_model.specs.Grid.{Grid}
use Rattle.action_limits.specs.Capped.{no_table, table_in}
use Rattle.action_limits.proofs.CountedLemmas.{taken_all}
use Rattle.action_limits.proofs.SumLemmas.{greatest_step}
use Rattle.action_limits.proofs.limits.greatest_maxima.Goals as goal

pub loop-index-preserved : goal.loop-index-preserved
loop-index-preserved g c =
    let s = g.D.DocReader.document c.args.tables.now in
    let within : c.loop-index.index < length s = omega (arith, c.table_count-index-end.ensures.all, c.loop-index-test.true) in
    record {
      columns = greatest_step (λ (t : Table). length t.grid.columns) s c.loop-index.index no_table (table_in s c.loop-index.index) c.loop-index.most.columns c.wider-most.result.columns c.table_maxima.result.columns
          within refl c.loop-index.invariant.columns (c.table_maxima.ensures.columns ∙ ap (λ (t : Grid ColDef). length t.columns) c.table_id.ensures.grid) c.wider-most.ensures.columns;
      rows = greatest_step (λ (t : Table). length t.grid.rows) s c.loop-index.index no_table (table_in s c.loop-index.index) c.loop-index.most.rows c.wider-most.result.rows c.table_maxima.result.rows
          within refl c.loop-index.invariant.rows (c.table_maxima.ensures.rows ∙ ap (λ (t : Grid ColDef). length t.rows) c.table_id.ensures.grid) c.wider-most.ensures.rows;
      row_id = greatest_step (λ (t : Table). greatest t.grid.rows) s c.loop-index.index no_table (table_in s c.loop-index.index) c.loop-index.most.row_id c.wider-most.result.row_id c.table_maxima.result.row_id
          within refl c.loop-index.invariant.row_id (c.table_maxima.ensures.row_id ∙ ap (λ (t : Grid ColDef). greatest t.rows) c.table_id.ensures.grid) c.wider-most.ensures.row_id;
      small = both_under c.loop-index.most.row_id c.table_maxima.result.row_id c.wider-most.result.row_id c.loop-index.invariant.small c.table_maxima.ensures.small c.wider-most.ensures.row_id;
    }
  where
    both_under : (m n k : ℕ) → m ≤ 4294967295 → n ≤ 4294967295 → k ≡ max m n → k ≤ 4294967295
    both_under m n k a b e = grind arith

pub returns-clause-columns : goal.returns-clause-columns
returns-clause-columns g c =
    let s = g.D.DocReader.document c.args.tables.now in
    let all : take c.loop-index.index s ≡ s = taken_all s c.loop-index.index (omega (arith, c.table_count-index-end.ensures.all, c.loop-index-test.false)) in
    c.loop-index.invariant.columns ∙ ap (λ ts. greatest (map (λ (t : Table). length t.grid.columns) ts)) all

pub returns-clause-rows : goal.returns-clause-rows
returns-clause-rows g c =
    let s = g.D.DocReader.document c.args.tables.now in
    let all : take c.loop-index.index s ≡ s = taken_all s c.loop-index.index (omega (arith, c.table_count-index-end.ensures.all, c.loop-index-test.false)) in
    c.loop-index.invariant.rows ∙ ap (λ ts. greatest (map (λ (t : Table). length t.grid.rows) ts)) all

pub returns-clause-row_id : goal.returns-clause-row_id
returns-clause-row_id g c =
    let s = g.D.DocReader.document c.args.tables.now in
    let all : take c.loop-index.index s ≡ s = taken_all s c.loop-index.index (omega (arith, c.table_count-index-end.ensures.all, c.loop-index-test.false)) in
    c.loop-index.invariant.row_id ∙ ap (λ ts. greatest (map (λ (t : Table). greatest t.grid.rows) ts)) all
