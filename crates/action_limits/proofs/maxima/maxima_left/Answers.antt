use Rattle.std.proofs.Common.{ℕ, ◌≡◌, ◌<◌, ◌∙◌, max, ap, refl, map, length, take, arith}
use Rattle.doc_model.specs.Counts.{greatest}
use Rattle.action_limits.specs.Capped.{no_table, table_in}
use Rattle.action_limits.specs.Left.{columns_left, rows_left}
use Rattle.action_limits.proofs.CountedLemmas.{taken_all}
use Rattle.action_limits.proofs.Leaving.{left_maxima}
use Rattle.action_limits.proofs.SumLemmas.{greatest_step}
use Rattle.action_limits.proofs.maxima.maxima_left.Goals as goal

pub loop-index-preserved : goal.loop-index-preserved
loop-index-preserved g c =
    let s = g.D.DocReader.document c.args.tables.now in
    let a = c.args.action.now in
    let within : c.loop-index.index < length s = omega (arith, c.table_count-index-end.ensures.all, c.loop-index-test.true) in
    record {
      columns = greatest_step (columns_left a) s c.loop-index.index no_table (table_in s c.loop-index.index) c.loop-index.most.columns c.wider-most.result.columns c.table_left.result.columns
          within refl c.loop-index.invariant.columns c.table_left.ensures.columns c.wider-most.ensures.columns;
      rows = greatest_step (rows_left s a) s c.loop-index.index no_table (table_in s c.loop-index.index) c.loop-index.most.rows c.wider-most.result.rows c.table_left.result.rows
          within refl c.loop-index.invariant.rows c.table_left.ensures.rows c.wider-most.ensures.rows;
      row_id = both_none c.loop-index.most.row_id c.table_left.result.row_id c.wider-most.result.row_id c.loop-index.invariant.row_id c.table_left.ensures.row_id c.wider-most.ensures.row_id;
    }
  where
    both_none : (m n k : ℕ) → m ≡ 0 → n ≡ 0 → k ≡ max m n → k ≡ 0
    both_none m n k a b e = grind arith

pub returns : goal.returns
returns g c =
    let s = g.D.DocReader.document c.args.tables.now in
    let a = c.args.action.now in
    let all : take c.loop-index.index s ≡ s = taken_all s c.loop-index.index (omega (arith, c.table_count-index-end.ensures.all, c.loop-index-test.false)) in
    left_maxima s a c.loop-index.most c.requires.whole c.requires.takes c.requires.valid c.requires.small
    (c.loop-index.invariant.columns ∙ ap (λ ts. greatest (map (columns_left a) ts)) all)
    (c.loop-index.invariant.rows ∙ ap (λ ts. greatest (map (rows_left s a) ts)) all)
    c.loop-index.invariant.row_id
