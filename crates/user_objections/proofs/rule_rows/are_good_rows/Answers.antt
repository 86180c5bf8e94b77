use Rattle.std.proofs.Common.{ℕ, Bool, true, ◌≡◌, ◌∙◌, sym, ap, arith}
use Rattle.user_objections.specs.RowsKept.{after_kept}
use Rattle.user_objections.specs.RuleRows.{all_below, is_good_row, row_after}
use Rattle.user_objections.proofs.RuleRowLemmas.{below_fails, below_next}
use Rattle.user_objections.proofs.rule_rows.are_good_rows.Goals as goal

pub returns-then-not-branch : goal.returns-then-not-branch
returns-then-not-branch c =
    let test : ℕ → Bool = λ n. is_good_row c.args.tables.now c.args.table.now.id (row_after c.args.table.now c.args.given.now c.args.rows.now n) in
    let asked : c.in_ok-is_good_row.field-0 ≡ test c.loop-index.index
    = c.in_ok-is_good_row.ensures ∙ ap (λ id. is_good_row c.args.tables.now id (after_kept c.row_after-row.result)) c.as_str.ensures.value
    ∙ ap (is_good_row c.args.tables.now c.args.table.now.id) c.row_after-row.ensures in
    sym (below_fails test c.loop-index.index c.args.count c.loop-index-test.true (sym asked ∙ c.if-not-branch.true))

pub loop-index-preserved : goal.loop-index-preserved
loop-index-preserved c =
    let test : ℕ → Bool = λ n. is_good_row c.args.tables.now c.args.table.now.id (row_after c.args.table.now c.args.given.now c.args.rows.now n) in
    let asked : c.in_ok-is_good_row.field-0 ≡ test c.loop-index.index
    = c.in_ok-is_good_row.ensures ∙ ap (λ id. is_good_row c.args.tables.now id (after_kept c.row_after-row.result)) c.as_str.ensures.value
    ∙ ap (is_good_row c.args.tables.now c.args.table.now.id) c.row_after-row.ensures in
    below_next test c.loop-index.index c.loop-index.invariant (sym asked ∙ c.if-not-branch.false)

pub returns : goal.returns
returns c =
    let test : ℕ → Bool = λ n. is_good_row c.args.tables.now c.args.table.now.id (row_after c.args.table.now c.args.given.now c.args.rows.now n) in
    let all : c.loop-index.index ≡ c.args.count = omega (arith, c.loop-index-test.false, c.loop-index.auto.index-end) in
    sym (ap (all_below test) (sym all) ∙ c.loop-index.invariant)
