use Rattle.std.proofs.Common.{ℕ, ◌≡◌, ◌+◌, ◌<◌, ◌≤◌, ◌∙◌, max, ap, map, sym, subst, true, ltb, arith}
use Rattle.doc_model.specs.Apply.{all_valid}
use Rattle.doc_model.specs.Counts.{counts}
use Rattle.action_limits.specs.Capped.{all_moved, settled}
use Rattle.action_limits.specs.Grown.{new_tables}
use Rattle.action_limits.specs.Left.{TellsMaxima}
use Rattle.user_actions.specs.StepLaws.{action_of}
use Rattle.user_actions.specs.Steps.{last_new_row, steps_of}
use Rattle.action_limits.specs.Tallies.{IsExpansion, after}
use Rattle.user_actions.proofs.AllowedLemmas.{action_named}
use Rattle.action_limits.proofs.CountedLemmas.{capped_above}
use Rattle.action_limits.proofs.ExpansionLemmas.{IsExact, any_told, early_is, early_row, exact_from, settled_is}
use Rattle.action_limits.proofs.Rising.{TellsMore, most_told}
use Rattle.action_limits.proofs.SchemaGrowth.{grown_few, grown_last, grown_maxima, grown_tables}
use Rattle.action_limits.proofs.expansion.schema_expansion.Goals as goal

pub table_name-requires : goal.table_name-requires
table_name-requires g c =
    action_named (g.D.DocReader.document c.args.tables.now) c.requires.whole c.args.action.now c.requires.allowed

pub unreachable-requires : goal.unreachable-requires
unreachable-requires g c =
    let s = g.D.DocReader.document c.args.tables.now in
    let a = c.args.action.now in
    let past : 4294967295 < last_new_row s a = rw c.in_default.is at c.in_ok-steps.ensures.made in
    let seen : 4294967295 < c.maxima_grown-grown.result.row_id = grown_last s a c.maxima_grown-grown.result c.requires.grows c.maxima_grown-grown.ensures past in
    let small : c.wider-most.result.row_id ≤ 4294967295 = early_row c.with_new_tables.result c.wider-most.result (sym c.first_of_maxima.ensures ∙ c.in_default-first_of_maxima.is) in
    none_greater c.maxima_before.result.row_id c.maxima_grown-grown.result.row_id c.wider-most.result.row_id c.wider-most.ensures.row_id seen small
  where
    none_greater : (m n k : ℕ) → k ≡ max m n → 4294967295 < n → k ≤ 4294967295 → ⊥
    none_greater m n k is past small = grind arith

pub returns-in_default : goal.returns-in_default
returns-in_default g c =
    let s = g.D.DocReader.document c.args.tables.now in
    let a = c.args.action.now in
    let ok : all_valid s (map action_of (steps_of s a)) ≡ true = c.in_ok-steps.ensures.valid in
    let more : TellsMore c.maxima_grown-grown.result s (after s a) = grown_maxima s a c.maxima_grown-grown.result c.requires.whole c.requires.grows ok c.maxima_grown-grown.ensures in
    let most : TellsMaxima c.wider-most.result (after s a) = most_told s (after s a) c.maxima_before.result c.maxima_grown-grown.result c.wider-most.result c.maxima_before.ensures more c.wider-most.ensures.columns c.wider-most.ensures.rows c.wider-most.ensures.row_id in
    let tables : ltb 2048 c.with_new_tables.result.tables ≡ ltb 2048 (counts (after s a)).tables
    = ap (ltb 2048) c.with_new_tables.ensures
    ∙ capped_above 2048 (c.args.tally.tables + new_tables a) (omega arith)
    ∙ ap (λ n. ltb 2048 (n + new_tables a)) c.requires.tally.tables
    ∙ ap (ltb 2048) (sym (grown_tables s a c.requires.whole c.requires.grows ok)) in
    early_is (after s a) c.with_new_tables.result c.wider-most.result c.in-Some-first_of_maxima.kind tables most (sym c.first_of_maxima.ensures ∙ c.in-Some-first_of_maxima.is)

pub returns : goal.returns
returns g c =
    let s = g.D.DocReader.document c.args.tables.now in
    let a = c.args.action.now in
    let made : c.in-Some.steps ≡ steps_of s a = rw c.in-Some.is at c.in_ok-steps.ensures.made in
    let ok : all_valid s (map action_of (steps_of s a)) ≡ true = c.in_ok-steps.ensures.valid in
    let exact : IsExact c.sums_of.result s = exact_from s c.args.tally c.sums_of.result c.requires.tally c.sums_of.ensures in
    let told = any_told s c.sums_of.result (steps_of s a) (grown_few s a c.requires.grows) c.requires.whole ok exact in
    let more : TellsMore c.maxima_grown-grown.result s (after s a) = grown_maxima s a c.maxima_grown-grown.result c.requires.whole c.requires.grows ok c.maxima_grown-grown.ensures in
    let most : TellsMaxima c.wider-most.result (after s a) = most_told s (after s a) c.maxima_before.result c.maxima_grown-grown.result c.wider-most.result c.maxima_before.ensures more c.wider-most.ensures.columns c.wider-most.ensures.rows c.wider-most.ensures.row_id in
    subst (IsExpansion s a)
    (sym (c.settled.ensures
    ∙ ap (λ l. settled l c.after_steps-sums.result c.wider-most.result) made
    ∙ ap (λ m. settled (steps_of s a) m c.wider-most.result) (c.after_steps-sums.ensures ∙ ap (all_moved s c.sums_of.result) (c.as_slice.ensures ∙ made))))
    (settled_is s a (all_moved s c.sums_of.result (steps_of s a)) c.wider-most.result ok told most)
