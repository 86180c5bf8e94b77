use Rattle.std.proofs.Common.{◌≡◌, ◌∙◌, ap, map, sym, subst, true, ltb}
use Rattle.doc_model.specs.Apply.{all_valid}
use Rattle.action_limits.specs.Capped.{AreMaximaAdded, all_moved, settled}
use Rattle.action_limits.specs.Left.{TellsMaxima}
use Rattle.user_actions.specs.Kinds.{table_of}
use Rattle.user_actions.specs.StepLaws.{action_of}
use Rattle.user_actions.specs.Steps.{steps_of}
use Rattle.action_limits.specs.Tallies.{IsExpansion, after}
use Rattle.action_limits.proofs.AddMoves.{add_few, add_fresh, add_maxima, add_tables}
use Rattle.user_actions.proofs.AllowedLemmas.{action_named}
use Rattle.action_limits.proofs.ExpansionLemmas.{IsExact, any_told, early_is, exact_from, settled_is}
use Rattle.action_limits.proofs.Rising.{TellsMore, most_told}
use Rattle.user_actions.proofs.StepsValid.{all_valid-steps_of}
use Rattle.action_limits.proofs.expansion.add_expansion.Goals as goal

pub table_name-requires : goal.table_name-requires
table_name-requires g c =
    action_named (g.D.DocReader.document c.args.tables.now) c.requires.whole c.args.action.now c.requires.allowed

pub returns-in-Some : goal.returns-in-Some
returns-in-Some g c =
    let s = g.D.DocReader.document c.args.tables.now in
    let a = c.args.action.now in
    let ok : all_valid s (map action_of (steps_of s a)) ≡ true = all_valid-steps_of s c.requires.whole a c.requires.allowed c.requires.well_formed (add_fresh s a c.args.count c.requires.adds) in
    let named : c.in_ok-table.table ≡ table_of a = c.in_ok-table.ensures in
    let maxima : AreMaximaAdded s (table_of a) c.args.count c.maxima_added-added.result = subst (λ t. AreMaximaAdded s t c.args.count c.maxima_added-added.result) named c.maxima_added-added.ensures in
    let more : TellsMore c.maxima_added-added.result s (after s a) = add_maxima s a c.args.count c.maxima_added-added.result c.requires.whole c.requires.adds ok maxima in
    let most : TellsMaxima c.wider-most.result (after s a) = most_told s (after s a) c.maxima_before.result c.maxima_added-added.result c.wider-most.result c.maxima_before.ensures more c.wider-most.ensures.columns c.wider-most.ensures.rows c.wider-most.ensures.row_id in
    early_is (after s a) c.sums_of-before.result c.wider-most.result c.in-Some.kind
    (ap (ltb 2048) (c.sums_of-before.ensures.tables ∙ c.requires.tally.tables ∙ add_tables s a c.args.count c.requires.whole c.requires.adds ok)) most
    (sym c.first_of_maxima.ensures ∙ c.in-Some.is)

pub returns : goal.returns
returns g c =
    let s = g.D.DocReader.document c.args.tables.now in
    let a = c.args.action.now in
    let ok : all_valid s (map action_of (steps_of s a)) ≡ true = all_valid-steps_of s c.requires.whole a c.requires.allowed c.requires.well_formed (add_fresh s a c.args.count c.requires.adds) in
    let named : c.in_ok-table.table ≡ table_of a = c.in_ok-table.ensures in
    let maxima : AreMaximaAdded s (table_of a) c.args.count c.maxima_added-added.result = subst (λ t. AreMaximaAdded s t c.args.count c.maxima_added-added.result) named c.maxima_added-added.ensures in
    let more : TellsMore c.maxima_added-added.result s (after s a) = add_maxima s a c.args.count c.maxima_added-added.result c.requires.whole c.requires.adds ok maxima in
    let most : TellsMaxima c.wider-most.result (after s a) = most_told s (after s a) c.maxima_before.result c.maxima_added-added.result c.wider-most.result c.maxima_before.ensures more c.wider-most.ensures.columns c.wider-most.ensures.rows c.wider-most.ensures.row_id in
    let made : c.in-Some-2.steps ≡ steps_of s a = rw c.in-Some-2.is at c.in_ok-steps.ensures.made in
    let exact : IsExact c.sums_of-before.result s = exact_from s c.args.tally c.sums_of-before.result c.requires.tally c.sums_of-before.ensures in
    let told = any_told s c.sums_of-before.result (steps_of s a) (add_few s a c.args.count c.requires.adds) c.requires.whole ok exact in
    subst (IsExpansion s a)
    (sym (c.settled.ensures
    ∙ ap (λ l. settled l c.after_steps-sums.result c.wider-most.result) made
    ∙ ap (λ m. settled (steps_of s a) m c.wider-most.result) (c.after_steps-sums.ensures ∙ ap (all_moved s c.sums_of-before.result) (c.as_slice.ensures ∙ made))))
    (settled_is s a (all_moved s c.sums_of-before.result (steps_of s a)) c.wider-most.result ok told most)
