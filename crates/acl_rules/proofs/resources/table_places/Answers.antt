use Rattle.std.proofs.Common.{◌∙◌, ◌++◌, [], ◌∷◌, ap, sym, cond, List, ℕ}
use Rattle.acl_rules.specs.Chain.{is_on}
use Rattle.acl_rules.proofs.PlaceLemmas.{places_step}
use Rattle.acl_rules.proofs.resources.table_places.Goals as goal

pub loop-place-preserved : goal.loop-place-preserved
loop-place-preserved c = λ table.
    c.in_ok-note_resource.ensures table
    ∙ ap (λ (l : List ℕ). cond (is_on table c.index-resources-place.result) (l ++ c.loop-place.place ∷ []) l) (c.loop-place.invariant table)
    ∙ sym (places_step (is_on table) c.args.resources.now c.loop-place.place c.index-resources-place.result c.loop-place-test.true c.index-resources-place.is)
