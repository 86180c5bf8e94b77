use Rattle.std.proofs.Common.{◌≡◌, ◌++◌, drop}
use Rattle.user_actions.specs.References.{clearings}
use Rattle.user_actions.proofs.clearing.add_clearings.Given as goal

-- those so far, and those that are to come
abbrev pub invariant-loop-one : goal.invariant-loop-one
invariant-loop-one g l =
    let s = g.D.DocReader.document l.tables in
    l.steps ++ clearings s l.table l.gone (drop l.one-index l.referrers) ≡ l.initial.steps ++ clearings s l.table l.gone l.referrers
