use Rattle.std.proofs.Common.{sym, ap, ◌∙◌}
use Rattle.std.specs.Cmp.Lexicographic.{slice_cmp}
use Rattle.std.specs.Ordering.{nat_cmp}
use Rattle.bundle_core.proofs.Indexes.{finds_at, misses_at}
use Rattle.bundle_core.proofs.session_index.index_of.Goals as goal

pub returns-in-Equal : goal.returns-in-Equal
returns-in-Equal c =
    finds_at c.args.sessions.now c.loop-index.index c.index-sessions-index.result c.args.name.now c.requires c.loop-index-test.true c.index-sessions-index.is c.loop-index.invariant
    (ap (λ n. slice_cmp nat_cmp n c.args.name.now) (sym c.name.ensures) ∙ sym c.in-Equal.ensures)

pub returns-in-Greater : goal.returns-in-Greater
returns-in-Greater c =
    misses_at c.args.sessions.now c.loop-index.index c.index-sessions-index.result c.args.name.now c.requires c.loop-index-test.true c.index-sessions-index.is c.loop-index.invariant
    (ap (λ n. slice_cmp nat_cmp n c.args.name.now) (sym c.name.ensures) ∙ sym c.in-Greater.ensures)
