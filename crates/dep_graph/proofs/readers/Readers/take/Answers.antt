use Rattle.std.proofs.Common.{subst}
use Rattle.dep_graph.specs.Readers.{lists_of, IsUnlinked, KeepsBackable}
use Rattle.dep_graph.proofs.ReaderLaws.{links-taken, columns_unlinked, backable_taken}
use Rattle.dep_graph.proofs.readers.Readers.take.Goals as goal

pub invariant_of-self : goal.invariant_of-self
invariant_of-self c =
    columns_unlinked (lists_of c.self.inside.rows c.self.inside.columns.entries) (lists_of c.remove-was.new.self c.self.inside.columns.entries) c.args.read c.args.cell
    (links-taken (lists_of c.self.inside.rows c.self.inside.columns.entries) (lists_of c.remove-was.new.self c.self.inside.columns.entries) c.args.read c.args.cell c.remove-was.ensures.rows)
    (λ q d there. there) c.self.invariant

pub returns-clause-links : goal.returns-clause-links
returns-clause-links c =
    subst (λ old. IsUnlinked old (lists_of c.remove-was.new.self c.self.inside.columns.entries) c.args.read c.args.cell) c.self.view_is
    (links-taken (lists_of c.self.inside.rows c.self.inside.columns.entries) (lists_of c.remove-was.new.self c.self.inside.columns.entries) c.args.read c.args.cell c.remove-was.ensures.rows)

pub returns-clause-backable : goal.returns-clause-backable
returns-clause-backable c =
    subst (λ old. KeepsBackable old (lists_of c.remove-was.new.self c.self.inside.columns.entries) c.args.cell) c.self.view_is
    (backable_taken (lists_of c.self.inside.rows c.self.inside.columns.entries) (lists_of c.remove-was.new.self c.self.inside.columns.entries) c.args.cell (λ q d there. there) c.remove-was.ensures.room
    c.args.read c.remove-was.result c.remove-was.ensures.value c.remove-was.ensures.left c.remove-was.ensures.rows)
