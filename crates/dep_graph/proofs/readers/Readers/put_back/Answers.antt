use Rattle.std.proofs.Common.{subst, sym, ◌∙◌, ap, refl}
use Rattle.doc_model.specs.Rows.{has}
use Rattle.dep_graph.specs.Readers.{lists_of, IsBackable, IsLinked, KeepsBackable}
use Rattle.dep_graph.proofs.ReaderLaws.{links-put, links-there, columns_linked, backable_put}
use Rattle.dep_graph.proofs.readers.Readers.put_back.Goals as goal

pub invariant_of-self : goal.invariant_of-self
invariant_of-self c =
    columns_linked (lists_of c.self.inside.rows c.self.inside.columns.entries) (lists_of c.put_back.new.self c.self.inside.columns.entries) c.args.read c.args.cell
    (links-put (lists_of c.self.inside.rows c.self.inside.columns.entries) (lists_of c.put_back.new.self c.self.inside.columns.entries) c.args.read c.args.cell c.put_back.ensures.rows)
    (λ q d there. there) (subst (λ old. IsBackable old c.args.read c.args.cell) (sym c.self.view_is) c.requires).column c.self.invariant

pub returns-then-not-is_there-clause-links : goal.returns-then-not-is_there-clause-links
returns-then-not-is_there-clause-links c =
    subst (λ old. IsLinked old (lists_of c.put_back.new.self c.self.inside.columns.entries) c.args.read c.args.cell) c.self.view_is
    (links-put (lists_of c.self.inside.rows c.self.inside.columns.entries) (lists_of c.put_back.new.self c.self.inside.columns.entries) c.args.read c.args.cell c.put_back.ensures.rows)

pub returns-then-not-is_there-clause-backable : goal.returns-then-not-is_there-clause-backable
returns-then-not-is_there-clause-backable c =
    subst (λ old. KeepsBackable old (lists_of c.put_back.new.self c.self.inside.columns.entries) c.args.cell) c.self.view_is
    (backable_put (lists_of c.self.inside.rows c.self.inside.columns.entries) (lists_of c.put_back.new.self c.self.inside.columns.entries) c.args.cell (λ q d there. there) c.put_back.ensures.room c.args.read c.put_back.ensures.rows)

pub returns-else-not-is_there-clause-links : goal.returns-else-not-is_there-clause-links
returns-else-not-is_there-clause-links c =
    subst (λ l. IsLinked l l c.args.read c.args.cell) c.self.view_is
    (links-there (lists_of c.self.inside.rows c.self.inside.columns.entries) (lists_of c.self.inside.rows c.self.inside.columns.entries) c.args.read c.args.cell (λ q d. refl)
    (ap (λ rows. has rows c.args.cell.row) (sym c.rows_for.ensures.rows) ∙ sym c.is_there.ensures ∙ c.if-not-is_there.false))
