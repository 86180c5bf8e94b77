use Rattle.std.proofs.Common.{subst, refl, ap, ◌∙◌, IsSome, Some, Bool, true, false, cond, ◌≡◌, List}
use Rattle.std.specs.Map.{lookup}
use Rattle.dep_graph.specs.declared.numbers.ReadNumber.{ReadNumber}
use Rattle.dep_graph.specs.declared.numbers.ColumnNumber.{ColumnNumber}
use Rattle.dep_graph.specs.Numbers.{is_read}
use Rattle.dep_graph.specs.Readers.{columns_under, items_of, wide, with_column}
use Rattle.dep_graph.proofs.ReaderLaws.{columns_put, on_ok, on_err}
use Rattle.dep_graph.proofs.readers.add_column.Goals as goal

pub returns-in-Some-clause-ok : goal.returns-in-Some-clause-ok
returns-in-Some-clause-ok c =
    on_ok c.push_column.result (λ is. columns_put (with_column c.args.column) c.args.columns.now.entries (c.get_mut.follows.lender c.push_column.new.columns).entries c.args.read c.wide-key.result c.push_column.new.columns c.wide-key.ensures
    ((c.get_mut.follows.holds c.push_column.new.columns).3 (subst IsSome c.in-Some.ensures.value refl)).0 (is ∙ ap (λ o. with_column c.args.column (items_of o)) c.in-Some.ensures.value)) c.push_column.ensures.ok

pub returns-in-Some-clause-err : goal.returns-in-Some-clause-err
returns-in-Some-clause-err c =
    on_err c.push_column.result (λ is q. columns_put (λ (columns : List ColumnNumber). columns) c.args.columns.now.entries (c.get_mut.follows.lender c.push_column.new.columns).entries c.args.read c.wide-key.result c.push_column.new.columns c.wide-key.ensures
    ((c.get_mut.follows.holds c.push_column.new.columns).3 (subst IsSome c.in-Some.ensures.value refl)).0 (is ∙ ap items_of c.in-Some.ensures.value) q
    ∙ both (is_read (wide c.args.read) (wide q)) (columns_under c.args.columns.now.entries q)) c.push_column.ensures.err
  where
    both : (b : Bool) (columns : List ColumnNumber) → cond b columns columns ≡ columns
    both true columns = refl
    both false columns = refl

pub returns-clause-ok : goal.returns-clause-ok
returns-clause-ok c =
    columns_put (with_column c.args.column) c.args.columns.now.entries c.insert.new.self.entries c.args.read c.wide-key.result c.push_column-2.new.columns c.wide-key.ensures
    (subst (λ m. (q : ReadNumber) → lookup (is_read q) c.insert.new.self.entries ≡ cond (is_read c.wide-key.result q) (Some c.push_column-2.new.columns) (lookup (is_read q) m.entries)) c.get_mut.follows.holds-at-none c.in_ok-insert.ensures.updates.0)
    (c.in_ok-push_column.ensures.ok ∙ ap (with_column c.args.column) (c.new-list.ensures.items ∙ ap items_of c.in_default.ensures.value))
