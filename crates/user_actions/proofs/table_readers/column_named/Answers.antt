use Rattle.std.proofs.Common.{sym, ap, ◌∙◌}
use Rattle.std.specs.Str.{bytes_eq}
use Rattle.doc_readers.proofs.ColumnLemmas.{column_found, column_passed, column_absent}
use Rattle.user_actions.proofs.table_readers.column_named.Goals as goal

pub returns-then-eq : goal.returns-then-eq
returns-then-eq g c =
    column_found (g.D.DocReader.document c.args.tables.now) c.args.table.now c.args.id.now c.loop-column.index c.loop-column.invariant c.in-Some.column.now c.in-Some.ensures.told
    (sym (ap (λ n. bytes_eq n c.args.id.now) c.as_str.ensures.value) ∙ sym c.eq.ensures ∙ c.if-eq.true)

pub loop-column-preserved : goal.loop-column-preserved
loop-column-preserved g c =
    column_passed (g.D.DocReader.document c.args.tables.now) c.args.table.now c.args.id.now c.loop-column.index c.loop-column.invariant c.in-Some.column.now c.in-Some.ensures.told
    (sym (ap (λ n. bytes_eq n c.args.id.now) c.as_str.ensures.value) ∙ sym c.eq.ensures ∙ c.if-eq.false)

pub returns : goal.returns
returns g c =
    column_absent (g.D.DocReader.document c.args.tables.now) c.args.table.now c.args.id.now c.loop-column.index c.loop-column.invariant c.in_default.ensures.told
