use Rattle.std.proofs.Common.{◌≡◌, ◌∙◌, ◌++◌, ap, subst, sym}
use Rattle.std.specs.Prelude.{OnOk}
use Rattle.std.proofs.lemmas.List.{append-nil}
use Rattle.doc_readers.specs.Parts.{grid_at}
use Rattle.recalc.specs.Lost.{cells_at}
use Rattle.recalc.proofs.LosingCells.{column_computed, column_left, column_written}
use Rattle.recalc.proofs.watched.push_column.Goals as goal

pub returns-then-is_computed_in : goal.returns-then-is_computed_in
returns-then-is_computed_in g c =
    let v = g.R.DocReader.document c.args.doc.now in
    let t = c.args.table.now in
    subst (λ l. OnOk c.push_cells.result (c.push_cells.new.cells.items ≡ c.args.cells.now.items ++ l))
    (ap (cells_at t (grid_at v t) c.args.column.now) c.rows_in.ensures.value
    ∙ sym (column_computed v c.args.action.now t c.args.column.now (sym c.is_computed_in.ensures ∙ c.if-is_computed_in.true) (grid_at v t).rows))
    c.push_cells.ensures

pub returns-then-may_lose_column : goal.returns-then-may_lose_column
returns-then-may_lose_column g c =
    let v = g.R.DocReader.document c.args.doc.now in
    let t = c.args.table.now in
    subst (λ l. OnOk c.push_cells-then-may_lose_column.result (c.push_cells-then-may_lose_column.new.cells.items ≡ c.args.cells.now.items ++ l))
    (ap (cells_at t (grid_at v t) c.args.column.now) c.requires.touched
    ∙ sym (column_written v c.args.action.now t c.args.column.now (sym c.is_computed_in.ensures ∙ c.if-is_computed_in.false) (sym c.may_lose_column.ensures ∙ c.if-may_lose_column.true) (grid_at v t).rows))
    c.push_cells-then-may_lose_column.ensures

pub returns : goal.returns
returns g c =
    let v = g.R.DocReader.document c.args.doc.now in
    let t = c.args.table.now in
    sym (append-nil c.args.cells.now.items)
    ∙ ap (λ l. c.args.cells.now.items ++ l) (sym (column_left v c.args.action.now t c.args.column.now (sym c.is_computed_in.ensures ∙ c.if-is_computed_in.false) (sym c.may_lose_column.ensures ∙ c.if-may_lose_column.false) (grid_at v t).rows))
