use Rattle.std.proofs.Common.{◌∙◌, sym}
use Rattle.doc_readers.specs.Parts.{grid_at}
use Rattle.recalc.proofs.LosingCells.{rows_all, rows_none}
use Rattle.recalc.proofs.touched.rows_of_table.Goals as goal

pub returns-then-is_adding : goal.returns-then-is_adding
returns-then-is_adding g c =
    c.new.ensures.items ∙ rows_none (g.R.DocReader.document c.args.doc.now) c.args.action.now c.args.id.now (sym c.is_adding.ensures ∙ c.if-is_adding.true) (grid_at (g.R.DocReader.document c.args.doc.now) c.args.id.now).rows

pub returns-then-may_lose_all : goal.returns-then-may_lose_all
returns-then-may_lose_all g c =
    let v = g.R.DocReader.document c.args.doc.now in
    c.in_ok-all.ensures.items ∙ c.rows_in-rows.ensures.value
    ∙ rows_all v c.args.action.now c.args.id.now (sym c.is_adding.ensures ∙ c.if-is_adding.false) (sym c.may_lose_all.ensures ∙ c.if-may_lose_all.true) (grid_at v c.args.id.now).rows
