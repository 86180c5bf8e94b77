use Rattle.std.proofs.Common.{◌∙◌, sym, ap, subst}
use Rattle.doc_model.specs.ByIds.{find_id}
use Rattle.doc_model.specs.Column.{column_id}
use Rattle.doc_model.proofs.ByIdsLaws.{found_id}
use Rattle.doc_readers.specs.Parts.{grid_at}
use Rattle.recalc.specs.Evaluated.{sheet_of}
use Rattle.recalc.specs.Indexes.{AreIndexes}
use Rattle.recalc.proofs.FilledIndexes.{index_named, indexed_more}
use Rattle.recalc.proofs.indexes.index_column.Goals as goal

pub index_of-requires-clause-there : goal.index_of-requires-clause-there
index_of-requires-clause-there g c =
    let ds = (grid_at (g.D.DocReader.document c.args.tables.now) c.args.table.now).columns in
    c.in-Some.ensures ∙ ap (λ n. find_id column_id n ds) (sym (found_id column_id c.args.column.now ds c.in-Some.found.now (sym c.in-Some.ensures)))

pub returns : goal.returns
returns g c =
    let s = sheet_of (g.D.DocReader.document c.args.tables.now) in
    let made = c.in_ok-column_index.field-0 in
    let named = c.in_ok-column_index.ensures in
    subst (λ l. AreIndexes s l) (sym c.in_ok-push.ensures.items)
    (indexed_more s c.args.indexes.now.items made c.requires
    (index_named s c.args.table.now c.in-Some.found.now.id c.in-Some-2.index made named.0 named.1 named.2 (rw c.in-Some-2.is at c.in_ok-index.ensures)))
