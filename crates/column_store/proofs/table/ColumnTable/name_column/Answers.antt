use Rattle.std.proofs.Common.{List, length, ◌≡◌, ap, ◌∙◌, arith}
use Rattle.doc_model.specs.Apply.{with_name}
use Rattle.doc_model.specs.Document.{Table}
use Rattle.column_store.proofs.ReshapeLaws.{place_within, put_found}
use Rattle.column_store.proofs.table.ColumnTable.name_column.Goals as goal

pub index-requires : goal.index-requires
index-requires c =
    place_within c.args.self.now c.args.id.now c.place_of-index.result _ c.self.inside.columns.items c.requires.there c.place_of-index.ensures (ap (λ (t : Table). t.grid.columns) c.self.view_is) c.self.inside.columns.ok.0

pub returns-clause-ok : goal.returns-clause-ok
returns-clause-ok c =
    c.put_column.ensures.ok
    ∙ put_found c.args.self.now c.args.id.now (with_name c.args.new.now) c.place_of-index.result c.index.result.now c.in_ok-column.column c.self.inside.columns.items c.requires.grid c.requires.there
    c.place_of-index.ensures (ap (λ (t : Table). t.grid.columns) c.self.view_is) c.index.ensures c.in_ok-column.ensures
