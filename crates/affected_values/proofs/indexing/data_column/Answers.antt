use Rattle.std.proofs.Common.{◌∙◌, sym, ap}
use Rattle.doc_model.specs.ByIds.{find_id}
use Rattle.doc_model.specs.Column.{column_id}
use Rattle.doc_model.proofs.ByIdsLaws.{found_id}
use Rattle.doc_readers.specs.Parts.{grid_at}
use Rattle.affected_values.proofs.indexing.data_column.Goals as goal

pub returns : goal.returns
returns g c =
    let ds = (grid_at (g.D.DocReader.document c.args.tables.now) c.args.table.now).columns in
    let name = found_id column_id c.args.column.now ds c.in_ok-found.found.now (sym c.in_ok-found.ensures) in
    record {
      there = c.in_ok-found.ensures ∙ ap (λ n. find_id column_id n ds) (sym name);
      plain = c.if-found.false;
      named = name;
    }
