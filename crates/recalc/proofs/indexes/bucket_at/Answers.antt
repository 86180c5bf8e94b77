use Rattle.std.proofs.Common.{◌∙◌, sym, ap}
use Rattle.lookup_index.specs.Buckets.{bucket_of}
use Rattle.recalc.proofs.FilledIndexes.{told_base}
use Rattle.recalc.proofs.indexes.bucket_at.Goals as goal

pub returns : goal.returns
returns g c = record {
  value = c.in-Some.value.now;
  told = told_base (g.D.DocReader.document c.args.tables.now) c.args.table.now c.args.column.now.id c.args.row c.in-Some.value.now c.in-Some.ensures;
  plain = sym c.is_error.ensures ∙ c.if-is_error.false;
  of_value = c.bucket_of.ensures ∙ ap bucket_of c.in_ok-read.ensures;
}
