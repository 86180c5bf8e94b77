use Rattle.std.proofs.Common.{ap, subst, sym}
use Rattle.std.specs.Global.{Global}
use Rattle.std.specs.Prelude.{Vec}
use Rattle.recalc.specs.declared.indexes.ColumnIndex.{ColumnIndex}
use Rattle.recalc.specs.Evaluated.{sheet_of}
use Rattle.recalc.specs.Indexes.{AreIndexes}
use Rattle.known_reads.proofs.ListedLemmas.{on_ok}
use Rattle.known_reads.proofs.levels.settle_listed.Goals as goal

pub returns : goal.returns
returns g c = record {
  walked = c.settle_rows.ensures.walked;
  indexed = on_ok c.settle_rows.result _
      (subst (AreIndexes (sheet_of (g.D.DocReader.document c.args.tables.now))) (sym (ap (λ (v : Vec ColumnIndex Global). v.items) c.settle_rows.ensures.indexes)) c.in_ok-index_formula.ensures);
}
