use Rattle.std.proofs.Common.{◌∙◌, ◌∷◌, ◌++◌, [], ap, sym, map, take}
use Rattle.std.proofs.lemmas.List.{map_more, map_push}
use Rattle.doc_readers.specs.Parts.{grid_at}
use Rattle.censored_view.specs.ReadRows.{read_told}
use Rattle.censored_view.specs.Readable.{row_of}
use Rattle.censored_view.proofs.read_rows.read_rows.Goals as goal

pub loop-row-preserved : goal.loop-row-preserved
loop-row-preserved g c =
    let told = read_told g.D.DocReader.document in
    let there = row_of (grid_at (g.D.DocReader.document c.args.tables.now) c.args.table.now) in (
      ap (map told) c.in_ok-push.ensures.items ∙ map_push told c.loop-row.read.items c.read_row.result
          ∙ ap (λ l. l ++ told c.read_row.result ∷ []) c.loop-row.invariant.0
          ∙ ap (λ v. map there (take c.loop-row.row-index c.args.rows.now) ++ v ∷ []) c.read_row.ensures
          ∙ sym (map_more there c.args.rows.now c.loop-row.row-index 0 c.loop-row-test.true),
      cc,
    )
