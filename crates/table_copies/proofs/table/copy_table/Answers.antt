use Rattle.std.proofs.Common.{Some, map, subst, sym, ap, ◌∙◌}
use Rattle.std.specs.Option.{option_map}
use Rattle.doc_model.specs.declared.column.ColDef.{ColDef}
use Rattle.doc_model.specs.ByIds.{find_id}
use Rattle.doc_model.specs.Column.{column_id}
use Rattle.doc_model.specs.Document.{table_id}
use Rattle.doc_model.specs.Grid.{cell}
use Rattle.doc_readers.specs.Parts.{grid_at}
use Rattle.table_copies.specs.Copies.{without_row}
use Rattle.table_copies.proofs.TableLemmas.{Copied, copied}
use Rattle.table_copies.proofs.table.copy_table.Goals as goal

pub invariant_of-result : goal.invariant_of-result
invariant_of-result g c =
    let s = g.D.DocReader.document c.args.tables.now in
    let id = c.in-Some.id.now in
    let rows = c.in_ok-rows.rows.items in
    let of_id = copied s id c.in_ok-columns.columns.items c.requires rows (c.in-Some-rows.ensures.told ∙ ap Some (sym c.in_ok-rows.ensures.items)) c.in_ok-columns.ensures.columns
    (c.in_ok-columns.ensures.cells ∙ ap (λ rs. map (λ (d : ColDef). map (cell column_id (grid_at s id) (column_id d)) rs) (grid_at s id).columns) c.as_slice.ensures.value) in
    let of_name : Copied s c.in_ok-id.id c.in_ok-columns.columns.items rows = subst (λ i. Copied s i c.in_ok-columns.columns.items rows) (sym c.in_ok-id.ensures) of_id in
    (of_name.laid_out, of_name.filled)

pub returns : goal.returns
returns g c =
    let s = g.D.DocReader.document c.args.tables.now in
    let id = c.in-Some.id.now in
    let rows = c.in_ok-rows.rows.items in
    let of_id = copied s id c.in_ok-columns.columns.items c.requires rows (c.in-Some-rows.ensures.told ∙ ap Some (sym c.in_ok-rows.ensures.items)) c.in_ok-columns.ensures.columns
    (c.in_ok-columns.ensures.cells ∙ ap (λ rs. map (λ (d : ColDef). map (cell column_id (grid_at s id) (column_id d)) rs) (grid_at s id).columns) c.as_slice.ensures.value) in
    let of_name : Copied s c.in_ok-id.id c.in_ok-columns.columns.items rows = subst (λ i. Copied s i c.in_ok-columns.columns.items rows) (sym c.in_ok-id.ensures) of_id in
    ap (λ i. option_map without_row (find_id table_id i s)) (sym (c.in_ok-id.ensures ∙ c.in-Some.ensures)) ∙ of_name.from
