use Rattle.std.proofs.Common.{List, IfSome, map, length, ◌≡◌, sym, ap, subst, ◌∙◌, arith}
use Rattle.std.specs.List.{position}
use Rattle.std.specs.Str.{bytes_eq}
use Rattle.doc_model.specs.declared.column.ColDef.{ColDef}
use Rattle.doc_model.specs.Column.{column_id}
use Rattle.doc_model.specs.Document.{Table}
use Rattle.row_tables.specs.InPlace.{id_index}
use Rattle.column_store.proofs.CrossedLaws.{len_map}
use Rattle.column_store.proofs.PlaceLaws.{index_of_id, position_found, position_absent}
use Rattle.column_store.proofs.table.ColumnTable.place_of.Goals as goal

pub returns-in-Some-place : goal.returns-in-Some-place
returns-in-Some-place c =
    let cols : List ColDef = c.self.inside.columns.items in
    let known = subst (λ o. IfSome o (λ p. p ≡ map column_id cols)) c.in-Some.is c.self.invariant.1 in
    position_found (bytes_eq c.args.id.now) (map column_id cols) c.in-Some-place.place (c.in-Some-place.ensures ∙ ap (position (bytes_eq c.args.id.now)) known)
    ∙ index_of_id c.args.id.now cols
    ∙ ap (λ (t : Table). id_index c.args.id.now t.grid.columns) c.self.view_is

pub returns-in-None : goal.returns-in-None
returns-in-None c =
    let cols : List ColDef = c.self.inside.columns.items in
    let known = subst (λ o. IfSome o (λ p. p ≡ map column_id cols)) c.in-Some.is c.self.invariant.1 in
    let all : length (map column_id cols) ≡ length cols = len_map column_id cols in
    let len : c.len.result ≡ length cols = omega (arith, c.len.ensures, c.self.inside.columns.ok.0) in
    len ∙ sym all
    ∙ position_absent (bytes_eq c.args.id.now) (map column_id cols) (c.in-None.ensures ∙ ap (position (bytes_eq c.args.id.now)) known)
    ∙ index_of_id c.args.id.now cols
    ∙ ap (λ (t : Table). id_index c.args.id.now t.grid.columns) c.self.view_is
