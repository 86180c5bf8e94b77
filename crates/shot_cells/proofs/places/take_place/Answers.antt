use Rattle.std.proofs.Common.{◌∙◌}
use Rattle.shot_cells.specs.Places.{place_at}
use Rattle.shot_cells.proofs.PlaceLemmas.{none_taken, nothing_at, same_columns}
use Rattle.shot_cells.proofs.places.take_place.Goals as goal

pub returns-then-has_place : goal.returns-then-has_place
returns-then-has_place c = same_columns c.let_column_go.new.tables c.let_go.new.named c.let_go.ensures ∙ c.let_column_go.ensures ∙ c.remove_row.ensures

pub returns-else-has_place : goal.returns-else-has_place
returns-else-has_place c =
    let cell = c.args.cell.now in
    none_taken (place_at c.args.tables.now) cell (nothing_at (place_at c.args.tables.now cell.table cell.column cell.row) c.has_place.result c.has_place.ensures c.if-has_place.false)
