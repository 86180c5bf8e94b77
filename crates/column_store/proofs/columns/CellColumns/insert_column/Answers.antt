use Rattle.std.proofs.Common.{ℕ, List, Vec, insert, length, ◌≡◌, sym, ap, subst, ◌∙◌}
use Rattle.std.specs.Global.{Global}
use Rattle.cell_types.specs.declared.value.CellValue.{CellValue}
use Rattle.row_tables.proofs.AddedLaws.{map-insert}
use Rattle.column_store.specs.Crossed.{HaveHeight, Rows, all_items, crossed, insert_beside}
use Rattle.column_store.proofs.ColumnLaws.{beside_crossed, each_insert}
use Rattle.column_store.proofs.CrossedLaws.{length_crossed}
use Rattle.column_store.proofs.FrontLaws.{room_none}
use Rattle.column_store.proofs.columns.CellColumns.insert_column.Goals as goal

pub invariant_of-self-2 : goal.invariant_of-self-2
invariant_of-self-2 c =
    let h : ℕ = c.self.inside.height in
    let cols : List (Vec CellValue Global) = c.self.inside.columns.items in
    let high : length c.args.cells.items ≡ h = c.requires.height ∙ sym (ap (λ (r : Rows). length r.rows) c.self.view_is) ∙ length_crossed h (all_items cols) in (
      subst (HaveHeight h) (sym (ap all_items c.in_ok-insert.ensures.items ∙ map-insert (λ (v : Vec CellValue Global). v.items) cols c.args.index c.args.cells))
          (each_insert (λ v. length v ≡ h) (all_items cols) c.args.index c.args.cells.items c.self.invariant.0 high),
      room_none c.insert.new.self.items,
    )

pub returns-clause-rows : goal.returns-clause-rows
returns-clause-rows c =
    let h : ℕ = c.self.inside.height in
    let cols : List (Vec CellValue Global) = c.self.inside.columns.items in
    let high : length c.args.cells.items ≡ h = c.requires.height ∙ sym (ap (λ (r : Rows). length r.rows) c.self.view_is) ∙ length_crossed h (all_items cols) in
    ap (crossed h) (ap all_items c.in_ok-insert.ensures.items ∙ map-insert (λ (v : Vec CellValue Global). v.items) cols c.args.index c.args.cells)
    ∙ beside_crossed h c.args.index c.args.cells.items (all_items cols) high
    ∙ ap (λ (r : Rows). insert_beside c.args.index c.args.cells.items r.rows) c.self.view_is
