use Rattle.std.proofs.Common.{ℕ, List, Vec, insert, length, ◌≡◌, sym, ap, subst, ◌∙◌}
use Rattle.std.specs.Global.{Global}
use Rattle.cell_types.specs.declared.value.CellValue.{CellValue}
use Rattle.row_tables.proofs.AddedLaws.{map-insert}
use Rattle.column_store.specs.Crossed.{HaveHeight, Rows, all_items, crossed, insert_beside}
use Rattle.column_store.proofs.ColumnLaws.{beside_crossed, each_insert}
use Rattle.column_store.proofs.CrossedLaws.{length_crossed}
use Rattle.column_store.proofs.FrontLaws.{room_none}
use Rattle.column_store.proofs.columns.CellColumns.put_column.Goals as goal

-- the columns with the one put in
put : (at : ℕ) (cells : Vec CellValue Global) (before moved after : List (Vec CellValue Global)) → after ≡ insert moved at cells → moved ≡ before → all_items after ≡ insert (all_items before) at cells.items
put at cells before moved after e same = ap all_items (e ∙ ap (λ cols. insert cols at cells) same) ∙ map-insert (λ (v : Vec CellValue Global). v.items) before at cells

pub invariant_of-self : goal.invariant_of-self
invariant_of-self c =
    let h : ℕ = c.self.inside.height in
    let cols : List (Vec CellValue Global) = c.self.inside.columns.items in
    let high : length c.args.cells.items ≡ h = c.requires.height ∙ sym (ap (λ (r : Rows). length r.rows) c.self.view_is) ∙ length_crossed h (all_items cols) in (
      subst (HaveHeight h) (sym (put c.args.index c.args.cells cols c.move_to.new.items.items c.insert_reserved.new.items.items c.insert_reserved.ensures.items c.move_to.ensures.items))
          (each_insert (λ v. length v ≡ h) (all_items cols) c.args.index c.args.cells.items c.self.invariant.0 high),
      room_none c.insert_reserved.new.items.items,
    )

pub returns-clause-rows : goal.returns-clause-rows
returns-clause-rows c =
    let h : ℕ = c.self.inside.height in
    let cols : List (Vec CellValue Global) = c.self.inside.columns.items in
    let high : length c.args.cells.items ≡ h = c.requires.height ∙ sym (ap (λ (r : Rows). length r.rows) c.self.view_is) ∙ length_crossed h (all_items cols) in
    ap (crossed h) (put c.args.index c.args.cells cols c.move_to.new.items.items c.insert_reserved.new.items.items c.insert_reserved.ensures.items c.move_to.ensures.items)
    ∙ beside_crossed h c.args.index c.args.cells.items (all_items cols) high
    ∙ ap (λ (r : Rows). insert_beside c.args.index c.args.cells.items r.rows) c.self.view_is
