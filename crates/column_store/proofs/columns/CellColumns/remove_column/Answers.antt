use Rattle.std.proofs.Common.{ℕ, List, [], Vec, get_or, map, length, ◌≡◌, ◌<◌, sym, ap, subst, ◌∙◌, arith}
use Rattle.std.proofs.lemmas.List.{get_or_default}
use Rattle.std.specs.Global.{Global}
use Rattle.std.specs.List.{remove}
use Rattle.cell_types.specs.declared.value.CellValue.{CellValue}
use Rattle.row_tables.proofs.TakenLaws.{map-remove}
use Rattle.column_store.specs.Crossed.{HaveHeight, Rows, all_items, crossed, insert_beside}
use Rattle.column_store.proofs.ColumnLaws.{back_crossed, each_remove, out_crossed}
use Rattle.column_store.proofs.CrossedLaws.{column_height, items_at, len_map, length_crossed}
use Rattle.column_store.proofs.FrontLaws.{room_none}
use Rattle.column_store.proofs.columns.CellColumns.remove_column.Goals as goal

-- what is left of the columns
left : (j : ℕ) (before after : List (Vec CellValue Global)) → after ≡ remove before j → all_items after ≡ remove (all_items before) j
left j before after e = ap all_items e ∙ map-remove (λ (v : Vec CellValue Global). v.items) before j

-- what stood there
stood : (n j : ℕ) (cols : List (Vec CellValue Global)) (v : Vec CellValue Global) → HaveHeight n (all_items cols) → j < length cols → v ≡ get_or cols j v → (length v.items ≡ n) × (j < length (all_items cols)) × (v.items ≡ get_or (all_items cols) j v.items)
stood n j cols v h l is =
    let all : length (all_items cols) ≡ length cols = len_map (λ (u : Vec CellValue Global). u.items) cols in
    let read : v.items ≡ get_or (all_items cols) j [] = ap (λ (u : Vec CellValue Global). u.items) is ∙ sym (items_at cols j v l) in
    let within : j < length (all_items cols) = omega arith in
    (ap length read ∙ column_height n (all_items cols) j h within, within, read ∙ get_or_default (all_items cols) j [] v.items within)

pub invariant_of-self : goal.invariant_of-self
invariant_of-self c =
    let h : ℕ = c.self.inside.height in
    let cols : List (Vec CellValue Global) = c.self.inside.columns.items in (
      subst (HaveHeight h) (sym (left c.args.index cols c.remove.new.self.items c.remove.ensures.items))
          (each_remove (λ v. length v ≡ h) (all_items cols) c.args.index c.self.invariant.0),
      room_none c.remove.new.self.items,
    )

pub returns-clause-rows : goal.returns-clause-rows
returns-clause-rows c =
    let h : ℕ = c.self.inside.height in
    let cols : List (Vec CellValue Global) = c.self.inside.columns.items in
    ap (crossed h) (left c.args.index cols c.remove.new.self.items c.remove.ensures.items)
    ∙ out_crossed h c.args.index (all_items cols)
    ∙ ap (λ (r : Rows). map (λ row. remove row c.args.index) r.rows) c.self.view_is

pub returns-clause-back : goal.returns-clause-back
returns-clause-back c =
    let h : ℕ = c.self.inside.height in
    let cols : List (Vec CellValue Global) = c.self.inside.columns.items in
    let wide : length cols ≡ c.args.self.now.width = ap (λ (r : Rows). r.width) c.self.view_is in
    let lt = c.requires in
    let there = stood h c.args.index cols c.remove.result c.self.invariant.0 (omega arith) c.remove.ensures.value in
    ap (λ cs. insert_beside c.args.index c.remove.result.items (crossed h cs)) (left c.args.index cols c.remove.new.self.items c.remove.ensures.items)
    ∙ back_crossed h c.args.index c.remove.result.items (all_items cols) there.0 there.1 there.2
    ∙ ap (λ (r : Rows). r.rows) c.self.view_is

pub returns-clause-height : goal.returns-clause-height
returns-clause-height c =
    let h : ℕ = c.self.inside.height in
    let cols : List (Vec CellValue Global) = c.self.inside.columns.items in
    let wide : length cols ≡ c.args.self.now.width = ap (λ (r : Rows). r.width) c.self.view_is in
    let lt = c.requires in
    let there = stood h c.args.index cols c.remove.result c.self.invariant.0 (omega arith) c.remove.ensures.value in
    there.0 ∙ sym (length_crossed h (all_items cols)) ∙ ap (λ (r : Rows). length r.rows) c.self.view_is
