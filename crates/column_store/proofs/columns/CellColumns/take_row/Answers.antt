use Rattle.std.proofs.Common.{ℕ, suc, List, [], get_or, length, map, ◌≡◌, ◌<◌, ◌-◌, sym, ap, subst, ◌∙◌, arith}
use Rattle.std.specs.List.{AllByRecursion, remove}
use Rattle.cell_types.specs.declared.value.CellValue.{CellValue}
use Rattle.doc_model.proofs.Choices.{each_weaker}
use Rattle.column_store.specs.Crossed.{HaveHeight, Rows, all_items, crossed}
use Rattle.column_store.proofs.CrossedLaws.{get_crossed, length_crossed, remove_crossed, remove_height}
use Rattle.column_store.proofs.FrontLaws.{room_none}
use Rattle.column_store.proofs.columns.CellColumns.take_row.Goals as goal

-- a row stands at the index
below : (h p : ℕ) (rows : List (List CellValue)) (cols : List (List CellValue)) → crossed h cols ≡ rows → p < length rows → p < h
below h p rows cols e l = let high : length rows ≡ h = sym (ap length e) ∙ length_crossed h cols in omega arith

pub take_each-requires-clause-height : goal.take_each-requires-clause-height
take_each-requires-clause-height c =
    let h : ℕ = c.self.inside.height in
    let cols : List (List CellValue) = all_items c.self.inside.columns.items in
    let lt : c.args.index < h = below h c.args.index c.args.self.now.rows cols (ap (λ (r : Rows). r.rows) c.self.view_is) c.requires.within in
    each_weaker (λ v. length v ≡ h) (λ v. c.args.index < length v) (λ v e. let n : length v ≡ h = e in omega arith) cols c.self.invariant.0

pub returns-clause-cells : goal.returns-clause-cells
returns-clause-cells c =
    let h : ℕ = c.self.inside.height in
    let cols : List (List CellValue) = all_items c.self.inside.columns.items in
    let lt : c.args.index < h = below h c.args.index c.args.self.now.rows cols (ap (λ (r : Rows). r.rows) c.self.view_is) c.requires.within in
    c.take_each.ensures.cells ∙ sym (get_crossed h cols c.args.index lt) ∙ ap (λ (r : Rows). get_or r.rows c.args.index []) c.self.view_is

pub returns-clause-rows : goal.returns-clause-rows
returns-clause-rows c =
    let h : ℕ = c.self.inside.height in
    let n : ℕ = h - 1 in
    let cols : List (List CellValue) = all_items c.self.inside.columns.items in
    let lt : c.args.index < h = below h c.args.index c.args.self.now.rows cols (ap (λ (r : Rows). r.rows) c.self.view_is) c.requires.within in
    let tall : h ≡ suc n = omega arith in
    ap (crossed n) c.take_each.ensures.columns
    ∙ remove_crossed n cols c.args.index (subst (λ k. HaveHeight k cols) tall c.self.invariant.0) (omega arith)
    ∙ ap (λ k. remove (crossed k cols) c.args.index) (sym tall)
    ∙ ap (λ (r : Rows). remove r.rows c.args.index) c.self.view_is

pub invariant_of-self : goal.invariant_of-self
invariant_of-self c =
    let h : ℕ = c.self.inside.height in
    let n : ℕ = h - 1 in
    let cols : List (List CellValue) = all_items c.self.inside.columns.items in
    let lt : c.args.index < h = below h c.args.index c.args.self.now.rows cols (ap (λ (r : Rows). r.rows) c.self.view_is) c.requires.within in
    let tall : h ≡ suc n = omega arith in (
      subst (HaveHeight n) (sym c.take_each.ensures.columns)
          (remove_height n c.args.index cols (subst (λ k. HaveHeight k cols) tall c.self.invariant.0) (omega arith)),
      room_none c.take_each.new.columns.items,
    )
