-- Items of lists, on a desk and off it.
use Rattle.std.proofs.Common.{◌≡◌, ◌≤◌, ◌<◌, ◌+◌, ◌-◌, ◌++◌, ◌∙◌, arith, ap, sym, subst, refl, ℕ, true, false, List, [], ◌∷◌, length, take, drop, slice_set, Some, None}
use Rattle.std.proofs.lemmas.List.{take-set, drop-set}
use Rattle.cell_types.specs.declared.value.CellItem.{CellItem}
use Rattle.cell_types.specs.declared.value.CellItem.TheVariants as item
use Rattle.cell_types.specs.declared.value.CellValue.{CellValue}
use Rattle.cell_types.specs.declared.value.CellValue.TheVariants as value
use Rattle.cell_types.specs.Item.{value_of_item}
use Rattle.value_ops.specs.Equality.{is_equal, is_equal_but_lists}
use Rattle.acl_formula.specs.declared.operand.Operand.{Operand}
use Rattle.acl_formula.specs.declared.operand.Operand.TheVariants as operand
use Rattle.acl_formula.specs.declared.operand.Part.{Part}
use Rattle.acl_formula.specs.declared.operand.Part.TheVariants as part
use Rattle.acl_formula.specs.Desk.{between, item_in, items_in, seen, lent}
use Rattle.acl_formula.specs.DeskRules.{ArePieces, IsGoodItem, AreGood, IsGood, IsLent, StartsAt, end_of}
use Rattle.acl_formula.specs.DeskText.{is_item}
use Rattle.acl_formula.specs.RuleValue.{item_list}
use Rattle.acl_formula.proofs.DeskLemmas.{between_add, items_append, good_append, good_item_more, pieces_no_items, pieces_good}
use Rattle.acl_formula.proofs.DeskKept.{between_kept, end_from, item_kept, good_item_kept}

module _ (desk : List Part) where
  -- an item of a list is the value that it was made of
  pub seen_item : (bound : ℕ) (v : Operand) → IsGoodItem desk bound v → seen desk v ≡ value_of_item (item_in desk v)
  seen_item bound operand.Null g = refl
  seen_item bound (operand.Int n) g = refl
  seen_item bound (operand.Bool b) g = refl
  seen_item bound (operand.Date n) g = refl
  seen_item bound (operand.Rec r) g = refl
  seen_item bound (operand.Set s) g = absurd g
  seen_item bound (operand.Text t) g = refl
  seen_item bound (operand.Joined from to len) g = refl
  seen_item bound (operand.List is) g = absurd g
  seen_item bound (operand.Listed from to len) g = absurd g
  seen_item bound operand.Censored g = absurd g

  pub good_item : (v : Operand) → IsGoodItem desk (length desk) v → IsGood desk v
  good_item operand.Null g = tt
  good_item (operand.Int n) g = tt
  good_item (operand.Bool b) g = tt
  good_item (operand.Date n) g = tt
  good_item (operand.Rec r) g = tt
  good_item (operand.Set s) g = absurd g
  good_item (operand.Text t) g = tt
  good_item (operand.Joined from to len) g = g
  good_item (operand.List is) g = absurd g
  good_item (operand.Listed from to len) g = absurd g
  good_item operand.Censored g = absurd g

  -- what lies on no desk is the same beside any
  pub seen_lent : (v : Operand) → IsLent v → seen desk v ≡ lent v
  seen_lent operand.Null g = refl
  seen_lent (operand.Int n) g = refl
  seen_lent (operand.Bool b) g = refl
  seen_lent (operand.Date n) g = refl
  seen_lent (operand.Rec r) g = refl
  seen_lent (operand.Set s) g = refl
  seen_lent (operand.Text t) g = refl
  seen_lent (operand.Joined from to len) g = absurd g
  seen_lent (operand.List is) g = refl
  seen_lent (operand.Listed from to len) g = absurd g
  seen_lent operand.Censored g = refl

  pub good_lent : (v : Operand) → IsLent v → IsGood desk v
  good_lent operand.Null g = tt
  good_lent (operand.Int n) g = tt
  good_lent (operand.Bool b) g = tt
  good_lent (operand.Date n) g = tt
  good_lent (operand.Rec r) g = tt
  good_lent (operand.Set s) g = tt
  good_lent (operand.Text t) g = tt
  good_lent (operand.Joined from to len) g = absurd g
  good_lent (operand.List is) g = tt
  good_lent (operand.Listed from to len) g = absurd g
  good_lent operand.Censored g = tt

  -- a value that may be an item
  pub item_listed : (bound : ℕ) (v : Operand) → IsGoodItem desk bound v → item_list (Some (seen desk v)) ≡ Some (item_in desk v ∷ [])
  item_listed bound operand.Null g = refl
  item_listed bound (operand.Int n) g = refl
  item_listed bound (operand.Bool b) g = refl
  item_listed bound (operand.Date n) g = refl
  item_listed bound (operand.Rec r) g = refl
  item_listed bound (operand.Set s) g = absurd g
  item_listed bound (operand.Text t) g = refl
  item_listed bound (operand.Joined from to len) g = refl
  item_listed bound (operand.List is) g = absurd g
  item_listed bound (operand.Listed from to len) g = absurd g
  item_listed bound operand.Censored g = absurd g

  -- and one that may not
  pub not_listed : (v : Operand) → is_item v ≡ false → None ≡ item_list (Some (seen desk v))
  not_listed operand.Null e = cc
  not_listed (operand.Int n) e = cc
  not_listed (operand.Bool b) e = cc
  not_listed (operand.Date n) e = cc
  not_listed (operand.Rec r) e = cc
  not_listed (operand.Set s) e = refl
  not_listed (operand.Text t) e = cc
  not_listed (operand.Joined from to len) e = cc
  not_listed (operand.List is) e = refl
  not_listed (operand.Listed from to len) e = refl
  not_listed operand.Censored e = refl

  good_from : (at : ℕ) (v : Operand) → IsGood desk v → is_item v ≡ true → IsGoodItem desk (end_of at v) v
  good_from at operand.Null g e = tt
  good_from at (operand.Int n) g e = tt
  good_from at (operand.Bool b) g e = tt
  good_from at (operand.Date n) g e = tt
  good_from at (operand.Rec r) g e = tt
  good_from at (operand.Set s) g e = cc
  good_from at (operand.Text t) g e = tt
  good_from at (operand.Joined from to len) g e = (g.0, omega arith, g.2, g.3, g.4)
  good_from at (operand.List is) g e = cc
  good_from at (operand.Listed from to len) g e = cc
  good_from at operand.Censored g e = cc

  nothing_between : (at : ℕ) → ArePieces (between at at desk)
  nothing_between at = let none : at - at ≡ 0 = omega arith in subst (λ n. ArePieces (take n (drop at desk))) (sym none) tt

  -- what a value that may be an item has joined is pieces
  pieces_of : (at : ℕ) (v : Operand) → IsGood desk v → StartsAt at v → is_item v ≡ true → ArePieces (between at (end_of at v) desk)
  pieces_of at operand.Null g s e = nothing_between at
  pieces_of at (operand.Int n) g s e = nothing_between at
  pieces_of at (operand.Bool b) g s e = nothing_between at
  pieces_of at (operand.Date n) g s e = nothing_between at
  pieces_of at (operand.Rec r) g s e = nothing_between at
  pieces_of at (operand.Set r) g s e = cc
  pieces_of at (operand.Text t) g s e = nothing_between at
  pieces_of at (operand.Joined from to len) g s e = subst (λ n. ArePieces (between n to desk)) s g.4
  pieces_of at (operand.List is) g s e = cc
  pieces_of at (operand.Listed from to len) g s e = cc
  pieces_of at operand.Censored g s e = cc

-- an item that was put down behind what it is made of
module _ (old : List Part) (at place : ℕ) (v : Operand) (good : IsGood old v) (starts : StartsAt at v) (is : is_item v ≡ true) (e : place ≡ end_of at v) (h : place < length old) where
  abbrev new : List Part
  new = slice_set old place (part.Item v)

  front : take place old ≡ take place new
  front = sym (take-set old place (part.Item v))

  from : at ≤ place
  from = omega (arith, e, end_from old at v good starts)

  pieces : ArePieces (between at place old)
  pieces = subst (λ n. ArePieces (between at n old)) (sym e) (pieces_of old at v good starts is)

  good_old : IsGoodItem old place v
  good_old = subst (λ n. IsGoodItem old n v) (sym e) (good_from old at v good is)

  single : between place (place + 1) new ≡ part.Item v ∷ []
  single =
      let one : (place + 1) - place ≡ 1 = omega arith in
      rw (one, drop-set old place (part.Item v) h) refl

  whole : between at (place + 1) new ≡ between at place old ++ part.Item v ∷ []
  whole =
      between_add new at place (place + 1) from (omega arith)
      ∙ (λ i. between_kept at place place new old from (omega arith) (sym front) i ++ single i)

  items : items_in new (between at (place + 1) new) ≡ item_in old v ∷ []
  items =
      ap (items_in new) whole
      ∙ items_append new (between at place old) (part.Item v ∷ [])
      ∙ ap (λ (is : List CellItem). is ++ (item_in new v ∷ [])) (pieces_no_items new (between at place old) pieces)
      ∙ ap (λ (i : CellItem). i ∷ []) (item_kept place old new front place v good_old (omega arith))

  pub item_put : Some (items_in new (between at (place + 1) new)) ≡ item_list (Some (seen old v))
  item_put = ap (λ (is : List CellItem). Some is) items ∙ sym (item_listed old place v good_old)

  pub good_put : AreGood new (place + 1) (between at (place + 1) new)
  good_put =
      let good_new : IsGoodItem new (place + 1) v = good_item_more new place (place + 1) v (omega arith) (good_item_kept place old new front place v good_old (omega arith)) in
      subst (AreGood new (place + 1)) (sym whole)
      (good_append new (place + 1) (between at place old) (part.Item v ∷ []) (pieces_good new (place + 1) (between at place old) pieces) (good_new, tt))

-- an item of a list is a value like others, but no list
pub equal_to_item : (v : CellValue) (i : CellItem) → is_equal v (value_of_item i) ≡ is_equal_but_lists v (value_of_item i)
equal_to_item value.Null i = refl
equal_to_item (value.Int n) i = refl
equal_to_item (value.Bool b) i = refl
equal_to_item (value.Text t) i = refl
equal_to_item (value.Date n) i = refl
equal_to_item (value.Rec r) i = refl
equal_to_item (value.RecSet s) i = refl
equal_to_item (value.List is) item.Null = refl
equal_to_item (value.List is) (item.Int n) = refl
equal_to_item (value.List is) (item.Bool b) = refl
equal_to_item (value.List is) (item.Text t) = refl
equal_to_item (value.List is) (item.Date n) = refl
equal_to_item (value.List is) (item.Rec r) = refl
equal_to_item (value.Err e) i = refl
equal_to_item value.Censored i = refl
