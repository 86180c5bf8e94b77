-- What stands on a desk when what lies behind it changes.
use Rattle.std.proofs.Common.{◌≡◌, ◌≤◌, ◌-◌, ◌++◌, ◌∙◌, arith, ap, sym, subst, refl, ℕ, List, [], ◌∷◌, length, take, drop, suc, zero, get_or}
use Rattle.cell_types.specs.declared.value.CellItem.{CellItem}
use Rattle.cell_types.specs.declared.value.CellItem.TheVariants as item
use Rattle.cell_types.specs.declared.value.CellValue.TheVariants as value
use Rattle.acl_formula.specs.declared.operand.Operand.{Operand}
use Rattle.acl_formula.specs.declared.operand.Operand.TheVariants as operand
use Rattle.acl_formula.specs.declared.operand.Part.{Part}
use Rattle.acl_formula.specs.declared.operand.Part.TheVariants as part
use Rattle.acl_formula.specs.Desk.{between, joined, item_in, items_of_part, items_in, seen}
use Rattle.acl_formula.specs.DeskRules.{ArePieces, LiesIn, IsGoodItem, IsGoodPart, AreGood, IsGood, IsDown, StartsAt, end_of}

abbrev Desk : Type 0
Desk = List Part

pub take_less : (a n : ℕ) (xs ys : Desk) → a ≤ n → take n xs ≡ take n ys → take a xs ≡ take a ys
take_less zero n xs ys h e = refl
take_less (suc a) zero xs ys h e = absurd (omega (arith, h))
take_less (suc a) (suc n) [] [] h e = refl
take_less (suc a) (suc n) [] (y ∷ ys) h e = cc
take_less (suc a) (suc n) (x ∷ xs) [] h e = cc
take_less (suc a) (suc n) (x ∷ xs) (y ∷ ys) h e =
    let first : x ≡ y = ap (λ (l : Desk). get_or l 0 x) e in
    let rest : take a xs ≡ take a ys = take_less a n xs ys (omega (arith, h)) (ap (λ (l : Desk). drop 1 l) e) in
    λ i. first i ∷ rest i

take_nil : (n : ℕ) → ◌≡◌ {A = Desk} (take n []) []
take_nil zero = refl
take_nil (suc n) = refl

-- a range is what is left of a front
between_front : (from to : ℕ) (xs : Desk) → from ≤ to → between from to xs ≡ drop from (take to xs)
between_front zero to xs h = ap (λ n. take n xs) (omega (arith, h))
between_front (suc from) zero xs h = absurd (omega (arith, h))
between_front (suc from) (suc to) [] h = take_nil (suc to - suc from)
between_front (suc from) (suc to) (x ∷ xs) h = ap (λ n. take n (drop from xs)) (omega (arith, h)) ∙ between_front from to xs (omega (arith, h))

pub between_kept : (from to n : ℕ) (xs ys : Desk) → from ≤ to → to ≤ n → take n xs ≡ take n ys → between from to xs ≡ between from to ys
between_kept from to n xs ys h k e = between_front from to xs h ∙ ap (λ (l : Desk). drop from l) (take_less to n xs ys k e) ∙ sym (between_front from to ys h)

pub end_from : (desk : Desk) (at : ℕ) (v : Operand) → IsGood desk v → StartsAt at v → at ≤ end_of at v
end_from desk at operand.Null g s = omega arith
end_from desk at (operand.Int n) g s = omega arith
end_from desk at (operand.Bool b) g s = omega arith
end_from desk at (operand.Date n) g s = omega arith
end_from desk at (operand.Rec r) g s = omega arith
end_from desk at (operand.Set r) g s = omega arith
end_from desk at (operand.Text t) g s = omega arith
end_from desk at (operand.Joined from to len) g s = omega (arith, g.0, s)
end_from desk at (operand.List is) g s = omega arith
end_from desk at (operand.Listed from to len) g s = omega (arith, g.0, s)
end_from desk at operand.Censored g s = omega arith

module _ (n : ℕ) (xs ys : Desk) (e : take n xs ≡ take n ys) where
  lies_kept : (bound from to len : ℕ) → LiesIn xs bound from to len → bound ≤ n → LiesIn ys bound from to len
  lies_kept bound from to len g h =
      let same : between from to xs ≡ between from to ys = between_kept from to n xs ys g.0 (omega (arith, g.1, h)) e in
      (g.0, g.1, g.2 ∙ ap (λ (l : Desk). length (joined l)) same, g.3, subst ArePieces same g.4)

  pub item_kept : (bound : ℕ) (v : Operand) → IsGoodItem xs bound v → bound ≤ n → item_in ys v ≡ item_in xs v
  item_kept bound operand.Null g h = refl
  item_kept bound (operand.Int m) g h = refl
  item_kept bound (operand.Bool b) g h = refl
  item_kept bound (operand.Date m) g h = refl
  item_kept bound (operand.Rec r) g h = refl
  item_kept bound (operand.Set r) g h = refl
  item_kept bound (operand.Text t) g h = refl
  item_kept bound (operand.Joined from to len) g h =
      sym (ap (λ (l : Desk). item.Text (joined l)) (between_kept from to n xs ys g.0 (omega (arith, g.1, h)) e))
  item_kept bound (operand.List is) g h = refl
  item_kept bound (operand.Listed from to len) g h = refl
  item_kept bound operand.Censored g h = refl

  pub good_item_kept : (bound : ℕ) (v : Operand) → IsGoodItem xs bound v → bound ≤ n → IsGoodItem ys bound v
  good_item_kept bound operand.Null g h = tt
  good_item_kept bound (operand.Int m) g h = tt
  good_item_kept bound (operand.Bool b) g h = tt
  good_item_kept bound (operand.Date m) g h = tt
  good_item_kept bound (operand.Rec r) g h = tt
  good_item_kept bound (operand.Set r) g h = g
  good_item_kept bound (operand.Text t) g h = tt
  good_item_kept bound (operand.Joined from to len) g h = lies_kept bound from to len g h
  good_item_kept bound (operand.List is) g h = g
  good_item_kept bound (operand.Listed from to len) g h = g
  good_item_kept bound operand.Censored g h = g

  part_kept : (bound : ℕ) (p : Part) → IsGoodPart xs bound p → bound ≤ n → items_of_part ys p ≡ items_of_part xs p
  part_kept bound (part.Piece t) g h = refl
  part_kept bound (part.Item v) g h = ap (λ (i : CellItem). i ∷ []) (item_kept bound v g h)
  part_kept bound (part.Items is) g h = refl

  good_part_kept : (bound : ℕ) (p : Part) → IsGoodPart xs bound p → bound ≤ n → IsGoodPart ys bound p
  good_part_kept bound (part.Piece t) g h = tt
  good_part_kept bound (part.Item v) g h = good_item_kept bound v g h
  good_part_kept bound (part.Items is) g h = tt

  pub items_kept : (bound : ℕ) (ps : Desk) → AreGood xs bound ps → bound ≤ n → items_in ys ps ≡ items_in xs ps
  items_kept bound [] g h = refl
  items_kept bound (p ∷ ps) g h =
      let first = part_kept bound p g.0 h in
      let rest = items_kept bound ps g.1 h in
      λ i. first i ++ rest i

  pub are_good_kept : (bound : ℕ) (ps : Desk) → AreGood xs bound ps → bound ≤ n → AreGood ys bound ps
  are_good_kept bound [] g h = tt
  are_good_kept bound (p ∷ ps) g h = (good_part_kept bound p g.0 h, are_good_kept bound ps g.1 h)

  -- a list that lies between two places
  pub list_kept : (from to : ℕ) → from ≤ to → to ≤ n → AreGood xs to (between from to xs) → items_in ys (between from to ys) ≡ items_in xs (between from to xs)
  list_kept from to h k g =
      ap (λ (l : Desk). items_in ys l) (sym (between_kept from to n xs ys h k e)) ∙ items_kept to (between from to xs) g k

  pub list_good_kept : (from to : ℕ) → from ≤ to → to ≤ n → AreGood xs to (between from to xs) → AreGood ys to (between from to ys)
  list_good_kept from to h k g = subst (AreGood ys to) (between_kept from to n xs ys h k e) (are_good_kept to (between from to xs) g k)

  pub seen_kept : (at : ℕ) (v : Operand) → IsGood xs v → end_of at v ≤ n → seen ys v ≡ seen xs v
  seen_kept at operand.Null g h = refl
  seen_kept at (operand.Int m) g h = refl
  seen_kept at (operand.Bool b) g h = refl
  seen_kept at (operand.Date m) g h = refl
  seen_kept at (operand.Rec r) g h = refl
  seen_kept at (operand.Set r) g h = refl
  seen_kept at (operand.Text t) g h = refl
  seen_kept at (operand.Joined from to len) g h = sym (ap (λ (l : Desk). value.Text (joined l)) (between_kept from to n xs ys g.0 h e))
  seen_kept at (operand.List is) g h = refl
  seen_kept at (operand.Listed from to len) g h = ap (λ (is : List CellItem). value.List is) (list_kept from to g.0 h g.4)
  seen_kept at operand.Censored g h = refl

  pub good_kept : (at : ℕ) (v : Operand) → IsGood xs v → end_of at v ≤ n → length ys ≡ length xs → IsGood ys v
  good_kept at operand.Null g h l = tt
  good_kept at (operand.Int m) g h l = tt
  good_kept at (operand.Bool b) g h l = tt
  good_kept at (operand.Date m) g h l = tt
  good_kept at (operand.Rec r) g h l = tt
  good_kept at (operand.Set r) g h l = tt
  good_kept at (operand.Text t) g h l = tt
  good_kept at (operand.Joined from to len) g h l =
      let same : between from to xs ≡ between from to ys = between_kept from to n xs ys g.0 h e in
      (g.0, omega (arith, g.1, l), g.2 ∙ ap (λ (d : Desk). length (joined d)) same, g.3, subst ArePieces same g.4)
  good_kept at (operand.List is) g h l = tt
  good_kept at (operand.Listed from to len) g h l =
      (g.0, omega (arith, g.1, l), g.2 ∙ sym (ap (λ (is : List CellItem). length is) (list_kept from to g.0 h g.4)), g.3, list_good_kept from to g.0 h g.4)
  good_kept at operand.Censored g h l = tt

  pub down_kept : (at end : ℕ) (v : Operand) → at ≤ end → end ≤ n → IsDown xs at end v → IsDown ys at end v
  down_kept at end operand.Null h k d = tt
  down_kept at end (operand.Int m) h k d = tt
  down_kept at end (operand.Bool b) h k d = tt
  down_kept at end (operand.Date m) h k d = tt
  down_kept at end (operand.Rec r) h k d = tt
  down_kept at end (operand.Set r) h k d = tt
  down_kept at end (operand.Text t) h k d = sym (between_kept at end n xs ys h k e) ∙ d
  down_kept at end (operand.Joined from to len) h k d = d
  down_kept at end (operand.List is) h k d = sym (between_kept at end n xs ys h k e) ∙ d
  down_kept at end (operand.Listed from to len) h k d = d
  down_kept at end operand.Censored h k d = tt

pub down_end : (desk : Desk) (at end : ℕ) (v : Operand) → at ≤ end → IsDown desk at end v → end_of at v ≤ end
down_end desk at end operand.Null h d = h
down_end desk at end (operand.Int n) h d = h
down_end desk at end (operand.Bool b) h d = h
down_end desk at end (operand.Date n) h d = h
down_end desk at end (operand.Rec r) h d = h
down_end desk at end (operand.Set r) h d = h
down_end desk at end (operand.Text t) h d = h
down_end desk at end (operand.Joined from to len) h d = omega (arith, d.1)
down_end desk at end (operand.List is) h d = h
down_end desk at end (operand.Listed from to len) h d = omega (arith, d.1)
down_end desk at end operand.Censored h d = h
