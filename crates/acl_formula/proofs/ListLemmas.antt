-- A list that is written, item by item.
use Rattle.std.proofs.Common.{◌≡◌, ◌≤◌, ◌-◌, ◌++◌, ◌∙◌, append_assoc, arith, ap, sym, subst, refl, ℕ, List, [], ◌∷◌, length, take, Option, Some, None}
use Rattle.std.proofs.lemmas.List.{append-nil}
use Rattle.std.proofs.lemmas.Option.{same_Some}
use Rattle.cell_types.specs.declared.value.CellItem.{CellItem}
use Rattle.cell_types.specs.declared.value.CellValue.{CellValue}
use Rattle.cell_types.specs.declared.value.CellValue.TheVariants as value
use Rattle.acl_formula.specs.declared.operand.Part.{Part}
use Rattle.acl_formula.specs.Desk.{between, items_in}
use Rattle.acl_formula.specs.DeskRules.{AreGood}
use Rattle.acl_formula.specs.RuleValue.{◌>>=◌, item_of, item_list, followed, as_value}
use Rattle.acl_formula.proofs.DeskKept.{list_kept, list_good_kept}
use Rattle.acl_formula.proofs.DeskLemmas.{between_add, items_append, good_append, good_more}

module _ (at middle end : ℕ) (old new : List Part) (h : at ≤ middle) (k : middle ≤ end) (same : take middle new ≡ take middle old) (g : AreGood old middle (between at middle old)) where
  -- what was put down stays in front of one more item
  pub items_more : items_in new (between at end new) ≡ items_in old (between at middle old) ++ items_in new (between middle end new)
  items_more =
      ap (items_in new) (between_add new at middle end h k)
      ∙ items_append new (between at middle new) (between middle end new)
      ∙ ap (λ (is : List CellItem). is ++ items_in new (between middle end new)) (list_kept middle old new (sym same) at middle h (omega arith) g)

  pub good_items_more : AreGood new end (between middle end new) → AreGood new end (between at end new)
  good_items_more m =
      subst (AreGood new end) (sym (between_add new at middle end h k))
      (good_append new end (between at middle new) (between middle end new)
      (good_more new middle end (between at middle new) k (list_good_kept middle old new (sym same) at middle h (omega arith) g)) m)

by_item : (o : Option CellItem) (is : List CellItem) → Some is ≡ (o >>= λ i. Some (i ∷ [])) → length is ≡ 1
by_item None is e = cc
by_item (Some i) is e = ap (λ (js : List CellItem). length js) (same_Some _ _ e)

pub one_item : (v : Option CellValue) (is : List CellItem) → Some is ≡ item_list v → length is ≡ 1
one_item None is e = cc
one_item (Some v) is e = by_item (item_of v) is e

followed_assoc : (is js : List CellItem) (rest : Option (List CellItem)) → followed (Some is) (followed (Some js) rest) ≡ followed (Some (is ++ js)) rest
followed_assoc is js None = refl
followed_assoc is js (Some ks) = ap (λ (ls : List CellItem). Some ls) (sym (append_assoc is js ks))

-- one item more, none, and the end
module _ (whole : Option (List CellItem)) (is : List CellItem) where
  pub followed_step : (js : List CellItem) (v rest : Option (List CellItem)) → Some js ≡ v → whole ≡ followed (Some is) (followed v rest) → whole ≡ followed (Some (is ++ js)) rest
  followed_step js v rest ev e = e ∙ ap (λ (o : Option (List CellItem)). followed (Some is) (followed o rest)) (sym ev) ∙ followed_assoc is js rest

  pub followed_none : (v rest : Option (List CellItem)) → None ≡ v → whole ≡ followed (Some is) (followed v rest) → ◌≡◌ {A = Option CellValue} None (as_value whole)
  followed_none v rest ev e = sym (ap as_value (e ∙ ap (λ (o : Option (List CellItem)). followed (Some is) (followed o rest)) (sym ev)))

  pub followed_all : whole ≡ followed (Some is) (Some []) → ◌≡◌ {A = Option CellValue} (Some (value.List is)) (as_value whole)
  followed_all e = sym (ap as_value e ∙ ap (λ (js : List CellItem). Some (value.List js)) (append-nil is))

-- the list before its first item
none_between : (at : ℕ) (desk : List Part) → between at at desk ≡ []
none_between at desk = let none : at - at ≡ 0 = omega arith in rw none refl

followed_nil : (o : Option (List CellItem)) → followed (Some []) o ≡ o
followed_nil None = refl
followed_nil (Some is) = refl

module _ (at : ℕ) (desk : List Part) where
  pub start_items : (whole rest : Option (List CellItem)) → rest ≡ whole → whole ≡ followed (Some (items_in desk (between at at desk))) rest
  start_items whole rest e = sym (ap (λ (ps : List Part). followed (Some (items_in desk ps)) rest) (none_between at desk) ∙ followed_nil rest ∙ e)

  pub start_good : AreGood desk at (between at at desk)
  start_good = subst (AreGood desk at) (sym (none_between at desk)) tt

  pub start_length : 0 ≡ length (items_in desk (between at at desk))
  start_length = sym (ap (λ (ps : List Part). length (items_in desk ps)) (none_between at desk))
