-- What rules get where they ask for attributes.
use Rattle.std.proofs.Common.{◌≡◌, ap, refl, ℕ, Bool, true, false, cond, List, [], ◌∷◌, map, find, Some, None, bytes_eq}
use Rattle.doc_model.specs.declared.user.User.{User}
use Rattle.doc_model.specs.Document.{Document}
use Rattle.acl_formula.specs.RuleFields.{found_field, is_own, named_field}
use Rattle.user_attrs.specs.Laws.{FirstLaw, NullLaw, OwnLaw, field_found}
use Rattle.user_attrs.specs.UserInfos.{attribute_for, found_in}
use Rattle.user_attrs.specs.declared.attribute_rule.AttributeRule.{AttributeRule}

pub own_stays : OwnLaw
own_stays rules u s n = refl

named_first : (rules : List AttributeRule) (u : User) (s : Document) (n m : List ℕ) → named_field (map (attribute_for s u) rules) n m ≡ field_found s u (find (λ (a : AttributeRule). bytes_eq a.name n) rules) m
named_first [] u s n m = refl
named_first (a ∷ rules) u s n m =
    elim (bytes_eq a.name n) as (λ (b : Bool). cond b (found_field (found_in s u a) m) (named_field (map (attribute_for s u) rules) n m) ≡ field_found s u (cond b (Some a) (find (λ (a : AttributeRule). bytes_eq a.name n) rules)) m) [
      | true ↦ refl
      | false ↦ named_first rules u s n m
    ]

pub first_stands : FirstLaw
first_stands rules u s n m = ap (cond (is_own n) None) (named_first rules u s n m)

pub none_is_null : NullLaw
none_is_null s u a m none = ap (λ row. found_field row m) none
