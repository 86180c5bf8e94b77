-- An attribute is read exactly from the texts that say it.
use Rattle.std.proofs.Common.{◌≡◌, ◌∙◌, ap, refl, sym, subst, ℕ, List, codes, true, Option, Some, None, option_and_then}
use Rattle.serde_json.specs.Data.{Data, object, string, member}
use Rattle.serde_json.specs.Find.{as_object}
use Rattle.serde_json.specs.Read.{read}
use Rattle.action_lines.specs.Fields.{field_text, is_done}
use Rattle.action_lines.proofs.StepLemmas.{bind_some, guard_some, guard_then, name_end, name_step, none≢some, some_same}
use Rattle.action_lines.proofs.FieldLemmas.{done_takes, field_text_takes, object_takes}
use Rattle.user_attrs.specs.AttributeText.{Tells, are_names, attribute_data, attribute_from, attribute_of, property_of, property_text, rule_of}
use Rattle.user_attrs.specs.declared.attribute_rule.AttributeRule.{AttributeRule}
use Rattle.user_attrs.specs.declared.attribute_rule.UserProperty.{UserProperty}
use Rattle.user_attrs.specs.declared.attribute_rule.UserProperty.TheVariants as property

property_named : (t : List ℕ) (p : UserProperty) → property_of t ≡ Some p → t ≡ property_text p
property_named t =
    name_step property_text t property.Email _ (name_step property_text t property.Name _ (name_step property_text t property.UserId _ (name_end property_text t)))

property_again : (p : UserProperty) → property_of (property_text p) ≡ Some p
property_again property.Email = refl
property_again property.Name = refl
property_again property.UserId = refl

rule_parts : (o : Option UserProperty) (name table column : List ℕ) (a : AttributeRule) → rule_of o name table column ≡ Some a
    → (p : UserProperty) × (o ≡ Some p) × (are_names name table column ≡ true) × (record { name = name; table = table; column = column; property = p } ≡ a)
rule_parts None name table column a e = absurd (cc)
rule_parts (Some p) name table column a e =
    let made : AttributeRule = record { name = name; table = table; column = column; property = p } in
    let parts = guard_some (are_names name table column) made a e in
    (p, refl, parts.0, parts.1)

IsOf : AttributeRule → Data → Type 0
IsOf a d = (are_names a.name a.table a.column ≡ true) × (d ≡ attribute_data a)

attribute_takes : (d : Data) (a : AttributeRule) → attribute_from d ≡ Some a → IsOf a d
unfolding attribute_from IsOf
attribute_takes d a e =
    let ms = bind_some (as_object d) _ a e in
    let p = bind_some (field_text (codes "charId") ms.0) _ a ms.2 in
    let c = bind_some (field_text (codes "lookupColId") p.0.1) _ a p.2 in
    let n = bind_some (field_text (codes "name") c.0.1) _ a c.2 in
    let t = bind_some (field_text (codes "tableId") n.0.1) _ a n.2 in
    let done = guard_then (is_done t.0.1) _ a t.2 in
    let rule = rule_parts (property_of p.0.0) n.0.0 t.0.0 c.0.0 a done.1 in
    let made : AttributeRule = record { name = n.0.0; table = t.0.0; column = c.0.0; property = rule.0 } in
    let whole : d ≡ attribute_data made =
    object_takes d ms.0 ms.1
    ∙ ap object (field_text_takes (codes "charId") ms.0 p.0.0 p.0.1 p.1
    ∙ ap (λ x. member (codes "charId") (string x) p.0.1) (property_named p.0.0 rule.0 rule.1)
    ∙ ap (member (codes "charId") (string (property_text rule.0))) (field_text_takes (codes "lookupColId") p.0.1 c.0.0 c.0.1 c.1
    ∙ ap (member (codes "lookupColId") (string c.0.0)) (field_text_takes (codes "name") c.0.1 n.0.0 n.0.1 n.1
    ∙ ap (member (codes "name") (string n.0.0)) (field_text_takes (codes "tableId") n.0.1 t.0.0 t.0.1 t.1
    ∙ ap (member (codes "tableId") (string t.0.0)) (done_takes t.0.1 done.0))))) in
    let is : IsOf made d = (rule.2, whole) in
    subst (λ x. IsOf x d) rule.3 is

-- what is made of the data of an attribute is the attribute
made_again : (name table column : List ℕ) (p : UserProperty) → are_names name table column ≡ true
    → attribute_from (attribute_data (record { name = name; table = table; column = column; property = p })) ≡ Some (record { name = name; table = table; column = column; property = p })
unfolding attribute_from
made_again name table column p good = rw (property_again p, good) refl

attribute_again : (a : AttributeRule) (d : Data) → IsOf a d → attribute_from d ≡ Some a
unfolding IsOf
attribute_again a d s = ap attribute_from s.1 ∙ made_again a.name a.table a.column a.property s.0

tells_data : (text : List ℕ) (d : Data) → read text ≡ Some d → (o : Option AttributeRule) → attribute_from d ≡ o → Tells o text
unfolding IsOf
tells_data text d is None e = λ a s. none≢some a (sym e ∙ attribute_again a d (s.0, some_same d (attribute_data a) (sym is ∙ s.1)))
tells_data text d is (Some a) e = let taken = attribute_takes d a e in (taken.0, is ∙ ap Some taken.1)

tells_json : (text : List ℕ) (o : Option Data) → read text ≡ o → Tells (option_and_then attribute_from o) text
tells_json text None e = λ a s. none≢some (attribute_data a) (sym e ∙ s.1)
tells_json text (Some d) e = tells_data text d e (attribute_from d) refl

pub tells_of : (text : List ℕ) → Tells (attribute_of text) text
tells_of text = tells_json text (read text) refl
