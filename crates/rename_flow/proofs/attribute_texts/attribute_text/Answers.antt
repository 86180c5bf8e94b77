use Rattle.std.proofs.Common.{◌≡◌, ◌∙◌, ◌++◌, ap, subst, ℕ, List, codes, IfOk, string_bytes}
use Rattle.user_attrs.specs.AttributeText.{property_text}
use Rattle.rename_flow.specs.AttributeTexts.{attribute_text}
use Rattle.rename_flow.proofs.attribute_texts.attribute_text.Goals as goal

pub returns : goal.returns
unfolding attribute_text
returns c =
    let a = c.args.rule.now in
    let e1 : string_bytes c.push_both.new.out ≡ codes "{\"charId\":\"" ++ property_text a.property =
    c.in_ok-push_both.ensures ∙ (λ i. c.new-text.ensures.bytes i ++ codes "{\"charId\":\"" ++ c.property_text.ensures i) in
    let e2 : string_bytes c.push_both-2.new.out ≡ codes "{\"charId\":\"" ++ property_text a.property ++ codes "\",\"lookupColId\":\"" ++ c.args.column.now =
    c.in_ok-push_both-2.ensures ∙ ap (λ (bs : List ℕ). bs ++ codes "\",\"lookupColId\":\"" ++ c.args.column.now) e1 in
    let e3 : string_bytes c.push_both-3.new.out ≡ codes "{\"charId\":\"" ++ property_text a.property ++ codes "\",\"lookupColId\":\"" ++ c.args.column.now ++ codes "\",\"name\":\"" ++ a.name =
    c.in_ok-push_both-3.ensures ∙ (λ i. e2 i ++ codes "\",\"name\":\"" ++ c.as_str.ensures.value i) in
    let e4 : string_bytes c.push_both-4.new.out ≡ codes "{\"charId\":\"" ++ property_text a.property ++ codes "\",\"lookupColId\":\"" ++ c.args.column.now ++ codes "\",\"name\":\"" ++ a.name ++ codes "\",\"tableId\":\"" ++ a.table =
    c.in_ok-push_both-4.ensures ∙ (λ i. e3 i ++ codes "\",\"tableId\":\"" ++ c.as_str-2.ensures.value i) in
    let e5 : string_bytes c.push_str.new.self ≡ attribute_text a c.args.column.now = c.in_ok-push_str.ensures.bytes ∙ ap (λ (bs : List ℕ). bs ++ codes "\"}") e4 in
    subst (λ (bs : List ℕ). IfOk c.from_string.result (λ t. t ≡ bs)) e5 c.from_string.ensures
