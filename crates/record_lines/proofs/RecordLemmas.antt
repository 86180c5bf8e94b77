-- A record is read exactly from the JSON that spells it.
use Rattle.std.proofs.Common.{◌≡◌, ℕ, List, codes, Bool, true, false, not, Option, Some, None, refl, ap, ◌∙◌, subst}
use Rattle.std.proofs.lemmas.Bool.{eqb-true}
use Rattle.std.specs.List.{list_any}
use Rattle.serde_json.specs.Data.{Data, array, object, no_members, member}
use Rattle.serde_json.specs.Find.{as_object}
use Rattle.doc_model.specs.declared.action.DocAction.{DocAction}
use Rattle.action_lines.specs.Fields.{field, optional, put_front, is_done}
use Rattle.action_lines.specs.Items.{given_from}
use Rattle.action_lines.proofs.StepLemmas.{bind_some, guard_some, guard_then}
use Rattle.action_lines.proofs.FieldLemmas.{object_takes, field_takes, done_takes}
use Rattle.action_lines.proofs.InfoLemmas.{optional_takes}
use Rattle.action_lines.proofs.ItemLemmas.{given_takes, all_again}
use Rattle.grist_json.specs.Reading.{whole_from}
use Rattle.grist_json.proofs.Exactly.{found_by, none_by, once_by}
use Rattle.grist_json.proofs.RequestLemmas.{whole_takes}
use Rattle.record_lines.specs.declared.records.Kept.{Kept}
use Rattle.record_lines.specs.Dates.{has_date}
use Rattle.record_lines.specs.DocActions.{IsDocAction}
use Rattle.record_lines.specs.Reading.{doc_action_from}
use Rattle.record_lines.specs.Records.{IsForm, IsRecord, SpellsRecord, is_two, is_form, formed_from, record_from, record_at}
use Rattle.record_lines.proofs.DocActionLemmas.{doc_action_takes, doc_action_again}

two_is : (o : Option ℕ) → is_two o ≡ true → o ≡ Some 2
two_is None e = (cc)
two_is (Some n) e = ap Some (eqb-true n 2 e)

not_true : (b : Bool) → not b ≡ true → b ≡ false
not_true true e = (cc)
not_true false e = refl

form_takes : (v : Option Data) (list : List DocAction) → is_form v list ≡ true → IsForm v list
unfolding is_form
form_takes None list e = not_true (list_any has_date list) e
form_takes (Some d) list e = (whole_takes d 2 (two_is (whole_from d) e)).1

form_again : (v : Option Data) (list : List DocAction) → IsForm v list → is_form v list ≡ true
unfolding is_form
form_again None list e = rw e refl
form_again (Some d) list e = ap (λ x. is_two (whole_from x)) e

record_takes : (d : Data) (k : Kept) → record_from d ≡ Some k → IsRecord k d
unfolding record_from formed_from
record_takes d k e =
    let fields = bind_some (as_object d) _ k e in
    let list = bind_some (field (codes "actions") fields.0) _ k fields.2 in
    let place = bind_some (field (codes "number") list.0.1) _ k list.2 in
    let actions = bind_some (given_from doc_action_from false list.0.0) _ k place.2 in
    let number = bind_some (whole_from place.0.0) _ k actions.2 in
    let version = optional (codes "version") place.0.1 in
    let done = guard_then (is_done version.1) _ k number.2 in
    let made : Kept = record { number = number.0; actions = actions.0 } in
    let form = guard_some (is_form version.0 actions.0) made k done.1 in
    let items = given_takes doc_action_from IsDocAction doc_action_takes false list.0.0 actions.0 actions.1 in
    let n = whole_takes place.0.0 number.0 number.1 in
    let last : place.0.1 ≡ put_front (codes "version") version.0 no_members =
    optional_takes (codes "version") place.0.1 ∙ ap (put_front (codes "version") version.0) (done_takes version.1 done.0) in
    let is : IsRecord made d = record {
      items = items.0;
      version = version.0;
      listed = items.1;
      numbered = n.0;
      form = form_takes version.0 actions.0 form.0;
      whole = object_takes d fields.0 fields.1
          ∙ ap object (field_takes (codes "actions") fields.0 list.0.0 list.0.1 list.1
          ∙ (λ i. member (codes "actions") (items.2 i) (field_takes (codes "number") list.0.1 place.0.0 place.0.1 place.1 i))
          ∙ (λ i. member (codes "actions") (array items.0) (member (codes "number") (n.1 i) (last i))));
    } in
    subst (λ x. IsRecord x d) form.1 is

versioned : (v : Option Data) → optional (codes "version") (put_front (codes "version") v no_members) ≡ (v, no_members)
versioned None = refl
versioned (Some d) = refl

record_again : (k : Kept) (d : Data) → IsRecord k d → record_from d ≡ Some k
unfolding record_from formed_from
record_again k d h =
    ap record_from h.whole
    ∙ rw (all_again doc_action_from IsDocAction doc_action_again k.actions h.items h.listed, h.numbered, versioned h.version, form_again h.version k.actions h.form) refl

pub record_found : (bytes : List ℕ) (k : Kept) → record_at bytes ≡ Some k → SpellsRecord k bytes
unfolding record_at
record_found bytes k e = found_by record_from IsRecord record_takes bytes k e

pub record_none : (bytes : List ℕ) → record_at bytes ≡ None → (k : Kept) → SpellsRecord k bytes → ⊥
unfolding record_at
record_none bytes e k s = none_by record_from IsRecord record_again bytes e k s

pub record_once : (bytes : List ℕ) (k l : Kept) → SpellsRecord k bytes → SpellsRecord l bytes → k ≡ l
record_once bytes k l s t = once_by record_from IsRecord record_again bytes k l s t
