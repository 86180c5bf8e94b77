-- A user is read exactly from the JSON that is one.
use Rattle.std.proofs.Common.{◌≡◌, ℕ, List, codes, Bool, true, false, cond, ◌&&◌, Option, Some, None, refl, sym, ap, ◌∙◌, subst}
use Rattle.std.proofs.lemmas.Bool.{false≢true}
use Rattle.serde_json.specs.Data.{Data, null, boolean, number, string, array, object, member, no_members}
use Rattle.serde_json.specs.Find.{as_object}
use Rattle.doc_model.specs.declared.user.User.{User}
use Rattle.grist_json.specs.declared.users.UserLine.TheVariants as line
use Rattle.grist_json.specs.Json.{json_at, IsJson}
use Rattle.action_lines.specs.Fields.{field, field_text, is_done}
use Rattle.action_lines.specs.Numbers.{int_data, is_id, id_from}
use Rattle.grist_json.specs.Users.{is_access, is_access_or_none, access_data, access_from, fits, IsUser, SpellsUser, has_user, Tells, user_fields, user_from, user_or_bad, line_or_other, user_at}
use Rattle.action_lines.proofs.StepLemmas.{bind_some, guard_then, guard_some, both_true, some_same, none≢some}
use Rattle.action_lines.proofs.FieldLemmas.{object_takes, field_takes, field_text_takes, done_takes}
use Rattle.action_lines.proofs.NumberLemmas.{id_takes, id_again}
use Rattle.grist_json.proofs.Exactly.{once_by}

-- an access is read exactly from the JSON that it is
access_takes : (d : Data) (access : Option (List ℕ)) → access_from d ≡ Some access → (is_access_or_none access ≡ true) × (d ≡ access_data access)
access_takes null access e = subst (λ (a : Option (List ℕ)). (is_access_or_none a ≡ true) × (null ≡ access_data a)) (some_same None access e) (refl, refl)
access_takes (boolean b) access e = absurd (cc)
access_takes (number n) access e = absurd (cc)
access_takes (string text) access e =
    let good = guard_some (is_access text) (Some text) access e in
    subst (λ (a : Option (List ℕ)). (is_access_or_none a ≡ true) × (string text ≡ access_data a)) good.1 (good.0, refl)
access_takes (array ds) access e = absurd (cc)
access_takes (object ms) access e = absurd (cc)

access_again : (access : Option (List ℕ)) → is_access_or_none access ≡ true → access_from (access_data access) ≡ Some access
access_again None h = refl
access_again (Some text) h = rw h refl

fields_data : User → Data
fields_data u = object (member (codes "access") (access_data u.access) (member (codes "email") (string u.email) (member (codes "id") (int_data u.id) (member (codes "name") (string u.name) (member (codes "token") (string u.token) no_members)))))

IsFields : User → Data → Type 0
IsFields u d = (is_access_or_none u.access ≡ true) × (is_id u.id ≡ true) × (fits u.email u.name u.token ≡ true) × (d ≡ fields_data u)

fields_take : (d : Data) (u : User) → user_fields d ≡ Some u → IsFields u d
unfolding user_fields IsFields fields_data
fields_take d u e =
    let a = bind_some (as_object d) _ u e in
    let c = bind_some (field (codes "access") a.0) _ u a.2 in
    let m = bind_some (field_text (codes "email") c.0.1) _ u c.2 in
    let i = bind_some (field (codes "id") m.0.1) _ u m.2 in
    let n = bind_some (field_text (codes "name") i.0.1) _ u i.2 in
    let t = bind_some (field_text (codes "token") n.0.1) _ u n.2 in
    let h = bind_some (access_from c.0.0) _ u t.2 in
    let z = bind_some (id_from i.0.0) _ u h.2 in
    let made : User = record { token = t.0.0; access = h.0; email = m.0.0; name = n.0.0; id = z.0 } in
    let both = guard_some (is_done t.0.1 && fits m.0.0 n.0.0 t.0.0) made u z.2 in
    let good = both_true (is_done t.0.1) (fits m.0.0 n.0.0 t.0.0) both.0 in
    let access = access_takes c.0.0 h.0 h.1 in
    let number = id_takes i.0.0 z.0 z.1 in
    let whole : d ≡ fields_data made =
    object_takes d a.0 a.1
    ∙ ap object (field_takes (codes "access") a.0 c.0.0 c.0.1 c.1
    ∙ (λ j. member (codes "access") (access.1 j) (field_text_takes (codes "email") c.0.1 m.0.0 m.0.1 m.1 j))
    ∙ ap (λ ms. member (codes "access") (access_data h.0) (member (codes "email") (string m.0.0) ms)) (field_takes (codes "id") m.0.1 i.0.0 i.0.1 i.1
    ∙ (λ j. member (codes "id") (number.1 j) (field_text_takes (codes "name") i.0.1 n.0.0 n.0.1 n.1 j))
    ∙ ap (λ ms. member (codes "id") (int_data z.0) (member (codes "name") (string n.0.0) ms)) (field_text_takes (codes "token") n.0.1 t.0.0 t.0.1 t.1
    ∙ ap (member (codes "token") (string t.0.0)) (done_takes t.0.1 good.0)))) in
    let is : IsFields made d = (access.0, number.0, good.1, whole) in
    subst (λ x. IsFields x d) both.1 is

user_takes : (d : Data) (u : User) → user_from d ≡ Some u → IsUser u d
unfolding user_from IsFields fields_data
user_takes d u e =
    let a = bind_some (as_object d) _ u e in
    let b = bind_some (field (codes "user") a.0) _ u a.2 in
    let done = guard_then (is_done b.0.1) _ u b.2 in
    let is = fields_take b.0.0 u done.1 in (
      is.0,
      is.1,
      is.2,
      object_takes d a.0 a.1 ∙ ap object (field_takes (codes "user") a.0 b.0.0 b.0.1 b.1 ∙ (λ i. member (codes "user") (is.3 i) (done_takes b.0.1 done.0 i))),
    )

user_again : (u : User) (d : Data) → IsUser u d → user_from d ≡ Some u
unfolding user_from user_fields
user_again u d s = ap user_from s.3 ∙ rw (access_again u.access s.0, id_again u.id s.1, s.2) refl

pub user_once : (bytes : List ℕ) (u v : User) → SpellsUser u bytes → SpellsUser v bytes → u ≡ v
user_once bytes u v s t = once_by user_from IsUser user_again bytes u v s t

-- the JSON of some bytes is one
one_json : (bytes : List ℕ) (d e : Data) → IsJson bytes d → IsJson bytes e → d ≡ e
one_json bytes d e p q = some_same d e (sym p ∙ q)

tells_data : (bytes : List ℕ) (d : Data) → IsJson bytes d → (h : Bool) → has_user d ≡ h → (o : Option User) → user_from d ≡ o → Tells (cond h (user_or_bad o) line.Other) bytes
tells_data bytes d is false e o f = λ l. false≢true (sym e ∙ ap has_user (one_json bytes d l.0 is l.1) ∙ l.2)
tells_data bytes d is true e None f =
    ((d, is, e), λ u s. none≢some u (sym f ∙ ap user_from (one_json bytes d s.0 is s.1) ∙ user_again u s.0 s.2))
tells_data bytes d is true e (Some u) f = (d, is, user_takes d u f)

tells_json : (bytes : List ℕ) (o : Option Data) → json_at bytes ≡ o → Tells (line_or_other o) bytes
tells_json bytes None e = λ l. none≢some l.0 (sym e ∙ l.1)
tells_json bytes (Some d) e = tells_data bytes d e (has_user d) refl (user_from d) refl

pub tells_at : (bytes : List ℕ) → Tells (user_at bytes) bytes
unfolding user_at
tells_at bytes = tells_json bytes (json_at bytes) refl
