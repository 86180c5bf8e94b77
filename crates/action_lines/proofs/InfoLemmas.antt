-- What is said of columns is read exactly from the JSON that says it.
use Rattle.std.proofs.Common.{◌≡◌, ℕ, List, codes, Bool, true, false, Option, Some, None, option_map, refl, ap, ◌∙◌, subst, if◌then◌else◌}
use Rattle.std.specs.Str.{bytes_eq}
use Rattle.serde_json.specs.Data.{Data, null, boolean, number, string, array, object, Members, no_members, member}
use Rattle.serde_json.specs.Find.{as_object, as_str, as_bool}
use Rattle.doc_model.specs.declared.user_action.UserCol.{UserCol}
use Rattle.action_lines.specs.Fields.{field_text, found_or, optional, put_front, is_done}
use Rattle.action_lines.specs.Infos.{info_members, info_data, column_data, maybe, col_from, said_from, info_from, column_from}
use Rattle.action_lines.proofs.StepLemmas.{bind_some, guard_then, some_same}
use Rattle.action_lines.proofs.FieldLemmas.{object_takes, text_takes, same_text, field_text_takes, done_takes}

-- a value that is taken or not, and the members behind it
abbrev parted : Bool → List ℕ → Data → Members → Option Data × Members
parted b l d ms = found_or (if b then Some (d, ms) else None) (member l d ms)

parted_by : (b : Bool) (k l : List ℕ) (d : Data) (ms : Members) → (b ≡ true → l ≡ k) → member l d ms ≡ put_front k (parted b l d ms).0 (parted b l d ms).1
parted_by true k l d ms same = ap (λ x. member x d ms) (same refl)
parted_by false k l d ms same = refl

-- the members are the value that was taken, if one was, and those behind it
pub optional_takes : (k : List ℕ) (ms : Members) → ms ≡ put_front k (optional k ms).0 (optional k ms).1
optional_takes k no_members = refl
optional_takes k (member l d ms) = parted_by (bytes_eq l k) k l d ms (same_text l k)

pub bool_takes : (d : Data) (b : Bool) → as_bool d ≡ Some b → d ≡ boolean b
bool_takes null b e = (cc)
bool_takes (boolean c) b e = (cc)
bool_takes (number n) b e = (cc)
bool_takes (string s) b e = (cc)
bool_takes (array ds) b e = (cc)
bool_takes (object ms) b e = (cc)

maybe_text_takes : (o : Option Data) (t : Option (List ℕ)) → maybe as_str o ≡ Some t → o ≡ option_map string t
maybe_text_takes None t e = ap (option_map string) (some_same None t e)
maybe_text_takes (Some d) t e =
    let x = bind_some (as_str d) _ t e in
    ap Some (text_takes d x.0 x.1) ∙ ap (option_map string) (some_same (Some x.0) t x.2)

maybe_bool_takes : (o : Option Data) (b : Option Bool) → maybe as_bool o ≡ Some b → o ≡ option_map boolean b
maybe_bool_takes None b e = ap (option_map boolean) (some_same None b e)
maybe_bool_takes (Some d) b e =
    let x = bind_some (as_bool d) _ b e in
    ap Some (bool_takes d x.0 x.1) ∙ ap (option_map boolean) (some_same (Some x.0) b x.2)

-- what the formula, the id and the members behind it say of a column
Says : Option Data → List ℕ → Members → UserCol → Type 0
Says formula id ms c = (id ≡ c.id) × (formula ≡ option_map string c.formula) × (ms ≡ info_members c)

said_takes : (formula : Option Data) (id : List ℕ) (ms : Members) (c : UserCol) → said_from formula id ms ≡ Some c → Says formula id ms c
unfolding said_from col_from Says
said_takes formula id ms c e =
    let is = optional (codes "isFormula") ms in
    let ty = optional (codes "type") is.1 in
    let done = guard_then (is_done ty.1) _ c e in
    let b = bind_some (maybe as_bool is.0) _ c done.1 in
    let f = bind_some (maybe as_str formula) _ c b.2 in
    let t = bind_some (maybe as_str ty.0) _ c f.2 in
    let made : UserCol = record { id = id; ty = t.0; is_formula = b.0; formula = f.0 } in
    let last : is.1 ≡ put_front (codes "type") (option_map string t.0) no_members =
    optional_takes (codes "type") is.1 ∙ (λ i. put_front (codes "type") (maybe_text_takes ty.0 t.0 t.1 i) (done_takes ty.1 done.0 i)) in
    let whole : ms ≡ info_members made =
    optional_takes (codes "isFormula") ms ∙ (λ i. put_front (codes "isFormula") (maybe_bool_takes is.0 b.0 b.1 i) (last i)) in
    let says : Says formula id ms made = (refl, maybe_text_takes formula f.0 f.1, whole) in
    subst (λ x. Says formula id ms x) (some_same made c t.2) says

pub info_takes : (id : List ℕ) (d : Data) (c : UserCol) → info_from id d ≡ Some c → (id ≡ c.id) × (d ≡ info_data c)
unfolding info_from Says
info_takes id d c e =
    let a = bind_some (as_object d) _ c e in
    let formula = optional (codes "formula") a.0 in
    let is = said_takes formula.0 id formula.1 c a.2 in (
      is.0,
      object_takes d a.0 a.1 ∙ ap object (optional_takes (codes "formula") a.0 ∙ (λ i. put_front (codes "formula") (is.1 i) (is.2 i))),
    )

pub column_takes : (d : Data) (c : UserCol) → column_from d ≡ Some c → d ≡ column_data c
unfolding column_from Says
column_takes d c e =
    let a = bind_some (as_object d) _ c e in
    let formula = optional (codes "formula") a.0 in
    let id = bind_some (field_text (codes "id") formula.1) _ c a.2 in
    let is = said_takes formula.0 id.0.0 id.0.1 c id.2 in
    let rest : formula.1 ≡ member (codes "id") (string c.id) (info_members c) =
    field_text_takes (codes "id") formula.1 id.0.0 id.0.1 id.1 ∙ (λ i. member (codes "id") (string (is.0 i)) (is.2 i)) in
    object_takes d a.0 a.1 ∙ ap object (optional_takes (codes "formula") a.0 ∙ (λ i. put_front (codes "formula") (is.1 i) (rest i)))

said_again : (formula : Option Data) (id : List ℕ) (f t : Option (List ℕ)) (b : Option Bool) → maybe as_str formula ≡ Some f
    → said_from formula id (info_members (record { id = id; ty = t; is_formula = b; formula = f })) ≡ Some (record { id = id; ty = t; is_formula = b; formula = f })
unfolding said_from col_from
said_again formula id f None None e = rw e refl
said_again formula id f None (Some b) e = rw e refl
said_again formula id f (Some t) None e = rw e refl
said_again formula id f (Some t) (Some b) e = rw e refl

info_by : (id : List ℕ) (f t : Option (List ℕ)) (b : Option Bool) → info_from id (info_data (record { id = id; ty = t; is_formula = b; formula = f })) ≡ Some (record { id = id; ty = t; is_formula = b; formula = f })
unfolding info_from
info_by id None None None = said_again None id None None None refl
info_by id None None (Some b) = said_again None id None None (Some b) refl
info_by id None (Some t) None = said_again None id None (Some t) None refl
info_by id None (Some t) (Some b) = said_again None id None (Some t) (Some b) refl
info_by id (Some f) t b = said_again (Some (string f)) id (Some f) t b refl

pub info_again : (c : UserCol) → info_from c.id (info_data c) ≡ Some c
info_again c = info_by c.id c.formula c.ty c.is_formula

column_by : (id : List ℕ) (f t : Option (List ℕ)) (b : Option Bool) → column_from (column_data (record { id = id; ty = t; is_formula = b; formula = f })) ≡ Some (record { id = id; ty = t; is_formula = b; formula = f })
unfolding column_from
column_by id None t b = said_again None id None t b refl
column_by id (Some f) t b = said_again (Some (string f)) id (Some f) t b refl

pub column_again : (c : UserCol) (d : Data) → d ≡ column_data c → column_from d ≡ Some c
column_again c d h = ap column_from h ∙ column_by c.id c.formula c.ty c.is_formula
