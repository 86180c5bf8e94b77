-- What records say of columns is read exactly from the JSON that says it.
use Rattle.std.proofs.Common.{◌≡◌, ℕ, List, codes, Bool, true, ◌&&◌, Some, refl, ap, ◌∙◌, subst}
use Rattle.serde_json.specs.Data.{Data, boolean, string, object, Members, member}
use Rattle.serde_json.specs.Find.{as_object, as_bool}
use Rattle.doc_model.specs.declared.column.ColDef.{ColDef}
use Rattle.doc_model.specs.declared.column.ColInfo.{ColInfo}
use Rattle.meta_schema.specs.Decoding.{type_of}
use Rattle.action_lines.specs.Fields.{field, field_text, is_done}
use Rattle.action_lines.specs.Numbers.{is_row, row_data, row_from}
use Rattle.action_lines.specs.ReadValues.{name_from}
use Rattle.action_lines.specs.Values.{has_name_length}
use Rattle.action_lines.proofs.StepLemmas.{bind_some, guard_some, both_true}
use Rattle.action_lines.proofs.FieldLemmas.{object_takes, field_takes, field_text_takes, done_takes}
use Rattle.action_lines.proofs.InfoLemmas.{bool_takes}
use Rattle.action_lines.proofs.NumberLemmas.{row_takes}
use Rattle.record_lines.specs.Infos.{is_type, is_column, IsColumn, info_data, described_members, added_data, column_data, info_from, described_from, added_from, column_from}
use Rattle.record_lines.proofs.TypeLemmas.{name_takes, type_takes, type_again}

both : (a b : Bool) → a ≡ true → b ≡ true → (a && b) ≡ true
both a b p q = rw p q

pub info_takes : (d : Data) (i : ColInfo) → info_from d ≡ Some i → (is_type i.ty ≡ true) × (d ≡ info_data i)
unfolding info_from
info_takes d i e =
    let a = bind_some (as_object d) _ i e in
    let f = bind_some (field_text (codes "formula") a.0) _ i a.2 in
    let b = bind_some (field (codes "isFormula") f.0.1) _ i f.2 in
    let t = bind_some (field_text (codes "type") b.0.1) _ i b.2 in
    let truth = bind_some (as_bool b.0.0) _ i t.2 in
    let ty = bind_some (type_of t.0.0) _ i truth.2 in
    let made : ColInfo = record { ty = ty.0; is_formula = truth.0; formula = f.0.0 } in
    let done = guard_some (is_done t.0.1) made i ty.2 in
    let is = type_takes t.0.0 ty.0 ty.1 in
    let whole : d ≡ info_data made =
    object_takes d a.0 a.1
    ∙ ap object (field_text_takes (codes "formula") a.0 f.0.0 f.0.1 f.1
    ∙ ap (member (codes "formula") (string f.0.0)) (field_takes (codes "isFormula") f.0.1 b.0.0 b.0.1 b.1
    ∙ (λ j. member (codes "isFormula") (bool_takes b.0.0 truth.0 truth.1 j) (field_text_takes (codes "type") b.0.1 t.0.0 t.0.1 t.1 j))
    ∙ (λ j. member (codes "isFormula") (boolean truth.0) (member (codes "type") (string (is.0 j)) (done_takes t.0.1 done.0 j))))) in
    subst (λ x. (is_type x.ty ≡ true) × (d ≡ info_data x)) done.1 (is.1, whole)

pub info_again : (i : ColInfo) → is_type i.ty ≡ true → info_from (info_data i) ≡ Some i
unfolding info_from
info_again i h = rw (type_again i.ty h) refl

-- what the formula, the id and the members behind it say of a column
Describes : List ℕ → List ℕ → Members → ColDef → Type 0
Describes formula id ms c =
    (formula ≡ c.info.formula) × (id ≡ c.id) × (is_row c.row ≡ true) × (is_type c.info.ty ≡ true) × (ms ≡ described_members c)

described_takes : (formula id : List ℕ) (ms : Members) (c : ColDef) → described_from formula id ms ≡ Some c → Describes formula id ms c
unfolding described_from Describes
described_takes formula id ms c e =
    let b = bind_some (field (codes "isFormula") ms) _ c e in
    let p = bind_some (field (codes "row") b.0.1) _ c b.2 in
    let t = bind_some (field_text (codes "type") p.0.1) _ c p.2 in
    let truth = bind_some (as_bool b.0.0) _ c t.2 in
    let n = bind_some (row_from p.0.0) _ c truth.2 in
    let ty = bind_some (type_of t.0.0) _ c n.2 in
    let made : ColDef = record { id = id; info = record { ty = ty.0; is_formula = truth.0; formula = formula }; row = n.0 } in
    let done = guard_some (is_done t.0.1) made c ty.2 in
    let is = type_takes t.0.0 ty.0 ty.1 in
    let row = row_takes p.0.0 n.0 n.1 in
    let whole : ms ≡ described_members made =
    field_takes (codes "isFormula") ms b.0.0 b.0.1 b.1
    ∙ (λ j. member (codes "isFormula") (bool_takes b.0.0 truth.0 truth.1 j) (field_takes (codes "row") b.0.1 p.0.0 p.0.1 p.1 j))
    ∙ (λ j. member (codes "isFormula") (boolean truth.0) (member (codes "row") (row.1 j) (field_text_takes (codes "type") p.0.1 t.0.0 t.0.1 t.1 j)))
    ∙ (λ j. member (codes "isFormula") (boolean truth.0) (member (codes "row") (row_data n.0) (member (codes "type") (string (is.0 j)) (done_takes t.0.1 done.0 j)))) in
    subst (λ x. Describes formula id ms x) done.1 (refl, refl, row.0, is.1, whole)

described_again : (c : ColDef) → is_row c.row ≡ true → is_type c.info.ty ≡ true → described_from c.info.formula c.id (described_members c) ≡ Some c
unfolding described_from
described_again c r t = rw (r, type_again c.info.ty t) refl

pub added_takes : (id : List ℕ) (d : Data) (c : ColDef) → has_name_length id ≡ true → added_from id d ≡ Some c → (id ≡ c.id) × (is_column c ≡ true) × (d ≡ added_data c)
unfolding added_from Describes
added_takes id d c named e =
    let a = bind_some (as_object d) _ c e in
    let f = bind_some (field_text (codes "formula") a.0) _ c a.2 in
    let is = described_takes f.0.0 id f.0.1 c f.2 in
    let whole : d ≡ added_data c =
    object_takes d a.0 a.1
    ∙ ap object (field_text_takes (codes "formula") a.0 f.0.0 f.0.1 f.1 ∙ (λ j. member (codes "formula") (string (is.0 j)) (is.4 j))) in
    (is.1, both (has_name_length c.id && is_row c.row) (is_type c.info.ty) (both (has_name_length c.id) (is_row c.row) (subst (λ (x : List ℕ). has_name_length x ≡ true) is.1 named) is.2) is.3, whole)

-- the parts of what a column is asked
parts : (c : ColDef) → is_column c ≡ true → (has_name_length c.id ≡ true) × (is_row c.row ≡ true) × (is_type c.info.ty ≡ true)
parts c h =
    let last = both_true (has_name_length c.id && is_row c.row) (is_type c.info.ty) h in
    let first = both_true (has_name_length c.id) (is_row c.row) last.0 in
    (first.0, first.1, last.1)

pub column_named : (c : ColDef) → is_column c ≡ true → has_name_length c.id ≡ true
column_named c h = (parts c h).0

pub added_again : (c : ColDef) → is_column c ≡ true → added_from c.id (added_data c) ≡ Some c
unfolding added_from
added_again c h = let p = parts c h in described_again c p.1 p.2

pub column_takes : (d : Data) (c : ColDef) → column_from d ≡ Some c → IsColumn c d
unfolding column_from Describes
column_takes d c e =
    let a = bind_some (as_object d) _ c e in
    let f = bind_some (field_text (codes "formula") a.0) _ c a.2 in
    let t = bind_some (field_text (codes "id") f.0.1) _ c f.2 in
    let n = bind_some (name_from t.0.0) _ c t.2 in
    let name = name_takes t.0.0 n.0 n.1 in
    let is = described_takes f.0.0 n.0 t.0.1 c n.2 in
    let id : t.0.0 ≡ c.id = name.0 ∙ is.1 in
    let whole : d ≡ column_data c =
    object_takes d a.0 a.1
    ∙ ap object (field_text_takes (codes "formula") a.0 f.0.0 f.0.1 f.1
    ∙ ap (member (codes "formula") (string f.0.0)) (field_text_takes (codes "id") f.0.1 t.0.0 t.0.1 t.1)
    ∙ (λ j. member (codes "formula") (string (is.0 j)) (member (codes "id") (string (id j)) (is.4 j)))) in
    (both (has_name_length c.id && is_row c.row) (is_type c.info.ty) (both (has_name_length c.id) (is_row c.row) (subst (λ (x : List ℕ). has_name_length x ≡ true) is.1 name.1) is.2) is.3, whole)

pub column_again : (c : ColDef) (d : Data) → IsColumn c d → column_from d ≡ Some c
unfolding column_from
column_again c d h =
    let p = parts c h.0 in
    ap column_from h.1 ∙ rw (p.0) (described_again c p.1 p.2)
