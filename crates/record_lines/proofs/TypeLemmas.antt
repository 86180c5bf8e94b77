-- Names and types are read exactly from their texts.
use Rattle.std.proofs.Common.{◌≡◌, ℕ, List, ◌++◌, codes, true, Option, Some, None, option_map, refl, sym, ap, ◌∙◌, subst, if◌then◌else◌}
use Rattle.std.proofs.lemmas.Slice.Eq.{bytes_eq-Decides}
use Rattle.std.specs.Str.{bytes_eq}
use Rattle.cell_types.specs.declared.column_type.ColType.{ColType}
use Rattle.cell_types.specs.declared.column_type.ColType.TheVariants as type
use Rattle.doc_model.specs.Schema.{type_text}
use Rattle.meta_schema.specs.Decoding.{after, type_of}
use Rattle.meta_schema.proofs.TextLemmas.{after_parts}
use Rattle.action_lines.specs.ReadValues.{name_from}
use Rattle.action_lines.specs.Values.{has_name_length}
use Rattle.action_lines.proofs.StepLemmas.{map_some, guard_some, none≢some, chain_by}
use Rattle.record_lines.specs.Infos.{is_type}

pub name_takes : (t n : List ℕ) → name_from t ≡ Some n → (t ≡ n) × (has_name_length n ≡ true)
name_takes t n e =
    let g = guard_some (has_name_length t) t n e in
    (g.1, subst (λ (x : List ℕ). has_name_length x ≡ true) g.1 g.0)

pub name_again : (n : List ℕ) → has_name_length n ≡ true → name_from n ≡ Some n
name_again n h = rw h refl

-- the text says the type, whose table has a name
Says : List ℕ → ColType → Type 0
Says t ty = (t ≡ type_text ty) × (is_type ty ≡ true)

behind : (word t : List ℕ) (make : List ℕ → ColType) (ty : ColType) (next : Option ColType)
    → ((n : List ℕ) → has_name_length n ≡ true → Says (word ++ n) (make n)) → (next ≡ Some ty → Says t ty)
    → (o : Option (List ℕ)) → after word t ≡ o → elim o [ None ↦ next | Some rest ↦ option_map make (name_from rest) ] ≡ Some ty → Says t ty
behind word t make ty next here later None f e = later e
behind word t make ty next here later (Some rest) f e =
    let n = map_some make (name_from rest) ty e in
    let is = name_takes rest n.0 n.1 in
    let text : t ≡ word ++ n.0 = after_parts word t rest f ∙ ap (λ x. word ++ x) is.0 in
    subst (λ x. Says t x) n.2 (subst (λ (x : List ℕ). Says x (make n.0)) (sym text) (here n.0 is.1))

pub type_takes : (t : List ℕ) (ty : ColType) → type_of t ≡ Some ty → (t ≡ type_text ty) × (is_type ty ≡ true)
unfolding Says
type_takes t ty =
    word (codes "Any") type.Any _ (λ b. (b, refl)) (word (codes "Text") type.Text _ (λ b. (b, refl))
    (word (codes "Int") type.Int _ (λ b. (b, refl)) (word (codes "Bool") type.Bool _ (λ b. (b, refl))
    (word (codes "Date") type.Date _ (λ b. (b, refl))
    (behind (codes "Ref:") t type.Ref ty _ (λ n h. (refl, h))
    (behind (codes "RefList:") t type.RefList ty None (λ n h. (refl, h)) (λ e. absurd (none≢some ty e)) (after (codes "RefList:") t) refl)
    (after (codes "Ref:") t) refl)))))
  where
    word : (k : List ℕ) (x : ColType) (rest : Option ColType) → (t ≡ k → Says t x) → (rest ≡ Some ty → Says t ty) → (if bytes_eq t k then Some x else rest) ≡ Some ty → Says t ty
    word k x rest here later e = chain_by (bytes_eq t k) x ty rest (λ y. Says t y) (λ b. here ((bytes_eq-Decides t k).0 b)) later e

pub type_again : (ty : ColType) → is_type ty ≡ true → type_of (type_text ty) ≡ Some ty
type_again type.Any h = refl
type_again type.Text h = refl
type_again type.Int h = refl
type_again type.Bool h = refl
type_again type.Date h = refl
type_again (type.Ref t) h = ap (option_map type.Ref) (name_again t h)
type_again (type.RefList t) h = ap (option_map type.RefList) (name_again t h)
