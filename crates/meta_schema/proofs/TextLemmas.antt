-- Names and types read back from their texts.
use Rattle.std.proofs.Common.{ℕ, true, false, cond, not, ◌||◌, ◌&&◌, List, [], ◌∷◌, ◌++◌, length, ◌≡◌, ◌<◌, ◌≤◌, refl, sym, ap, subst, ◌∙◌, eqb, Option, Some, None, Bor, arith}
use Rattle.std.proofs.lemmas.Bool.{and_parts, false≢true, eq-eqb, eqb-true, lt-ltb, le-leb, leb-true}
use Rattle.std.proofs.lemmas.Slice.Eq.{bytes_eq-Decides}
use Rattle.std.specs.Prelude.{nat_le, nat_lt, option_map, option_copied}
use Rattle.std.specs.Option.{MatchOption}
use Rattle.std.specs.Str.{bytes_eq, chars}
use Rattle.std.specs.Str.Pattern.{FindsTextPrefix, StripsPrefix}
use Rattle.cell_types.specs.NameRule.{is_name, has_name_characters, is_reserved}
use Rattle.cell_types.specs.declared.column_type.ColType.{ColType}
use Rattle.cell_types.specs.declared.column_type.ColType.TheVariants as type
use Rattle.doc_model.specs.MetadataIds.{tables_id, columns_id, resources_id, rules_id, is_metadata_id}
use Rattle.doc_model.specs.Column.{is_sound_type}
use Rattle.doc_model.specs.Schema.{type_text}
use Rattle.doc_model.proofs.Choices.{cond_true, both_true, false_from}
use Rattle.meta_schema.specs.Decoding.{name_of, after, type_of}

-- ---- what follows a word

after-append : (word rest : List ℕ) → after word (word ++ rest) ≡ Some rest
after-append [] rest = refl
after-append (b ∷ word) rest = cond_true (eqb b b) (after word (word ++ rest)) None (eq-eqb b b refl) ∙ after-append word rest

pub after_parts : (word text rest : List ℕ) → after word text ≡ Some rest → text ≡ word ++ rest
after_parts [] text rest e = cc
after_parts (b ∷ word) [] rest e = absurd (cc)
after_parts (b ∷ word) (c ∷ text) rest e =
    elim (eqb b c) as (λ x. eqb b c ≡ x → cond x (after word text) None ≡ Some rest → c ∷ text ≡ b ∷ (word ++ rest)) [
      | true ↦ λ is e. ap (λ d. d ∷ text) (sym (eqb-true b c is)) ∙ ap (λ t. b ∷ t) (after_parts word text rest e)
      | false ↦ λ _ e. absurd (cc)
    ] refl e

-- what taking a word off the front gives
pub after_told : (word text : List ℕ) (o : Option (Bor (List ℕ))) → MatchOption o (FindsTextPrefix word text None) (λ x. StripsPrefix (FindsTextPrefix word) text x.now) → option_copied o ≡ after word text
after_told word text None h =
    elim (after word text) as (λ a. after word text ≡ a → ◌≡◌ {A = Option (List ℕ)} None a) [
      | None ↦ λ _. refl
      | Some rest ↦ λ e. absurd (h rest (after_parts word text rest e))
    ] refl
after_told word text (Some x) h =
    let split : text ≡ word ++ x.now = h.1.1 ∙ ap (λ t. word ++ t) (sym h.2) in
    sym (ap (after word) split ∙ after-append word x.now)

-- ---- names

name_from : (text : List ℕ) → 0 < length (chars text) → length (chars text) ≤ 64 → name_of text ≡ Some text
name_from text some few =
    cond_true (nat_lt 0 (length (chars text)) && nat_le (length (chars text)) 64) (Some text) None
    (both_true (nat_lt 0 (length (chars text))) (nat_le (length (chars text)) 64) (lt-ltb 0 (length (chars text)) some) (le-leb (length (chars text)) 64 few))

some_characters : (cs : List ℕ) → has_name_characters cs ≡ true → 0 < length cs
some_characters [] e = absurd (false≢true e)
some_characters (c ∷ cs) e = omega arith

-- what users may call a table or a column is a name
pub name_of-name : (text : List ℕ) → is_name text ≡ true → name_of text ≡ Some text
unfolding is_name
name_of-name text e =
    let two : (has_name_characters (chars text) ≡ true) × ((nat_le (length (chars text)) 64 && not (is_reserved text)) ≡ true) = and_parts (has_name_characters (chars text)) (nat_le (length (chars text)) 64 && not (is_reserved text)) e in
    name_from text (some_characters (chars text) two.0) (leb-true (length (chars text)) 64 (and_parts (nat_le (length (chars text)) 64) (not (is_reserved text)) two.1).0)

name_of-metadata : (id : List ℕ) → is_metadata_id id ≡ true → name_of id ≡ Some id
unfolding tables_id columns_id resources_id rules_id chars
name_of-metadata id e =
    elim (bytes_eq tables_id id) as (λ b. bytes_eq tables_id id ≡ b → ((b || bytes_eq columns_id id) || (bytes_eq resources_id id || bytes_eq rules_id id)) ≡ true → name_of id ≡ Some id) [
      | true ↦ λ is _. same tables_id is refl
      | false ↦ λ _. elim (bytes_eq columns_id id) as (λ b. bytes_eq columns_id id ≡ b → (b || (bytes_eq resources_id id || bytes_eq rules_id id)) ≡ true → name_of id ≡ Some id) [
        | true ↦ λ is _. same columns_id is refl
        | false ↦ λ _. elim (bytes_eq resources_id id) as (λ b. bytes_eq resources_id id ≡ b → (b || bytes_eq rules_id id) ≡ true → name_of id ≡ Some id) [
          | true ↦ λ is _. same resources_id is refl
          | false ↦ λ _ is. same rules_id is refl
        ] refl
      ] refl
    ] refl e
  where
    same : (m : List ℕ) → bytes_eq m id ≡ true → name_of m ≡ Some m → name_of id ≡ Some id
    same m is named = subst (λ c. name_of c ≡ Some c) ((bytes_eq-Decides m id).0 is) named

name_of-target : (id : List ℕ) → (is_name id || is_metadata_id id) ≡ true → name_of id ≡ Some id
name_of-target id e =
    elim (is_name id) as (λ b. is_name id ≡ b → (b || is_metadata_id id) ≡ true → name_of id ≡ Some id) [
      | true ↦ λ is _. name_of-name id is
      | false ↦ λ _ e. name_of-metadata id e
    ] refl e

-- ---- types

-- a sound type is read back from its text
pub type_of-type_text : (ty : ColType) → is_sound_type ty ≡ true → type_of (type_text ty) ≡ Some ty
type_of-type_text type.Any e = refl
type_of-type_text type.Text e = refl
type_of-type_text type.Int e = refl
type_of-type_text type.Bool e = refl
type_of-type_text type.Date e = refl
type_of-type_text (type.Ref t) e = ap (option_map type.Ref) (name_of-target t e)
type_of-type_text (type.RefList t) e = ap (option_map type.RefList) (name_of-target t e)

-- ---- a word and a name

-- a text is a word and a name where the name follows the word
pub names_told : (word text name : List ℕ) (o : Option (List ℕ)) → o ≡ after word text → elim o [ None ↦ false | Some rest ↦ bytes_eq rest name ] ≡ bytes_eq text (word ++ name)
names_told word text name None h =
    sym (false_from (bytes_eq text (word ++ name)) (λ is.
    let same : text ≡ word ++ name = (bytes_eq-Decides text (word ++ name)).0 is in
    let found : Some name ≡ after word text = sym (ap (after word) same ∙ after-append word name) in
    absurd (cc)))
names_told word text name (Some rest) h =
    let parts : text ≡ word ++ rest = after_parts word text rest (sym h) in
    sym (ap (λ t. bytes_eq t (word ++ name)) parts ∙ joined word)
  where
    joined : (word : List ℕ) → bytes_eq (word ++ rest) (word ++ name) ≡ bytes_eq rest name
    joined [] = refl
    joined (b ∷ word) = ap (λ x. x && bytes_eq (word ++ rest) (word ++ name)) (eq-eqb b b refl) ∙ joined word
