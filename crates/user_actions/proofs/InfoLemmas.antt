-- What a user says of a column is sound.
use Rattle.std.proofs.Common.{ℕ, Bool, true, false, cond, ◌||◌, List, [], ◌∷◌, ◌++◌, ◌≡◌, refl, sym, ap, ◌∙◌, Option, Some, None, option_map, unwrap_or, codes, eqb, Bor}
use Rattle.std.proofs.lemmas.Bool.{eqb-true, eq-eqb}
use Rattle.std.specs.Option.{MatchOption, option_copied}
use Rattle.std.specs.Str.{bytes_eq}
use Rattle.std.specs.Str.Pattern.{FindsTextPrefix, StripsPrefix}
use Rattle.cell_types.specs.NameRule.{is_name}
use Rattle.cell_types.specs.declared.column_type.ColType.{ColType}
use Rattle.cell_types.specs.declared.column_type.ColType.TheVariants as type
use Rattle.doc_model.specs.Column.{is_sound_type}
use Rattle.doc_model.specs.MetadataIds.{is_metadata_id}
use Rattle.doc_model.specs.Records.{or_else}
use Rattle.user_actions.specs.Infos.{behind, name_behind, named, plain_type_of, reference_type_of, type_of, type_or}

-- ---- the rest of a text

behind_append : (start rest : List ℕ) → behind start (start ++ rest) ≡ Some rest
behind_append [] rest = refl
behind_append (c ∷ start) rest = ap (λ b. cond b (behind start (start ++ rest)) None) (eq-eqb c c refl) ∙ behind_append start rest

behind_lacks : (start text : List ℕ) → ((rest : List ℕ) → text ≡ start ++ rest → ⊥) → behind start text ≡ None
behind_lacks [] text lacks = absurd (lacks text refl)
behind_lacks (c ∷ start) [] lacks = refl
behind_lacks (c ∷ start) (d ∷ text) lacks =
    elim (eqb c d) as (λ b. eqb c d ≡ b → cond b (behind start text) None ≡ None) [
      | true ↦ λ is. behind_lacks start text (λ rest e. lacks rest (ap (λ l. d ∷ l) e ∙ ap (λ n. n ∷ (start ++ rest)) (sym (eqb-true c d is))))
      | false ↦ λ _. refl
    ] refl

pub behind_from : (start text : List ℕ) (r : Option (Bor (List ℕ))) → MatchOption r (FindsTextPrefix start text None) (λ x. StripsPrefix (FindsTextPrefix start) text x.now) → option_copied r ≡ behind start text
behind_from start text None h = sym (behind_lacks start text h)
behind_from start text (Some x) h =
    let found : text ≡ start ++ x.now = h.1.1 ∙ ap (λ l. start ++ l) (sym h.2) in
    sym (ap (behind start) found ∙ behind_append start x.now)

-- ---- types

-- the type is sound, where there is one
abbrev is_good : Option ColType → Bool
is_good o = elim o [ None ↦ true | Some ty ↦ is_sound_type ty ]

good_named : (text name : List ℕ) (ty : ColType) (next : Option ColType) → is_sound_type ty ≡ true → is_good next ≡ true → is_good (named text name ty next) ≡ true
good_named text name ty next this rest = elim (bytes_eq text name) as (λ b. is_good (cond b (Some ty) next) ≡ true) [ true ↦ this | false ↦ rest ]

good_plain : (text : List ℕ) → is_good (plain_type_of text) ≡ true
good_plain text =
    let date : Option ColType = named text (codes "Date") type.Date None in
    let bool : Option ColType = named text (codes "Bool") type.Bool date in
    let int : Option ColType = named text (codes "Int") type.Int bool in
    let words : Option ColType = named text (codes "Text") type.Text int in
    good_named text (codes "Any") type.Any words refl (good_named text (codes "Text") type.Text int refl
    (good_named text (codes "Int") type.Int bool refl (good_named text (codes "Bool") type.Bool date refl (good_named text (codes "Date") type.Date None refl refl))))

good_behind : (f : List ℕ → ColType) → ((t : List ℕ) → is_sound_type (f t) ≡ (is_name t || is_metadata_id t)) → (start text : List ℕ) → is_good (option_map f (name_behind start text)) ≡ true
good_behind f sound start text =
    elim (behind start text) as (λ (o : Option (List ℕ)). is_good (option_map f (elim o as (λ _. Option (List ℕ)) [ None ↦ None | Some rest ↦ cond (is_name rest) (Some rest) None ])) ≡ true) [
      | None ↦ refl
      | Some rest ↦ elim (is_name rest) as (λ b. is_name rest ≡ b → is_good (option_map f (cond b (Some rest) None)) ≡ true) [
        | true ↦ λ good. sound rest ∙ ap (λ b. b || is_metadata_id rest) good
        | false ↦ λ _. refl
      ] refl
    ]

good_else : (a b : Option ColType) → is_good a ≡ true → is_good b ≡ true → is_good (or_else a b) ≡ true
good_else None b h k = k
good_else (Some ty) b h k = h

good_type : (text : List ℕ) → is_good (type_of text) ≡ true
good_type text =
    good_else (plain_type_of text) (reference_type_of text) (good_plain text)
    (good_else (option_map type.Ref (name_behind (codes "Ref:") text)) (option_map type.RefList (name_behind (codes "RefList:") text))
    (good_behind type.Ref (λ t. refl) (codes "Ref:") text) (good_behind type.RefList (λ t. refl) (codes "RefList:") text))

good_or : (o : Option ColType) (other : ColType) → is_good o ≡ true → is_sound_type other ≡ true → is_sound_type (unwrap_or o other) ≡ true
good_or None other h k = k
good_or (Some ty) other h k = h

pub said_sound : (other : ColType) → is_sound_type other ≡ true → (o : Option (List ℕ)) → is_sound_type (unwrap_or (type_or other o) other) ≡ true
said_sound other h None = h
said_sound other h (Some text) = good_or (type_of text) other (good_type text) h
