-- What the options of a replay say, one after the other.
use Rattle.std.proofs.Common.{◌≡◌, ◌<◌, ◌⊎◌, inl, inr, ℕ, ◌==◌, Bool, true, false, cond, List, [], ◌∷◌, ◌++◌, length, get_or, Option, Some, None, option_map, codes, refl, sym, ap, ◌∙◌, subst, arith, rules}
use Rattle.std.specs.Prelude.{nat_lt, option_and_then}
use Rattle.std.specs.List.{after_first, before_first, position_or_len}
use Rattle.std.specs.Str.{bytes_eq}
use Rattle.std.proofs.lemmas.Slice.Eq.{bytes_eq-Decides}
use Rattle.std.proofs.lemmas.Bool.{eqb-true, ltb-true}
use Rattle.std.proofs.lemmas.List.Sums.{passes_at_first, split_at_first}
use Rattle.cell_types.specs.NameRule.{is_name}
use Rattle.run_words.specs.declared.option_words.WordOption.{WordOption}
use Rattle.run_words.specs.declared.option_words.WordOption.TheVariants.{Doc, Watch}
use Rattle.run_words.specs.Options.{Found, is_equals, joined_option, name_in, option_named, options_in, said_once, with_apart, with_joined, with_option}

-- the options of a replay, and the two forms in which they are said
pub data Kind : Type 0 where
  of_doc : Kind
  of_watch : Kind

pub data Form : Type 0 where
  joined : Form
  apart : Form

abbrev pub word_of : Kind → List ℕ
word_of of_doc = codes "--doc"
word_of of_watch = codes "--watch"

abbrev pub option_of : Kind → WordOption
option_of of_doc = Doc
option_of of_watch = Watch

abbrev pub said : Form → Kind → List ℕ → List (List ℕ)
said joined k text = (word_of k ++ 61 ∷ text) ∷ []
said apart k text = word_of k ∷ text ∷ []

abbrev pub with_kind : Found → Kind → List ℕ → Found
with_kind f of_doc text = record f { doc = Some text }
with_kind f of_watch text = record f { watch = Some text }

abbrev pub value_of : Found → Kind → Option (List ℕ)
value_of f of_doc = f.doc
value_of f of_watch = f.watch

-- one option more was said
pub record Says (f g : Found) (k : Kind) (text : List ℕ) : Type 0 where
  pub free : value_of f k ≡ None
  pub name : is_name text ≡ true
  pub after : g ≡ with_kind f k text

-- an option was said first, and what it said
pub record SaysFirst (f g : Found) (words : List (List ℕ)) : Type 0 where
  pub form : Form
  pub kind : Kind
  pub text : List ℕ
  pub rest : List (List ℕ)
  pub words_are : words ≡ said form kind text ++ rest
  pub free : value_of f kind ≡ None
  pub name : is_name text ≡ true
  pub later : options_in false (with_kind f kind text) rest ≡ Some g

kind_named : (word : List ℕ) (o : WordOption) → option_named false word ≡ Some o → (k : Kind) × (word ≡ word_of k) × (o ≡ option_of k)
kind_named word o =
    elim (bytes_eq word (codes "--doc")) as (λ b. bytes_eq word (codes "--doc") ≡ b → cond b (Some Doc) (cond (bytes_eq word (codes "--watch")) (Some Watch) None) ≡ Some o → (k : Kind) × (word ≡ word_of k) × (o ≡ option_of k)) [
      | true ↦ λ same e. let is : o ≡ Doc = cc in (of_doc, (bytes_eq-Decides word (codes "--doc")).0 same, is)
      | false ↦ λ other. elim (bytes_eq word (codes "--watch")) as (λ b. bytes_eq word (codes "--watch") ≡ b → cond b (Some Watch) None ≡ Some o → (k : Kind) × (word ≡ word_of k) × (o ≡ option_of k)) [
        | true ↦ λ same e. let is : o ≡ Watch = cc in (of_watch, (bytes_eq-Decides word (codes "--watch")).0 same, is)
        | false ↦ λ none e. let never : ⊥ = cc in absurd never
      ] refl
    ] refl

abbrev Once : Option (List ℕ) → List ℕ → (List ℕ → Found) → Found → Type 0
Once before text put g = (before ≡ None) × (is_name text ≡ true) × (g ≡ put text)

-- a text is said once, where it is a name
named_once : (before : Option (List ℕ)) (text : List ℕ) (put : List ℕ → Found) (g : Found) → option_map put (said_once before (name_in text)) ≡ Some g → Once before text put g
named_once (Some x) text put g e = let never : ⊥ = cc e in absurd never
named_once None text put g e =
    elim (is_name text) as (λ b. is_name text ≡ b → option_map put (cond b (Some text) None) ≡ Some g → Once None text put g) [
      | true ↦ λ same e. let is : g ≡ put text = cc in (refl, same, is)
      | false ↦ λ other e. let never : ⊥ = cc in absurd never
    ] refl e

said_more : (f g : Found) (k : Kind) (text : List ℕ) → with_option f (option_of k) text ≡ Some g → Says f g k text
said_more f g of_doc text e =
    let all = named_once f.doc text (λ name. record f { doc = Some name }) g e in
    record { free = all.0; name = all.1; after = all.2 }
said_more f g of_watch text e =
    let all = named_once f.watch text (λ name. record f { watch = Some name }) g e in
    record { free = all.0; name = all.1; after = all.2 }

-- an option that is named says so
named_says : (f g : Found) (word text : List ℕ) → option_and_then (λ o. with_option f o text) (option_named false word) ≡ Some g → (k : Kind) × (word ≡ word_of k) × Says f g k text
named_says f g word text =
    elim (option_named false word) as (λ r. option_named false word ≡ r → option_and_then (λ o. with_option f o text) r ≡ Some g → (k : Kind) × (word ≡ word_of k) × Says f g k text) [
      | None ↦ λ none e. let never : ⊥ = cc e in absurd never
      | Some o ↦ λ named e.
          let k = kind_named word o named in
          (k.0, k.1, said_more f g k.0 text (ap (λ p. with_option f p text) (sym k.2) ∙ e))
    ] refl

-- a word with `=` in it
split_word : (word : List ℕ) → nat_lt (position_or_len is_equals word) (length word) ≡ true → word ≡ before_first is_equals word ++ 61 ∷ after_first is_equals word
split_word word lt =
    let there = ltb-true (position_or_len is_equals word) (length word) lt in
    let is = eqb-true (get_or word (position_or_len is_equals word) 0) 61 (passes_at_first is_equals word 0 there) in
    split_at_first is_equals word 0 there ∙ ap (λ c. before_first is_equals word ++ c ∷ after_first is_equals word) is

abbrev Joins : Found → Found → List ℕ → Type 0
Joins f g word = (k : Kind) × (text : List ℕ) × (word ≡ word_of k ++ 61 ∷ text) × Says f g k text

-- an option and its text in one word
joined_says : (f g : Found) (word : List ℕ) → with_joined false f word ≡ Some g → Joins f g word
joined_says f g word =
    let front = before_first is_equals word in
    let text = after_first is_equals word in
    elim (nat_lt (position_or_len is_equals word) (length word)) as (λ b. nat_lt (position_or_len is_equals word) (length word) ≡ b → option_and_then (λ (p : WordOption × List ℕ). with_option f p.0 p.1) (cond b (option_map (λ o. (o, text)) (option_named false front)) None) ≡ Some g → Joins f g word) [
      | false ↦ λ none e. let never : ⊥ = cc e in absurd never
      | true ↦ λ lt. elim (option_named false front) as (λ r. option_named false front ≡ r → option_and_then (λ (p : WordOption × List ℕ). with_option f p.0 p.1) (option_map (λ o. (o, text)) r) ≡ Some g → Joins f g word) [
        | None ↦ λ none e. let never : ⊥ = cc e in absurd never
        | Some o ↦ λ named e.
            let k = kind_named front o named in
            (k.0, text, split_word word lt ∙ ap (λ w. w ++ 61 ∷ text) k.1, said_more f g k.0 text (ap (λ p. with_option f p text) (sym k.2) ∙ e))
      ] refl
    ] refl

same_found : (f g : Found) → Some f ≡ Some g → f ≡ g
same_found f g e = cc

-- the options are said, or one of them is said first
pub next_said : (f g : Found) (words : List (List ℕ)) → options_in false f words ≡ Some g → ((words ≡ []) × (f ≡ g)) ⊎ SaysFirst f g words
next_said f g [] e = inl (refl, same_found f g e)
next_said f g (word ∷ []) e =
    let j = joined_says f g word e in
    let s = j.3 in
    inr (record { form = joined; kind = j.0; text = j.1; rest = []; words_are = ap (λ w. w ∷ []) j.2; free = s.free; name = s.name; later = ap Some (sym s.after) })
next_said f g (word ∷ text ∷ more) e =
    elim (with_joined false f word) as (λ r. with_joined false f word ≡ r → elim r as (λ _. Option Found) [ Some h ↦ options_in false h (text ∷ more) | None ↦ option_and_then (λ h. options_in false h more) (with_apart false f word text) ] ≡ Some g → ((word ∷ text ∷ more ≡ []) × (f ≡ g)) ⊎ SaysFirst f g (word ∷ text ∷ more)) [
      | Some h ↦ λ is e.
          let j = joined_says f h word is in
          let s = j.3 in
          inr (record { form = joined; kind = j.0; text = j.1; rest = text ∷ more; words_are = ap (λ w. w ∷ text ∷ more) j.2; free = s.free; name = s.name; later = ap (λ x. options_in false x (text ∷ more)) (sym s.after) ∙ e })
      | None ↦ λ is. elim (with_apart false f word text) as (λ r. with_apart false f word text ≡ r → option_and_then (λ h. options_in false h more) r ≡ Some g → ((word ∷ text ∷ more ≡ []) × (f ≡ g)) ⊎ SaysFirst f g (word ∷ text ∷ more)) [
        | None ↦ λ none e. let never : ⊥ = cc e in absurd never
        | Some h ↦ λ apart_is e.
            let n = named_says f h word text apart_is in
            let s = n.2 in
            inr (record { form = apart; kind = n.0; text = text; rest = more; words_are = ap (λ w. w ∷ text ∷ more) n.1; free = s.free; name = s.name; later = ap (λ x. options_in false x more) (sym s.after) ∙ e })
      ] refl
    ] refl e
