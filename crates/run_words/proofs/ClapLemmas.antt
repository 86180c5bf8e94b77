-- What clap makes of words that are of a form.
use Rattle.std.proofs.Common.{◌≡◌, ℕ, ◌==◌, true, false, cond, List, [], ◌∷◌, ◌++◌, Option, Some, None, IfSome, is_some, option_map, codes, refl, sym, ap, ◌∙◌, subst, arith, inl, inr, append_assoc, append-nil}
use Rattle.std.specs.Prelude.{option_and_then}
use Rattle.std.specs.Str.{bytes_eq, chars}
use Rattle.std.proofs.lemmas.Bool.{and_parts, eqb-true}
use Rattle.std.proofs.lemmas.Slice.Eq.{bytes_eq-Decides}
use Rattle.unicode_ident.proofs.IdentLemmas.{is_xid_start-ascii}
use Rattle.cell_types.specs.NameRule.{is_name}
use Rattle.clap.specs.Words.{Row, first_of, first_value, rows_of, subcommand_of, takes}
use Rattle.clap.specs.declared.parser.matches.Found.{Found as Matched}
use Rattle.clap.proofs.OnLiterals.{clap_on_literals}
use Rattle.clap.proofs.WalkLemmas.{first_value-rows}
use Rattle.run_words.specs.declared.plans.Plan.{Plan}
use Rattle.run_words.specs.Clap.{doc_of, found_in, watch_of, words_app}
use Rattle.run_words.specs.Options.{Found, nothing_found, options_in}
use Rattle.run_words.specs.Words.{replay_in, replay_of, replay_with}
use Rattle.run_words.proofs.SaidOptions.{Form, Kind, SaysFirst, apart, joined, next_said, of_doc, of_watch, said, value_of, with_kind}

abbrev replay : List ℕ
replay = codes "replay"

abbrev doc_found : List (List ℕ) → Option (List ℕ)
doc_found words = found_in (codes "doc") (subcommand_of words_app words)

abbrev watch_found : List (List ℕ) → Option (List ℕ)
watch_found words = found_in (codes "watch") (subcommand_of words_app words)

-- clap takes the words, and finds what the options name, which are names
pub record Finds (words : List (List ℕ)) (doc watch : Option (List ℕ)) : Type 0 where
  pub takes : takes words_app words ≡ true
  pub shows_doc : doc_found words ≡ doc
  pub shows_watch : watch_found words ≡ watch
  pub doc_named : IfSome doc (λ t. is_name t ≡ true)
  pub watch_named : IfSome watch (λ t. is_name t ≡ true)

-- a name does not begin with a hyphen
hyphen_first : (cs : List ℕ) → is_name (45 ∷ cs) ≡ true → ⊥
unfolding is_name chars
hyphen_first [] good =
    let start = (and_parts _ _ (and_parts _ _ good).0).0 in
    let not : false ≡ true = sym (is_xid_start-ascii 45 (omega arith)) ∙ start in
    cc
hyphen_first (b ∷ bs) good =
    let start = (and_parts _ _ (and_parts _ _ good).0).0 in
    let not : false ≡ true = sym (is_xid_start-ascii 45 (omega arith)) ∙ start in
    cc

no_hyphen : (c : ℕ) (cs : List ℕ) → is_name (c ∷ cs) ≡ true → (c == 45) ≡ false
no_hyphen c cs good = elim (c == 45) as (λ b. (c == 45) ≡ b → b ≡ false) [
  | true ↦ λ same. absurd (hyphen_first cs (subst (λ d. is_name (d ∷ cs) ≡ true) (eqb-true c 45 same) good))
  | false ↦ λ apart. refl
] refl

-- the text has a first character, which is no hyphen
begins : (text : List ℕ) → is_name text ≡ true → (c : ℕ) × (cs : List ℕ) × (text ≡ c ∷ cs) × ((c == 45) ≡ false)
unfolding is_name chars
begins [] name = let never : ⊥ = cc name in absurd never
begins (c ∷ cs) name = (c, cs, refl, no_hyphen c cs name)

bare : Finds (replay ∷ []) None None
unfolding clap_on_literals
bare = record { takes = refl; shows_doc = refl; shows_watch = refl; doc_named = tt; watch_named = tt }

-- what clap makes of words: it takes them, and finds these
abbrev Makes : List (List ℕ) → Option (List ℕ) → Option (List ℕ) → Type 0
Makes words doc watch = (takes words_app words ≡ true) × (doc_found words ≡ doc) × (watch_found words ≡ watch)

doc_joined : (t : List ℕ) → Makes (replay ∷ (codes "--doc=" ++ t) ∷ []) (Some t) (None)
unfolding clap_on_literals
doc_joined t = (refl, refl, refl)

doc_apart : (c : ℕ) (cs : List ℕ) → (c == 45) ≡ false → Makes (replay ∷ codes "--doc" ∷ (c ∷ cs) ∷ []) (Some (c ∷ cs)) (None)
unfolding clap_on_literals
doc_apart c cs e = (simp e refl, simp e refl, simp e refl)

watch_joined : (t : List ℕ) → Makes (replay ∷ (codes "--watch=" ++ t) ∷ []) (None) (Some t)
unfolding clap_on_literals
watch_joined t = (refl, refl, refl)

watch_apart : (c : ℕ) (cs : List ℕ) → (c == 45) ≡ false → Makes (replay ∷ codes "--watch" ∷ (c ∷ cs) ∷ []) (None) (Some (c ∷ cs))
unfolding clap_on_literals
watch_apart c cs e = (simp e refl, simp e refl, simp e refl)

doc_joined_watch_joined : (t : List ℕ) (u : List ℕ) → Makes (replay ∷ (codes "--doc=" ++ t) ∷ (codes "--watch=" ++ u) ∷ []) (Some t) (Some u)
unfolding clap_on_literals
doc_joined_watch_joined t u = (refl, refl, refl)

doc_joined_watch_apart : (t : List ℕ) (d : ℕ) (ds : List ℕ) → (d == 45) ≡ false → Makes (replay ∷ (codes "--doc=" ++ t) ∷ codes "--watch" ∷ (d ∷ ds) ∷ []) (Some t) (Some (d ∷ ds))
unfolding clap_on_literals
doc_joined_watch_apart t d ds e = (simp e refl, simp e refl, simp e refl)

doc_apart_watch_joined : (c : ℕ) (cs : List ℕ) (u : List ℕ) → (c == 45) ≡ false → Makes (replay ∷ codes "--doc" ∷ (c ∷ cs) ∷ (codes "--watch=" ++ u) ∷ []) (Some (c ∷ cs)) (Some u)
unfolding clap_on_literals
doc_apart_watch_joined c cs u e = (simp e refl, simp e refl, simp e refl)

doc_apart_watch_apart : (c : ℕ) (cs : List ℕ) (d : ℕ) (ds : List ℕ) → (c == 45) ≡ false → (d == 45) ≡ false → Makes (replay ∷ codes "--doc" ∷ (c ∷ cs) ∷ codes "--watch" ∷ (d ∷ ds) ∷ []) (Some (c ∷ cs)) (Some (d ∷ ds))
unfolding clap_on_literals
doc_apart_watch_apart c cs d ds e h = (simp (e, h) refl, simp (e, h) refl, simp (e, h) refl)

watch_joined_doc_joined : (t : List ℕ) (u : List ℕ) → Makes (replay ∷ (codes "--watch=" ++ t) ∷ (codes "--doc=" ++ u) ∷ []) (Some u) (Some t)
unfolding clap_on_literals
watch_joined_doc_joined t u = (refl, refl, refl)

watch_joined_doc_apart : (t : List ℕ) (d : ℕ) (ds : List ℕ) → (d == 45) ≡ false → Makes (replay ∷ (codes "--watch=" ++ t) ∷ codes "--doc" ∷ (d ∷ ds) ∷ []) (Some (d ∷ ds)) (Some t)
unfolding clap_on_literals
watch_joined_doc_apart t d ds e = (simp e refl, simp e refl, simp e refl)

watch_apart_doc_joined : (c : ℕ) (cs : List ℕ) (u : List ℕ) → (c == 45) ≡ false → Makes (replay ∷ codes "--watch" ∷ (c ∷ cs) ∷ (codes "--doc=" ++ u) ∷ []) (Some u) (Some (c ∷ cs))
unfolding clap_on_literals
watch_apart_doc_joined c cs u e = (simp e refl, simp e refl, simp e refl)

watch_apart_doc_apart : (c : ℕ) (cs : List ℕ) (d : ℕ) (ds : List ℕ) → (c == 45) ≡ false → (d == 45) ≡ false → Makes (replay ∷ codes "--watch" ∷ (c ∷ cs) ∷ codes "--doc" ∷ (d ∷ ds) ∷ []) (Some (d ∷ ds)) (Some (c ∷ cs))
unfolding clap_on_literals
watch_apart_doc_apart c cs d ds e h = (simp (e, h) refl, simp (e, h) refl, simp (e, h) refl)

-- one option
one : (form : Form) (k : Kind) (text : List ℕ) → is_name text ≡ true → Makes (replay ∷ said form k text) (with_kind nothing_found k text).doc (with_kind nothing_found k text).watch
one joined of_doc text name = doc_joined text
one apart of_doc text name =
    let b = begins text name in
    subst (λ t. Makes (replay ∷ codes "--doc" ∷ t ∷ []) (Some t) (None)) (sym b.2) (doc_apart b.0 b.1 b.3)
one joined of_watch text name = watch_joined text
one apart of_watch text name =
    let b = begins text name in
    subst (λ t. Makes (replay ∷ codes "--watch" ∷ t ∷ []) (None) (Some t)) (sym b.2) (watch_apart b.0 b.1 b.3)

-- two options
doc_first : (form1 form2 : Form) (t u : List ℕ) → is_name t ≡ true → is_name u ≡ true → Makes (replay ∷ said form1 of_doc t ++ said form2 of_watch u) (Some t) (Some u)
doc_first joined joined t u n m =
    doc_joined_watch_joined t u
doc_first joined apart t u n m =
    let d = begins u m in
    subst (λ x. Makes (replay ∷ (codes "--doc=" ++ t) ∷ codes "--watch" ∷ x ∷ []) (Some t) (Some x)) (sym d.2) (doc_joined_watch_apart t d.0 d.1 d.3)
doc_first apart joined t u n m =
    let b = begins t n in
    subst (λ x. Makes (replay ∷ codes "--doc" ∷ x ∷ (codes "--watch=" ++ u) ∷ []) (Some x) (Some u)) (sym b.2) (doc_apart_watch_joined b.0 b.1 u b.3)
doc_first apart apart t u n m =
    let b = begins t n in
    let d = begins u m in
    subst (λ x. Makes (replay ∷ codes "--doc" ∷ x ∷ codes "--watch" ∷ u ∷ []) (Some x) (Some u)) (sym b.2)
    (subst (λ x. Makes (replay ∷ codes "--doc" ∷ (b.0 ∷ b.1) ∷ codes "--watch" ∷ x ∷ []) (Some (b.0 ∷ b.1)) (Some x)) (sym d.2) (doc_apart_watch_apart b.0 b.1 d.0 d.1 b.3 d.3))

watch_first : (form1 form2 : Form) (t u : List ℕ) → is_name t ≡ true → is_name u ≡ true → Makes (replay ∷ said form1 of_watch t ++ said form2 of_doc u) (Some u) (Some t)
watch_first joined joined t u n m =
    watch_joined_doc_joined t u
watch_first joined apart t u n m =
    let d = begins u m in
    subst (λ x. Makes (replay ∷ (codes "--watch=" ++ t) ∷ codes "--doc" ∷ x ∷ []) (Some x) (Some t)) (sym d.2) (watch_joined_doc_apart t d.0 d.1 d.3)
watch_first apart joined t u n m =
    let b = begins t n in
    subst (λ x. Makes (replay ∷ codes "--watch" ∷ x ∷ (codes "--doc=" ++ u) ∷ []) (Some u) (Some x)) (sym b.2) (watch_apart_doc_joined b.0 b.1 u b.3)
watch_first apart apart t u n m =
    let b = begins t n in
    let d = begins u m in
    subst (λ x. Makes (replay ∷ codes "--watch" ∷ x ∷ codes "--doc" ∷ u ∷ []) (Some u) (Some x)) (sym b.2)
    (subst (λ x. Makes (replay ∷ codes "--watch" ∷ (b.0 ∷ b.1) ∷ codes "--doc" ∷ x ∷ []) (Some x) (Some (b.0 ∷ b.1))) (sym d.2) (watch_apart_doc_apart b.0 b.1 d.0 d.1 b.3 d.3))

-- ---- words of a form

abbrev Names : Found → Type 0
Names f = IfSome f.doc (λ t. is_name t ≡ true) × IfSome f.watch (λ t. is_name t ≡ true)

abbrev Replays : List (List ℕ) → Found → Type 0
Replays options f = Finds (replay ∷ options) f.doc f.watch

found_by : (options : List (List ℕ)) (f : Found) → Makes (replay ∷ options) f.doc f.watch → Names f → Replays options f
found_by options f made names = record { takes = made.0; shows_doc = made.1; shows_watch = made.2; doc_named = names.0; watch_named = names.1 }

-- behind these options no other is said
ends : (front : List (List ℕ)) (f g : Found) (rest : List (List ℕ)) → (rest ≡ []) × (f ≡ g) → Replays front f → Replays (front ++ rest) g
ends front f g rest end done =
    subst (λ h. Replays (front ++ rest) h) end.1 (subst (λ r. Replays (front ++ r) f) (sym end.0) (subst (λ l. Replays l f) (sym (append-nil front)) done))

one_found : (form : Form) (k : Kind) (t : List ℕ) → is_name t ≡ true → Replays (said form k t) (with_kind nothing_found k t)
one_found form of_doc t n = found_by (said form of_doc t) (with_kind nothing_found of_doc t) (one form of_doc t n) (n, tt)
one_found form of_watch t n = found_by (said form of_watch t) (with_kind nothing_found of_watch t) (one form of_watch t n) (tt, n)

abbrev both : List ℕ → List ℕ → Found
both t u = record { doc = Some t; watch = Some u; lanes = None; port = None; conns = None }

-- nor behind both
none_free : (t u : List ℕ) (k : Kind) → value_of (both t u) k ≡ None → ⊥
none_free t u of_doc e = cc e
none_free t u of_watch e = cc e

both_said : (t u : List ℕ) (g : Found) (front rest : List (List ℕ)) → options_in false (both t u) rest ≡ Some g → Replays front (both t u) → Replays (front ++ rest) g
both_said t u g front rest e done =
    elim (next_said (both t u) g rest e) [
      | inl end ↦ ends front (both t u) g rest end done
      | inr more ↦ absurd (none_free t u more.kind more.free)
    ]

two_said : (g : Found) (form : Form) (k : Kind) (t : List ℕ) → is_name t ≡ true → (form2 : Form) (k2 : Kind) (u : List ℕ) (rest : List (List ℕ)) → value_of (with_kind nothing_found k t) k2 ≡ None → is_name u ≡ true → options_in false (with_kind (with_kind nothing_found k t) k2 u) rest ≡ Some g → Replays ((said form k t ++ said form2 k2 u) ++ rest) g
two_said g form of_doc t n form2 of_doc u rest free m e = let never : ⊥ = cc free in absurd never
two_said g form of_doc t n form2 of_watch u rest free m e =
    both_said t u g (said form of_doc t ++ said form2 of_watch u) rest e (found_by (said form of_doc t ++ said form2 of_watch u) (both t u) (doc_first form form2 t u n m) (n, m))
two_said g form of_watch t n form2 of_doc u rest free m e =
    both_said u t g (said form of_watch t ++ said form2 of_doc u) rest e (found_by (said form of_watch t ++ said form2 of_doc u) (both u t) (watch_first form form2 t u n m) (m, n))
two_said g form of_watch t n form2 of_watch u rest free m e = let never : ⊥ = cc free in absurd never

-- behind one option there is the other, or none
one_said : (g : Found) (form : Form) (k : Kind) (t : List ℕ) (rest : List (List ℕ)) → is_name t ≡ true → options_in false (with_kind nothing_found k t) rest ≡ Some g → Replays (said form k t ++ rest) g
one_said g form k t rest n e =
    elim (next_said (with_kind nothing_found k t) g rest e) [
      | inl end ↦ ends (said form k t) (with_kind nothing_found k t) g rest end (one_found form k t n)
      | inr more ↦
          subst (λ r. Replays (said form k t ++ r) g) (sym more.words_are)
          (subst (λ l. Replays l g) (append_assoc (said form k t) (said more.form more.kind more.text) more.rest)
          (two_said g form k t n more.form more.kind more.text more.rest more.free more.name more.later))
    ]

all_said : (g : Found) (options : List (List ℕ)) → options_in false nothing_found options ≡ Some g → Replays options g
all_said g options e =
    elim (next_said nothing_found g options e) [
      | inl end ↦ ends [] nothing_found g options end bare
      | inr more ↦ subst (λ r. Replays r g) (sym more.words_are) (one_said g more.form more.kind more.text more.rest more.name more.later)
    ]

-- what is found of a plan
abbrev FindsOf : List (List ℕ) → Option Plan → Type 0
FindsOf words p = Finds words (option_and_then doc_of p) (option_and_then watch_of p)

of_found : (options : List (List ℕ)) (r : Option Found) → options_in false nothing_found options ≡ r → is_some (option_map replay_with r) ≡ true → FindsOf (replay ∷ options) (option_map replay_with r)
of_found options None e good = let never : ⊥ = cc good in absurd never
of_found options (Some g) e good = all_said g options e

-- clap takes words that are of a form, and finds what they name
pub finds_form : (words : List (List ℕ)) → is_some (replay_in words) ≡ true → FindsOf words (replay_in words)
finds_form [] good = let never : ⊥ = cc good in absurd never
finds_form (word ∷ options) good = elim (bytes_eq word replay) as (λ b. bytes_eq word replay ≡ b → is_some (cond b (replay_of options) None) ≡ true → FindsOf (word ∷ options) (cond b (replay_of options) None)) [
  | true ↦ λ same g. subst (λ w. FindsOf (w ∷ options) (replay_of options)) (sym ((bytes_eq-Decides word replay).0 same)) (of_found options (options_in false nothing_found options) refl g)
  | false ↦ λ apart g. let never : ⊥ = cc g in absurd never
] refl good

-- ---- what is read of the matches

rows_found : (name : List ℕ) (found : Option (List ℕ × List Row)) (rows : Option (List Row)) → rows ≡ option_map (λ p. p.1) found → found_in name found ≡ option_and_then (first_of name) rows
rows_found name None rows e = ap (option_and_then (first_of name)) (sym e)
rows_found name (Some p) rows e = ap (option_and_then (first_of name)) (sym e)

pub value_found : (name : List ℕ) (found : Option (List ℕ × List Row)) (f : Matched) → Some (rows_of f) ≡ option_map (λ p. p.1) found → found_in name found ≡ first_value f name
value_found name found f e = rows_found name found (Some (rows_of f)) e ∙ sym (first_value-rows f name)

-- what is read is a name where what was found is one
pub is_name_read : {S : Type 0} (now : S → List ℕ) (o : Option S) (found : Option (List ℕ)) → option_map now o ≡ found → IfSome found (λ t. is_name t ≡ true) → IfSome o (λ s. is_name (now s) ≡ true)
is_name_read now None found e good = tt
is_name_read now (Some s) found e good = subst (λ f. IfSome f (λ t. is_name t ≡ true)) (sym e) good
