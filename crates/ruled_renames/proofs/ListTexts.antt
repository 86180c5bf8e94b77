-- A list of columns with one of them under a new name.
use Rattle.std.proofs.Common.{◌≡◌, ◌∙◌, ap, refl, subst, sym, ℕ, suc, ◌<◌, ◌&&◌, ◌||◌, ◌==◌, arith, Bool, true, false, cond, not, nat_le, List, [], ◌∷◌, ◌++◌, map, length, get_or, codes, Option, Some, None, option_map, append-nil, append_assoc, bytes_eq}
use Rattle.std.specs.List.{AllByRecursion, list_all, list_any}
use Rattle.std.specs.Char.{encode_utf8}
use Rattle.std.specs.Str.{IsUtf8, all_scalars, encode_utf8_all}
use Rattle.std.proofs.lemmas.Bool.{and_from, and_parts, eqb-true, false≢true, or_parts}
use Rattle.std.proofs.lemmas.Slice.Eq.{bytes_eq-Decides}
use Rattle.std.proofs.Math.Utf8.{scalar}
use Rattle.std.proofs.lemmas.Str.{IsUtf8-append, IsUtf8-encode, IsUtf8-nil, encode_ascii, inside_one}
use Rattle.acl_rules.specs.declared.resource.Columns.{Columns}
use Rattle.acl_rules.specs.declared.resource.Columns.TheVariants as columns
use Rattle.acl_rules.specs.Carried.{moved_columns, moved_id}
use Rattle.acl_rules.specs.RuleTexts.{are_names, columns_of, parts_of, put_first}
use Rattle.acl_rules.proofs.TextLemmas.{parts_alone, parts_before, parts_some}
use Rattle.cell_types.specs.NameRule.{is_name}
use Rattle.doc_model.specs.Column.{is_short}
use Rattle.renamed_resources.specs.LengthLaw.{LengthLaw}
use Rattle.renamed_resources.specs.NameLists as lists
use Rattle.renamed_resources.specs.Renamed.{if_short, list_renamed, names_renamed}
use Rattle.ruled_renames.specs.ListLaw.{RenamedListLaw}
use Rattle.ruled_renames.proofs.NameTexts.{no_comma, star_no_name}

-- ---- parts

-- the two ways to say the parts of a text are one
parts_same : (t : List ℕ) → lists.parts_of t ≡ parts_of t
parts_same [] = refl
parts_same (c ∷ cs) = ap (λ ps. cond (c == 44) ([] ∷ ps) (lists.put_first c ps)) (parts_same cs) ∙ ap (λ ps. cond (c == 44) ([] ∷ parts_of cs) ps) (put_same (parts_of cs))
  where
    put_same : (ps : List (List ℕ)) → lists.put_first c ps ≡ put_first c ps
    put_same [] = refl
    put_same (p ∷ ps) = refl

names_are : (t : List ℕ) → lists.names_of t ≡ cond (are_names (parts_of t)) (Some (parts_of t)) None
names_are t = ap (λ ps. cond (are_names ps) (Some ps) None) (parts_same t)

-- what has no comma is in front of the first part
put_front : (xs ys p : List ℕ) (ps : List (List ℕ)) → ((i : ℕ) → i < length xs → get_or xs i 0 ≡ 44 → ⊥) → parts_of ys ≡ p ∷ ps → parts_of (xs ++ ys) ≡ (xs ++ p) ∷ ps
put_front [] ys p ps apart e = e
put_front (x ∷ xs) ys p ps apart e =
    ap (λ (b : Bool). cond b ([] ∷ parts_of (xs ++ ys)) (put_first x (parts_of (xs ++ ys)))) (differs x (apart 0 (omega arith)))
    ∙ ap (put_first x) (put_front xs ys p ps (λ i l. apart (suc i) (omega arith)) e)
  where
    differs : (x : ℕ) → (x ≡ 44 → ⊥) → (x == 44) ≡ false
    differs x apart = by (x == 44) refl
      where
        by : (b : Bool) → (x == 44) ≡ b → (x == 44) ≡ false
        by true e = absurd (apart (eqb-true x 44 e))
        by false e = e

-- the parts of UTF-8 are UTF-8
utf8_each : (cs : List ℕ) → all_scalars cs ≡ true → AllByRecursion IsUtf8 (parts_of (encode_utf8_all cs))
utf8_each [] h = (IsUtf8-nil, tt)
utf8_each (c ∷ cs) h = by (c == 44) refl (utf8_each cs (and_parts (scalar c) (all_scalars cs) h).1)
  where
    first : (p : List ℕ) × (ps : List (List ℕ)) × (parts_of (encode_utf8_all cs) ≡ p ∷ ps)
    first = parts_some (encode_utf8_all cs)

    by : (b : Bool) → (c == 44) ≡ b → AllByRecursion IsUtf8 (parts_of (encode_utf8_all cs)) → AllByRecursion IsUtf8 (parts_of (encode_utf8 c ++ encode_utf8_all cs))
    by true e later =
        subst (λ (x : ℕ). AllByRecursion IsUtf8 (parts_of (encode_utf8 x ++ encode_utf8_all cs))) (sym (eqb-true c 44 e))
        (subst (λ (w : List ℕ). AllByRecursion IsUtf8 (parts_of (w ++ encode_utf8_all cs))) (sym (encode_ascii 44 (omega arith))) (IsUtf8-nil, later))
    by false e later =
        let apart : (i : ℕ) → i < length (encode_utf8 c) → get_or (encode_utf8 c) i 0 ≡ 44 → ⊥
        = λ i l f. false≢true (sym e ∙ ap (λ x. x == 44) (inside_one c [] (encode_utf8 c) i (sym (append-nil (encode_utf8 c))) l (subst (λ (x : ℕ). x < 128) (sym f) (omega arith)) ∙ f)) in
        let here : AllByRecursion IsUtf8 (first.0 ∷ first.1) = subst (AllByRecursion IsUtf8) first.2 later in
        subst (AllByRecursion IsUtf8) (sym (put_front (encode_utf8 c) (encode_utf8_all cs) first.0 first.1 apart first.2)) (IsUtf8-append (encode_utf8 c) first.0 (IsUtf8-encode c (and_parts (scalar c) (all_scalars cs) h).0) here.0, here.1)

pub utf8_parts : (t : List ℕ) → IsUtf8 t → AllByRecursion IsUtf8 (parts_of t)
utf8_parts t u = subst (λ (x : List ℕ). AllByRecursion IsUtf8 (parts_of x)) u.1.1 (utf8_each u.0 u.1.0)

-- ---- names with commas between them

-- names that are UTF-8
abbrev AreTexts : List (List ℕ) → Type 0
AreTexts ns = AllByRecursion (λ n. (is_name n ≡ true) × IsUtf8 n) ns

parts_joined : (n : List ℕ) (ns : List (List ℕ)) → AreTexts (n ∷ ns) → parts_of (n ++ lists.behind_commas ns) ≡ n ∷ ns
parts_joined n [] h = ap parts_of (append-nil n) ∙ parts_alone n (no_comma n h.0.0 h.0.1)
parts_joined n (k ∷ ks) h = parts_before n (k ++ lists.behind_commas ks) (no_comma n h.0.0 h.0.1) ∙ ap (λ ps. n ∷ ps) (parts_joined k ks h.1)

texts_from : (ns : List (List ℕ)) → list_all is_name ns ≡ true → AllByRecursion IsUtf8 ns → AreTexts ns
texts_from [] h u = tt
texts_from (n ∷ ns) h u = let p = and_parts (is_name n) (list_all is_name ns) h in ((p.0, u.0), texts_from ns p.1 u.1)

module _ (old new : List ℕ) (named : is_name new ≡ true) (utf8 : IsUtf8 new) where
  one_text : (n : List ℕ) → is_name n ≡ true → IsUtf8 n → (is_name (moved_id old new n) ≡ true) × IsUtf8 (moved_id old new n)
  one_text n h u = elim (bytes_eq n old) as (λ b. (is_name (cond b new n) ≡ true) × IsUtf8 (cond b new n)) [ true ↦ (named, utf8) | false ↦ (h, u) ]

  moved_texts : (ns : List (List ℕ)) → AreTexts ns → AreTexts (map (moved_id old new) ns)
  moved_texts [] h = tt
  moved_texts (n ∷ ns) h = (one_text n h.0.0 h.0.1, moved_texts ns h.1)

  none_old : (ns : List (List ℕ)) → list_any (λ n. bytes_eq n old) ns ≡ false → map (moved_id old new) ns ≡ ns
  none_old [] h = refl
  none_old (n ∷ ns) h =
      let p = or_parts (bytes_eq n old) (list_any (λ n. bytes_eq n old) ns) h in
      ap (λ b. cond b new n ∷ map (moved_id old new) ns) p.0 ∙ ap (λ ps. n ∷ ps) (none_old ns p.1)

  same_length : (ns : List (List ℕ)) → length (map (moved_id old new) ns) ≡ length ns
  same_length [] = refl
  same_length (n ∷ ns) = ap suc (same_length ns)

  all_named : (ns : List (List ℕ)) → AreTexts ns → list_all is_name ns ≡ true
  all_named [] h = refl
  all_named (n ∷ ns) h = and_from (is_name n) (list_all is_name ns) h.0.0 (all_named ns h.1)

  all_utf8 : (ns : List (List ℕ)) → AreTexts ns → AllByRecursion IsUtf8 ns
  all_utf8 [] h = tt
  all_utf8 (n ∷ ns) h = (h.0.1, all_utf8 ns h.1)

  -- a text of names, none of which is a star, says these names
  says_names : (t : List ℕ) (n : List ℕ) (ns : List (List ℕ)) → parts_of t ≡ n ∷ ns → AreTexts (n ∷ ns) → are_names (n ∷ ns) ≡ true → columns_of t ≡ Some (columns.These (n ∷ ns))
  says_names t n ns e h are = by (bytes_eq t (codes "*")) refl
    where
      first : (a b : List ℕ) (as' bs : List (List ℕ)) → a ∷ as' ≡ b ∷ bs → a ≡ b
      first a b as' bs e = cc

      by : (b : Bool) → bytes_eq t (codes "*") ≡ b → columns_of t ≡ Some (columns.These (n ∷ ns))
      by true f =
          let star : n ∷ ns ≡ codes "*" ∷ [] = sym e ∙ ap parts_of ((bytes_eq-Decides t (codes "*")).0 f) in
          absurd (false≢true (sym star_no_name ∙ ap is_name (sym (first n (codes "*") ns [] star)) ∙ h.0.0))
      by false f =
          ap (λ b. cond b (Some columns.All) (cond (are_names (parts_of t)) (Some (columns.These (parts_of t))) None)) f
          ∙ ap (λ ps. cond (are_names ps) (Some (columns.These ps)) None) e
          ∙ ap (λ b. cond b (Some (columns.These (n ∷ ns))) None) are

  module _ (short : LengthLaw) (t : List ℕ) (text : IsUtf8 t) where
    -- the text of names with the new one among them
    abbrev written : List (List ℕ) → List ℕ
    written ns = names_renamed old new t ns

    some_old : (n : List ℕ) (ns : List (List ℕ)) → AreTexts (n ∷ ns) → are_names (n ∷ ns) ≡ true
        → columns_of (if_short (lists.joined (map (moved_id old new) (n ∷ ns))) t) ≡ Some (columns.These (map (moved_id old new) (n ∷ ns)))
    some_old n ns h are =
        let texts = moved_texts (n ∷ ns) h in
        let still : are_names (map (moved_id old new) (n ∷ ns)) ≡ true
        = and_from (nat_le (length (map (moved_id old new) (n ∷ ns))) 255) (list_all is_name (map (moved_id old new) (n ∷ ns)))
        (ap (λ k. nat_le k 255) (same_length (n ∷ ns)) ∙ (and_parts (nat_le (length (n ∷ ns)) 255) (list_all is_name (n ∷ ns)) are).0)
        (all_named (map (moved_id old new) (n ∷ ns)) texts) in
        let fits : is_short (lists.joined (map (moved_id old new) (n ∷ ns))) ≡ true = short (map (moved_id old new) (n ∷ ns)) (all_utf8 (map (moved_id old new) (n ∷ ns)) texts) still in
        ap (λ b. columns_of (cond b (lists.joined (map (moved_id old new) (n ∷ ns))) t)) fits
        ∙ says_names (lists.joined (map (moved_id old new) (n ∷ ns))) (moved_id old new n) (map (moved_id old new) ns) (parts_joined (moved_id old new n) (map (moved_id old new) ns) texts) texts still

    of_names : (ps : List (List ℕ)) → parts_of t ≡ ps → (n : List ℕ) (ns : List (List ℕ)) → ps ≡ n ∷ ns → AreTexts (n ∷ ns) → are_names (n ∷ ns) ≡ true
        → columns_of (written (n ∷ ns)) ≡ Some (columns.These (map (moved_id old new) (n ∷ ns)))
    of_names ps e n ns f h are = by (list_any (λ n. bytes_eq n old) (n ∷ ns)) refl
      where
        by : (b : Bool) → list_any (λ n. bytes_eq n old) (n ∷ ns) ≡ b → columns_of (cond b (if_short (lists.joined (map (moved_id old new) (n ∷ ns))) t) t) ≡ Some (columns.These (map (moved_id old new) (n ∷ ns)))
        by true g = some_old n ns h are
        by false g = says_names t n ns (e ∙ f) h are ∙ ap (λ ps. Some (columns.These ps)) (sym (none_old (n ∷ ns) g))

    -- the columns that the text says are those with the new name
    pub list_follows : columns_of (list_renamed old new t (lists.names_of t)) ≡ option_map (moved_columns old new) (columns_of t)
    list_follows = ap (λ o. columns_of (list_renamed old new t o)) (names_are t) ∙ by (are_names (parts_of t)) refl
      where
        first : (p : List ℕ) × (ps : List (List ℕ)) × (parts_of t ≡ p ∷ ps)
        first = parts_some t

        star_stays : (b : Bool) → bytes_eq t (codes "*") ≡ b → are_names (parts_of t) ≡ false → columns_of t ≡ option_map (moved_columns old new) (columns_of t)
        star_stays true e f = is ∙ ap (option_map (moved_columns old new)) (sym is)
          where
            is : columns_of t ≡ Some columns.All
            is = ap (λ b. cond b (Some columns.All) (cond (are_names (parts_of t)) (Some (columns.These (parts_of t))) None)) e
        star_stays false e f = is ∙ ap (option_map (moved_columns old new)) (sym is)
          where
            is : columns_of t ≡ None
            is = ap (λ b. cond b (Some columns.All) (cond (are_names (parts_of t)) (Some (columns.These (parts_of t))) None)) e ∙ ap (λ b. cond b (Some (columns.These (parts_of t))) None) f

        by : (b : Bool) → are_names (parts_of t) ≡ b → columns_of (list_renamed old new t (cond b (Some (parts_of t)) None)) ≡ option_map (moved_columns old new) (columns_of t)
        by false e = star_stays (bytes_eq t (codes "*")) refl e
        by true e =
            let are : are_names (first.0 ∷ first.1) ≡ true = ap are_names (sym first.2) ∙ e in
            let texts : AreTexts (first.0 ∷ first.1) = texts_from (first.0 ∷ first.1) (and_parts (nat_le (length (first.0 ∷ first.1)) 255) (list_all is_name (first.0 ∷ first.1)) are).1 (subst (AllByRecursion IsUtf8) first.2 (utf8_parts t text)) in
            ap (λ ps. columns_of (written ps)) first.2
            ∙ of_names (parts_of t) refl first.0 first.1 first.2 texts are
            ∙ ap (option_map (moved_columns old new)) (sym (says_names t first.0 first.1 first.2 texts are))

pub renamed_list : LengthLaw → RenamedListLaw
renamed_list short old new t named utf8 text = list_follows old new named utf8 short t text
