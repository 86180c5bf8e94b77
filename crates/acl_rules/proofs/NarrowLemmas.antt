-- What is decided by a chain rests on the columns that its rules read of the row before.
use Rattle.std.proofs.Common.{◌≡◌, ◌∙◌, ap, refl, subst, ℕ, Bool, true, false, cond, ◌&&◌, ◌||◌, List, [], ◌∷◌, ◌++◌, filter, Option, Some, None, bytes_eq}
use Rattle.std.specs.Bool.{⊤}
use Rattle.std.specs.List.{AllByRecursion, list_any}
use Rattle.std.specs.Option.{option_map}
use Rattle.std.proofs.lemmas.Slice.Eq.{bytes_eq-Decides}
use Rattle.formula_parse.specs.declared.rule.RuleAtom.{RuleAtom}
use Rattle.formula_parse.specs.declared.rule.RuleAtom.TheVariants as rule
use Rattle.formula_parse.specs.Lexemes.{is_id}
use Rattle.formula_parse.specs.Tree.{Tree, number, text, constant, dollar, binary, prefix, conditional, parentheses, list, call, attribute, every, lookup, atom, Trees, no_trees, one_more}
use Rattle.acl_formula.specs.Asked.{Asked}
use Rattle.acl_formula.specs.Mentions.{all_mentions, as_list, atom_mention, gathered, items_mention, mentioned, same_mention, with_mention}
use Rattle.acl_formula.specs.RuleFields.{field_of, read, row_id}
use Rattle.acl_formula.specs.RuleRow.{RuleRow}
use Rattle.acl_formula.specs.RuleTruths.{rule_truth, truth_from}
use Rattle.acl_formula.specs.RuleValue.{as_value, atom_value, combined, followed, item_list, items_of, turned, value_of}
use Rattle.acl_formula.specs.declared.mention.Mention.{Mention}
use Rattle.acl_formula.specs.declared.mention.Mention.TheVariants as mention
use Rattle.acl_formula.specs.declared.permissions.Perm.{Perm}
use Rattle.acl_rules.specs.declared.decision.Decision.{Decision}
use Rattle.acl_rules.specs.declared.rule.Rule.{Rule}
use Rattle.acl_rules.specs.Chain.{chain_of, is_of, is_on, of_column, of_document, of_table, rules_of}
use Rattle.acl_rules.specs.Decided.{answer, decides, decision_in, first_answer, is_match, mentions, or_built_in, truth_in}
use Rattle.acl_rules.specs.Reading.{columns_read, formula_reads, is_among, mentions_read, narrowed, narrowed_before, read_by, rules_about, rules_read, with_name, with_names}
use Rattle.acl_rules.specs.RuleBook.{BookRule}
use Rattle.acl_rules.proofs.ChainLemmas.{column_within, table_within}
use Rattle.acl_rules.proofs.PlaceLemmas.{filter_wider}

pub all_left : {X : Type 0} (P : X → Type 0) (xs ys : List X) → AllByRecursion P (xs ++ ys) → AllByRecursion P xs
all_left P [] ys h = tt
all_left P (x ∷ xs) ys h = (h.0, all_left P xs ys h.1)

pub all_right : {X : Type 0} (P : X → Type 0) (xs ys : List X) → AllByRecursion P (xs ++ ys) → AllByRecursion P ys
all_right P [] ys h = h
all_right P (x ∷ xs) ys h = all_right P xs ys h.1

all_both : {X : Type 0} (P : X → Type 0) (xs ys : List X) → AllByRecursion P xs → AllByRecursion P ys → AllByRecursion P (xs ++ ys)
all_both P [] ys h i = i
all_both P (x ∷ xs) ys h i = (h.0, all_both P xs ys h.1 i)

all_filtered : {X : Type 0} (P : X → Type 0) (f : X → Bool) (xs : List X) → AllByRecursion P xs → AllByRecursion P (filter f xs)
all_filtered P f [] h = tt
all_filtered {X} P f (x ∷ xs) h = elim (f x) as (λ (b : Bool). AllByRecursion P (cond b (x ∷ filter f xs) (filter f xs))) [
  | true ↦ (h.0, all_filtered P f xs h.1)
  | false ↦ all_filtered P f xs h.1
]

module _ (names : List (List ℕ)) where
  -- what is mentioned is no column of the row before, or one of these
  abbrev IsCovered : Mention → Type 0
  IsCovered (mention.Rec n) = is_among names n ≡ true
  IsCovered (mention.NewRec n) = ⊤
  IsCovered (mention.User n) = ⊤

  abbrev Covers : List Mention → Type 0
  Covers ms = AllByRecursion IsCovered ms

  field_same : (n : List ℕ) → is_among names n ≡ true → (o : Option RuleRow) → field_of (option_map (narrowed names) o) n ≡ field_of o n
  field_same n h None = refl
  field_same n h (Some r) = ap (λ (b : Bool). cond (is_id n) (row_id r.id) (read (cond b (r.cell n) None))) h

  atom_same : (x : Asked) (a : RuleAtom) → Covers (as_list (atom_mention a)) → atom_value (narrowed_before names x) a ≡ atom_value x a
  atom_same x rule.Owner h = refl
  atom_same x rule.Editor h = refl
  atom_same x rule.Viewer h = refl
  atom_same x (rule.User n) h = refl
  atom_same x (rule.UserAttribute n m) h = refl
  atom_same x (rule.Rec n) h = field_same n h.0 x.before
  atom_same x (rule.NewRec n) h = refl

  mutual
    value_same : (x : Asked) (t : Tree) → Covers (all_mentions t) → value_of (narrowed_before names x) t ≡ value_of x t
    value_same x (number n) h = refl
    value_same x (text t) h = refl
    value_same x (constant c) h = refl
    value_same x (dollar n) h = refl
    value_same x (binary o a b) h =
        ap (λ v. combined o v (value_of (narrowed_before names x) b)) (value_same x a (all_left IsCovered (all_mentions a) (all_mentions b) h))
        ∙ ap (combined o (value_of x a)) (value_same x b (all_right IsCovered (all_mentions a) (all_mentions b) h))
    value_same x (prefix o a) h = ap (turned o) (value_same x a h)
    value_same x (conditional a b c) h = refl
    value_same x (parentheses a) h = value_same x a h
    value_same x (list ts) h = ap as_value (items_same x ts h)
    value_same x (call n ts) h = refl
    value_same x (attribute a n) h = refl
    value_same x (every n) h = refl
    value_same x (lookup k n ks) h = refl
    value_same x (atom a) h = atom_same x a h

    items_same : (x : Asked) (ts : Trees) → Covers (items_mention ts) → items_of (narrowed_before names x) ts ≡ items_of x ts
    items_same x no_trees h = refl
    items_same x (one_more t ts) h =
        ap (λ v. followed (item_list v) (items_of (narrowed_before names x) ts)) (value_same x t (all_left IsCovered (all_mentions t) (items_mention ts) h))
        ∙ ap (followed (item_list (value_of x t))) (items_same x ts (all_right IsCovered (all_mentions t) (items_mention ts) h))

  -- what was noted once covers each repeat
  same_covered : (n m : Mention) → same_mention n m ≡ true → IsCovered n → IsCovered m
  same_covered n (mention.NewRec c) e h = tt
  same_covered n (mention.User c) e h = tt
  same_covered (mention.Rec a) (mention.Rec b) e h = subst (λ (c : List ℕ). is_among names c ≡ true) ((bytes_eq-Decides a b).0 e) h
  same_covered (mention.NewRec a) (mention.Rec b) e h = absurd (cc)
  same_covered (mention.User a) (mention.Rec b) e h = absurd (cc)

  noted_covered : (seen : List Mention) (m : Mention) → list_any (λ n. same_mention n m) seen ≡ true → Covers seen → IsCovered m
  noted_covered [] m e h = absurd (cc)
  noted_covered (n ∷ seen) m e h = by (same_mention n m) refl (λ rest. noted_covered seen m rest h.1)
    where
      by : (b : Bool) → same_mention n m ≡ b → (list_any (λ n. same_mention n m) seen ≡ true → IsCovered m) → IsCovered m
      by true is later = same_covered n m is h.0
      by false is later = later (cc)

  one_covered : (seen : List Mention) (m : Mention) → Covers (with_mention seen m) → Covers seen × IsCovered m
  one_covered seen m h = by (list_any (λ n. same_mention n m) seen) refl h
    where
      by : (b : Bool) → list_any (λ n. same_mention n m) seen ≡ b → Covers (cond b seen (seen ++ m ∷ [])) → Covers seen × IsCovered m
      by true e h = (h, noted_covered seen m e h)
      by false e h = (all_left IsCovered seen (m ∷ []) h, (all_right IsCovered seen (m ∷ []) h).0)

  gathered_covered : (seen ms : List Mention) → Covers (gathered seen ms) → Covers seen × Covers ms
  gathered_covered seen [] h = (h, tt)
  gathered_covered seen (m ∷ ms) h =
      let rest = gathered_covered (with_mention seen m) ms h in
      let first = one_covered seen m rest.0 in
      (first.0, (first.1, rest.1))

  abbrev FormulaCovered : Option (Option Tree) → Type 0
  FormulaCovered None = ⊤
  FormulaCovered (Some tree) = Covers (mentioned tree)

  tree_same : (x : Asked) (tree : Option Tree) → Covers (mentioned tree) → rule_truth (narrowed_before names x) tree ≡ rule_truth x tree
  tree_same x None h = refl
  tree_same x (Some t) h = ap truth_from (value_same x t (gathered_covered [] (all_mentions t) h).1)

  truth_same : (x : Asked) (r : Rule) → FormulaCovered r.formula → truth_in (narrowed_before names x) r ≡ truth_in x r
  truth_same x r h = by r.formula refl h
    where
      by : (o : Option (Option Tree)) → r.formula ≡ o → FormulaCovered o → truth_in (narrowed_before names x) r ≡ truth_in x r
      by None e h = cc
      by (Some tree) e h = let same = tree_same x tree h in cc

  abbrev RuleCovered : BookRule → Type 0
  RuleCovered b = FormulaCovered b.rule.formula

  first_same : (x : Asked) (p : Perm) (rules : List BookRule) → AllByRecursion RuleCovered rules → first_answer (narrowed_before names x) p rules ≡ first_answer x p rules
  first_same x p [] h = refl
  first_same x p (b ∷ rules) h =
      ap (λ t. cond (mentions p b.rule.permissions && is_match p b.rule.permissions t) (Some (answer p b.rule)) (first_answer (narrowed_before names x) p rules)) (truth_same x b.rule h.0)
      ∙ ap (λ (o : Option Decision). cond (decides x p b.rule) (Some (answer p b.rule)) o) (first_same x p rules h.1)

  -- columns that are read are among the names
  abbrev IsIn : List ℕ → Type 0
  IsIn n = is_among names n ≡ true

  mentions_covered : (ms : List Mention) → AllByRecursion IsIn (mentions_read ms) → Covers ms
  mentions_covered [] h = tt
  mentions_covered (mention.Rec n ∷ ms) h = (h.0, mentions_covered ms h.1)
  mentions_covered (mention.NewRec n ∷ ms) h = (tt, mentions_covered ms h)
  mentions_covered (mention.User n ∷ ms) h = (tt, mentions_covered ms h)

  formula_covered : (o : Option (Option Tree)) → AllByRecursion IsIn (formula_reads o) → FormulaCovered o
  formula_covered None h = tt
  formula_covered (Some tree) h = mentions_covered (mentioned tree) h

  rules_covered : (rules : List BookRule) → AllByRecursion IsIn (rules_read rules) → AllByRecursion RuleCovered rules
  rules_covered [] h = tt
  rules_covered (b ∷ rules) h = (
    formula_covered b.rule.formula (all_left IsIn (formula_reads b.rule.formula) (rules_read rules) h),
    rules_covered rules (all_right IsIn (formula_reads b.rule.formula) (rules_read rules) h),
  )

-- a name stays, and a new one comes
any_left : (f : List ℕ → Bool) (xs ys : List (List ℕ)) → list_any f xs ≡ true → list_any f (xs ++ ys) ≡ true
any_left f [] ys h = absurd (cc)
any_left f (x ∷ xs) ys h = by (f x) refl (any_left f xs ys)
  where
    by : (b : Bool) → f x ≡ b → (list_any f xs ≡ true → list_any f (xs ++ ys) ≡ true) → list_any f ((x ∷ xs) ++ ys) ≡ true
    by true e later = cc
    by false e later = let rest = later (cc) in cc

any_last : (f : List ℕ → Bool) (xs : List (List ℕ)) (y : List ℕ) → f y ≡ true → list_any f (xs ++ y ∷ []) ≡ true
any_last f [] y h = cc
any_last f (x ∷ xs) y h = elim (f x) as (λ (b : Bool). (b || list_any f (xs ++ y ∷ [])) ≡ true) [ true ↦ refl | false ↦ any_last f xs y h ]

name_stays : (names : List (List ℕ)) (n c : List ℕ) → is_among names c ≡ true → is_among (with_name names n) c ≡ true
name_stays names n c h = elim (list_any (λ m. bytes_eq m n) names) as (λ (b : Bool). is_among (cond b names (names ++ n ∷ [])) c ≡ true) [
  | true ↦ h
  | false ↦ any_left (λ m. bytes_eq m c) names (n ∷ []) h
]

name_there : (names : List (List ℕ)) (n : List ℕ) → is_among (with_name names n) n ≡ true
name_there names n = by (list_any (λ m. bytes_eq m n) names) refl
  where
    by : (b : Bool) → list_any (λ m. bytes_eq m n) names ≡ b → is_among (cond b names (names ++ n ∷ [])) n ≡ true
    by true e = e
    by false e = any_last (λ m. bytes_eq m n) names n ((bytes_eq-Decides n n).1 refl)

names_stay : (names ns : List (List ℕ)) (c : List ℕ) → is_among names c ≡ true → is_among (with_names names ns) c ≡ true
names_stay names [] c h = h
names_stay names (n ∷ ns) c h = names_stay (with_name names n) ns c (name_stays names n c h)

names_there : (names ns : List (List ℕ)) → AllByRecursion (λ n. is_among (with_names names ns) n ≡ true) ns
names_there names [] = tt
names_there names (n ∷ ns) = (names_stay (with_name names n) ns n (name_there names n), names_there (with_name names n) ns)

module _ (book : List BookRule) (table : List ℕ) where
  abbrev read_names : List (List ℕ)
  read_names = columns_read book table

  about_covered : AllByRecursion (RuleCovered read_names) (rules_about table book)
  about_covered = rules_covered read_names (rules_about table book) (names_there [] (rules_read (rules_about table book)))

  on_covered : AllByRecursion (RuleCovered read_names) (filter (λ (b : BookRule). is_on table b.resource) book)
  on_covered = all_left (RuleCovered read_names) (filter (λ (b : BookRule). is_on table b.resource) book) (rules_of of_document book) about_covered

  document_covered : AllByRecursion (RuleCovered read_names) (rules_of of_document book)
  document_covered = all_right (RuleCovered read_names) (filter (λ (b : BookRule). is_on table b.resource) book) (rules_of of_document book) about_covered

  part_covered : (f : BookRule → Bool) → ((b : BookRule) → f b ≡ true → is_on table b.resource ≡ true) → AllByRecursion (RuleCovered read_names) (filter f book)
  part_covered f within = subst (AllByRecursion (RuleCovered read_names)) (filter_wider f (λ (b : BookRule). is_on table b.resource) within book)
      (all_filtered (RuleCovered read_names) f (filter (λ (b : BookRule). is_on table b.resource) book) on_covered)

  table_covered : AllByRecursion (RuleCovered read_names) (rules_of (of_table table) book ++ rules_of of_document book)
  table_covered = all_both (RuleCovered read_names) (rules_of (of_table table) book) (rules_of of_document book)
      (part_covered (λ (b : BookRule). is_of (of_table table) b.resource) (λ b h. table_within table b.resource h)) document_covered

  chain_covered : (column : Option (List ℕ)) → AllByRecursion (RuleCovered read_names) (chain_of book (Some table) column)
  chain_covered None = table_covered
  chain_covered (Some c) = all_both (RuleCovered read_names) (rules_of (of_column table c) book) (rules_of (of_table table) book ++ rules_of of_document book)
      (part_covered (λ (b : BookRule). is_of (of_column table c) b.resource) (λ b h. column_within table c b.resource h)) table_covered

  -- no other column of the row before has a part in what is decided
  pub decision_narrowed : (x : Asked) (p : Perm) (column : Option (List ℕ)) → decision_in (narrowed_before (columns_read book table) x) p (chain_of book (Some table) column) ≡ decision_in x p (chain_of book (Some table) column)
  decision_narrowed x p column = ap (or_built_in x p) (first_same read_names x p (chain_of book (Some table) column) (chain_covered column))
