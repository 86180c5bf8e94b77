-- Decisions rest on what the rules that are reached mention, and on nothing else.
use Rattle.std.proofs.Common.{◌≡◌, ◌∙◌, ap, refl, subst, sym, ℕ, Bool, true, false, not, cond, ◌&&◌, ◌||◌, List, [], ◌∷◌, ◌++◌, Option, Some, None, bytes_eq}
use Rattle.std.specs.List.{AllByRecursion, list_all, list_any}
use Rattle.std.proofs.lemmas.Bool.{and_parts}
use Rattle.std.proofs.lemmas.Slice.Eq.{bytes_eq-Decides}
use Rattle.formula_parse.specs.declared.rule.RuleAtom.{RuleAtom}
use Rattle.formula_parse.specs.declared.rule.RuleAtom.TheVariants as rule
use Rattle.formula_parse.specs.Tree.{Tree, number, text, constant, dollar, binary, prefix, conditional, parentheses, list, call, attribute, every, lookup, atom, Trees, no_trees, one_more}
use Rattle.acl_formula.specs.Asked.{Asked}
use Rattle.acl_formula.specs.Mentions.{all_mentions, as_list, atom_mention, gathered, is_about_row, items_mention, mentioned, same_mention, uses_row, with_mention}
use Rattle.acl_formula.specs.RuleFields.{own_field, user_field}
use Rattle.acl_formula.specs.RuleTruths.{rule_truth, truth_from}
use Rattle.acl_formula.specs.RuleValue.{as_value, atom_value, combined, followed, item_list, items_of, turned, value_of}
use Rattle.acl_formula.specs.declared.mention.Mention.{Mention}
use Rattle.acl_formula.specs.declared.mention.Mention.TheVariants as mention
use Rattle.acl_formula.specs.declared.permissions.Perm.{Perm}
use Rattle.acl_formula.specs.declared.truth.RuleTruth.{RuleTruth}
use Rattle.acl_formula.specs.declared.user_info.UserInfo.{UserInfo}
use Rattle.acl_rules.specs.declared.decision.Decision.{Decision}
use Rattle.acl_rules.specs.declared.rule.Rule.{Rule}
use Rattle.acl_rules.specs.Decided.{answer, decides, decision_in, first_answer, is_match, mentions, or_built_in, truth_in}
use Rattle.acl_rules.specs.RuleBook.{BookRule}
use Rattle.acl_reading.specs.Walk.{asks_row, without_row}
use Rattle.acl_rules.proofs.NarrowLemmas.{all_left, all_right}
use Rattle.rule_audit.specs.declared.stop.Stop.{Stop}
use Rattle.rule_audit.specs.declared.stop.Stop.TheVariants as stop
use Rattle.rule_audit.specs.Laws.{AgreeOn, DecisionLaw, mention_value}
use Rattle.rule_audit.specs.Reached.{ends_reach, is_rule_safe, reach_stop}
use Rattle.rule_audit.specs.Stops.{bad_row, first_stop, or_stop}

-- the same mention is one mention
one_mention : (n m : Mention) → same_mention n m ≡ true → n ≡ m
one_mention (mention.Rec a) (mention.Rec b) e = ap mention.Rec ((bytes_eq-Decides a b).0 e)
one_mention (mention.NewRec a) (mention.NewRec b) e = ap mention.NewRec ((bytes_eq-Decides a b).0 e)
one_mention (mention.User a) (mention.User b) e = ap mention.User ((bytes_eq-Decides a b).0 e)
one_mention (mention.Rec a) (mention.NewRec b) e = absurd (cc)
one_mention (mention.Rec a) (mention.User b) e = absurd (cc)
one_mention (mention.NewRec a) (mention.Rec b) e = absurd (cc)
one_mention (mention.NewRec a) (mention.User b) e = absurd (cc)
one_mention (mention.User a) (mention.Rec b) e = absurd (cc)
one_mention (mention.User a) (mention.NewRec b) e = absurd (cc)

module _ (safe : Mention → Bool) where
  abbrev IsSafe : Mention → Type 0
  IsSafe m = safe m ≡ true

  abbrev AreSafe : List Mention → Type 0
  AreSafe ms = AllByRecursion IsSafe ms

  all_safe : (ms : List Mention) → list_all safe ms ≡ true → AreSafe ms
  all_safe [] h = tt
  all_safe (m ∷ ms) h = let both = and_parts (safe m) (list_all safe ms) h in (both.0, all_safe ms both.1)

  -- what was noted once is as safe as each repeat
  noted_safe : (seen : List Mention) (m : Mention) → list_any (λ n. same_mention n m) seen ≡ true → AreSafe seen → IsSafe m
  noted_safe [] m e h = absurd (cc)
  noted_safe (n ∷ seen) m e h = by (same_mention n m) refl (λ rest. noted_safe seen m rest h.1)
    where
      by : (b : Bool) → same_mention n m ≡ b → (list_any (λ n. same_mention n m) seen ≡ true → IsSafe m) → IsSafe m
      by true is later = subst IsSafe (one_mention n m is) h.0
      by false is later = later (cc)

  one_safe : (seen : List Mention) (m : Mention) → AreSafe (with_mention seen m) → AreSafe seen × IsSafe m
  one_safe seen m h = by (list_any (λ n. same_mention n m) seen) refl h
    where
      by : (b : Bool) → list_any (λ n. same_mention n m) seen ≡ b → AreSafe (cond b seen (seen ++ m ∷ [])) → AreSafe seen × IsSafe m
      by true e h = (h, noted_safe seen m e h)
      by false e h = (all_left IsSafe seen (m ∷ []) h, (all_right IsSafe seen (m ∷ []) h).0)

  gathered_safe : (seen ms : List Mention) → AreSafe (gathered seen ms) → AreSafe seen × AreSafe ms
  gathered_safe seen [] h = (h, tt)
  gathered_safe seen (m ∷ ms) h =
      let rest = gathered_safe (with_mention seen m) ms h in
      let first = one_safe seen m rest.0 in
      (first.0, (first.1, rest.1))

  module _ (x y : Asked) (agree : AgreeOn safe x y) where
    atom_same : (a : RuleAtom) → AreSafe (as_list (atom_mention a)) → atom_value x a ≡ atom_value y a
    atom_same rule.Owner h = refl
    atom_same rule.Editor h = refl
    atom_same rule.Viewer h = refl
    atom_same (rule.User n) h = ap (λ (u : UserInfo). own_field u.user n) agree.user
    atom_same (rule.UserAttribute n m) h = ap (λ (u : UserInfo). user_field u n m) agree.user
    atom_same (rule.Rec n) h = agree.mentions (mention.Rec n) h.0
    atom_same (rule.NewRec n) h = agree.mentions (mention.NewRec n) h.0

    mutual
      value_same : (t : Tree) → AreSafe (all_mentions t) → value_of x t ≡ value_of y t
      value_same (number n) h = refl
      value_same (text t) h = refl
      value_same (constant c) h = refl
      value_same (dollar n) h = refl
      value_same (binary o a b) h =
          ap (λ v. combined o v (value_of x b)) (value_same a (all_left IsSafe (all_mentions a) (all_mentions b) h))
          ∙ ap (combined o (value_of y a)) (value_same b (all_right IsSafe (all_mentions a) (all_mentions b) h))
      value_same (prefix o a) h = ap (turned o) (value_same a h)
      value_same (conditional a b c) h = refl
      value_same (parentheses a) h = value_same a h
      value_same (list ts) h = ap as_value (items_same ts h)
      value_same (call n ts) h = refl
      value_same (attribute a n) h = refl
      value_same (every n) h = refl
      value_same (lookup k n ks) h = refl
      value_same (atom a) h = atom_same a h

      items_same : (ts : Trees) → AreSafe (items_mention ts) → items_of x ts ≡ items_of y ts
      items_same no_trees h = refl
      items_same (one_more t ts) h =
          ap (λ v. followed (item_list v) (items_of x ts)) (value_same t (all_left IsSafe (all_mentions t) (items_mention ts) h))
          ∙ ap (followed (item_list (value_of y t))) (items_same ts (all_right IsSafe (all_mentions t) (items_mention ts) h))

    tree_same : (tree : Option Tree) → list_all safe (mentioned tree) ≡ true → rule_truth x tree ≡ rule_truth y tree
    tree_same None h = refl
    tree_same (Some t) h = ap truth_from (value_same t (gathered_safe [] (all_mentions t) (all_safe (mentioned (Some t)) h)).1)

    pub truth_same : (r : Rule) → is_rule_safe safe r ≡ true → truth_in x r ≡ truth_in y r
    truth_same r h = by r.formula refl
      where
        by : (o : Option (Option Tree)) → r.formula ≡ o → truth_in x r ≡ truth_in y r
        by None e = cc
        by (Some tree) e = let all : list_all safe (mentioned tree) ≡ true = cc in let same = tree_same tree all in cc

    pub decides_same : (p : Perm) (r : Rule) → is_rule_safe safe r ≡ true → decides x p r ≡ decides y p r
    decides_same p r h = ap (λ (t : RuleTruth). mentions p r.permissions && is_match p r.permissions t) (truth_same r h)

-- ---- a rule that uses no row

abbrev is_of_user : Mention → Bool
is_of_user m = not (is_about_row m)

of_user_alone : (x : Asked) → AgreeOn is_of_user (without_row x.user) x
of_user_alone x = record { user = refl; mentions = by }
  where
    by : (m : Mention) → is_of_user m ≡ true → mention_value (without_row x.user) m ≡ mention_value x m
    by (mention.User n) h = refl
    by (mention.Rec n) h = absurd (cc)
    by (mention.NewRec n) h = absurd (cc)

none_about : (ms : List Mention) → list_any is_about_row ms ≡ false → list_all is_of_user ms ≡ true
none_about [] h = refl
none_about (m ∷ ms) h = by (is_about_row m) refl (none_about ms)
  where
    by : (b : Bool) → is_about_row m ≡ b → (list_any is_about_row ms ≡ false → list_all is_of_user ms ≡ true) → list_all is_of_user (m ∷ ms) ≡ true
    by true e later = absurd (cc)
    by false e later = let rest = later (cc) in cc

rowless_safe : (r : Rule) → asks_row r ≡ false → is_rule_safe is_of_user r ≡ true
rowless_safe r h = by r.formula refl
  where
    by : (o : Option (Option Tree)) → r.formula ≡ o → is_rule_safe is_of_user r ≡ true
    by None e = cc
    by (Some tree) e = let free : uses_row tree ≡ false = cc in let all = none_about (mentioned tree) free in cc

pub rowless_decides : (x : Asked) (p : Perm) (r : Rule) → asks_row r ≡ false → decides (without_row x.user) p r ≡ decides x p r
rowless_decides x p r h = decides_same is_of_user (without_row x.user) x (of_user_alone x) p r (rowless_safe r h)

-- ---- chains

module _ (safe : Mention → Bool) (x y : Asked) (agree : AgreeOn safe x y) (p : Perm) where
  abbrev leaks : List BookRule → Option ℕ
  leaks rules = bad_row (first_stop (reach_stop x.user p safe) rules)

  -- what a rule says of the reach, by what is asked of it
  abbrev stop_by : Bool → Bool → Bool → ℕ → Option Stop
  stop_by mentioned' safe' ends row =
      cond mentioned' (cond safe' (cond ends (Some stop.Well) None) (Some (stop.Badly row))) None

  first_same : (rules : List BookRule) → leaks rules ≡ None → first_answer x p rules ≡ first_answer y p rules
  first_same [] h = refl
  first_same (b ∷ rules) h = by_mention (first_same rules) (mentions p b.rule.permissions) refl h
    where
      -- the rule decides in both or in neither
      go : (d : Bool) → decides x p b.rule ≡ d → decides y p b.rule ≡ d → (d ≡ false → first_answer x p rules ≡ first_answer y p rules) → first_answer x p (b ∷ rules) ≡ first_answer y p (b ∷ rules)
      go true e f later = cc
      go false e f later = let same = later refl in cc

      by_end : (leaks rules ≡ None → first_answer x p rules ≡ first_answer y p rules) → is_rule_safe safe b.rule ≡ true → (n : Bool) → ends_reach x.user p b.rule ≡ n → (n ≡ false → leaks rules ≡ None) → first_answer x p (b ∷ rules) ≡ first_answer y p (b ∷ rules)
      by_end ih s true e later =
          let both = and_parts (not (asks_row b.rule)) (decides (without_row x.user) p b.rule) e in
          let free : asks_row b.rule ≡ false = not_true (asks_row b.rule) both.0 in
          let here : decides x p b.rule ≡ true = sym (rowless_decides x p b.rule free) ∙ both.1 in
          go true here (sym (decides_same safe x y agree p b.rule s) ∙ here) (λ f. absurd (cc))
        where
          not_true : (c : Bool) → not c ≡ true → c ≡ false
          not_true true h = absurd (cc)
          not_true false h = refl
      by_end ih s false e later =
          go (decides x p b.rule) refl (sym (decides_same safe x y agree p b.rule s)) (λ f. ih (later refl))

      by_safe : (leaks rules ≡ None → first_answer x p rules ≡ first_answer y p rules) → mentions p b.rule.permissions ≡ true → (s : Bool) → is_rule_safe safe b.rule ≡ s → bad_row (or_stop (stop_by true s (ends_reach x.user p b.rule) b.rule.row) (first_stop (reach_stop x.user p safe) rules)) ≡ None → first_answer x p (b ∷ rules) ≡ first_answer y p (b ∷ rules)
      by_safe ih m true e h = by_end ih e (ends_reach x.user p b.rule) refl (λ n. ap (λ (c : Bool). bad_row (or_stop (stop_by true true c b.rule.row) (first_stop (reach_stop x.user p safe) rules))) (sym n) ∙ h)
      by_safe ih m false e h = absurd (cc)

      by_mention : (leaks rules ≡ None → first_answer x p rules ≡ first_answer y p rules) → (m : Bool) → mentions p b.rule.permissions ≡ m → bad_row (or_stop (stop_by m (is_rule_safe safe b.rule) (ends_reach x.user p b.rule) b.rule.row) (first_stop (reach_stop x.user p safe) rules)) ≡ None → first_answer x p (b ∷ rules) ≡ first_answer y p (b ∷ rules)
      by_mention ih true e h = by_safe ih e (is_rule_safe safe b.rule) refl h
      by_mention ih false e h = let same = ih h in cc

  built_in_same : (o : Option Decision) → or_built_in x p o ≡ or_built_in y p o
  built_in_same None = ap (λ (u : UserInfo). or_built_in (without_row u) p None) agree.user
  built_in_same (Some d) = refl

  pub decision_same : (rules : List BookRule) → leaks rules ≡ None → decision_in x p rules ≡ decision_in y p rules
  decision_same rules h = ap (or_built_in x p) (first_same rules h) ∙ built_in_same (first_answer y p rules)

pub same_decision : DecisionLaw
same_decision safe x y p chain agree h = decision_same safe x y agree p chain h
