-- What a chain does not show cannot be read in any row.
use Rattle.std.proofs.Common.{◌≡◌, ◌∙◌, ap, refl, sym, Bool, true, false, cond, ◌&&◌, ◌||◌, List, [], ◌∷◌, ◌++◌, Option, Some, None}
use Rattle.std.specs.List.{AllByRecursion, list_any}
use Rattle.std.specs.Option.{unwrap_or}
use Rattle.formula_parse.specs.declared.rule.RuleAtom.{RuleAtom}
use Rattle.formula_parse.specs.declared.rule.RuleAtom.TheVariants as rule
use Rattle.formula_parse.specs.Tree.{Tree, number, text, constant, dollar, binary, prefix, conditional, parentheses, list, call, attribute, every, lookup, atom, Trees, no_trees, one_more}
use Rattle.acl_formula.specs.Mentions.{all_mentions, as_list, atom_mention, gathered, is_about_row, items_mention, mentioned, same_mention, uses_row, with_mention}
use Rattle.acl_formula.specs.Permissions.{has_perm}
use Rattle.acl_formula.specs.RuleRow.{RuleRow}
use Rattle.acl_formula.specs.RuleTruths.{rule_truth, truth_from}
use Rattle.acl_formula.specs.RuleValue.{as_value, atom_value, combined, followed, item_list, items_of, turned, value_of}
use Rattle.acl_formula.specs.declared.mention.Mention.{Mention}
use Rattle.acl_formula.specs.declared.mention.Mention.TheVariants as mention
use Rattle.acl_formula.specs.declared.permissions.Perm.TheVariants as perm
use Rattle.acl_formula.specs.declared.truth.RuleTruth.{RuleTruth}
use Rattle.acl_formula.specs.declared.user_info.UserInfo.{UserInfo}
use Rattle.acl_rules.specs.declared.decision.Decision.TheVariants as decision
use Rattle.acl_rules.specs.declared.rule.Rule.{Rule}
use Rattle.acl_rules.specs.Chain.{chain_of}
use Rattle.acl_rules.specs.Decided.{answer, decides, decision_in, first_answer, is_match, mentions, or_built_in, truth_in}
use Rattle.acl_rules.specs.RuleBook.{BookRule}
use Rattle.acl_reading.specs.Laws.{BareLaw, HiddenLaw}
use Rattle.acl_reading.specs.Shown.{reading_row}
use Rattle.acl_reading.specs.Walk.{allows, allows_reading, asks_row, built_in_shows, first_end, is_shown_by, without_row}

-- ---- formulas that use no row

abbrev IsFree : Mention → Type 0
IsFree m = is_about_row m ≡ false

abbrev AreFree : List Mention → Type 0
AreFree ms = AllByRecursion IsFree ms

free_left : (xs ys : List Mention) → AreFree (xs ++ ys) → AreFree xs
free_left [] ys h = tt
free_left (x ∷ xs) ys h = (h.0, free_left xs ys h.1)

free_right : (xs ys : List Mention) → AreFree (xs ++ ys) → AreFree ys
free_right [] ys h = h
free_right (x ∷ xs) ys h = free_right xs ys h.1

neither : (a b : Bool) → (a || b) ≡ false → (a ≡ false) × (b ≡ false)
neither true b h = absurd (cc)
neither false b h = (refl, h)

all_free : (ms : List Mention) → list_any is_about_row ms ≡ false → AreFree ms
all_free [] h = tt
all_free (m ∷ ms) h = let both = neither (is_about_row m) (list_any is_about_row ms) h in (both.0, all_free ms both.1)

-- what was noted once is as free as each repeat
same_free : (n m : Mention) → same_mention n m ≡ true → IsFree n → IsFree m
same_free n (mention.User c) e h = refl
same_free (mention.Rec a) (mention.Rec b) e h = absurd (cc)
same_free (mention.NewRec a) (mention.Rec b) e h = absurd (cc)
same_free (mention.User a) (mention.Rec b) e h = absurd (cc)
same_free (mention.Rec a) (mention.NewRec b) e h = absurd (cc)
same_free (mention.NewRec a) (mention.NewRec b) e h = absurd (cc)
same_free (mention.User a) (mention.NewRec b) e h = absurd (cc)

noted_free : (seen : List Mention) (m : Mention) → list_any (λ n. same_mention n m) seen ≡ true → AreFree seen → IsFree m
noted_free [] m e h = absurd (cc)
noted_free (n ∷ seen) m e h = by (same_mention n m) refl (λ rest. noted_free seen m rest h.1)
  where
    by : (b : Bool) → same_mention n m ≡ b → (list_any (λ n. same_mention n m) seen ≡ true → IsFree m) → IsFree m
    by true is later = same_free n m is h.0
    by false is later = later (cc)

one_free : (seen : List Mention) (m : Mention) → AreFree (with_mention seen m) → AreFree seen × IsFree m
one_free seen m h = by (list_any (λ n. same_mention n m) seen) refl h
  where
    by : (b : Bool) → list_any (λ n. same_mention n m) seen ≡ b → AreFree (cond b seen (seen ++ m ∷ [])) → AreFree seen × IsFree m
    by true e h = (h, noted_free seen m e h)
    by false e h = (free_left seen (m ∷ []) h, (free_right seen (m ∷ []) h).0)

gathered_free : (seen ms : List Mention) → AreFree (gathered seen ms) → AreFree seen × AreFree ms
gathered_free seen [] h = (h, tt)
gathered_free seen (m ∷ ms) h =
    let rest = gathered_free (with_mention seen m) ms h in
    let first = one_free seen m rest.0 in
    (first.0, (first.1, rest.1))

module _ (u : UserInfo) (row : RuleRow) where
  atom_same : (a : RuleAtom) → AreFree (as_list (atom_mention a)) → atom_value (without_row u) a ≡ atom_value (reading_row u row) a
  atom_same rule.Owner h = refl
  atom_same rule.Editor h = refl
  atom_same rule.Viewer h = refl
  atom_same (rule.User n) h = refl
  atom_same (rule.UserAttribute n m) h = refl
  atom_same (rule.Rec n) h = let used : true ≡ false = h.0 in absurd (cc)
  atom_same (rule.NewRec n) h = refl

  mutual
    value_same : (t : Tree) → AreFree (all_mentions t) → value_of (without_row u) t ≡ value_of (reading_row u row) t
    value_same (number n) h = refl
    value_same (text t) h = refl
    value_same (constant c) h = refl
    value_same (dollar n) h = refl
    value_same (binary o a b) h =
        ap (λ v. combined o v (value_of (without_row u) b)) (value_same a (free_left (all_mentions a) (all_mentions b) h))
        ∙ ap (combined o (value_of (reading_row u row) a)) (value_same b (free_right (all_mentions a) (all_mentions b) h))
    value_same (prefix o a) h = ap (turned o) (value_same a h)
    value_same (conditional a b c) h = refl
    value_same (parentheses a) h = value_same a h
    value_same (list ts) h = ap as_value (items_same ts h)
    value_same (call n ts) h = refl
    value_same (attribute a n) h = refl
    value_same (every n) h = refl
    value_same (lookup k n ks) h = refl
    value_same (atom a) h = atom_same a h

    items_same : (ts : Trees) → AreFree (items_mention ts) → items_of (without_row u) ts ≡ items_of (reading_row u row) ts
    items_same no_trees h = refl
    items_same (one_more t ts) h =
        ap (λ v. followed (item_list v) (items_of (without_row u) ts)) (value_same t (free_left (all_mentions t) (items_mention ts) h))
        ∙ ap (followed (item_list (value_of (reading_row u row) t))) (items_same ts (free_right (all_mentions t) (items_mention ts) h))

  tree_same : (tree : Option Tree) → uses_row tree ≡ false → rule_truth (without_row u) tree ≡ rule_truth (reading_row u row) tree
  tree_same None h = refl
  tree_same (Some t) h = ap truth_from (value_same t (gathered_free [] (all_mentions t) (all_free (mentioned (Some t)) h)).1)

  truth_same : (r : Rule) → asks_row r ≡ false → truth_in (without_row u) r ≡ truth_in (reading_row u row) r
  truth_same r h = by r.formula refl
    where
      by : (o : Option (Option Tree)) → r.formula ≡ o → truth_in (without_row u) r ≡ truth_in (reading_row u row) r
      by None e = cc
      by (Some tree) e = let free : uses_row tree ≡ false = cc in let same = tree_same tree free in cc

  pub decides_same : (r : Rule) → asks_row r ≡ false → decides (without_row u) perm.R r ≡ decides (reading_row u row) perm.R r
  decides_same r h = ap (λ (t : RuleTruth). mentions perm.R r.permissions && is_match perm.R r.permissions t) (truth_same r h)

  -- ---- rules that do not show

  denied_by : (a d m : Bool) → a ≡ false → ((a || d) && m) ≡ true → d ≡ true
  denied_by true d m h e = absurd (cc)
  denied_by false true m h e = refl
  denied_by false false m h e = absurd (cc)

  -- a rule that decides, and does not allow reading, denies it
  denies : (r : Rule) → allows_reading r ≡ false → decides (reading_row u row) perm.R r ≡ true → allows (answer perm.R r) ≡ false
  denies r h e =
      ap (λ (d : Bool). allows (cond d (decision.Deny (record { row = r.row })) decision.Allow))
      (denied_by (has_perm perm.R r.permissions.allowed) (has_perm perm.R r.permissions.denied) (is_match perm.R r.permissions (truth_in (reading_row u row) r)) h e)

  -- a rule that does not allow reading, before rules by which it is denied
  decided : Bool → Rule → List BookRule → Bool
  decided d r rules = allows (or_built_in (reading_row u row) perm.R (cond d (Some (answer perm.R r)) (first_answer (reading_row u row) perm.R rules)))

  shown : Bool → Bool → List BookRule → Bool
  shown ends allowed rules = unwrap_or (cond ends (Some allowed) (first_end u rules)) (built_in_shows u.user.access)

  Denied : List BookRule → Type 0
  Denied rules = allows (decision_in (reading_row u row) perm.R rules) ≡ false

  row_denied : (r : Rule) (rules : List BookRule) → allows_reading r ≡ false → Denied rules → (d : Bool) → decides (reading_row u row) perm.R r ≡ d → decided d r rules ≡ false
  unfolding decided Denied
  row_denied r rules h others true e = denies r h e
  row_denied r rules h others false e = others

  -- a rule about rows: it ends the walk where it allows
  by_row : (r : Rule) (rules : List BookRule) → (is_shown_by u rules ≡ false → Denied rules) → (a : Bool) → allows_reading r ≡ a → shown a a rules ≡ false → decided (decides (reading_row u row) perm.R r) r rules ≡ false
  unfolding shown
  by_row r rules ih true f h = let no : true ≡ false = h in absurd (cc)
  by_row r rules ih false f h = row_denied r rules f (ih h) (decides (reading_row u row) perm.R r) refl

  -- any other rule: it ends the walk where it decides
  by_rule : (r : Rule) (rules : List BookRule) → (is_shown_by u rules ≡ false → Denied rules) → (d : Bool) → decides (reading_row u row) perm.R r ≡ d → shown d (allows_reading r) rules ≡ false → decided d r rules ≡ false
  unfolding decided shown Denied
  by_rule r rules ih true e h = denies r h e
  by_rule r rules ih false e h = ih h

  hidden : (rules : List BookRule) → is_shown_by u rules ≡ false → Denied rules
  unfolding decided shown Denied
  hidden [] h = h
  hidden (b ∷ rules) h = by (asks_row b.rule) refl (hidden rules)
    where
      by : (q : Bool) → asks_row b.rule ≡ q → (is_shown_by u rules ≡ false → Denied rules) → Denied (b ∷ rules)
      by true e ih =
          by_row b.rule rules ih (allows_reading b.rule) refl
          (sym (ap (λ (c : Bool). shown (cond c (allows_reading b.rule) (decides (without_row u) perm.R b.rule)) (allows_reading b.rule) rules) e) ∙ h)
      by false e ih =
          by_rule b.rule rules ih (decides (reading_row u row) perm.R b.rule) refl
          (sym (ap (λ (c : Bool). shown (cond c (allows_reading b.rule) (decides (without_row u) perm.R b.rule)) (allows_reading b.rule) rules) e ∙ ap (λ (d : Bool). shown d (allows_reading b.rule) rules) (decides_same b.rule e)) ∙ h)

pub column_hidden : HiddenLaw
unfolding Denied
column_hidden x table column row h = hidden x.user row (chain_of x.book (Some table) (Some column)) h

pub bare_hidden : BareLaw
unfolding Denied
bare_hidden x table row h = hidden x.user row (chain_of x.book (Some table) None) h
