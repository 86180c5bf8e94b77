-- What rules come to for all rows, and tests one behind another.
use Rattle.std.proofs.Common.{◌≡◌, ◌∙◌, ap, refl, sym, ℕ, ◌+◌, ◌<◌, Bool, true, false, not, cond, ◌&&◌, drop, get_or, length, List, [], ◌∷◌, ◌++◌, Option, Some, None, option_map, unwrap_or}
use Rattle.std.proofs.lemmas.List.{at_drop_more}
use Rattle.std.specs.List.{slice_get}
use Rattle.formula_parse.specs.Tree.{Tree}
use Rattle.acl_formula.specs.Asked.{Asked}
use Rattle.acl_formula.specs.Permissions.{has_perm}
use Rattle.acl_formula.specs.RuleRow.{RuleRow}
use Rattle.acl_formula.specs.RuleTruths.{rule_truth}
use Rattle.acl_formula.specs.declared.permissions.Perm.TheVariants as perm
use Rattle.acl_formula.specs.declared.permissions.PermSet.{PermSet}
use Rattle.acl_formula.specs.declared.truth.RuleTruth.{RuleTruth}
use Rattle.acl_formula.specs.declared.truth.RuleTruth.TheVariants as says
use Rattle.acl_formula.specs.declared.user_info.UserInfo.{UserInfo}
use Rattle.acl_rules.specs.declared.decision.Ctx.{Ctx}
use Rattle.acl_rules.specs.declared.decision.Decision.TheVariants as decision
use Rattle.acl_rules.specs.declared.rule.Rule.{Rule}
use Rattle.acl_rules.specs.Chain.{Part, is_of, of_document, of_table, rules_of}
use Rattle.acl_rules.specs.Decided.{answer, decides, first_answer, is_match, mentions, truth_in}
use Rattle.acl_rules.specs.Places.{picked}
use Rattle.acl_rules.specs.RuleBook.{BookRule}
use Rattle.censored_view.specs.declared.row_tests.RowTest.{RowTest}
use Rattle.censored_view.specs.RowTests.{is_match as is_test_match, is_matched, or_answer, tests_say}
use Rattle.acl_reading.specs.declared.choosing.Choice.{Choice}
use Rattle.acl_reading.specs.declared.choosing.Choice.TheVariants as kind
use Rattle.acl_reading.specs.Choosing.{choice_for_all, choice_says, rule_reads}
use Rattle.acl_reading.specs.Shown.{is_cell_shown, reading_row}
use Rattle.acl_reading.specs.Walk.{allows, asks_row, built_in_shows, without_row}
use Rattle.acl_reading.specs.Walking.{or_end, reads_among, reads_at}
use Rattle.acl_reading.proofs.HiddenLemmas.{decides_same}
use Rattle.acl_reading.proofs.WalkLemmas.{behind_all, read_before}

-- ---- one rule

-- what a rule that decides says
said : (denies : Bool) (r : Rule) → has_perm perm.R r.permissions.denied ≡ denies → allows (answer perm.R r) ≡ not denies
said true r e = ap (λ (d : Bool). allows (cond d (decision.Deny (record { row = r.row })) decision.Allow)) e
said false r e = ap (λ (d : Bool). allows (cond d (decision.Deny (record { row = r.row })) decision.Allow)) e

same_match : (s : PermSet) (denies : Bool) (t : RuleTruth) → has_perm perm.R s.denied ≡ denies → is_match perm.R s t ≡ is_test_match denies t
same_match s denies says.True e = refl
same_match s denies says.False e = refl
same_match s denies says.Fails e = e

-- a rule that says nothing of reading decides of no row
pub silent : (x : Asked) (r : Rule) → mentions perm.R r.permissions ≡ false → rule_reads x r ≡ None
silent x r e = ap (λ (m : Bool). cond (m && is_match perm.R r.permissions (truth_in x r)) (Some (allows (answer perm.R r))) None) e

module _ (u : UserInfo) (row : RuleRow) (r : Rule) (denies : Bool) (tells : mentions perm.R r.permissions ≡ true) (is : has_perm perm.R r.permissions.denied ≡ denies) where
  -- one that uses a row is asked of it
  pub asked : (t : RowTest) → r.formula ≡ Some t.formula.now → t.denies ≡ denies → tests_say u row (t ∷ []) ≡ rule_reads (reading_row u row) r
  asked t e d =
      let truth : truth_in (reading_row u row) r ≡ rule_truth (reading_row u row) t.formula.now = ap (λ (o : Option (Option Tree)). elim o [ None ↦ says.Fails | Some tree ↦ rule_truth (reading_row u row) tree ]) e in
      let matched : decides (reading_row u row) perm.R r ≡ is_matched u row t =
      ap (λ (m : Bool). m && is_match perm.R r.permissions (truth_in (reading_row u row) r)) tells
      ∙ ap (is_match perm.R r.permissions) truth
      ∙ same_match r.permissions denies (rule_truth (reading_row u row) t.formula.now) is
      ∙ ap (λ (b : Bool). is_test_match b (rule_truth (reading_row u row) t.formula.now)) (sym d) in
      sym (ap (λ (m : Bool). cond m (Some (allows (answer perm.R r))) None) matched
      ∙ ap (λ (b : Bool). cond (is_matched u row t) (Some b) None) (said denies r is ∙ ap not (sym d)))

  -- and one that uses none decides alike of all
  pub for_all : asks_row r ≡ false → choice_says u row (choice_for_all u r denies) ≡ rule_reads (reading_row u row) r
  for_all e = by (decides (without_row u) perm.R r) refl
    where
      by : (b : Bool) → decides (without_row u) perm.R r ≡ b → choice_says u row (choice_for_all u r denies) ≡ rule_reads (reading_row u row) r
      by true h = let same : decides (reading_row u row) perm.R r ≡ true = sym (decides_same u row r e) ∙ h in let is_said = said denies r is in cc
      by false h = let same : decides (reading_row u row) perm.R r ≡ false = sym (decides_same u row r e) ∙ h in cc

-- ---- the rule at a place

module _ (x : Asked) (part : Part) (book : List BookRule) (place : ℕ) where
  one_alone : (b : BookRule) → option_map allows (first_answer x perm.R (b ∷ [])) ≡ rule_reads x b.rule
  one_alone b = elim (decides x perm.R b.rule) as (λ (d : Bool). option_map allows (cond d (Some (answer perm.R b.rule)) None) ≡ cond d (Some (allows (answer perm.R b.rule))) None) [
    | true ↦ refl
    | false ↦ refl
  ]

  pub none_there : slice_get book place ≡ None → reads_at x part book place ≡ None
  none_there e = cc

  pub of_another : (b : BookRule) → slice_get book place ≡ Some b → is_of part b.resource ≡ false → reads_at x part book place ≡ None
  of_another b e h = cc

  pub of_part : (b : BookRule) → slice_get book place ≡ Some b → is_of part b.resource ≡ true → reads_at x part book place ≡ rule_reads x b.rule
  of_part b e h =
      let alone : rules_of part (picked book (place ∷ [])) ≡ b ∷ [] = cc in
      ap (λ (bs : List BookRule). option_map allows (first_answer x perm.R bs)) alone ∙ one_alone b

-- ---- tests one behind another

pub or_append : (o p q : Option Bool) → or_answer (or_answer o p) q ≡ or_answer o (or_answer p q)
or_append None p q = refl
or_append (Some b) p q = refl

pub or_none : (o : Option Bool) → or_answer o None ≡ o
or_none None = refl
or_none (Some b) = refl

pub tests_append : (u : UserInfo) (row : RuleRow) (ts vs : List RowTest) → tests_say u row (ts ++ vs) ≡ or_answer (tests_say u row ts) (tests_say u row vs)
tests_append u row [] vs = refl
tests_append u row (t ∷ ts) vs =
    elim (is_matched u row t) as (λ (m : Bool). cond m (Some (not t.denies)) (tests_say u row (ts ++ vs)) ≡ or_answer (cond m (Some (not t.denies)) (tests_say u row ts)) (tests_say u row vs)) [
      | true ↦ refl
      | false ↦ tests_append u row ts vs
    ]

or_alike : (o q : Option Bool) → or_end o q ≡ or_answer o q
or_alike None q = refl
or_alike (Some b) q = refl

module _ (u : UserInfo) (row : RuleRow) (ts now : List RowTest) (choice : Choice) where
  -- what a choice adds
  pub passed_on : choice ≡ kind.Passed → now ≡ ts → tests_say u row now ≡ or_answer (tests_say u row ts) (choice_says u row choice)
  passed_on is same = ap (tests_say u row) same ∙ sym (or_none (tests_say u row ts)) ∙ ap (λ c. or_answer (tests_say u row ts) (choice_says u row c)) (sym is)

  pub one_asked : (t : RowTest) → choice ≡ kind.Asks t → now ≡ ts ++ t ∷ [] → tests_say u row now ≡ or_answer (tests_say u row ts) (choice_says u row choice)
  one_asked t is more = ap (tests_say u row) more ∙ tests_append u row ts (t ∷ []) ∙ ap (λ c. or_answer (tests_say u row ts) (choice_says u row c)) (sym is)

  -- one place more
  pub with_place : (part : Part) (book : List BookRule) (places : List ℕ) (i : ℕ) (total : Option Bool) → i < length places
      → choice_says u row choice ≡ reads_at (reading_row u row) part book (get_or places i 0)
      → tests_say u row now ≡ or_answer (tests_say u row ts) (choice_says u row choice)
      → or_answer (tests_say u row ts) (reads_among (reading_row u row) part book (drop i places)) ≡ total
      → or_answer (tests_say u row now) (reads_among (reading_row u row) part book (drop (i + 1) places)) ≡ total
  with_place part book places i total lt says grown so_far =
      let x = reading_row u row in
      let rest = reads_among x part book (drop (i + 1) places) in
      let here = reads_at x part book (get_or places i 0) in
      ap (λ o. or_answer o rest) (grown ∙ ap (or_answer (tests_say u row ts)) says)
      ∙ or_append (tests_say u row ts) here rest
      ∙ ap (or_answer (tests_say u row ts)) (sym (or_alike here rest) ∙ sym (at_drop_more (reads_among x part book) places i 0 lt))
      ∙ so_far

-- an answer for all rows goes before whatever is behind
pub or_all : (o q : Option Bool) (b : Bool) → or_answer (or_answer o (Some b)) q ≡ or_answer o (Some b)
or_all None q b = refl
or_all (Some c) q b = refl

either : (t d : Option Bool) (b : Bool) → unwrap_or t (unwrap_or d b) ≡ unwrap_or (or_answer (or_answer t d) (Some b)) false
either None None b = refl
either None (Some c) b = refl
either (Some c) d b = refl

-- a table's chain, part by part
pub table_let : (x : Ctx) (table : List ℕ) (row : RuleRow)
    → is_cell_shown x table None row
    ≡ unwrap_or (or_answer (or_answer
    (option_map allows (first_answer (reading_row x.user row) perm.R (rules_of (of_table table) x.book)))
    (option_map allows (first_answer (reading_row x.user row) perm.R (rules_of of_document x.book))))
    (Some (built_in_shows x.user.user.access))) false
table_let x table row =
    let asked = reading_row x.user row in
    read_before asked (rules_of (of_table table) x.book) (rules_of of_document x.book)
    ∙ ap (unwrap_or (option_map allows (first_answer asked perm.R (rules_of (of_table table) x.book)))) (behind_all x.user row (rules_of of_document x.book))
    ∙ either (option_map allows (first_answer asked perm.R (rules_of (of_table table) x.book))) (option_map allows (first_answer asked perm.R (rules_of of_document x.book))) (built_in_shows x.user.user.access)
