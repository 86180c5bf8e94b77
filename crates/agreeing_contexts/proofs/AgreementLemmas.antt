-- Contexts that agree decide the same, and let the same be read.
use Rattle.std.proofs.Common.{◌≡◌, ◌∙◌, ap, refl, ℕ, true, false, cond, codes, ◌&&◌, List, [], ◌∷◌, ◌++◌, Option, Some, None, unwrap_or}
use Rattle.std.specs.List.{AllByRecursion}
use Rattle.formula_parse.specs.declared.rule.RuleAtom.{RuleAtom}
use Rattle.formula_parse.specs.declared.rule.RuleAtom.TheVariants as rule
use Rattle.formula_parse.specs.Tree.{Tree, number, text, constant, dollar, binary, prefix, conditional, parentheses, list, call, attribute, every, lookup, atom, Trees, no_trees, one_more}
use Rattle.doc_model.specs.declared.user.User.{User}
use Rattle.acl_formula.specs.Asked.{Asked}
use Rattle.acl_formula.specs.RuleFields.{own_field}
use Rattle.acl_formula.specs.RuleRow.{RuleRow}
use Rattle.acl_formula.specs.RuleTruths.{rule_truth, truth_from}
use Rattle.acl_formula.specs.RuleValue.{as_value, atom_value, combined, followed, item_list, items_of, turned, value_of}
use Rattle.acl_formula.specs.declared.permissions.Perm.{Perm}
use Rattle.acl_formula.specs.declared.permissions.Perm.TheVariants as perm
use Rattle.acl_formula.specs.declared.truth.RuleTruth.{RuleTruth}
use Rattle.acl_formula.specs.declared.truth.RuleTruth.TheVariants as says
use Rattle.acl_formula.specs.declared.user_info.UserInfo.{UserInfo}
use Rattle.acl_rules.specs.declared.decision.Ctx.{Ctx}
use Rattle.acl_rules.specs.declared.decision.Decision.{Decision}
use Rattle.acl_rules.specs.declared.rule.Rule.{Rule}
use Rattle.acl_rules.specs.Chain.{Part, chain_of, is_of, of_column, of_document, of_table, rules_of}
use Rattle.acl_rules.specs.Decided.{answer, built_in, decides, decision_in, first_answer, is_access, is_match, mentions, or_built_in, truth_in}
use Rattle.acl_rules.specs.RuleBook.{BookRule}
use Rattle.censored_view.specs.Readable.{Readable, by_rules}
use Rattle.acl_reading.specs.RulesLet.{is_owner, rules_let, shown_of}
use Rattle.acl_reading.specs.Shown.{is_bare_shown, is_cell_shown, is_column_shown, is_formula_shown, reading_row}
use Rattle.acl_reading.specs.Walk.{allows, allows_reading, asks_row, built_in_shows, ends_walk, first_end, is_shown_by, without_row}
use Rattle.agreeing_contexts.specs.Agreement.{Agree, AreSameIn, IsSameIn}
use Rattle.agreeing_contexts.specs.AgreementLaws.{DecisionLaw, ReadingLaw, asked_in}
use Rattle.agreeing_contexts.specs.Fields.{all_fields, atom_fields, formula_fields, item_fields, mentioned_fields, rule_fields, tree_fields}
use Rattle.agreeing_contexts.specs.declared.field.UserField.{UserField}
use Rattle.agreeing_contexts.proofs.FieldLemmas.{all_both, gathered_all}
use Rattle.acl_rules.proofs.NarrowLemmas.{all_right, all_left}

module _ (u v : UserInfo) (one : u.user ≡ v.user) where
  abbrev AreSame : List UserField → Type 0
  AreSame fs = AllByRecursion (IsSameIn u v) fs

  -- what a rule asks for is the same
  abbrev IsTheSame : BookRule → Type 0
  IsTheSame b = AreSame (rule_fields b)

  -- ---- one formula, asked of one row

  module _ (before after : Option RuleRow) where
    abbrev asked : UserInfo → Asked
    asked w = record { user = w; before = before; after = after }

    atom_same : (a : RuleAtom) → AreSame (atom_fields a) → atom_value (asked u) a ≡ atom_value (asked v) a
    atom_same rule.Owner h = refl
    atom_same rule.Editor h = refl
    atom_same rule.Viewer h = refl
    atom_same (rule.User n) h = ap (λ (w : User). own_field w n) one
    atom_same (rule.UserAttribute n m) h = h.0
    atom_same (rule.Rec n) h = refl
    atom_same (rule.NewRec n) h = refl

    mutual
      value_same : (t : Tree) → AreSame (tree_fields t) → value_of (asked u) t ≡ value_of (asked v) t
      value_same (number n) h = refl
      value_same (text t) h = refl
      value_same (constant c) h = refl
      value_same (dollar n) h = refl
      value_same (binary o a b) h =
          ap (λ w. combined o w (value_of (asked u) b)) (value_same a (all_left (IsSameIn u v) (tree_fields a) (tree_fields b) h))
          ∙ ap (combined o (value_of (asked v) a)) (value_same b (all_right (IsSameIn u v) (tree_fields a) (tree_fields b) h))
      value_same (prefix o a) h = ap (turned o) (value_same a h)
      value_same (conditional a b c) h = refl
      value_same (parentheses a) h = value_same a h
      value_same (list ts) h = ap as_value (items_same ts h)
      value_same (call n ts) h = refl
      value_same (attribute a n) h = refl
      value_same (every n) h = refl
      value_same (lookup k n ks) h = refl
      value_same (atom a) h = atom_same a h

      items_same : (ts : Trees) → AreSame (item_fields ts) → items_of (asked u) ts ≡ items_of (asked v) ts
      items_same no_trees h = refl
      items_same (one_more t ts) h =
          ap (λ w. followed (item_list w) (items_of (asked u) ts)) (value_same t (all_left (IsSameIn u v) (tree_fields t) (item_fields ts) h))
          ∙ ap (followed (item_list (value_of (asked v) t))) (items_same ts (all_right (IsSameIn u v) (tree_fields t) (item_fields ts) h))

    formula_same : (o : Option (Option Tree)) → AreSame (formula_fields o)
        → elim o as (λ _. RuleTruth) [ None ↦ says.Fails | Some tree ↦ rule_truth (asked u) tree ] ≡ elim o as (λ _. RuleTruth) [ None ↦ says.Fails | Some tree ↦ rule_truth (asked v) tree ]
    formula_same None h = refl
    formula_same (Some None) h = refl
    formula_same (Some (Some t)) h = ap truth_from (value_same t h)

    pub decides_same : (p : Perm) (b : BookRule) → IsTheSame b → decides (asked u) p b.rule ≡ decides (asked v) p b.rule
    decides_same p b h = ap (λ (t : RuleTruth). mentions p b.rule.permissions && is_match p b.rule.permissions t) (formula_same b.rule.formula h)

    -- ---- a chain

    answer_same : (p : Perm) (rules : List BookRule) → AllByRecursion IsTheSame rules → first_answer (asked u) p rules ≡ first_answer (asked v) p rules
    answer_same p [] h = refl
    answer_same p (b ∷ rules) h =
        ap (λ d. cond d (Some (answer p b.rule)) (first_answer (asked u) p rules)) (decides_same p b h.0)
        ∙ ap (cond (decides (asked v) p b.rule) (Some (answer p b.rule))) (answer_same p rules h.1)

    behind_same : (p : Perm) (o : Option Decision) → or_built_in (asked u) p o ≡ or_built_in (asked v) p o
    behind_same p None = ap (λ (w : User). built_in w.access p) one
    behind_same p (Some d) = refl

    pub decision_same : (p : Perm) (rules : List BookRule) → AllByRecursion IsTheSame rules → decision_in (asked u) p rules ≡ decision_in (asked v) p rules
    decision_same p rules h =
        ap (or_built_in (asked u) p) (answer_same p rules h) ∙ behind_same p (first_answer (asked v) p rules)

  -- ---- the walk of a chain

  ends_same : (b : BookRule) → IsTheSame b → ends_walk u b.rule ≡ ends_walk v b.rule
  ends_same b h = ap (cond (asks_row b.rule) (allows_reading b.rule)) (decides_same None None perm.R b h)

  end_same : (rules : List BookRule) → AllByRecursion IsTheSame rules → first_end u rules ≡ first_end v rules
  end_same [] h = refl
  end_same (b ∷ rules) h =
      ap (λ d. cond d (Some (allows_reading b.rule)) (first_end u rules)) (ends_same b h.0)
      ∙ ap (cond (ends_walk v b.rule) (Some (allows_reading b.rule))) (end_same rules h.1)

  shown_same : (rules : List BookRule) → AllByRecursion IsTheSame rules → is_shown_by u rules ≡ is_shown_by v rules
  shown_same rules h =
      ap (λ o. unwrap_or o (built_in_shows u.user.access)) (end_same rules h)
      ∙ ap (λ (w : User). unwrap_or (first_end v rules) (built_in_shows w.access)) one

  -- ---- the chains of a book

  of_book : (book : List BookRule) → AreSame (all_fields book) → AllByRecursion IsTheSame book
  of_book [] h = tt
  of_book (b ∷ book) h =
      (all_left (IsSameIn u v) (rule_fields b) (all_fields book) h, of_book book (all_right (IsSameIn u v) (rule_fields b) (all_fields book) h))

  kept_all : (part : Part) (book : List BookRule) → AllByRecursion IsTheSame book → AllByRecursion IsTheSame (rules_of part book)
  kept_all part [] h = tt
  kept_all part (b ∷ book) h =
      elim (is_of part b.resource) as (λ c. AllByRecursion IsTheSame (cond c (b ∷ rules_of part book) (rules_of part book))) [
        | true ↦ (h.0, kept_all part book h.1)
        | false ↦ kept_all part book h.1
      ]

  table_all : (book : List BookRule) → AllByRecursion IsTheSame book → (t : List ℕ) → AllByRecursion IsTheSame (chain_of book (Some t) None)
  table_all book h t =
      all_both IsTheSame (rules_of (of_table t) book) (rules_of of_document book) (kept_all (of_table t) book h) (kept_all of_document book h)

  chain_all : (book : List BookRule) → AllByRecursion IsTheSame book → (table column : Option (List ℕ)) → AllByRecursion IsTheSame (chain_of book table column)
  chain_all book h None column = kept_all of_document book h
  chain_all book h (Some t) None = table_all book h t
  chain_all book h (Some t) (Some c) =
      all_both IsTheSame (rules_of (of_column t c) book) (rules_of (of_table t) book ++ rules_of of_document book) (kept_all (of_column t c) book h) (table_all book h t)

  module _ (book : List BookRule) (same : AllByRecursion IsTheSame book) where
    abbrev in_book : UserInfo → Ctx
    in_book w = record { book = book; user = w }

    table_same : (table : List ℕ) → shown_of (in_book u) table ≡ shown_of (in_book v) table
    table_same table = λ i. record {
      bare = shown_same (chain_of book (Some table) None) (chain_all book same (Some table) None) i;
      column = λ c. shown_same (chain_of book (Some table) (Some c)) (chain_all book same (Some table) (Some c)) i;
      formula = λ c. allows (decision_same None None perm.S (chain_of book (Some table) (Some c)) (chain_all book same (Some table) (Some c)) i);
      cell = λ c row. allows (decision_same (Some row) None perm.R (chain_of book (Some table) c) (chain_all book same (Some table) c) i);
    }

    read_same : rules_let (in_book u) ≡ rules_let (in_book v)
    read_same = λ i. by_rules (is_access ((one i).access) (codes "owners")) (λ table. table_same table i)

-- ---- two contexts

all_same : (x y : Ctx) (agree : Agree x y) → AllByRecursion (IsTheSame x.user y.user agree.user) x.book
all_same x y agree = of_book x.user y.user agree.user x.book (gathered_all (IsSameIn x.user y.user) [] (all_fields x.book) agree.fields).1

in_one_book : (x y : Ctx) → x.book ≡ y.book → (let z : Ctx = record { book = x.book; user = y.user } in z) ≡ y
in_one_book x y same = λ i. record { book = same i; user = y.user }

pub same_reading : ReadingLaw
same_reading x y agree =
    read_same x.user y.user agree.user x.book (all_same x y agree) ∙ ap rules_let (in_one_book x y agree.book)

pub same_decision : DecisionLaw
same_decision x y agree before after p table column =
    decision_same x.user y.user agree.user before after p (chain_of x.book table column) (chain_all x.user y.user agree.user x.book (all_same x y agree) table column)
    ∙ ap (λ (book : List BookRule). decision_in (asked_in y before after) p (chain_of book table column)) agree.book
