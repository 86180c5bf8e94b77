-- What is let read of the document's own tables, and where there are no rules.
use Rattle.std.proofs.Common.{◌≡◌, ◌∙◌, ap, refl, subst, sym, ℕ, Bool, true, false, cond, ◌||◌, ◌&&◌, List, [], ◌∷◌, codes, Option, Some, None, unwrap_or}
use Rattle.std.proofs.lemmas.Bool.{or_parts}
use Rattle.std.specs.List.{list_any}
use Rattle.doc_model.specs.MetadataIds.{is_acl_id}
use Rattle.acl_formula.specs.Asked.{Asked}
use Rattle.acl_formula.specs.RuleRow.{RuleRow}
use Rattle.acl_formula.specs.declared.permissions.Perm.TheVariants as perm
use Rattle.acl_rules.specs.declared.decision.Ctx.{Ctx}
use Rattle.acl_rules.specs.declared.decision.Decision.TheVariants as decision
use Rattle.acl_rules.specs.Chain.{chain_of, of_column, rules_of}
use Rattle.acl_rules.specs.Decided.{answer, decision_in, first_answer, is_access, is_allowed_so, is_match, truth_in}
use Rattle.acl_rules.specs.RuleBook.{BookRule}
use Rattle.acl_rules.proofs.ChainLemmas.{none_first}
use Rattle.censored_view.specs.Readable.{IsAsRow, Readable, by_rules, hidden, whole}
use Rattle.acl_reading.specs.Laws.{OwnAnswerLaw, OwnLaw, SchemaLaw}
use Rattle.acl_reading.specs.RulesLet.{is_owner, reach_of, reached, rules_let, shown_of}
use Rattle.acl_reading.specs.Shown.{has_own_rules, is_cell_shown, is_formula_shown, own_answer, reading_row, tells_of_reading}
use Rattle.acl_reading.specs.Walk.{allows, is_shown_by, without_row}
use Rattle.acl_reading.specs.declared.letting.Reach.{Reach}
use Rattle.acl_reading.specs.declared.letting.Reach.TheVariants as reach
use Rattle.acl_reading.proofs.LettingLemmas.{let_by_reach}
use Rattle.acl_reading.proofs.WalkLemmas.{read_before}

pub schema_hidden : SchemaLaw
schema_hidden x table h = ap (λ (b : Bool). cond b hidden (cond (is_acl_id table) (cond (is_owner x) whole hidden) (shown_of x table))) h

-- who may change the schema may read
may_read : (owner editor viewer : Bool) → (owner || (editor || (viewer && false))) ≡ true → (owner || (editor || (viewer && true))) ≡ true
may_read true editor viewer h = refl
may_read false true viewer h = refl
may_read false false true h = absurd (cc)
may_read false false false h = absurd (cc)

no_chain : (table : List ℕ) (column : Option (List ℕ)) → chain_of [] (Some table) column ≡ []
no_chain table None = refl
no_chain table (Some column) = refl

module _ (x : Ctx) (none : x.book ≡ []) (may : is_allowed_so x.user.user.access perm.S ≡ true) where
  reads : is_allowed_so x.user.user.access perm.R ≡ true
  reads = may_read (is_access x.user.user.access (codes "owners")) (is_access x.user.user.access (codes "editors")) (is_access x.user.user.access (codes "viewers")) may

  empty_chain : (table : List ℕ) (column : Option (List ℕ)) → chain_of x.book (Some table) column ≡ []
  empty_chain table column = ap (λ (book : List BookRule). chain_of book (Some table) column) none ∙ no_chain table column

  built_in_allows : (b : Bool) → b ≡ true → allows (cond b decision.Allow (decision.Deny (record { row = 0 }))) ≡ true
  built_in_allows b h = ap (λ (c : Bool). allows (cond c decision.Allow (decision.Deny (record { row = 0 })))) h

  shows : (table : List ℕ) (column : Option (List ℕ)) → is_shown_by x.user (chain_of x.book (Some table) column) ≡ true
  shows table column = ap (is_shown_by x.user) (empty_chain table column) ∙ built_in_allows (is_allowed_so x.user.user.access perm.R) reads

  formula_shows : (table column : List ℕ) → is_formula_shown x table column ≡ true
  formula_shows table column =
      ap (λ (chain : List BookRule). allows (decision_in (without_row x.user) perm.S chain)) (empty_chain table (Some column))
      ∙ built_in_allows (is_allowed_so x.user.user.access perm.S) may

  cell_shows : (table : List ℕ) (column : Option (List ℕ)) (row : RuleRow) → is_cell_shown x table column row ≡ true
  cell_shows table column row =
      ap (λ (chain : List BookRule). allows (decision_in (reading_row x.user row) perm.R chain)) (empty_chain table column)
      ∙ built_in_allows (is_allowed_so x.user.user.access perm.R) reads

  all_shown : (table : List ℕ) → shown_of x table ≡ whole
  all_shown table = λ i. record {
    bare = shows table None i;
    column = λ c. shows table (Some c) i;
    formula = λ c. formula_shows table c i;
    cell = λ c row. cell_shows table c row i;
  }

  pub without_rules : rules_let x ≡ by_rules (is_owner x) (λ table. whole)
  without_rules = λ i table. by_rules (is_owner x) (λ t. all_shown t i) table

-- ---- columns that no rule about reading lists

unsaid : (a : Asked) (rules : List BookRule) → list_any tells_of_reading rules ≡ false → first_answer a perm.R rules ≡ None
unsaid a [] h = refl
unsaid a (b ∷ rules) h =
    let both : (tells_of_reading b ≡ false) × (list_any tells_of_reading rules ≡ false) = or_parts (tells_of_reading b) (list_any tells_of_reading rules) h in
    ap (λ (says : Bool). cond (says && is_match perm.R b.rule.permissions (truth_in a b.rule)) (Some (answer perm.R b.rule)) (first_answer a perm.R rules)) both.0
    ∙ unsaid a rules both.1

pub own_alone : OwnLaw
own_alone x table column h = λ row.
    ap allows (none_first (reading_row x.user row) perm.R (rules_of (of_column table column) x.book) (chain_of x.book (Some table) None) (unsaid (reading_row x.user row) (rules_of (of_column table column) x.book) h))

-- what may be read of a table that is shown whole, or not at all, is the same in all its columns
by_reach_alone : (far : Reach) (ruled : Readable) (column : List ℕ) → IsAsRow ruled column → IsAsRow (reached far ruled) column
by_reach_alone reach.Hidden ruled column own = λ row. refl
by_reach_alone reach.Whole ruled column own = λ row. refl
by_reach_alone reach.ByRules ruled column own = own

pub let_alone : (x : Ctx) (table column : List ℕ) → has_own_rules x table column ≡ false → IsAsRow (rules_let x table) column
let_alone x table column h =
    subst (λ (r : Readable). IsAsRow r column) (sym (let_by_reach x table))
    (by_reach_alone (reach_of x table) (shown_of x table) column (own_alone x table column h))

-- ---- what the rules that list a column decide of a cell

pub answer_alone : OwnAnswerLaw
answer_alone x table column row = read_before (reading_row x.user row) (rules_of (of_column table column) x.book) (chain_of x.book (Some table) None)

pub let_answer : (x : Ctx) (table column : List ℕ) (row : RuleRow) → reach_of x table ≡ reach.ByRules → (rules_let x table).cell (Some column) row ≡ unwrap_or (own_answer x table column row) ((rules_let x table).cell None row)
let_answer x table column row by_rules' =
    subst (λ (r : Readable). r.cell (Some column) row ≡ unwrap_or (own_answer x table column row) (r.cell None row))
    (sym (let_by_reach x table ∙ ap (λ (far : Reach). reached far (shown_of x table)) by_rules'))
    (answer_alone x table column row)
