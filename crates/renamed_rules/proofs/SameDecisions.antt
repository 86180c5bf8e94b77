-- Rules that follow decide as they did.
use Rattle.std.proofs.Common.{ℕ, Bool, true, false, cond, ◌&&◌, List, [], ◌∷◌, ◌++◌, map, ◌≡◌, refl, subst, sym, ap, ◌∙◌, Option, Some, None}
use Rattle.std.specs.Bool.{⊤}
use Rattle.std.specs.List.{AllByRecursion}
use Rattle.std.specs.Option.{option_map}
use Rattle.std.proofs.lemmas.Bool.{false≢true}
use Rattle.acl_checks.specs.Checks.{row_at}
use Rattle.user_attrs.specs.UserInfos.{user_info}
use Rattle.acl_checks.specs.Denials.{decided}
use Rattle.acl_formula.specs.Asked.{Asked}
use Rattle.acl_formula.specs.Permissions.{has_perm}
use Rattle.acl_formula.specs.RuleTruths.{rule_truth, truth_from}
use Rattle.acl_formula.specs.declared.permissions.Perm.{Perm}
use Rattle.acl_formula.specs.declared.permissions.PermSet.{PermSet}
use Rattle.acl_formula.specs.declared.truth.RuleTruth.{RuleTruth}
use Rattle.acl_formula.specs.declared.truth.RuleTruth.TheVariants as says
use Rattle.acl_rules.specs.declared.decision.Decision.TheVariants as decision
use Rattle.acl_rules.specs.declared.resource.Resource.{Resource}
use Rattle.acl_rules.specs.declared.rule.Rule.{Rule}
use Rattle.acl_rules.specs.Chain.{Part, chain_of, is_of, of_column, of_document, of_table, rules_of}
use Rattle.acl_rules.specs.Decided.{answer, decides, decision_in, first_answer, is_match, mentions, or_built_in, truth_in}
use Rattle.acl_rules.specs.RuleBook.{BookRule}
use Rattle.doc_model.specs.declared.user.User.{User}
use Rattle.doc_model.specs.Document.{Document}
use Rattle.formula_parse.specs.Tree.{Tree}
use Rattle.formula_records.specs.RecordTables.{IsIn}
use Rattle.rename_marks.specs.declared.column_rename.ColumnRename.{ColumnRename}
use Rattle.rename_marks.specs.declared.formula_place.AttributeTable.{AttributeTable}
use Rattle.rename_marks.specs.Scope.{rename_in}
use Rattle.rename_marks.specs.ScopeUses.{uses}
use Rattle.renamed_documents.specs.RenamedTables.{Rewriting}
use Rattle.renamed_values.specs.HeldRecords.{IsPlain}
use Rattle.renamed_values.specs.SameEv.{moved}
use Rattle.renamed_values.proofs.ResolvedLemmas.{all_resolved}
use Rattle.user_attrs.specs.declared.attribute_rule.AttributeRule.{AttributeRule}
use Rattle.renamed_rules.specs.Decisions.{IsKeptColumn, RenamedDecisionLaw, check_of, in_force}
use Rattle.renamed_rules.specs.RenamedCells.{HasMoved}
use Rattle.renamed_rules.specs.RenamedRules.{AllRulesFollow, AskedFollows, AttributeKept, FormulaFollows, IsListed, RuleFollows, attribute_after, rows_of, scope_of}
use Rattle.renamed_rules.proofs.MovedChains.{IsPartOf, about_part, part_after, part_same}
use Rattle.renamed_rules.proofs.MovedUsers.{atoms_same}
use Rattle.renamed_rules.proofs.RuleValueLemmas.{rule_value}

-- rules that decide the same, in the same order
module _ (x y : Asked) (p : Perm) where
  pub record DecideSame (b c : BookRule) : Type 0 where
    pub decides : decides y p c.rule ≡ decides x p b.rule
    pub answer : answer p c.rule ≡ answer p b.rule

  abbrev AllDecideSame : List BookRule → List BookRule → Type 0
  AllDecideSame [] [] = ⊤
  AllDecideSame [] (c ∷ cs) = ⊥
  AllDecideSame (b ∷ bs) [] = ⊥
  AllDecideSame (b ∷ bs) (c ∷ cs) = DecideSame b c × AllDecideSame bs cs

  both_same : (bs cs ds es : List BookRule) → AllDecideSame bs cs → AllDecideSame ds es → AllDecideSame (bs ++ ds) (cs ++ es)
  both_same [] [] ds es h g = g
  both_same [] (c ∷ cs) ds es h g = absurd h
  both_same (b ∷ bs) [] ds es h g = absurd h
  both_same (b ∷ bs) (c ∷ cs) ds es h g = (h.0, both_same bs cs ds es h.1 g)

  first_same : (bs cs : List BookRule) → AllDecideSame bs cs → first_answer y p cs ≡ first_answer x p bs
  first_same [] [] h = refl
  first_same [] (c ∷ cs) h = absurd h
  first_same (b ∷ bs) [] h = absurd h
  first_same (b ∷ bs) (c ∷ cs) h =
      ap (λ d. cond d (Some (answer p c.rule)) (first_answer y p cs)) h.0.decides
      ∙ ap (λ a. cond (decides x p b.rule) (Some a) (first_answer y p cs)) h.0.answer
      ∙ ap (λ o. cond (decides x p b.rule) (Some (answer p b.rule)) o) (first_same bs cs h.1)

abbrev truth_by : Asked → Option (Option Tree) → RuleTruth
truth_by x None = says.Fails
truth_by x (Some tree) = rule_truth x tree

truth_is : (x : Asked) (r : Rule) → truth_in x r ≡ truth_by x r.formula
truth_is x r = elim r.formula as (λ (o : Option (Option Tree)). elim o [ None ↦ says.Fails | Some tree ↦ rule_truth x tree ] ≡ truth_by x o) [ None ↦ refl | Some tree ↦ refl ]

module _ (m : ColumnRename) (w : Rewriting) (s s' : Document) (h : HasMoved m w s s') (ts : List AttributeTable) (as' : List AttributeRule) (kept : AllByRecursion (AttributeKept m) as') (listed : AllByRecursion (IsListed ts) as') (u : User) (t : List ℕ) (plain : IsPlain t) (r q : Option ℕ) (p : Perm) where
  -- the same is asked, of the two documents
  abbrev before : Asked
  before = record { user = user_info as' u s; before = option_map (row_at s t) r; after = option_map (row_at s t) q }

  abbrev after : Asked
  after = record { user = user_info (map (attribute_after m) as') u s'; before = option_map (row_at s' t) r; after = option_map (row_at s' t) q }

  truth_same : (o : Resource) → IsIn (rows_of (Some o)) t → (f g : Option (Option Tree)) → FormulaFollows m (scope_of ts (Some o)) f g → truth_by after g ≡ truth_by before f
  truth_same o i None None e = refl
  truth_same o i (Some None) (Some None) e = refl
  truth_same o i (Some (Some a)) (Some (Some b)) e =
      ap (λ (c : Tree). rule_truth after (Some c)) e.1
      ∙ ap truth_from (rule_value (rename_in m (scope_of ts (Some o))) before after a (atoms_same m w s s' h ts as' kept listed (rows_of (Some o)) u t plain i r q a (all_resolved m (uses (scope_of ts (Some o)) a) e.0)))
  truth_same o i None (Some g) e = absurd e
  truth_same o i (Some None) None e = absurd e
  truth_same o i (Some (Some a)) None e = absurd e
  truth_same o i (Some None) (Some (Some b)) e = absurd e
  truth_same o i (Some (Some a)) (Some None) e = absurd e

  rule_same : (b c : BookRule) → RuleFollows m ts b c → IsIn (rows_of b.resource) t → (o : Option Resource) → b.resource ≡ o → (b.resource ≡ None → ⊥) → DecideSame before after p b c
  rule_same b c f i None e some = absurd (some e)
  rule_same b c f i (Some o) e some =
      let follows : FormulaFollows m (scope_of ts (Some o)) b.rule.formula c.rule.formula = subst (λ (x : Option Resource). AskedFollows m ts x b.rule.formula c.rule.formula) e f.formula in
      let truth : truth_in after c.rule ≡ truth_in before b.rule
      = truth_is after c.rule ∙ truth_same o (subst (λ (x : Option Resource). IsIn (rows_of x) t) e i) b.rule.formula c.rule.formula follows ∙ sym (truth_is before b.rule) in
      record {
        decides = ap (λ (x : PermSet). mentions p x && is_match p x (truth_in after c.rule)) f.permissions ∙ ap (λ v. mentions p b.rule.permissions && is_match p b.rule.permissions v) truth;
        answer = ap (λ (x : PermSet). cond (has_perm p x.denied) (decision.Deny (record { row = c.rule.row })) decision.Allow) f.permissions ∙ ap (λ n. cond (has_perm p b.rule.permissions.denied) (decision.Deny (record { row = n })) decision.Allow) f.row;
      }

  -- the rules of a part
  part_decides : (x : Part) → IsPartOf m t x → (bs cs : List BookRule) → AllRulesFollow m ts bs cs → AllDecideSame before after p (rules_of x bs) (rules_of (part_after m x) cs)
  part_decides x i [] [] f = tt
  part_decides x i [] (c ∷ cs) f = absurd f
  part_decides x i (b ∷ bs) [] f = absurd f
  part_decides x i (b ∷ bs) (c ∷ cs) f =
      subst (λ (d : Bool). AllDecideSame before after p (rules_of x (b ∷ bs)) (cond d (c ∷ rules_of (part_after m x) cs) (rules_of (part_after m x) cs)))
      (sym (ap (is_of (part_after m x)) f.0.resource ∙ part_same m t x i b.resource f.0.lists))
      (by (is_of x b.resource) refl (part_decides x i bs cs f.1))
    where
      not_none : is_of x b.resource ≡ true → b.resource ≡ None → ⊥
      not_none e n = false≢true (sym (ap (is_of x) n) ∙ e)

      by : (d : Bool) → is_of x b.resource ≡ d → AllDecideSame before after p (rules_of x bs) (rules_of (part_after m x) cs)
          → AllDecideSame before after p (cond d (b ∷ rules_of x bs) (rules_of x bs)) (cond d (c ∷ rules_of (part_after m x) cs) (rules_of (part_after m x) cs))
      by true e later = (rule_same b c f.0 (about_part m t x i b.resource e) b.resource refl (not_none e), later)
      by false e later = later

  table_decides : (bs cs : List BookRule) → AllRulesFollow m ts bs cs → AllDecideSame before after p (chain_of bs (Some t) None) (chain_of cs (Some t) None)
  table_decides bs cs f =
      both_same before after p (rules_of (of_table t) bs) (rules_of (of_table t) cs) (rules_of of_document bs) (rules_of of_document cs)
      (part_decides (of_table t) refl bs cs f) (part_decides of_document tt bs cs f)

  chain_decides : (c : Option (List ℕ)) → IsKeptColumn m t c → (bs cs : List BookRule) → AllRulesFollow m ts bs cs → AllDecideSame before after p (chain_of bs (Some t) c) (chain_of cs (Some t) (option_map (moved m t) c))
  chain_decides None k bs cs f = table_decides bs cs f
  chain_decides (Some c) k bs cs f =
      both_same before after p (rules_of (of_column t c) bs) (rules_of (of_column t (moved m t c)) cs) (chain_of bs (Some t) None) (chain_of cs (Some t) None)
      (part_decides (of_column t c) (refl, k) bs cs f) (table_decides bs cs f)

  decided_same : (c : Option (List ℕ)) → IsKeptColumn m t c → (bs cs : List BookRule) → AllRulesFollow m ts bs cs
      → decision_in after p (chain_of cs (Some t) (option_map (moved m t) c)) ≡ decision_in before p (chain_of bs (Some t) c)
  decided_same c k bs cs f = ap (or_built_in before p) (first_same before after p (chain_of bs (Some t) c) (chain_of cs (Some t) (option_map (moved m t) c)) (chain_decides c k bs cs f))

pub same_decision : RenamedDecisionLaw
same_decision m w s s' as' bs book after h f user p t c r q plain k =
    ap (λ (xs : List AttributeRule). decided (in_force after xs user s') (check_of s' p t (option_map (moved m t) c) r q)) f.attributes
    ∙ decided_same m w s s' h f.tables as' f.kept f.listed user t plain r q p c k book after f.rules
