-- Rules beside what they are about, each read from its row.
use Rattle.std.proofs.Common.{◌≡◌, ◌∙◌, ap, refl, ℕ, ℤ, List, [], ◌∷◌, map, Option}
use Rattle.doc_model.specs.Document.{Document}
use Rattle.acl_rules.specs.declared.resource.Resource.{Resource}
use Rattle.acl_rules.specs.declared.rule.Rule.{Rule}
use Rattle.acl_rules.specs.Loaded.{book_rule, resource_named, rule_in}
use Rattle.acl_rules.specs.Placing.{placed}
use Rattle.acl_rules.specs.RuleBook.{BookRule, paired}

module _ (s : Document) where
  parts_paired : (rows : List (ℤ × ℕ)) → paired (map (λ p. rule_in s p.1) rows) (map (λ p. resource_named s p.1) rows) ≡ map (λ p. book_rule s p.1) rows
  parts_paired [] = refl
  parts_paired (p ∷ rows) = ap (λ (rest : List BookRule). book_rule s p.1 ∷ rest) (parts_paired rows)

  pub book_paired : (rows : List (ℤ × ℕ)) (rules : List Rule) (resources : List (Option Resource)) → rules ≡ map (λ p. rule_in s p.1) rows → resources ≡ map (λ p. resource_named s p.1) rows → paired rules resources ≡ map (λ p. book_rule s p.1) rows
  book_paired rows rules resources h i =
      ap (λ (rs : List Rule). paired rs resources) h ∙ ap (λ (qs : List (Option Resource)). paired (map (λ p. rule_in s p.1) rows) qs) i ∙ parts_paired rows

  pub book_placed : (rows : List ℕ) → map (λ (p : ℤ × ℕ). book_rule s p.1) (map (placed s) rows) ≡ map (book_rule s) rows
  book_placed [] = refl
  book_placed (r ∷ rows) = ap (λ (rest : List BookRule). book_rule s r ∷ rest) (book_placed rows)
