-- Chains in parts, and parts by places.
use Rattle.std.proofs.Common.{◌≡◌, ◌∙◌, ap, refl, sym, ℕ, Bool, true, false, cond, List, [], ◌∷◌, ◌++◌, Option, Some, None, bytes_eq}
use Rattle.std.specs.List.{slice_get}
use Rattle.std.proofs.lemmas.Bool.{and_parts}
use Rattle.acl_formula.specs.Asked.{Asked}
use Rattle.acl_formula.specs.declared.permissions.Perm.{Perm}
use Rattle.acl_rules.specs.declared.decision.Decision.{Decision}
use Rattle.acl_rules.specs.declared.resource.Resource.{Resource}
use Rattle.acl_rules.specs.declared.resource.Resource.TheVariants as resource
use Rattle.acl_rules.specs.Chain.{Part, of_column, of_table, of_document, names_column, are_all, is_of, is_on, rules_of}
use Rattle.acl_rules.specs.Asking.{answer_at, first_at, or_first}
use Rattle.acl_rules.specs.Decided.{decides, answer, first_answer, or_built_in, decision_in}
use Rattle.acl_rules.specs.Places.{picked, places_of}
use Rattle.acl_rules.specs.RuleBook.{BookRule}
use Rattle.acl_rules.proofs.PlaceLemmas.{filter_wider, picked_places}

module _ (x : Asked) (p : Perm) where
  first_append : (xs ys : List BookRule) → first_answer x p (xs ++ ys) ≡ or_first (first_answer x p xs) (first_answer x p ys)
  first_append [] ys = refl
  first_append (b ∷ xs) ys =
      elim (decides x p b.rule) as (λ c. cond c (Some (answer p b.rule)) (first_answer x p (xs ++ ys)) ≡ or_first (cond c (Some (answer p b.rule)) (first_answer x p xs)) (first_answer x p ys)) [
        | true ↦ refl
        | false ↦ first_append xs ys
      ]

  pub found_first : (xs ys : List BookRule) (d : Decision) → first_answer x p xs ≡ Some d → decision_in x p (xs ++ ys) ≡ d
  found_first xs ys d e = ap (or_built_in x p) (first_append xs ys ∙ ap (λ (o : Option Decision). or_first o (first_answer x p ys)) e)

  pub none_first : (xs ys : List BookRule) → first_answer x p xs ≡ None → decision_in x p (xs ++ ys) ≡ decision_in x p ys
  none_first xs ys e = ap (or_built_in x p) (first_append xs ys ∙ ap (λ (o : Option Decision). or_first o (first_answer x p ys)) e)

  -- the rule at the first place goes before those at the others
  module _ (part : Part) (book : List BookRule) (place : ℕ) (places : List ℕ) where
    apart : rules_of part (picked book (place ∷ places)) ≡ rules_of part (picked book (place ∷ [])) ++ rules_of part (picked book places)
    apart = by (slice_get book place) refl
      where
        by : (o : Option BookRule) → slice_get book place ≡ o → rules_of part (picked book (place ∷ places)) ≡ rules_of part (picked book (place ∷ [])) ++ rules_of part (picked book places)
        by None e = cc
        by (Some b) e = first_of b e (is_of part b.resource) refl
          where
            first_of : (b : BookRule) → slice_get book place ≡ Some b → (c : Bool) → is_of part b.resource ≡ c → rules_of part (picked book (place ∷ places)) ≡ rules_of part (picked book (place ∷ [])) ++ rules_of part (picked book places)
            first_of b e true h = cc
            first_of b e false h = cc

  pub first_at_picked : (part : Part) (book : List BookRule) (places : List ℕ) → first_at x p part book places ≡ first_answer x p (rules_of part (picked book places))
  first_at_picked part book [] = refl
  first_at_picked part book (place ∷ places) =
      ap (or_first (answer_at x p part book place)) (first_at_picked part book places)
      ∙ sym (first_append (rules_of part (picked book (place ∷ []))) (rules_of part (picked book places)))
      ∙ sym (ap (first_answer x p) (apart part book place places))

-- the rules of a part stand among those of its table
pub column_within : (t c : List ℕ) (o : Option Resource) → is_of (of_column t c) o ≡ true → is_on t o ≡ true
column_within t c None h = h
column_within t c (Some resource.Document) h = h
column_within t c (Some (resource.Table id cs)) h = (and_parts (bytes_eq id t) (names_column cs c) h).0

pub table_within : (t : List ℕ) (o : Option Resource) → is_of (of_table t) o ≡ true → is_on t o ≡ true
table_within t None h = h
table_within t (Some resource.Document) h = h
table_within t (Some (resource.Table id cs)) h = (and_parts (bytes_eq id t) (are_all cs) h).0

module _ (x : Asked) (p : Perm) (book : List BookRule) where
  pub column_picked : (t c : List ℕ) → first_at x p (of_column t c) book (places_of (λ (b : BookRule). is_on t b.resource) book) ≡ first_answer x p (rules_of (of_column t c) book)
  column_picked t c =
      first_at_picked x p (of_column t c) book (places_of (λ (b : BookRule). is_on t b.resource) book)
      ∙ ap (λ (bs : List BookRule). first_answer x p (rules_of (of_column t c) bs)) (picked_places (λ (b : BookRule). is_on t b.resource) book)
      ∙ ap (first_answer x p) (filter_wider (λ (b : BookRule). is_of (of_column t c) b.resource) (λ (b : BookRule). is_on t b.resource) (λ b. column_within t c b.resource) book)

  pub table_picked : (t : List ℕ) → first_at x p (of_table t) book (places_of (λ (b : BookRule). is_on t b.resource) book) ≡ first_answer x p (rules_of (of_table t) book)
  table_picked t =
      first_at_picked x p (of_table t) book (places_of (λ (b : BookRule). is_on t b.resource) book)
      ∙ ap (λ (bs : List BookRule). first_answer x p (rules_of (of_table t) bs)) (picked_places (λ (b : BookRule). is_on t b.resource) book)
      ∙ ap (first_answer x p) (filter_wider (λ (b : BookRule). is_of (of_table t) b.resource) (λ (b : BookRule). is_on t b.resource) (λ b. table_within t b.resource) book)

  pub document_picked : first_at x p of_document book (places_of (λ (b : BookRule). is_of of_document b.resource) book) ≡ first_answer x p (rules_of of_document book)
  document_picked =
      first_at_picked x p of_document book (places_of (λ (b : BookRule). is_of of_document b.resource) book)
      ∙ ap (λ (bs : List BookRule). first_answer x p (rules_of of_document bs)) (picked_places (λ (b : BookRule). is_of of_document b.resource) book)
      ∙ ap (first_answer x p) (filter_wider (λ (b : BookRule). is_of of_document b.resource) (λ (b : BookRule). is_of of_document b.resource) (λ b h. h) book)
