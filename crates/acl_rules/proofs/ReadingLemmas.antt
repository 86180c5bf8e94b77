-- Columns that rules read, gathered part by part.
use Rattle.std.proofs.Common.{◌≡◌, ◌∙◌, append_assoc, ap, refl, sym, ℕ, ◌+◌, ◌<◌, length, get_or, drop, List, [], ◌∷◌, ◌++◌, Option, Some, None}
use Rattle.std.specs.List.{cons_option, filter, slice_get}
use Rattle.std.proofs.lemmas.List.{drop_more}
use Rattle.acl_rules.specs.Chain.{is_on, of_document, rules_of, is_of}
use Rattle.acl_rules.specs.Places.{picked, places_of}
use Rattle.acl_rules.specs.Reading.{columns_read, formula_reads, places_read, rule_reads, rules_read, with_name, with_names}
use Rattle.acl_rules.specs.RuleBook.{BookRule}
use Rattle.acl_rules.proofs.PlaceLemmas.{picked_places}

pub names_append : (names xs ys : List (List ℕ)) → with_names names (xs ++ ys) ≡ with_names (with_names names xs) ys
names_append names [] ys = refl
names_append names (x ∷ xs) ys = names_append (with_name names x) xs ys

read_append : (xs ys : List BookRule) → rules_read (xs ++ ys) ≡ rules_read xs ++ rules_read ys
read_append [] ys = refl
read_append (b ∷ xs) ys =
    ap (λ (ns : List (List ℕ)). formula_reads b.rule.formula ++ ns) (read_append xs ys)
    ∙ sym (append_assoc (formula_reads b.rule.formula) (rules_read xs) (rules_read ys))

-- rules read at their places read what they read
places_picked : (book : List BookRule) (places : List ℕ) → places_read book places ≡ rules_read (picked book places)
places_picked book [] = refl
places_picked book (place ∷ places) =
    ap (λ (ns : List (List ℕ)). rule_reads (slice_get book place) ++ ns) (places_picked book places)
    ∙ elim (slice_get book place) as (λ (o : Option BookRule). rule_reads o ++ rules_read (picked book places) ≡ rules_read (cons_option o (picked book places))) [
      | None ↦ refl
      | Some b ↦ refl
    ]

-- the rule at the next place, and then those at the others
pub places_step : (names new : List (List ℕ)) (book : List BookRule) (places : List ℕ) (k place : ℕ) → k < length places → place ≡ get_or places k place
    → new ≡ with_names names (rule_reads (slice_get book place)) → with_names new (places_read book (drop (k + 1) places)) ≡ with_names names (places_read book (drop k places))
places_step names new book places k place within is h =
    ap (λ (ns : List (List ℕ)). with_names ns (places_read book (drop (k + 1) places))) h
    ∙ sym (names_append names (rule_reads (slice_get book place)) (places_read book (drop (k + 1) places)))
    ∙ ap (λ (ps : List ℕ). with_names names (places_read book ps)) (sym (drop_more places k place within ∙ ap (λ (p : ℕ). p ∷ drop (k + 1) places) (sym is)))

-- those about the table, and then those about the document
pub about_read : (book : List BookRule) (table : List ℕ)
    → with_names (with_names [] (places_read book (places_of (λ (b : BookRule). is_on table b.resource) book))) (places_read book (places_of (λ (b : BookRule). is_of of_document b.resource) book))
    ≡ columns_read book table
about_read book table =
    let on : places_read book (places_of (λ (b : BookRule). is_on table b.resource) book) ≡ rules_read (filter (λ (b : BookRule). is_on table b.resource) book) =
    places_picked book (places_of (λ (b : BookRule). is_on table b.resource) book) ∙ ap rules_read (picked_places (λ (b : BookRule). is_on table b.resource) book) in
    let over : places_read book (places_of (λ (b : BookRule). is_of of_document b.resource) book) ≡ rules_read (rules_of of_document book) =
    places_picked book (places_of (λ (b : BookRule). is_of of_document b.resource) book) ∙ ap rules_read (picked_places (λ (b : BookRule). is_of of_document b.resource) book) in
    ap (λ (ns : List (List ℕ)). with_names (with_names [] ns) (places_read book (places_of (λ (b : BookRule). is_of of_document b.resource) book))) on
    ∙ ap (with_names (with_names [] (rules_read (filter (λ (b : BookRule). is_on table b.resource) book)))) over
    ∙ sym (names_append [] (rules_read (filter (λ (b : BookRule). is_on table b.resource) book)) (rules_read (rules_of of_document book)))
    ∙ ap (with_names []) (sym (read_append (filter (λ (b : BookRule). is_on table b.resource) book) (rules_of of_document book)))
