-- Chains walked in parts, and parts by places.
use Rattle.std.proofs.Common.{◌≡◌, ◌∙◌, ap, refl, sym, ℕ, Bool, true, false, cond, ◌||◌, List, [], ◌∷◌, ◌++◌, Option, Some, None, option_map}
use Rattle.std.proofs.lemmas.List.Folds.{list_any-append}
use Rattle.std.specs.List.{list_any, slice_get}
use Rattle.std.specs.Option.{unwrap_or}
use Rattle.acl_formula.specs.Asked.{Asked}
use Rattle.acl_formula.specs.RuleRow.{RuleRow}
use Rattle.acl_formula.specs.declared.permissions.Perm.TheVariants as perm
use Rattle.acl_formula.specs.declared.user_info.UserInfo.{UserInfo}
use Rattle.acl_rules.specs.declared.decision.Decision.{Decision}
use Rattle.acl_rules.specs.Asking.{answer_at, first_at, or_first}
use Rattle.acl_rules.specs.Chain.{Part, of_column, of_table, of_document, is_of, is_on, rules_of}
use Rattle.acl_rules.specs.Decided.{decision_in, first_answer, or_built_in}
use Rattle.acl_rules.specs.Places.{picked, places_of}
use Rattle.acl_rules.specs.RuleBook.{BookRule}
use Rattle.acl_rules.proofs.ChainLemmas.{column_picked as asked_picked, column_within, document_picked as asked_document, found_first as answer_first, none_first as answer_behind, table_picked as asked_table, table_within}
use Rattle.acl_rules.proofs.PlaceLemmas.{filter_wider, picked_places}
use Rattle.acl_reading.specs.Shown.{reading_row, tells_of_reading}
use Rattle.acl_reading.specs.Walk.{allows, allows_reading, built_in_shows, ends_walk, first_end, is_shown_by}
use Rattle.acl_reading.specs.Walking.{end_among, end_at, or_end, reads_among, reads_at, tells_at}

-- the rule at the first place, and those at the others
module _ (part : Part) (book : List BookRule) (place : ℕ) (places : List ℕ) where
  apart : rules_of part (picked book (place ∷ places)) ≡ rules_of part (picked book (place ∷ [])) ++ rules_of part (picked book places)
  apart = by (slice_get book place) refl
    where
      by : (o : Option BookRule) → slice_get book place ≡ o → rules_of part (picked book (place ∷ places)) ≡ rules_of part (picked book (place ∷ [])) ++ rules_of part (picked book places)
      by None e = cc
      by (Some b) e = first_of b e (is_of part b.resource) refl
        where
          first_of : (b : BookRule) → slice_get book place ≡ Some b → (c : Bool) → is_of part b.resource ≡ c → rules_of part (picked book (place ∷ places)) ≡ rules_of part (picked book (place ∷ [])) ++ rules_of part (picked book places)
          first_of b e true h = cc
          first_of b e false h = cc

module _ (u : UserInfo) where
  end_append : (xs ys : List BookRule) → first_end u (xs ++ ys) ≡ or_end (first_end u xs) (first_end u ys)
  end_append [] ys = refl
  end_append (b ∷ xs) ys =
      elim (ends_walk u b.rule) as (λ c. cond c (Some (allows_reading b.rule)) (first_end u (xs ++ ys)) ≡ or_end (cond c (Some (allows_reading b.rule)) (first_end u xs)) (first_end u ys)) [
        | true ↦ refl
        | false ↦ end_append xs ys
      ]

  shown_or : Option Bool → Bool
  shown_or o = unwrap_or o (built_in_shows u.user.access)

  pub found_first : (xs ys : List BookRule) (shows : Bool) → first_end u xs ≡ Some shows → is_shown_by u (xs ++ ys) ≡ shows
  unfolding shown_or
  found_first xs ys shows e = ap shown_or (end_append xs ys ∙ ap (λ (o : Option Bool). or_end o (first_end u ys)) e)

  pub none_first : (xs ys : List BookRule) → first_end u xs ≡ None → is_shown_by u (xs ++ ys) ≡ is_shown_by u ys
  unfolding shown_or
  none_first xs ys e = ap shown_or (end_append xs ys ∙ ap (λ (o : Option Bool). or_end o (first_end u ys)) e)

  pub among_picked : (part : Part) (book : List BookRule) (places : List ℕ) → end_among u part book places ≡ first_end u (rules_of part (picked book places))
  among_picked part book [] = refl
  among_picked part book (place ∷ places) =
      ap (or_end (end_at u part book place)) (among_picked part book places)
      ∙ sym (end_append (rules_of part (picked book (place ∷ []))) (rules_of part (picked book places)))
      ∙ sym (ap (first_end u) (apart part book place places))

module _ (u : UserInfo) (book : List BookRule) where
  pub column_picked : (t c : List ℕ) → end_among u (of_column t c) book (places_of (λ (b : BookRule). is_on t b.resource) book) ≡ first_end u (rules_of (of_column t c) book)
  column_picked t c =
      among_picked u (of_column t c) book (places_of (λ (b : BookRule). is_on t b.resource) book)
      ∙ ap (λ (bs : List BookRule). first_end u (rules_of (of_column t c) bs)) (picked_places (λ (b : BookRule). is_on t b.resource) book)
      ∙ ap (first_end u) (filter_wider (λ (b : BookRule). is_of (of_column t c) b.resource) (λ (b : BookRule). is_on t b.resource) (λ b. column_within t c b.resource) book)

  pub table_picked : (t : List ℕ) → end_among u (of_table t) book (places_of (λ (b : BookRule). is_on t b.resource) book) ≡ first_end u (rules_of (of_table t) book)
  table_picked t =
      among_picked u (of_table t) book (places_of (λ (b : BookRule). is_on t b.resource) book)
      ∙ ap (λ (bs : List BookRule). first_end u (rules_of (of_table t) bs)) (picked_places (λ (b : BookRule). is_on t b.resource) book)
      ∙ ap (first_end u) (filter_wider (λ (b : BookRule). is_of (of_table t) b.resource) (λ (b : BookRule). is_on t b.resource) (λ b. table_within t b.resource) book)

  pub document_picked : end_among u of_document book (places_of (λ (b : BookRule). is_of of_document b.resource) book) ≡ first_end u (rules_of of_document book)
  document_picked =
      among_picked u of_document book (places_of (λ (b : BookRule). is_of of_document b.resource) book)
      ∙ ap (λ (bs : List BookRule). first_end u (rules_of of_document bs)) (picked_places (λ (b : BookRule). is_of of_document b.resource) book)
      ∙ ap (first_end u) (filter_wider (λ (b : BookRule). is_of of_document b.resource) (λ (b : BookRule). is_of of_document b.resource) (λ b h. h) book)

-- ---- which columns rules about reading list

tells_picked : (part : Part) (book : List BookRule) (places : List ℕ) → list_any (tells_at part book) places ≡ list_any tells_of_reading (rules_of part (picked book places))
tells_picked part book [] = refl
tells_picked part book (place ∷ places) =
    ap (λ b. tells_at part book place || b) (tells_picked part book places)
    ∙ sym (list_any-append tells_of_reading (rules_of part (picked book (place ∷ []))) (rules_of part (picked book places)))
    ∙ ap (list_any tells_of_reading) (sym (apart part book place places))

pub column_told : (book : List BookRule) (t c : List ℕ) → list_any (tells_at (of_column t c) book) (places_of (λ (b : BookRule). is_on t b.resource) book) ≡ list_any tells_of_reading (rules_of (of_column t c) book)
column_told book t c =
    tells_picked (of_column t c) book (places_of (λ (b : BookRule). is_on t b.resource) book)
    ∙ ap (λ (bs : List BookRule). list_any tells_of_reading (rules_of (of_column t c) bs)) (picked_places (λ (b : BookRule). is_on t b.resource) book)
    ∙ ap (list_any tells_of_reading) (filter_wider (λ (b : BookRule). is_of (of_column t c) b.resource) (λ (b : BookRule). is_on t b.resource) (λ b. column_within t c b.resource) book)

-- ---- what the rules that list a column decide of a cell

map_first : (o q : Option Decision) → option_map allows (or_first o q) ≡ or_end (option_map allows o) (option_map allows q)
map_first None q = refl
map_first (Some d) q = refl

reads_picked : (x : Asked) (part : Part) (book : List BookRule) (places : List ℕ) → reads_among x part book places ≡ option_map allows (first_at x perm.R part book places)
reads_picked x part book [] = refl
reads_picked x part book (place ∷ places) =
    ap (or_end (reads_at x part book place)) (reads_picked x part book places)
    ∙ sym (map_first (answer_at x perm.R part book place) (first_at x perm.R part book places))

pub column_read : (x : Asked) (book : List BookRule) (t c : List ℕ) → reads_among x (of_column t c) book (places_of (λ (b : BookRule). is_on t b.resource) book) ≡ option_map allows (first_answer x perm.R (rules_of (of_column t c) book))
column_read x book t c =
    reads_picked x (of_column t c) book (places_of (λ (b : BookRule). is_on t b.resource) book)
    ∙ ap (option_map allows) (asked_picked x perm.R book t c)

pub table_read : (x : Asked) (book : List BookRule) (t : List ℕ) → reads_among x (of_table t) book (places_of (λ (b : BookRule). is_on t b.resource) book) ≡ option_map allows (first_answer x perm.R (rules_of (of_table t) book))
table_read x book t =
    reads_picked x (of_table t) book (places_of (λ (b : BookRule). is_on t b.resource) book)
    ∙ ap (option_map allows) (asked_table x perm.R book t)

pub document_read : (x : Asked) (book : List BookRule) → reads_among x of_document book (places_of (λ (b : BookRule). is_of of_document b.resource) book) ≡ option_map allows (first_answer x perm.R (rules_of of_document book))
document_read x book =
    reads_picked x of_document book (places_of (λ (b : BookRule). is_of of_document b.resource) book)
    ∙ ap (option_map allows) (asked_document x perm.R book)

-- what is decided behind all rules, of a row that is read
pub behind_all : (u : UserInfo) (row : RuleRow) (rules : List BookRule) → allows (decision_in (reading_row u row) perm.R rules) ≡ unwrap_or (option_map allows (first_answer (reading_row u row) perm.R rules)) (built_in_shows u.user.access)
behind_all u row rules =
    elim (first_answer (reading_row u row) perm.R rules) as (λ (o : Option Decision). allows (or_built_in (reading_row u row) perm.R o) ≡ unwrap_or (option_map allows o) (built_in_shows u.user.access)) [
      | None ↦ refl
      | Some d ↦ refl
    ]

module _ (x : Asked) (xs ys : List BookRule) where
  lets_or : (o : Option Decision) → first_answer x perm.R xs ≡ o → allows (decision_in x perm.R (xs ++ ys)) ≡ unwrap_or (option_map allows o) (allows (decision_in x perm.R ys))
  lets_or None e = ap allows (answer_behind x perm.R xs ys e)
  lets_or (Some d) e = ap allows (answer_first x perm.R xs ys d e)

  -- the first rules go before the others
  pub read_before : allows (decision_in x perm.R (xs ++ ys)) ≡ unwrap_or (option_map allows (first_answer x perm.R xs)) (allows (decision_in x perm.R ys))
  read_before = lets_or (first_answer x perm.R xs) refl

  pub read_first : (reads : Bool) → option_map allows (first_answer x perm.R xs) ≡ Some reads → allows (decision_in x perm.R (xs ++ ys)) ≡ reads
  read_first reads e = read_before ∙ ap (λ o. unwrap_or o (allows (decision_in x perm.R ys))) e

  pub read_behind : option_map allows (first_answer x perm.R xs) ≡ None → allows (decision_in x perm.R (xs ++ ys)) ≡ allows (decision_in x perm.R ys)
  read_behind e = read_before ∙ ap (λ o. unwrap_or o (allows (decision_in x perm.R ys))) e
