-- Open columns are shown, and each row may be read in them.
use Rattle.std.proofs.Common.{◌≡◌, ◌∙◌, ap, refl, sym, ℕ, Bool, true, false, cond, ◌&&◌, ◌||◌, List, [], ◌∷◌, Option, Some, None}
use Rattle.std.specs.Option.{unwrap_or}
use Rattle.std.proofs.lemmas.Bool.{and_parts}
use Rattle.acl_formula.specs.Asked.{Asked}
use Rattle.acl_formula.specs.Permissions.{has_perm}
use Rattle.acl_formula.specs.RuleRow.{RuleRow}
use Rattle.acl_formula.specs.declared.permissions.Perm.TheVariants as perm
use Rattle.acl_formula.specs.declared.user_info.UserInfo.{UserInfo}
use Rattle.acl_rules.specs.declared.decision.Decision.TheVariants as decision
use Rattle.acl_rules.specs.declared.rule.Rule.{Rule}
use Rattle.acl_rules.specs.Chain.{chain_of}
use Rattle.acl_rules.specs.Decided.{answer, decides, decision_in, first_answer, is_match, mentions, or_built_in, truth_in}
use Rattle.acl_rules.specs.RuleBook.{BookRule}
use Rattle.acl_reading.specs.Shown.{reading_row}
use Rattle.acl_reading.specs.Walk.{allows, allows_reading, asks_row, built_in_shows, ends_walk, first_end, is_shown_by, without_row}
use Rattle.rule_audit.specs.declared.stop.Stop.{Stop}
use Rattle.rule_audit.specs.declared.stop.Stop.TheVariants as stop
use Rattle.rule_audit.specs.Laws.{OpenLaw, ShownLaw}
use Rattle.rule_audit.specs.Open.{denies_reading, open_stop}
use Rattle.rule_audit.specs.Stops.{first_stop, or_stop, stops_well}
use Rattle.rule_audit.proofs.ReachLemmas.{rowless_decides}

module _ (u : UserInfo) where
  abbrev open_by : List BookRule → Bool
  open_by rules = stops_well (built_in_shows u.user.access) (first_stop (open_stop u) rules)

  -- a rule before others, by whether it ends the walk and whether it denies
  abbrev open_after : Bool → Bool → ℕ → List BookRule → Bool
  open_after ends denies row rules = stops_well (built_in_shows u.user.access)
      (or_stop (cond ends (Some (cond denies (stop.Badly row) stop.Well)) None) (first_stop (open_stop u) rules))

  module _ (row : RuleRow) where
    abbrev IsRead : List BookRule → Type 0
    IsRead rules = allows (decision_in (reading_row u row) perm.R rules) ≡ true

    -- a rule that does not deny, before rules by which it is allowed
    not_denied : (b : BookRule) (rules : List BookRule) → denies_reading b.rule ≡ false → IsRead rules → IsRead (b ∷ rules)
    not_denied b rules n rest = by (decides (reading_row u row) perm.R b.rule) refl
      where
        by : (d : Bool) → decides (reading_row u row) perm.R b.rule ≡ d → IsRead (b ∷ rules)
        by true e = cc
        by false e = cc

    passed : (b : BookRule) (rules : List BookRule) → decides (reading_row u row) perm.R b.rule ≡ false → IsRead rules → IsRead (b ∷ rules)
    passed b rules e rest = cc

    decided : (b : BookRule) (rules : List BookRule) → denies_reading b.rule ≡ false → decides (reading_row u row) perm.R b.rule ≡ true → IsRead (b ∷ rules)
    decided b rules n e = cc

    pub read : (rules : List BookRule) → open_by rules ≡ true → IsRead rules
    read [] h = h
    read (b ∷ rules) h = by (read rules) (asks_row b.rule) refl
      where
        by_row : (open_by rules ≡ true → IsRead rules) → (d : Bool) → denies_reading b.rule ≡ d → open_after d d b.rule.row rules ≡ true → IsRead (b ∷ rules)
        by_row ih true e h = absurd (cc)
        by_row ih false e h = not_denied b rules e (ih h)

        by_end : (d : Bool) → denies_reading b.rule ≡ d → decides (reading_row u row) perm.R b.rule ≡ true → open_after true d b.rule.row rules ≡ true → IsRead (b ∷ rules)
        by_end true e f h = absurd (cc)
        by_end false e f h = decided b rules e f

        by_rule : (open_by rules ≡ true → IsRead rules) → (n : Bool) → decides (reading_row u row) perm.R b.rule ≡ n → open_after n (denies_reading b.rule) b.rule.row rules ≡ true → IsRead (b ∷ rules)
        by_rule ih true e h = by_end (denies_reading b.rule) refl e h
        by_rule ih false e h = passed b rules e (ih h)

        by : (open_by rules ≡ true → IsRead rules) → (q : Bool) → asks_row b.rule ≡ q → IsRead (b ∷ rules)
        by ih true e =
            by_row ih (denies_reading b.rule) refl
            (sym (ap (λ (c : Bool). open_after (cond c (denies_reading b.rule) (decides (without_row u) perm.R b.rule)) (denies_reading b.rule) b.rule.row rules) e) ∙ h)
        by ih false e =
            by_rule ih (decides (reading_row u row) perm.R b.rule) refl
            (ap (λ (c : Bool). open_after c (denies_reading b.rule) b.rule.row rules) (sym (rowless_decides (reading_row u row) perm.R b.rule e))
            ∙ sym (ap (λ (c : Bool). open_after (cond c (denies_reading b.rule) (decides (without_row u) perm.R b.rule)) (denies_reading b.rule) b.rule.row rules) e) ∙ h)

  -- ---- shown

  -- a rule that says something of reading and does not deny it allows it
  allowed : (a d m : Bool) → d ≡ false → ((a || d) && m) ≡ true → a ≡ true
  allowed true d m h e = refl
  allowed false d m h e = absurd (cc)

  shown_after : Bool → Bool → List BookRule → Bool
  shown_after ends allowed rules = unwrap_or (cond ends (Some allowed) (first_end u rules)) (built_in_shows u.user.access)

  pub shown : (rules : List BookRule) → open_by rules ≡ true → is_shown_by u rules ≡ true
  unfolding shown_after
  shown [] h = h
  shown (b ∷ rules) h = by (shown rules) (asks_row b.rule) refl
    where
      by_allowing : (a : Bool) → allows_reading b.rule ≡ a → asks_row b.rule ≡ true → is_shown_by u rules ≡ true → is_shown_by u (b ∷ rules) ≡ true
      by_allowing true e q rest = cc
      by_allowing false e q rest = cc

      by_row : (open_by rules ≡ true → is_shown_by u rules ≡ true) → (d : Bool) → denies_reading b.rule ≡ d → asks_row b.rule ≡ true → open_after d d b.rule.row rules ≡ true → is_shown_by u (b ∷ rules) ≡ true
      by_row ih true e q h = absurd (cc)
      by_row ih false e q h = by_allowing (allows_reading b.rule) refl q (ih h)

      by_end : (d : Bool) → denies_reading b.rule ≡ d → asks_row b.rule ≡ false → decides (without_row u) perm.R b.rule ≡ true → open_after true d b.rule.row rules ≡ true → is_shown_by u (b ∷ rules) ≡ true
      by_end true e q f h = absurd (cc)
      by_end false e q f h =
          let may : allows_reading b.rule ≡ true = allowed (has_perm perm.R b.rule.permissions.allowed) (has_perm perm.R b.rule.permissions.denied) (is_match perm.R b.rule.permissions (truth_in (without_row u) b.rule)) e f in
          cc

      by_rule : (open_by rules ≡ true → is_shown_by u rules ≡ true) → (n : Bool) → decides (without_row u) perm.R b.rule ≡ n → asks_row b.rule ≡ false → open_after n (denies_reading b.rule) b.rule.row rules ≡ true → is_shown_by u (b ∷ rules) ≡ true
      by_rule ih true e q h = by_end (denies_reading b.rule) refl q e h
      by_rule ih false e q h = let rest = ih h in cc

      by : (open_by rules ≡ true → is_shown_by u rules ≡ true) → (q : Bool) → asks_row b.rule ≡ q → is_shown_by u (b ∷ rules) ≡ true
      by ih true e =
          by_row ih (denies_reading b.rule) refl e
          (sym (ap (λ (c : Bool). open_after (cond c (denies_reading b.rule) (decides (without_row u) perm.R b.rule)) (denies_reading b.rule) b.rule.row rules) e) ∙ h)
      by ih false e =
          by_rule ih (decides (without_row u) perm.R b.rule) refl e
          (sym (ap (λ (c : Bool). open_after (cond c (denies_reading b.rule) (decides (without_row u) perm.R b.rule)) (denies_reading b.rule) b.rule.row rules) e) ∙ h)

pub open_read : OpenLaw
open_read x table column row h = read x.user row (chain_of x.book (Some table) (Some column)) h

pub open_shown : ShownLaw
open_shown x table column h = shown x.user (chain_of x.book (Some table) (Some column)) h
