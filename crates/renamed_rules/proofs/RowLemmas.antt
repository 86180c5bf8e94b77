-- Rules follow where their rows do.
use Rattle.std.proofs.Common.{ℕ, true, false, cond, List, [], ◌∷◌, map, ◌≡◌, refl, subst, sym, ap, ◌∙◌, Option, Some, None}
use Rattle.std.specs.List.{AllByRecursion}
use Rattle.std.specs.Option.{option_and_then, option_map}
use Rattle.std.specs.Prelude.{int_lt}
use Rattle.acl_formula.specs.Permissions.{permissions_of}
use Rattle.acl_rules.specs.Loaded.{book_of, book_rule, by_place, or_none, place_of, put_by_place, rule_rows, text_in}
use Rattle.doc_model.specs.Document.{Document}
use Rattle.rename_marks.specs.declared.column_rename.ColumnRename.{ColumnRename}
use Rattle.rename_marks.specs.declared.formula_place.AttributeTable.{AttributeTable}
use Rattle.user_attrs.specs.Attributes.{attribute_at, attributes_at, with_attribute}
use Rattle.user_attrs.specs.declared.attribute_rule.AttributeRule.{AttributeRule}
use Rattle.renamed_rules.specs.FollowingRows.{FollowingRowsLaw, MayFollow, RowFollows}
use Rattle.renamed_rules.specs.RenamedRules.{AllRulesFollow, AttributeKept, IsListed, attribute_after}

module _ (s s' : Document) (same : (r : ℕ) → place_of s' r ≡ place_of s r) where
  put_same : (r : ℕ) (rows : List ℕ) → put_by_place s' r rows ≡ put_by_place s r rows
  put_same r [] = refl
  put_same r (q ∷ rows) =
      ap (λ a. cond (int_lt a (place_of s' r)) (q ∷ put_by_place s' r rows) (r ∷ q ∷ rows)) (same q)
      ∙ ap (λ a. cond (int_lt (place_of s q) a) (q ∷ put_by_place s' r rows) (r ∷ q ∷ rows)) (same r)
      ∙ ap (λ xs. cond (int_lt (place_of s q) (place_of s r)) (q ∷ xs) (r ∷ q ∷ rows)) (put_same r rows)

  place_same : (rows : List ℕ) → by_place s' rows ≡ by_place s rows
  place_same [] = refl
  place_same (r ∷ rows) = ap (put_by_place s' r) (place_same rows) ∙ put_same r (by_place s rows)

-- what holds of each row holds of each in its place
module _ (P : ℕ → Type 0) (s : Document) where
  each_put : (r : ℕ) (rows : List ℕ) → P r → AllByRecursion P rows → AllByRecursion P (put_by_place s r rows)
  each_put r [] p h = (p, tt)
  each_put r (q ∷ rows) p h = elim (int_lt (place_of s q) (place_of s r)) as (λ b. AllByRecursion P (cond b (q ∷ put_by_place s r rows) (r ∷ q ∷ rows))) [ true ↦ (h.0, each_put r rows p h.1) | false ↦ (p, h) ]

  each_placed : (rows : List ℕ) → AllByRecursion P rows → AllByRecursion P (by_place s rows)
  each_placed [] h = tt
  each_placed (r ∷ rows) h = each_put r (by_place s rows) h.0 (each_placed rows h.1)

module _ (m : ColumnRename) (ts : List AttributeTable) (s s' : Document) where
  attributes_follow : (rows : List ℕ) → AllByRecursion (RowFollows m ts s s') rows → attributes_at s' rows ≡ map (attribute_after m) (attributes_at s rows)
  attributes_follow [] h = refl
  attributes_follow (r ∷ rows) h =
      ap (λ o. with_attribute o (attributes_at s' rows)) h.0.attribute
      ∙ ap (with_attribute (option_map (attribute_after m) (attribute_at s r))) (attributes_follow rows h.1)
      ∙ before (attribute_at s r) (attributes_at s rows)
    where
      before : (o : Option AttributeRule) (as' : List AttributeRule) → with_attribute (option_map (attribute_after m) o) (map (attribute_after m) as') ≡ map (attribute_after m) (with_attribute o as')
      before None as' = refl
      before (Some a) as' = refl

  kept_each : (rows : List ℕ) → AllByRecursion (RowFollows m ts s s') rows → AllByRecursion (AttributeKept m) (attributes_at s rows) × AllByRecursion (IsListed ts) (attributes_at s rows)
  kept_each [] h = (tt, tt)
  kept_each (r ∷ rows) h = before (attribute_at s r) h.0.kept (kept_each rows h.1)
    where
      before : (o : Option AttributeRule) → MayFollow m ts o → AllByRecursion (AttributeKept m) (attributes_at s rows) × AllByRecursion (IsListed ts) (attributes_at s rows)
          → AllByRecursion (AttributeKept m) (with_attribute o (attributes_at s rows)) × AllByRecursion (IsListed ts) (with_attribute o (attributes_at s rows))
      before None k later = later
      before (Some a) k later = ((k.0, later.0), (k.1, later.1))

  rules_each : (rows : List ℕ) → AllByRecursion (RowFollows m ts s s') rows → AllRulesFollow m ts (map (book_rule s) rows) (map (book_rule s') rows)
  rules_each [] h = tt
  rules_each (r ∷ rows) h = (
    record {
      row = refl;
      permissions = ap (λ o. or_none (option_and_then permissions_of (text_in o))) h.0.permissions;
      resource = h.0.resource;
      lists = h.0.lists;
      formula = h.0.formula;
    },
    rules_each rows h.1,
  )

pub following_rows : FollowingRowsLaw
unfolding book_of
following_rows m ts s s' h =
    let placed = each_placed (RowFollows m ts s s') s (rule_rows s) h.each in
    let same : by_place s' (rule_rows s') ≡ by_place s (rule_rows s) = ap (by_place s') h.rows ∙ place_same s s' h.places (rule_rows s) in
    record {
      tables = ts;
      attributes = ap (attributes_at s') same ∙ attributes_follow m ts s s' (by_place s (rule_rows s)) placed;
      kept = (kept_each m ts s s' (by_place s (rule_rows s)) placed).0;
      listed = (kept_each m ts s s' (by_place s (rule_rows s)) placed).1;
      rules = subst (λ (rows : List ℕ). AllRulesFollow m ts (map (book_rule s) (by_place s (rule_rows s))) (map (book_rule s') rows)) (sym same) (rules_each m ts s s' (by_place s (rule_rows s)) placed);
    }
