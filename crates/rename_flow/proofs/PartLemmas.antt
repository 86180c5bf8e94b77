-- Plans made part by part, and rows one after the other.
use Rattle.std.proofs.Common.{◌≡◌, ap, refl, arith, ℕ, zero, suc, ◌+◌, ◌<◌, List, [], ◌∷◌, ◌++◌, length, get_or, drop, Option, Some, None, append_assoc}
use Rattle.doc_model.specs.declared.view.ViewTable.{ViewTable}
use Rattle.acl_rules.specs.declared.resource.Resource.{Resource}
use Rattle.user_attrs.specs.declared.attribute_rule.AttributeRule.{AttributeRule}
use Rattle.formula_records.proofs.ItemLemmas.{drop_next}
use Rattle.rename_marks.specs.declared.formula_place.AttributeTable.{AttributeTable}
use Rattle.rename_flow.specs.declared.rename_plan.RenamePlan.{RenamePlan}
use Rattle.rename_flow.specs.declared.shown_rules.RuleAbout.{RuleAbout}
use Rattle.rename_flow.specs.Parts.{Part, with_part, with_parts}
use Rattle.rename_flow.specs.ShownRows.{ShownRow, cells_at, rows_from}
use Rattle.rename_flow.specs.ShownRules.{about_before, attribute_before}

pub parts_append : (p : RenamePlan) (as' bs : List Part) → with_parts p (as' ++ bs) ≡ with_parts (with_parts p as') bs
parts_append p [] bs = refl
parts_append p (a ∷ as') bs = parts_append (with_part p a) as' bs

-- the row of a table at an index
abbrev pub row_at : ViewTable → ℕ → ℕ → ShownRow
row_at w i r = record { columns = w.columns; row = r; cells = cells_at w i }

pub rows_next : (w : ViewTable) (rows : List ℕ) (i r : ℕ) → i < length rows → r ≡ get_or rows i r
    → rows_from w i (drop i rows) ≡ row_at w i r ∷ rows_from w (i + 1) (drop (i + 1) rows)
rows_next w rows i r h e = ap (λ (rs : List ℕ). rows_from w i rs) (drop_next rows i r h e)

pub about_last : (r : ℕ) (q : Option Resource) (as' bs : List RuleAbout) → (as' ++ about_before r q []) ++ bs ≡ as' ++ about_before r q bs
about_last r None as' bs = append_assoc as' [] bs
about_last r (Some q) as' bs = append_assoc as' (about_before r (Some q) []) bs

pub attribute_last : (q : Option AttributeRule) (as' bs : List AttributeTable) → (as' ++ attribute_before q []) ++ bs ≡ as' ++ attribute_before q bs
attribute_last None as' bs = append_assoc as' [] bs
attribute_last (Some a) as' bs = append_assoc as' (attribute_before (Some a) []) bs

same_item : (xs : List ℕ) (i d e : ℕ) → i < length xs → get_or xs i d ≡ get_or xs i e
same_item [] i d e h = absurd (omega arith)
same_item (x ∷ xs) zero d e h = refl
same_item (x ∷ xs) (suc i) d e h = same_item xs i d e (omega arith)

-- the same where the row does not matter
pub rows_step : (w : ViewTable) (rows : List ℕ) (i : ℕ) → i < length rows
    → (r : ℕ) × (rows_from w i (drop i rows) ≡ row_at w i r ∷ rows_from w (i + 1) (drop (i + 1) rows))
rows_step w rows i h = (get_or rows i 0, rows_next w rows i (get_or rows i 0) h (same_item rows i 0 (get_or rows i 0) h))
