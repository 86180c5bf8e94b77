-- The fields of the rules of a document, row by row.
use Rattle.std.proofs.Common.{◌≡◌, ap, refl, sym, ◌∙◌, ℕ, ◌+◌, ◌<◌, List, [], ◌∷◌, ◌++◌, map, drop, length, get_or}
use Rattle.doc_model.specs.Document.{Document}
use Rattle.acl_rules.specs.Loaded.{book_of, book_rule, by_place, rule_in, rule_rows}
use Rattle.acl_rules.specs.Placing.{placed}
use Rattle.agreeing_contexts.specs.Fields.{all_fields, formula_fields, gathered, mentioned_fields}
use Rattle.agreeing_contexts.specs.Rows.{row_fields}
use Rattle.agreeing_contexts.specs.declared.field.UserField.{UserField}
use Rattle.agreeing_contexts.proofs.FieldLemmas.{drop_next, gathered_append}

all_placed : (s : Document) (rows : List ℕ) → row_fields s (map (λ p. p.1) (map (placed s) rows)) ≡ all_fields (map (book_rule s) rows)
all_placed s [] = refl
all_placed s (r ∷ rows) = ap (λ fs. formula_fields (rule_in s r).formula ++ fs) (all_placed s rows)

pub placed_mentioned : (s : Document) → gathered [] (row_fields s (map (λ p. p.1) (map (placed s) (by_place s (rule_rows s))))) ≡ mentioned_fields (book_of s)
unfolding book_of
placed_mentioned s = ap (gathered []) (all_placed s (by_place s (rule_rows s)))

-- one row more
pub fields_next : (s : Document) (rows : List ℕ) (i r : ℕ) (fields new : List UserField) → i < length rows → r ≡ get_or rows i r → new ≡ gathered fields (formula_fields (rule_in s r).formula)
    → gathered new (row_fields s (drop (i + 1) rows)) ≡ gathered fields (row_fields s (drop i rows))
fields_next s rows i r fields new lt is noted =
    ap (λ v. gathered v (row_fields s (drop (i + 1) rows))) noted
    ∙ sym (gathered_append fields (formula_fields (rule_in s r).formula) (row_fields s (drop (i + 1) rows)))
    ∙ ap (λ l. gathered fields (row_fields s l)) (sym (drop_next rows i r lt is))
