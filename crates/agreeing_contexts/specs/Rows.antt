-- The fields that the rules in some rows mention.
use Rattle.std.specs.Prelude.{ℕ, List, [], ◌∷◌, ◌++◌}
use Rattle.doc_model.specs.Document.{Document}
use Rattle.acl_rules.specs.Loaded.{rule_in}
use Rattle.agreeing_contexts.specs.Fields.{formula_fields}
use Rattle.agreeing_contexts.specs.declared.field.UserField.{UserField}

-- of these rows, one after another
abbrev pub row_fields : Document → List ℕ → List UserField
row_fields s [] = []
row_fields s (r ∷ rows) = formula_fields (rule_in s r).formula ++ row_fields s rows
