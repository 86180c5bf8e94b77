-- New ids are free, and steps valid, for every document.
use Rattle.std.proofs.Common.{ℕ, true, ◌&&◌, ◌+◌, ◌≤◌, ◌^◌, List, [], ◌∷◌, ◌++◌, length, length-append, ◌≡◌, Some, arith}
use Rattle.std.proofs.lemmas.Bool.{and_parts}
use Rattle.std.specs.List.{list_all}
use Rattle.cell_types.specs.NameRule.{is_name}
use Rattle.doc_model.specs.declared.user_action.UserAction.TheVariants.{Add, Update, Remove, AddTable, RemoveTable, RenameTable, AddColumn, RemoveColumn, RenameColumn, ModifyColumn}
use Rattle.doc_model.specs.declared.user_action.UserCol.{UserCol}
use Rattle.doc_model.specs.Document.{Table}
use Rattle.doc_model.specs.Valid.{schema_table}
use Rattle.doc_model.proofs.DocumentParts.{passes_parts}
use Rattle.name_rules.specs.FreeName.{IsFresh, free_name}
use Rattle.name_rules.proofs.FreshNames.{free_name-fresh}
use Rattle.user_actions.specs.FreshIds.{FreshIdsLaw, StepsLaw}
use Rattle.user_actions.specs.Columns.{may_be_new}
use Rattle.user_actions.specs.Given.{has_good_id}
use Rattle.user_actions.specs.StepLaws.{AreFresh}
use Rattle.user_actions.specs.Steps.{column_ids, table_ids}
use Rattle.user_actions.proofs.AllowedLemmas.{new_name}
use Rattle.user_actions.proofs.StepsValid.{all_valid-steps_of}

fresh : (taken : List (List ℕ)) (wanted : List ℕ) → length taken ≤ 2 ^ 60 → is_name wanted ≡ true → IsFresh taken wanted
fresh taken wanted few good = free_name-fresh taken wanted (omega (arith, few)) good

all_fresh : (taken : List (List ℕ)) (cs : List UserCol) → length taken + length cs ≤ 2 ^ 60 → list_all has_good_id cs ≡ true → AreFresh taken cs
all_fresh taken [] few good = tt
all_fresh taken (c ∷ cs) few good =
    let parts : (has_good_id c ≡ true) × (list_all has_good_id cs ≡ true) = and_parts (has_good_id c) (list_all has_good_id cs) good in
    let more : length (taken ++ free_name taken c.id ∷ []) ≡ length taken + 1 = length-append taken (free_name taken c.id ∷ []) in
    (fresh taken c.id (omega (arith, few)) parts.0, all_fresh (taken ++ free_name taken c.id ∷ []) cs (omega (arith, few, more)) parts.1)

pub HasFresh-allowed : FreshIdsLaw
HasFresh-allowed s (Add table single count has_row_ids ks) whole h few = tt
HasFresh-allowed s (Update table single rows ks) whole h few = tt
HasFresh-allowed s (Remove table single rows) whole h few = tt
HasFresh-allowed s (AddTable table cs) whole h few =
    let names : (is_name table ≡ true) × (list_all has_good_id cs ≡ true) = and_parts (is_name table) (list_all has_good_id cs) (and_parts (is_name table && list_all has_good_id cs) (list_all may_be_new cs) h).0 in
    (fresh (table_ids s) table few.tables names.0, all_fresh [] cs (let new : length cs ≤ 2 ^ 60 = few.new in omega (arith, new)) names.1)
HasFresh-allowed s (RemoveTable table) whole h few = tt
HasFresh-allowed s (RenameTable table new) whole h few =
    let p : (t : Table) × ((schema_table s table ≡ Some t) × (is_name new ≡ true)) = passes_parts (schema_table s table) (λ t. is_name new) h in
    λ _. fresh (table_ids s) new few.tables p.1.1
HasFresh-allowed s (AddColumn table c) whole h few =
    let p : (t : Table) × ((schema_table s table ≡ Some t) × ((is_name c.id && may_be_new c) ≡ true)) = passes_parts (schema_table s table) (λ t. is_name c.id && may_be_new c) h in
    fresh (column_ids s table) c.id few.columns (and_parts (is_name c.id) (may_be_new c) p.1.1).0
HasFresh-allowed s (RemoveColumn table column) whole h few = tt
HasFresh-allowed s (RenameColumn table column new) whole h few = λ _. fresh (column_ids s table) new few.columns (new_name s table column new h)
HasFresh-allowed s (ModifyColumn table c) whole h few = tt

pub all_valid-allowed : StepsLaw
all_valid-allowed s a whole h well_formed few = all_valid-steps_of s whole a h well_formed (HasFresh-allowed s a whole h few)
