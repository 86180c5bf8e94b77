-- What an objection rests on.
use Rattle.std.specs.Prelude.{ℕ, Bool, ◌&&◌, ◌||◌, List, filter, ◌≡◌}
use Rattle.std.specs.Str.{bytes_eq}
use Rattle.doc_model.specs.declared.user_action.UserAction.{UserAction}
use Rattle.doc_model.specs.declared.view.ViewTable.{ViewTable}
use Rattle.doc_model.specs.MetadataIds.{resources_id, rules_id}
use Rattle.user_actions.specs.Kinds.{is_about_rows, table_of}
use Rattle.user_objections.specs.Objections.{objection_to}

-- whether the action is about rows of the table of rules, which name rows of the resources
abbrev pub is_about_rules : UserAction → Bool
is_about_rules a = is_about_rows a && bytes_eq rules_id (table_of a)

-- whether an action asks for the table of this id: the one that it names, and for rules also that
-- of the resources
abbrev pub asks_for : UserAction → List ℕ → Bool
asks_for a id = bytes_eq id (table_of a) || (is_about_rules a && bytes_eq id resources_id)

-- the tables that an action asks for
abbrev pub asked : UserAction → List ViewTable → List ViewTable
asked a v = filter (λ (t : ViewTable). asks_for a t.id) v

-- an objection depends on the tables of the view alone that the action asks for
abbrev pub AskedLaw : Type 0
AskedLaw = (v : List ViewTable) (a : UserAction) → objection_to (asked a v) a ≡ objection_to v a
