-- The columns of record actions of documents: those of user actions whose ids are names.
use Rattle.std.specs.Prelude.{◌≡◌, ℕ, List, [], ◌∷◌, ◌++◌, map, Bool, true, false, Option, Some, None, if◌then◌else◌}
use Rattle.std.specs.List.{list_all}
use Rattle.serde_json.specs.Data.{Members}
use Rattle.doc_model.specs.declared.column.CellColumn.{CellColumn}
use Rattle.doc_model.specs.declared.user_action.UserColumn.{UserColumn}
use Rattle.action_lines.specs.Steps.{◌>>=◌}
use Rattle.action_lines.specs.Columns.{AreColumns, filled}
use Rattle.action_lines.specs.Values.{has_name_length}

-- a column as a user action has it
abbrev pub unnamed : CellColumn → UserColumn
unnamed c = filled c.id c.values

abbrev pub is_named : CellColumn → Bool
is_named c = has_name_length c.id

-- the members are these columns, by id, each with so many values
pub record AreNamed (count : ℕ) (cs : List CellColumn) (ms : Members) : Type 0 where
  pub filled : AreColumns false count None (map unnamed cs) ms
  pub named : list_all is_named cs ≡ true

-- ---- reading

unfoldable pub name_column : UserColumn → Option CellColumn
name_column u =
    if has_name_length u.id then Some (record { id = u.id; values = u.values }) else None

-- the columns named so far, and those that are left
abbrev pub named_onto : List CellColumn → List UserColumn → Option (List CellColumn)
named_onto done [] = Some done
named_onto done (u ∷ us) = name_column u >>= λ c. named_onto (done ++ c ∷ []) us

abbrev pub named_from : List UserColumn → Option (List CellColumn)
named_from us = named_onto [] us
