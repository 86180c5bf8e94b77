-- Records of bundles: {"actions":[action,..],"number":n,"version":2}, or the same without a version
-- and without dates.
use Rattle.std.specs.Prelude.{◌≡◌, ℕ, List, codes, Bool, true, false, not, Option, Some, None, option_and_then, nat_eq, if◌then◌else◌}
use Rattle.std.specs.List.{list_any}
use Rattle.serde_json.specs.Data.{Data, array, object, Items, Members, no_members, member}
use Rattle.serde_json.specs.Find.{as_object}
use Rattle.doc_model.specs.declared.action.DocAction.{DocAction}
use Rattle.action_lines.specs.Steps.{◌>>=◌}
use Rattle.action_lines.specs.Fields.{field, optional, put_front, is_done}
use Rattle.action_lines.specs.Items.{AreAll, given_from}
use Rattle.grist_json.specs.Json.{json_at, SpellsBy}
use Rattle.grist_json.specs.Reading.{is_whole, whole_from}
use Rattle.grist_json.specs.Replies.{number_data}
use Rattle.record_lines.specs.declared.records.Kept.{Kept}
use Rattle.record_lines.specs.Dates.{has_date}
use Rattle.record_lines.specs.DocActions.{IsDocAction}
use Rattle.record_lines.specs.Reading.{doc_action_from}

-- the version of a record's form, where it has one: the first form has none, and no dates
abbrev pub IsForm : Option Data → List DocAction → Type 0
IsForm None actions = list_any has_date actions ≡ false
IsForm (Some d) actions = d ≡ number_data 2

-- the JSON of a record
pub record IsRecord (k : Kept) (d : Data) : Type 0 where
  pub items : Items
  pub version : Option Data
  pub listed : AreAll IsDocAction k.actions items
  pub numbered : is_whole k.number ≡ true
  pub form : IsForm version k.actions
  pub whole : d ≡ object (member (codes "actions") (array items)
      (member (codes "number") (number_data k.number)
      (put_front (codes "version") version no_members)))

-- the bytes spell the record
abbrev pub SpellsRecord : Kept → List ℕ → Type 0
SpellsRecord = SpellsBy IsRecord

-- ---- reading

abbrev pub is_two : Option ℕ → Bool
is_two None = false
is_two (Some n) = nat_eq n 2

unfoldable pub is_form : Option Data → List DocAction → Bool
is_form None actions = not (list_any has_date actions)
is_form (Some d) actions = is_two (whole_from d)

-- the record of that number and these actions, by what stands behind its number
unfoldable pub formed_from : ℕ → List DocAction → Option Data × Members → Option Kept
formed_from n actions version =
    if is_done version.1
    then (if is_form version.0 actions
    then Some (record { number = n; actions = actions }) else None)
    else None

unfoldable pub record_from : Data → Option Kept
record_from d = do
  fields ← as_object d
  list ← field (codes "actions") fields
  place ← field (codes "number") list.1
  actions ← given_from doc_action_from false list.0
  n ← whole_from place.0
  formed_from n actions (optional (codes "version") place.1)

-- the record that the bytes spell, as a function
unfoldable pub record_at : List ℕ → Option Kept
record_at bytes = option_and_then record_from (json_at bytes)
