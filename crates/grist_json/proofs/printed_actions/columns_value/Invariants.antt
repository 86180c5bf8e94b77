use Rattle.std.proofs.Common.{◌≡◌, fold, take}
use Rattle.serde_json.specs.Data.{no_members}
use Rattle.serde_json.specs.View.{members_view}
use Rattle.grist_json.specs.Actions.{put_column}
use Rattle.grist_json.proofs.printed_actions.columns_value.Given as goal

abbrev pub invariant-loop-column : goal.invariant-loop-column
invariant-loop-column l = members_view l.members.entries ≡ fold put_column no_members (take l.column-index l.columns)
