use Rattle.std.proofs.Common.{◌≡◌, option_map}
use Rattle.serde_json.specs.View.{members_view}
use Rattle.serde_json.specs.Events.{members_len}
use Rattle.action_lines.specs.Columns.{columns_onto, columns_from}
use Rattle.action_lines.proofs.columns.columns_of.Given as goal

abbrev pub invariant-loop-name : goal.invariant-loop-name
invariant-loop-name l = columns_onto l.single l.count l.columns (option_map (λ b. b.now) l.before) (members_view l.fields.left) ≡ columns_from l.single l.count (members_view l.fn.fields.left)

abbrev pub decreases-loop-name : goal.decreases-loop-name
decreases-loop-name l = members_len (members_view l.fields.left)
