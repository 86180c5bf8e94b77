use Rattle.std.proofs.Common.{◌≡◌}
use Rattle.serde_json.specs.View.{items_view}
use Rattle.serde_json.specs.Events.{items_len}
use Rattle.action_lines.specs.Items.{all_onto, all_from}
use Rattle.record_lines.proofs.recorded.read_all.Given as goal

abbrev pub invariant-loop-value : goal.invariant-loop-value
invariant-loop-value g l = all_onto g.T.Recorded.from l.things.items (items_view l.items.left.now) ≡ all_from g.T.Recorded.from (items_view l.fn.items.left.now)

abbrev pub decreases-loop-value : goal.decreases-loop-value
decreases-loop-value g l = items_len (items_view l.items.left.now)
