use Rattle.std.proofs.Common.{rules, ◌≡◌, ◌∙◌, ap, string_bytes}
use Rattle.serde_json.specs.Written.{compact_text}
use Rattle.grist_json.specs.Actions.{actions_data}
use Rattle.grist_json.specs.Lines.{stream_front}
use Rattle.grist_json.proofs.PlainLemmas.{actions_flat}
use Rattle.grist_json.proofs.stream_front.StreamFront.of.Goals as goal

pub returns : goal.returns
unfolding stream_front
returns c =
    let is = c.in_ok-actions_value.ensures ∙ ap actions_data c.as_slice.ensures in
    let told : string_bytes c.in_ok-actions.actions ≡ compact_text (actions_data c.args.actions.now) = c.in_ok-actions.ensures.text (rw is (actions_flat c.args.actions.now).whole) ∙ ap compact_text is in
    search (rules, told)
