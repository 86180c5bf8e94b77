use Rattle.std.proofs.Common.{◌∙◌, ap, arith}
use Rattle.serde_json.specs.Written.{compact_text}
use Rattle.grist_json.specs.Lines.{stream_data, stream_text}
use Rattle.grist_json.proofs.JsonLemmas.{json_at_read}
use Rattle.grist_json.proofs.PlainLemmas.{stream_flat}
use Rattle.grist_json.proofs.PrintLemmas.{printed}
use Rattle.grist_json.proofs.writers.write_stream.Goals as goal

pub returns-clause-text : goal.returns-clause-text
unfolding stream_text
returns-clause-text c =
    c.new.ensures.value
    ∙ c.in_ok-to_string.ensures.text (rw c.in_ok-value.ensures (stream_flat c.args.number c.args.actions.now).whole)
    ∙ ap compact_text c.in_ok-value.ensures

pub returns-clause-spells : goal.returns-clause-spells
returns-clause-spells c =
    json_at_read c.new.result (stream_data c.args.number c.args.actions.now) c.new.ensures.utf8
    (rw (c.new.ensures.value, ← c.in_ok-value.ensures) (c.in_ok-to_string.ensures.reads_back (rw c.in_ok-value.ensures (omega (arith, (stream_flat c.args.number c.args.actions.now).low)))))

pub returns-clause-printed : goal.returns-clause-printed
returns-clause-printed c =
    printed c.new.result _ _ (stream_data c.args.number c.args.actions.now) c.new.ensures.value c.in_ok-to_string.ensures.compact c.in_ok-to_string.ensures.order c.in_ok-value.ensures
    (returns-clause-spells c) (omega (arith, (stream_flat c.args.number c.args.actions.now).low))
