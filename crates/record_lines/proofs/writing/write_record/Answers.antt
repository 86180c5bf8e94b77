use Rattle.std.proofs.Common.{◌∙◌, ap, arith}
use Rattle.serde_json.specs.Written.{compact_text}
use Rattle.grist_json.proofs.JsonLemmas.{json_at_read}
use Rattle.record_lines.specs.Printed.{kept, record_data, record_text}
use Rattle.record_lines.proofs.FlatLemmas.{record_flat}
use Rattle.record_lines.proofs.PrintedLemmas.{record_is}
use Rattle.record_lines.proofs.writing.write_record.Goals as goal

pub returns-clause-text : goal.returns-clause-text
unfolding record_text
returns-clause-text c =
    c.new.ensures.value
    ∙ c.in_ok-to_string.ensures.text (rw c.in_ok-value.ensures (record_flat c.args.number c.args.actions.now).whole)
    ∙ ap compact_text c.in_ok-value.ensures

pub returns-clause-spells : goal.returns-clause-spells
returns-clause-spells c =
    json_at_read c.new.result (record_data c.args.number c.args.actions.now) c.new.ensures.utf8
    (rw (c.new.ensures.value, ← c.in_ok-value.ensures) (c.in_ok-to_string.ensures.reads_back (rw c.in_ok-value.ensures (omega (arith, (record_flat c.args.number c.args.actions.now).low)))))

pub returns-clause-reads_back : goal.returns-clause-reads_back
returns-clause-reads_back c = λ whole printable. (
  record_data c.args.number c.args.actions.now,
  returns-clause-spells c,
  record_is (kept c.args.number c.args.actions.now) whole printable,
)
