use Rattle.std.proofs.Common.{arith}
use Rattle.grist_json.specs.Replies.{verdict_data}
use Rattle.grist_json.specs.Lines.{reply_text}
use Rattle.grist_json.proofs.JsonLemmas.{json_at_read}
use Rattle.grist_json.proofs.PlainLemmas.{verdict_flat}
use Rattle.grist_json.proofs.PrintLemmas.{printed}
use Rattle.grist_json.proofs.writers.write_reply.Goals as goal

pub returns-clause-text : goal.returns-clause-text
unfolding reply_text
returns-clause-text c = rw (c.new.ensures.value, ← c.in_ok-value.ensures) (c.in_ok-to_string.ensures.text (rw c.in_ok-value.ensures (verdict_flat c.args.verdict.now).whole))

pub returns-clause-spells : goal.returns-clause-spells
returns-clause-spells c =
    json_at_read c.new.result (verdict_data c.args.verdict.now) c.new.ensures.utf8
    (rw (c.new.ensures.value, ← c.in_ok-value.ensures) (c.in_ok-to_string.ensures.reads_back (rw c.in_ok-value.ensures (omega (arith, (verdict_flat c.args.verdict.now).low)))))

pub returns-clause-printed : goal.returns-clause-printed
returns-clause-printed c =
    printed c.new.result _ _ (verdict_data c.args.verdict.now) c.new.ensures.value c.in_ok-to_string.ensures.compact c.in_ok-to_string.ensures.order c.in_ok-value.ensures
    (returns-clause-spells c) (omega (arith, (verdict_flat c.args.verdict.now).low))
