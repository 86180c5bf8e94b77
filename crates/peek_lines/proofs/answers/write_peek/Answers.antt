use Rattle.std.proofs.Common.{IfOk, ap, subst, ◌∙◌}
use Rattle.grist_json.specs.Json.{IsJson}
use Rattle.grist_json.specs.Lines.{IsPrinted}
use Rattle.grist_json.specs.Replies.{verdict_data}
use Rattle.peek_lines.proofs.AnswerLemmas.{answer_is}
use Rattle.peek_lines.proofs.answers.write_peek.Goals as goal

pub returns-clause-spells : goal.returns-clause-spells
returns-clause-spells c = subst (λ d. IfOk c.write_reply.result (λ l. IsJson l d)) (ap verdict_data c.verdict.ensures ∙ answer_is c.args.answer) c.write_reply.ensures.spells

pub returns-clause-printed : goal.returns-clause-printed
returns-clause-printed c = subst (λ d. IfOk c.write_reply.result (λ l. IsPrinted l d)) (ap verdict_data c.verdict.ensures ∙ answer_is c.args.answer) c.write_reply.ensures.printed
