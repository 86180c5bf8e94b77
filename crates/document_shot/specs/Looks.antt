-- What is answered by what a peek took along from a shot.
use Rattle.std.specs.Prelude.{ℕ, List, [], ◌∷◌}
use Rattle.acl_reading.specs.RulesLet.{rules_let}
use Rattle.censored_view.specs.View.{view as shown_by}
use Rattle.peek_lines.specs.declared.answers.PeekAnswer.{PeekAnswer}
use Rattle.bundle_core.specs.Mailbox.{asked_table}
use Rattle.document_shot.specs.PeekAnswers.{table_answer}
use Rattle.document_shot.specs.declared.look.Look.{Look}
use Rattle.document_shot.specs.declared.look.Look.TheVariants.{Table, Told}
use Rattle.document_shot.specs.declared.look.TableLook.{TableLook}

-- what is in force for the user shows of the copied table
abbrev pub looked_at : List ℕ → TableLook → PeekAnswer
looked_at table x = table_answer (asked_table table (shown_by (rules_let x.ctx) (x.table ∷ [])))

abbrev pub looked : List ℕ → Look → PeekAnswer
looked table (Told answer) = answer
looked table (Table x) = looked_at table x
