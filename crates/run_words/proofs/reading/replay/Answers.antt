use Rattle.std.proofs.Common.{rules, ◌≡◌, ap₂, ◌∙◌, ◌||◌, false, codes}
use Rattle.std.proofs.lemmas.Result.{IfOk-weaker}
use Rattle.clap.specs.Words.{app_of, new_app, with_rule}
use Rattle.clap.specs.declared.builder.command.Command.TheViews.{out-Command as fields_of}
use Rattle.run_words.specs.Clap.{option_rule}
use Rattle.run_words.proofs.reading.replay.Goals as goal

pub returns-clause-app : goal.returns-clause-app
returns-clause-app c =
    let one : app_of c.in_ok-arg.field-0 ≡ with_rule (new_app (codes "replay")) (option_rule (codes "doc")) = c.in_ok-arg.ensures.shape (search rules) ∙ ap₂ with_rule c.new.ensures.app c.option.ensures.rule in
    IfOk-weaker c.arg-2.result _ _ (λ m h. h.shape (search rules) ∙ ap₂ with_rule one c.option-2.ensures.rule) c.arg-2.ensures

pub returns-clause-local : goal.returns-clause-local
returns-clause-local c =
    let one : (fields_of c.in_ok-arg.field-0).has_globals ≡ false = c.in_ok-arg.ensures.globals ∙ ap₂ ◌||◌ c.new.ensures.local c.option.ensures.local in
    IfOk-weaker c.arg-2.result _ _ (λ m h. h.globals ∙ ap₂ ◌||◌ one c.option-2.ensures.local) c.arg-2.ensures
