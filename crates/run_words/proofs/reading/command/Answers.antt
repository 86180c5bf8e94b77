use Rattle.std.proofs.Common.{rules, ◌≡◌, true, ap, ap₂, codes, ◌∙◌}
use Rattle.std.proofs.lemmas.Result.{IfOk-weaker}
use Rattle.clap.specs.Words.{App, app_of, new_app, with_subcommand}
use Rattle.clap.specs.Simple.{Shape, app_of_fields, on_top}
use Rattle.run_words.specs.Clap.{bare_app}
use Rattle.run_words.proofs.reading.command.Goals as goal

pub returns : goal.returns
returns c =
    let a : App = on_top (λ s. record s { no_binary_name = true }) (new_app (codes "jackclover")) in
    let one : app_of c.no_binary_name.result ≡ a = ap app_of_fields c.no_binary_name.ensures ∙ ap (on_top (λ (s : Shape). record s { no_binary_name = true })) c.new.ensures.app in
    let two = ap app_of_fields c.disable_help_flag.ensures ∙ ap (on_top (λ (s : Shape). record s { disable_help_flag = true })) one in
    let three = ap app_of_fields c.disable_help_subcommand.ensures ∙ ap (on_top (λ (s : Shape). record s { disable_help_subcommand = true })) two in
    let four = ap app_of_fields c.disable_version_flag.ensures ∙ ap (on_top (λ (s : Shape). record s { disable_version_flag = true })) three in
    let bare : app_of c.subcommand_required.result ≡ bare_app = ap app_of_fields c.subcommand_required.ensures ∙ ap (on_top (λ (s : Shape). record s { subcommand_required = true })) four in
    IfOk-weaker c.subcommand.result _ _ (λ m h. h.shape (search rules) ∙ ap₂ with_subcommand bare (ap (λ (x : App). x.top) c.in_ok-replay.ensures.app)) c.subcommand.ensures
