use Rattle.std.proofs.Common.{◌∙◌, ℕ, Bool, List, Option, Some, ap, false, option_map, sym, unwrap_or}
use Rattle.acl_formula.specs.declared.permissions.Perm.TheVariants as perm
use Rattle.acl_formula.specs.declared.user_info.UserInfo.{UserInfo}
use Rattle.acl_rules.specs.Chain.{of_document, of_table, rules_of}
use Rattle.acl_rules.specs.Decided.{first_answer}
use Rattle.censored_view.specs.RowTests.{answer_of, or_answer}
use Rattle.acl_reading.specs.Shown.{reading_row}
use Rattle.acl_reading.specs.Walk.{allows}
use Rattle.acl_reading.proofs.ChoosingLemmas.{table_let}
use Rattle.acl_reading.proofs.choosing.row_tests.Goals as goal

pub returns : goal.returns
returns c = λ row.
    let x = c.args.ctx.now in
    let of_rules : UserInfo → Option Bool = λ u. option_map allows (first_answer (reading_row u row) perm.R (rules_of of_document x.book)) in
    let on_table : List ℕ → Option Bool = λ table. option_map allows (first_answer (reading_row x.user row) perm.R (rules_of (of_table table) x.book)) in
    table_let x c.args.table.now row
    ∙ ap (λ o. unwrap_or o false)
    (sym (c.or_else.ensures.says row
    ∙ ap (λ o. or_answer o (Some c.built_in_shows.result))
    (c.in_ok-both.ensures row ∙ ap (λ u. or_answer (answer_of c.in_ok-first.first row) (of_rules u)) c.in_ok-first.ensures.user
    ∙ ap (λ o. or_answer o (of_rules x.user)) (c.in_ok-first.ensures.says row ∙ ap on_table c.as_str.ensures.value))
    ∙ ap (λ b. or_answer (or_answer (on_table c.args.table.now) (of_rules x.user)) (Some b)) c.built_in_shows.ensures))
