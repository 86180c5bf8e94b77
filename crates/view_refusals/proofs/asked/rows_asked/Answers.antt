use Rattle.std.proofs.Common.{◌≡◌, ◌∙◌, true, false, not, ◌||◌, List, ℕ, [], ◌∷◌, filter, refl, sym, ap, rules}
use Rattle.std.specs.Str.{bytes_eq}
use Rattle.doc_model.specs.Rows.{has}
use Rattle.user_actions.specs.Kinds.{table_of}
use Rattle.view_refusals.specs.Parts.{rows_requested}
use Rattle.view_refusals.proofs.RequestedLemmas.{every_row}
use Rattle.view_refusals.proofs.asked.rows_asked.Goals as goal

pub returns-then-ne : goal.returns-then-ne
returns-then-ne c =
    let other : bytes_eq c.args.table.now (table_of c.args.action.now) ≡ false = search rules in
    c.in_ok-all.ensures.items
    ∙ sym (ap (λ b. filter (λ r. not b || has (rows_requested c.args.action.now) r) c.args.rows.now) other ∙ every_row c.args.rows.now)
