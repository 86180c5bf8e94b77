use Rattle.std.proofs.Common.{◌≡◌, ◌∙◌, cond, ap, ap₂, arith}
use Rattle.run_generator.specs.Script.{first_session, second_session}
use Rattle.bundle_core.specs.Core.{entry_of}
use Rattle.bundle_core.specs.KeptCore.{IsTaken}
use Rattle.bundle_core.specs.MadeLines.{is_more, lines_made}
use Rattle.grist_run.specs.Asking.{one_if_more}
use Rattle.grist_run.specs.Denials.{ends_in_denial}
use Rattle.grist_run.proofs.AskingLaws.{counted_on, few_denied, few_lines, not_gone, one_few}
use Rattle.grist_run.proofs.generating.ask.Goals as goal

pub returns-in-Ok-Lines-clause-counted : goal.returns-in-Ok-Lines-clause-counted
returns-in-Ok-Lines-clause-counted g c =
    let asked = c.args.entry in
    let old = c.args.core.now in
    let new = c.step.new.self in
    let lines = c.in-Ok-Lines.lines in
    let t : IsTaken old new asked.session asked.request asked.size lines = rw c.in-Ok-Lines.field-0-is at c.in-Ok-Lines.ensures.ok in
    let e = entry_of asked.session asked.request asked.size t.kept in
    let stays = not_gone asked.request c.requires.stays in
    let counts = c.args.counts.now in
    let one : c.one_if.result ≡ cond (ends_in_denial lines) 1 0 = c.one_if.ensures ∙ ap (λ b. cond b 1 0) (c.ends_in_denial-denied.ensures ∙ ap ends_in_denial c.as_slice.ensures) in
    let before = c.made_so_far-before in
    let after = c.made_so_far-after in
    let first : one_if_more before.result.first after.result.first ≡ one_if_more (lines_made old.state first_session) (lines_made new.state first_session) =
    ap₂ one_if_more (before.ensures.first ∙ ap (lines_made old.state) c.requires.first) (after.ensures.first ∙ ap (lines_made new.state) c.requires.first) in
    let second : one_if_more before.result.second after.result.second ≡ one_if_more (lines_made old.state second_session) (lines_made new.state second_session) =
    ap₂ one_if_more (before.ensures.second ∙ ap (lines_made old.state) c.requires.second) (after.ensures.second ∙ ap (lines_made new.state) c.requires.second) in
    let few = few_denied old.state new.state e lines t.taken stays counts c.requires.counted in
    let few_made = few_lines old.state new.state e lines t.taken stays counts c.requires.counted in
    counted_on old.state new.state e lines t.taken stays counts _ c.requires.counted
    (omega (arith, c.saturating_add-counts.ensures, one, few, one_few (ends_in_denial lines)))
    (omega (arith, c.saturating_add-counts-in-Ok-Lines.ensures, c.more_made.ensures, first, second, few_made, one_few (is_more (lines_made old.state first_session) (lines_made new.state first_session)), one_few (is_more (lines_made old.state second_session) (lines_made new.state second_session))))
