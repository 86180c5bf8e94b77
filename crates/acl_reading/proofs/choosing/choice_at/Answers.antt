use Rattle.std.proofs.Common.{◌∙◌, sym}
use Rattle.acl_rules.specs.Chain.{part_in}
use Rattle.acl_reading.specs.Shown.{reading_row}
use Rattle.acl_reading.proofs.ChoosingLemmas.{of_part}
use Rattle.acl_reading.proofs.choosing.choice_at.Goals as goal

pub returns : goal.returns
returns c = λ row.
    c.choice_of.ensures row
    ∙ sym (of_part (reading_row c.args.user.now row) (part_in c.args.part) c.args.book.now c.args.place
    (record { rule = c.in-Some.rule.now; resource = c.in-Some.resource.now }) c.in-Some.ensures (sym c.is_of.ensures ∙ c.if-not-is_of.false))
