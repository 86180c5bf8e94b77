use Rattle.std.proofs.Common.{◌∙◌, ap}
use Rattle.acl_rules.specs.Chain.{of_table}
use Rattle.censored_view.specs.RowTests.{or_answer, tests_say}
use Rattle.acl_reading.specs.Shown.{reading_row}
use Rattle.acl_reading.specs.Walking.{reads_among}
use Rattle.acl_reading.proofs.WalkLemmas.{table_read}
use Rattle.acl_reading.proofs.choosing.table_tests.Goals as goal

pub returns-clause-says : goal.returns-clause-says
returns-clause-says c = λ row.
    let x = reading_row c.args.user.now row in
    let part = (of_table c.args.table.now) in
    c.in_ok-tests.ensures.says row
    ∙ ap (λ ts. or_answer (tests_say c.args.user.now row ts) (reads_among x part c.args.book.now c.places_on.result.now)) c.new.ensures.items
    ∙ ap (reads_among x part c.args.book.now) c.places_on.ensures
    ∙ table_read x c.args.book.now c.args.table.now
