use Rattle.std.proofs.Common.{◌∙◌, ap}
use Rattle.acl_rules.specs.Chain.{of_document}
use Rattle.censored_view.specs.RowTests.{answer_of, or_answer}
use Rattle.acl_reading.specs.Shown.{reading_row}
use Rattle.acl_reading.specs.Walking.{reads_among}
use Rattle.acl_reading.proofs.WalkLemmas.{document_read}
use Rattle.acl_reading.proofs.choosing.with_document.Goals as goal

pub returns : goal.returns
returns c = λ row.
    let x = reading_row c.args.chosen.user.now row in
    c.in_ok-tests.ensures.says row
    ∙ ap (or_answer (answer_of c.args.chosen row)) (ap (reads_among x of_document c.args.book.now) c.places_on_document-places.ensures ∙ document_read x c.args.book.now)
