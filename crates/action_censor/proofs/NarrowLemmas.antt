-- Changes of a view after steps of records.
use Rattle.std.proofs.Common.{refl, ap, ◌∙◌}
use Rattle.doc_model.specs.Changes.{changes}
use Rattle.doc_model.specs.Document.{Document}
use Rattle.doc_model.specs.LaidOut.{IsLaidOut}
use Rattle.plain_view.specs.PartsOfViews.{part_of}
use Rattle.censored_view.specs.Parts.{part}
use Rattle.censored_view.specs.View.{view}
use Rattle.censored_view.specs.ViewLaws.{PartLaw, PartMadeLaw}
use Rattle.action_censor.specs.Back.{back}
use Rattle.action_censor.specs.FollowLaws.{NarrowLaw}
use Rattle.action_censor.specs.Step.{is_row_of, is_table_of}
use Rattle.action_censor.proofs.BackLemmas.{IsLaidOut-back, steps_leave}

pub changes-narrow : PartLaw → PartMadeLaw → NarrowLaw
changes-narrow law made ks x s laid schema =
    let old : Document = back ks s in
    let laid' : IsLaidOut old = IsLaidOut-back ks s laid in
    ap (λ v. changes v (part (is_table_of ks) (is_row_of ks) x s)) (made (is_table_of ks) (is_row_of ks) x old laid')
    ∙ ap (changes (part_of (is_table_of ks) (is_row_of ks) (view x old))) (made (is_table_of ks) (is_row_of ks) x s laid)
    ∙ law (is_table_of ks) (is_row_of ks) x x old s laid' laid
    (record { schema = λ c is. (schema c is, schema c is); rows = λ c r apart. refl })
    (steps_leave ks s laid)
