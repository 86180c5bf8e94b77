use Rattle.std.proofs.Common.{◌∙◌, ap, ℕ, List, []}
use Rattle.acl_rules.specs.Chain.{is_of, is_on, of_document}
use Rattle.acl_rules.specs.Places.{places_of}
use Rattle.acl_rules.specs.Reading.{places_read, with_names}
use Rattle.acl_rules.specs.RuleBook.{BookRule}
use Rattle.acl_rules.proofs.ReadingLemmas.{about_read}
use Rattle.acl_rules.proofs.reading.columns_read.Goals as goal

pub returns : goal.returns
returns c =
    let book = c.args.book.now in
    let on = c.places_on.ensures ∙ ap (λ (t : List ℕ). places_of (λ (b : BookRule). is_on t b.resource) book) c.as_str.ensures.value in
    let first = c.in_ok-note_places.ensures
    ∙ ap (λ (ns : List (List ℕ)). with_names ns (places_read book c.places_on.result.now)) c.new-names.ensures
    ∙ ap (λ (ps : List ℕ). with_names [] (places_read book ps)) on in
    c.in_ok-note_places-2.ensures
    ∙ ap (λ (ps : List ℕ). with_names c.note_places.new.names (places_read book ps)) c.places_on_document.ensures
    ∙ ap (λ (ns : List (List ℕ)). with_names ns (places_read book (places_of (λ (b : BookRule). is_of of_document b.resource) book))) first
    ∙ about_read book c.args.table.now
