use Rattle.std.proofs.Common.{Some, ◌≡◌, ◌∙◌, ap, refl, subst, sym}
use Rattle.doc_model.specs.ByIds.{find_id}
use Rattle.doc_model.specs.Column.{column_id}
use Rattle.doc_readers.specs.Parts.{grid_at}
use Rattle.known_reads.specs.Listed.{AreListed, IsListed}
use Rattle.known_reads.proofs.ListedLemmas.{all_last}
use Rattle.known_reads.proofs.listing.push_column.Goals as goal

pub returns : goal.returns
returns g c =
    let s = g.D.DocReader.document c.args.tables.now in
    let d = c.args.column.now in
    let made = c.in_ok-column_formula.ensures in
    let there = subst (λ n. find_id column_id n (grid_at s c.in_ok-column_formula.field-0.table).columns ≡ Some d) (sym made.1)
    (subst (λ t. find_id column_id d.id (grid_at s t).columns ≡ Some d) (sym made.0) c.requires.there) in
    subst (AreListed s) (sym c.in_ok-push.ensures.ok)
    (all_last (IsListed s) c.args.formulas.now _ c.requires.listed (d.info.ty, (d, there, sym c.in_ok-formula.ensures ∙ c.in-Some.is ∙ ap (λ f. Some f) (sym made.2), refl)))
