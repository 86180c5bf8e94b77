use Rattle.std.proofs.Common.{◌∙◌, ◌++◌, ap, subst, sym}
use Rattle.affected_search.specs.Reached.{IsAffected}
use Rattle.evaluated_doc.proofs.RefreshedLemmas.{finds_refreshed}
use Rattle.evaluated_doc.proofs.touching.touched_cells.Goals as goal

pub returns : goal.returns
returns c =
    finds_refreshed c.args.graph.now c.args.touched.now.reads c.args.touched.now.cells c.in_ok-found.found c.in_ok-cells.cells.items c.push_copies.new.copies.items
    (subst (λ l. IsAffected c.args.graph.now.reads l c.in_ok-found.found) (c.deref.ensures.value ∙ c.in_ok-numbers.ensures) c.in_ok-found.ensures)
    c.in_ok-cells.ensures.found c.in_ok-cells.ensures.only
    (c.in_ok-push_copies.ensures ∙ ap (λ l. c.in_ok-cells.cells.items ++ l) c.as_slice.ensures)
