use Rattle.std.proofs.Common.{◌≡◌, true, false, ◌∙◌, sym, ap, subst}
use Rattle.cell_types.specs.declared.cell.CellId.{CellId}
use Rattle.doc_model.specs.Rows.{IsAscending}
use Rattle.doc_readers.specs.Parts.{grid_at}
use Rattle.recalc.specs.Evaluated.{sheet_of}
use Rattle.recalc.specs.Stack.{on}
use Rattle.affected_search.specs.Actions.{KeepsOthers}
use Rattle.affected_search.specs.ByAction.{FindsAffected}
use Rattle.affected_search.specs.ExactNotes.{HasNotes}
use Rattle.affected_search.specs.Noted.{HoldsNotes}
use Rattle.affected_search.specs.Sheets.{is_found}
use Rattle.affected_search.proofs.ExactNotes.{exact}
use Rattle.evaluated_doc.proofs.SpentLemmas.{named_affected}
use Rattle.evaluated_doc.proofs.moving.find_moved.Goals as goal

pub returns-clause-found : goal.returns-clause-found
returns-clause-found g c =
    let s = g.D.DocReader.document c.args.tables.now in
    let a = c.args.action.now in
    let t = c.args.table.now in
    let graph = c.args.reads.now.graph in
    let found = c.in_ok-found.found in
    let same = c.found_by_records.ensures.same in
    let has : HasNotes graph (sheet_of s) = c.requires.known.each in
    let held : HoldsNotes c.graph.result.now (sheet_of s) = subst (λ gr. HoldsNotes gr (sheet_of s)) (sym c.graph.ensures) (exact graph (sheet_of s) has).0 in
    let finds : FindsAffected s c.graph-2.result.now a found = subst (λ gr. FindsAffected s gr a found) (c.graph.ensures ∙ sym c.graph-2.ensures)
    (c.in_ok-found.ensures.only (subst (λ gr. HasNotes gr (sheet_of s)) (sym c.graph.ensures) has)) in
    record {
      keeps = subst (λ gr. KeepsOthers s gr a found) c.graph.ensures (c.in_ok-found.ensures.others held);
      noted = subst (λ gr. (d : CellId) → is_found gr found d ≡ true → on c.in_ok-noted.noted.items d ≡ true) c.graph-2.ensures c.in_ok-noted.ensures.found;
      only = named_affected s a c.graph-2.result.now found c.in_ok-noted.noted.items finds c.in_ok-noted.ensures.only;
      were = c.in_ok-rows.ensures.items ∙ c.rows_in.ensures.value ∙ ap (λ d. (grid_at d t).rows) same;
      ascending = subst IsAscending (sym c.in_ok-rows.ensures.items) c.rows_in.ensures.ascending;
    }
