use Rattle.std.proofs.Common.{◌≡◌, List, Option, Some, None, ap, subst, sym, ◌∙◌}
use Rattle.std.specs.Option.{MatchOption, option_map}
use Rattle.doc_model.specs.ByIds.{find_id}
use Rattle.doc_model.specs.Document.{Table, table_id}
use Rattle.recalc.specs.Evaluated.{filled_by}
use Rattle.shot_cells.specs.Places.{seen_at}
use Rattle.table_copies.specs.Copies.{without_row}
use Rattle.document_shot.specs.Shots.{Shown, Shows, shown_after}
use Rattle.document_shot.specs.declared.trail.DocumentStep.{DocumentStep}
use Rattle.document_shot.proofs.AnswerLemmas.{copied_view, no_table}
use Rattle.document_shot.proofs.SeenLaws.{laid_out_by}
use Rattle.document_shot.proofs.shot.DocumentShot.look_at.Goals as goal

pub returns-in_default : goal.returns-in_default
returns-in_default c =
    λ stands. let inner = c.self.inside in
    let t = inner.document.tables in
    let seen = seen_at inner.document.cells.tables in
    let table = c.args.table.now in
    let asked = c.as_str.result.now in
    let s = filled_by seen t in
    let v : Shown = shown_after c.args.self.now in
    let S : List DocumentStep → Type 0 = λ ks. Shows t seen inner.sessions.items inner.entries (shown_after ks) in
    let shows : S c.args.self.now = subst S c.self.view_is c.self.invariant.1 in
    let none : find_id table_id asked s ≡ None =
    subst (λ (o : Option Table). MatchOption o (find_id table_id asked s ≡ None) (λ u. option_map without_row (find_id table_id asked s) ≡ Some u)) c.in_default.is c.in_ok-table.ensures in
    no_table c.args.user.now table t seen v shows.tables shows.values stands.values c.nothing_shown_law.ensures (laid_out_by seen t c.self.invariant.0)
    (ap (λ b. find_id table_id b s) (sym c.as_str.ensures) ∙ none)

pub returns : goal.returns
returns c =
    λ stands. let inner = c.self.inside in
    let t = inner.document.tables in
    let seen = seen_at inner.document.cells.tables in
    let table = c.args.table.now in
    let asked = c.as_str.result.now in
    let s = filled_by seen t in
    let v : Shown = shown_after c.args.self.now in
    let S : List DocumentStep → Type 0 = λ ks. Shows t seen inner.sessions.items inner.entries (shown_after ks) in
    let shows : S c.args.self.now = subst S c.self.view_is c.self.invariant.1 in
    let from : option_map without_row (find_id table_id asked s) ≡ Some c.in-Some.table =
    subst (λ (o : Option Table). MatchOption o (find_id table_id asked s ≡ None) (λ u. option_map without_row (find_id table_id asked s) ≡ Some u)) c.in-Some.is c.in_ok-table.ensures in
    copied_view c.args.user.now table t seen v c.in_ok-ctx.ctx c.in-Some.table shows.tables shows.values stands.values c.shown_alike_law.ensures (laid_out_by seen t c.self.invariant.0)
    (ap (λ b. option_map without_row (find_id table_id b s)) (sym c.as_str.ensures) ∙ from) c.in_ok-ctx.ensures
