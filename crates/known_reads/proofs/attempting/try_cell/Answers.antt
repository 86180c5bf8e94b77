use Rattle.std.proofs.Common.{◌∙◌, ap, sym}
use Rattle.std.specs.Option.{option_map}
use Rattle.recalc.specs.declared.kept.KeptColumn.{KeptColumn}
use Rattle.recalc.specs.Evaluated.{sheet_of}
use Rattle.recalc.specs.Kept.{held_at}
use Rattle.recalc.proofs.KeptLemmas.{column_there, kind_kept, tree_found, tree_kept}
use Rattle.recalc.proofs.SheetLemmas.{is_sheet}
use Rattle.known_reads.proofs.RecordedLemmas.{if_ok, told}
use Rattle.known_reads.proofs.attempting.try_cell.Goals as goal

pub unreachable-requires : goal.unreachable-requires
unreachable-requires g c =
    column_there (g.D.DocReader.document c.args.tables.now) c.args.kept.now c.requires.settled.of_document c.args.cell.now c.requires.opened.0.0 c.requires.opened.0.1 c.in_default.ensures

pub returns-clause-told : goal.returns-clause-told
returns-clause-told g c =
    let s = g.D.DocReader.document c.args.tables.now in
    let ks = c.args.kept.now in
    let kept = c.requires.settled.of_document in
    let cell = c.args.cell.now in
    let e = c.in-Some.column.now in
    let f = c.requires.opened.0.0 in
    let kind = sym (kind_kept s ks kept cell.table cell.column) ∙ ap (option_map (λ (x : KeptColumn). x.ty)) (sym c.in-Some.ensures) in
    let tree = c.as_ref.ensures.value ∙ sym (tree_found ks cell e (sym c.in-Some.ensures)) ∙ tree_kept s ks kept cell f c.requires.opened.0.1 in
    if_ok c.found_of.result
    (λ x fit. told (sheet_of s) (is_sheet s) (held_at s ks) c.requires.settled.sound cell f e.ty c.requires.opened.0.1 kind c.in_ok-at.at c.in_ok-at.ensures _ tree
    c.in_ok-tried.tried c.in_ok-tried.ensures.tried _ c.in_ok-tried.ensures.noted x fit) c.found_of.ensures
