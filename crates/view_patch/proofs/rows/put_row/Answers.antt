use Rattle.std.proofs.Common.{Err, Ok, sym, subst}
use Rattle.std.proofs.lemmas.List.Sorted.{searched}
use Rattle.doc_model.specs.Rows.{IsAscending}
use Rattle.plain_view.proofs.RowIndexes.{rising}
use Rattle.view_patch.proofs.Spots.{put_found, put_new}
use Rattle.view_patch.proofs.rows.put_row.Goals as goal

pub returns-in-Ok : goal.returns-in-Ok
returns-in-Ok c =
    let seen = c.deref.result.now in
    let h = searched seen c.args.row (Ok c.in-Ok.field-0) c.in-Ok.ensures.position (rising seen (subst IsAscending (sym c.deref.ensures.value) c.requires)) in
    put_found c.args.rows.now.items seen c.args.row c.in-Ok.field-0 c.deref.ensures.value c.requires h

pub returns-in_ok-insert-in-Err : goal.returns-in_ok-insert-in-Err
returns-in_ok-insert-in-Err c =
    let seen = c.deref.result.now in
    let h = searched seen c.args.row (Err c.in-Err.index) c.in-Err.ensures.position (rising seen (subst IsAscending (sym c.deref.ensures.value) c.requires)) in
    put_new c.args.rows.now.items seen c.args.row c.in-Err.index c.insert.new.self.items c.deref.ensures.value h c.in_ok-insert-in-Err.ensures.items
