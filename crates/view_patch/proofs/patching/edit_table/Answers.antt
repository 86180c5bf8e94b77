use Rattle.std.proofs.Common.{Some, None, Bool, false, set, ◌≡◌, sym, ap, ◌∙◌}
use Rattle.std.specs.List.{position}
use Rattle.std.specs.Str.{bytes_eq}
use Rattle.doc_model.specs.declared.view.ViewTable.{ViewTable}
use Rattle.doc_model.specs.Changes.{shown_table_id}
use Rattle.doc_model.proofs.ByIdsLaws.{AreDistinct-IsByIds}
use Rattle.view_patch.specs.Acts.{act, act_fits}
use Rattle.view_patch.proofs.PatchSteps.{none_named, one_named}
use Rattle.view_patch.proofs.patching.edit_table.Goals as goal

pub edited-requires-clause-fits : goal.edited-requires-clause-fits
edited-requires-clause-fits c =
    let v = c.args.tables.now.items in
    let id = c.args.id.now in
    let at : position (λ (t : ViewTable). bytes_eq t.id id) v ≡ Some c.in-Some.index = sym (c.in-Some.ensures ∙ ap (position (λ (t : ViewTable). bytes_eq t.id id)) c.deref.ensures.value) in
    let h = one_named shown_table_id id (act c.args.action.now) v c.in-Some.index c.index.result.now (AreDistinct-IsByIds shown_table_id v c.requires.view.by_ids) at c.index.ensures in
    ap (λ o. elim o as (λ _. Bool) [ None ↦ false | Some s ↦ act_fits c.args.action.now s ]) (sym h.3) ∙ c.requires.fits

pub returns-in_ok-tables-in-Some : goal.returns-in_ok-tables-in-Some
returns-in_ok-tables-in-Some c =
    let v = c.args.tables.now.items in
    let id = c.args.id.now in
    let at : position (λ (t : ViewTable). bytes_eq t.id id) v ≡ Some c.in-Some.index = sym (c.in-Some.ensures ∙ ap (position (λ (t : ViewTable). bytes_eq t.id id)) c.deref.ensures.value) in
    let h = one_named shown_table_id id (act c.args.action.now) v c.in-Some.index c.index.result.now (AreDistinct-IsByIds shown_table_id v c.requires.view.by_ids) at c.index.ensures in
    ap (set v c.in-Some.index) c.in_ok-tables-in-Some.ensures ∙ h.1

pub returns-in-None : goal.returns-in-None
returns-in-None c =
    let v = c.args.tables.now.items in
    let id = c.args.id.now in
    let nowhere : position (λ (t : ViewTable). bytes_eq t.id id) v ≡ None = sym (c.in-None.ensures ∙ ap (position (λ (t : ViewTable). bytes_eq t.id id)) c.deref.ensures.value) in
    sym (none_named shown_table_id id (act c.args.action.now) v nowhere).0
