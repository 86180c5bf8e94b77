use Rattle.std.proofs.Common.{Bool, false, None, Some, sym, ap, ◌∙◌}
use Rattle.doc_model.specs.Changes.{grid, shown_table_id}
use Rattle.doc_model.specs.ViewEdits.{IsShown}
use Rattle.doc_model.proofs.ByIdsLaws.{found_all}
use Rattle.view_patch.specs.Acts.{act_fits}
use Rattle.view_patch.proofs.fitting.fits_there.Goals as goal

pub fits_in-requires : goal.fits_in-requires
fits_in-requires c = (found_all shown_table_id (λ t. IsShown (grid t)) c.args.table.now c.args.tables.now c.in-Some.found.now c.requires (sym c.in-Some.ensures)).is_grid.ascending

pub returns-in-Some : goal.returns-in-Some
returns-in-Some c = c.fits_in.ensures ∙ ap (λ o. elim o as (λ _. Bool) [ None ↦ false | Some s ↦ act_fits c.args.action.now s ]) c.in-Some.ensures
