use Rattle.doc_model.specs.Changes.{shown_table_id}
use Rattle.doc_model.proofs.ByIdsLaws.{AreDistinct-IsByIds}
use Rattle.view_patch.proofs.patching.apply.Goals as goal

pub remove_by_id-requires : goal.remove_by_id-requires
remove_by_id-requires c = AreDistinct-IsByIds shown_table_id c.args.tables.now.items c.requires.view.by_ids
