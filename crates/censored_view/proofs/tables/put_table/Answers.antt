use Rattle.std.proofs.Common.{unwrap_or, ap, ◌∙◌}
use Rattle.std.specs.Vec.{vec_len}
use Rattle.doc_model.specs.Changes.{shown_table_id}
use Rattle.censored_view.proofs.PlacedLemmas.{goes_at, put_there}
use Rattle.censored_view.proofs.tables.put_table.Goals as goal

pub insert-requires : goal.insert-requires
insert-requires c =
    (goes_at shown_table_id c.args.table c.args.tables.now.items c.as_slice.result.now c.table_index.result (vec_len c.args.tables.now) c.unwrap_or-index.result
    c.as_slice.ensures.value c.as_slice.ensures.len c.table_index.ensures (c.unwrap_or-index.ensures ∙ ap (unwrap_or c.table_index.result) c.len.ensures)).0

pub returns : goal.returns
returns c =
    put_there shown_table_id c.args.table c.args.tables.now.items c.as_slice.result.now c.insert.new.self.items c.table_index.result (vec_len c.args.tables.now) c.unwrap_or-index.result
    c.requires c.as_slice.ensures.value c.as_slice.ensures.len c.table_index.ensures (c.unwrap_or-index.ensures ∙ ap (unwrap_or c.table_index.result) c.len.ensures)
    c.in_ok-insert.ensures.items
