use Rattle.std.proofs.Common.{unwrap_or, ap, ◌∙◌}
use Rattle.std.specs.Vec.{vec_len}
use Rattle.doc_model.specs.ViewEdits.{shown_id}
use Rattle.censored_view.proofs.PlacedLemmas.{goes_at, put_there}
use Rattle.censored_view.proofs.columns.put_column.Goals as goal

pub insert-requires : goal.insert-requires
insert-requires c =
    (goes_at shown_id c.args.column c.args.columns.now.items c.as_slice.result.now c.column_index.result (vec_len c.args.columns.now) c.unwrap_or-index.result
    c.as_slice.ensures.value c.as_slice.ensures.len c.column_index.ensures (c.unwrap_or-index.ensures ∙ ap (unwrap_or c.column_index.result) c.len.ensures)).0

pub returns : goal.returns
returns c = record {
  placed =
      put_there shown_id c.args.column c.args.columns.now.items c.as_slice.result.now c.insert.new.self.items c.column_index.result (vec_len c.args.columns.now) c.unwrap_or-index.result
      c.requires.new c.as_slice.ensures.value c.as_slice.ensures.len c.column_index.ensures (c.unwrap_or-index.ensures ∙ ap (unwrap_or c.column_index.result) c.len.ensures)
      c.in_ok-insert.ensures.items;
}
