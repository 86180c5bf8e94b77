use Rattle.std.proofs.Common.{◌∙◌, fold, take, sym, ap}
use Rattle.std.proofs.lemmas.List.{take_all}
use Rattle.std.proofs.lemmas.List.Sums.{fold_more}
use Rattle.serde_json.specs.Data.{no_members, object}
use Rattle.serde_json.proofs.Views.{view-Object}
use Rattle.grist_json.specs.Values.{values_data}
use Rattle.grist_json.specs.Actions.{put_column}
use Rattle.grist_json.proofs.PlainLemmas.{put_same}
use Rattle.grist_json.proofs.printed_actions.columns_value.Goals as goal

pub loop-column-preserved : goal.loop-column-preserved
loop-column-preserved c =
    let columns = c.args.columns.now in
    let i = c.loop-column.column-index in
    c.in_ok-put.ensures.ok
    ∙ put_same c.as_str.ensures.value (c.in_ok-values.ensures ∙ ap values_data c.as_slice.ensures) c.loop-column.invariant
    ∙ ap (put_column (fold put_column no_members (take i columns))) c.column-item.is
    ∙ sym (fold_more put_column no_members columns i c.column-item.result c.loop-column-test.true)

pub returns : goal.returns
returns c =
    view-Object c.loop-column.members
    ∙ ap object (c.loop-column.invariant ∙ ap (fold put_column no_members) (take_all c.loop-column.column-index c.args.columns.now c.loop-column-test.false))
