use Rattle.std.proofs.Common.{◌≡◌, ◌∙◌, ap, sym, not, filter, true}
use Rattle.cell_types.specs.declared.value.CellItem.{CellItem}
use Rattle.cell_types.specs.declared.value.CellValue.TheVariants as value
use Rattle.doc_model.proofs.Choices.{cond_true}
use Rattle.user_actions.specs.References.{cleared_list, is_gone, list_or_null, name_gone}
use Rattle.user_actions.proofs.clearing.cleared_list.Goals as goal

pub returns-in_ok-items_left-in-List : goal.returns-in_ok-items_left-in-List
returns-in_ok-items_left-in-List c =
    let gone = c.args.gone.now in
    let items = c.in-List.items in
    let stays = λ (i : CellItem). not (is_gone gone i) in
    let named : name_gone gone items ≡ true = sym (ap (name_gone gone) c.as_slice.ensures) ∙ sym c.name_gone.ensures ∙ c.if-name_gone.true in
    c.list_or_null.ensures ∙ ap list_or_null (c.in_ok-items_left-in-List.ensures ∙ ap (filter stays) c.as_slice-in-List.ensures)
    ∙ sym (cond_true (name_gone gone items) (list_or_null (filter stays items)) (value.List items) named)
    ∙ sym (ap (cleared_list gone) c.in-List.is)
