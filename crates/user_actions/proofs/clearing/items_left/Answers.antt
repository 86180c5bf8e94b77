use Rattle.std.proofs.Common.{◌≡◌, ◌∙◌, ◌++◌, ◌∷◌, [], ap, not, filter, get_or, Vec, Global, rules}
use Rattle.cell_types.specs.declared.value.CellItem.{CellItem}
use Rattle.user_actions.specs.References.{is_gone}
use Rattle.user_actions.proofs.LoopLemmas.{filter_taken, filter_left}
use Rattle.user_actions.proofs.clearing.items_left.Goals as goal
use Rattle.user_actions.proofs.clearing.items_left.Goals.{then-not-is_gone+in_ok-clone+in_ok-push, else-not-is_gone}

pub loop-item-preserved : goal.loop-item-preserved
loop-item-preserved c =
    let stays = λ (i : CellItem). not (is_gone c.args.gone.now i) in
    let items = c.args.items.now in
    let x = c.item-item.result in
    let told : not c.is_gone.result ≡ stays (get_or items c.loop-item.item-index x) = ap not c.is_gone.ensures ∙ ap stays c.item-item.is in
    elim c.if-not-is_gone.branch [
      | then-not-is_gone+in_ok-clone+in_ok-push w ↦
          let same : w.in_ok-clone.field-0 ≡ x = search rules in
          filter_taken stays items c.loop-item.item-index x c.loop-item.left.items c.if-not-is_gone.left.items (filter stays items) (not c.is_gone.result) c.loop-item-test.true told c.loop-item.invariant
          w.push.new.self.items (ap not w.if-not-is_gone.true) (ap (λ (v : Vec CellItem Global). v.items) w.left-is) (w.in_ok-push.ensures.items ∙ ap (λ i. c.loop-item.left.items ++ i ∷ []) (same ∙ c.item-item.is))
      | else-not-is_gone w ↦
          filter_left stays items c.loop-item.item-index x c.loop-item.left.items c.if-not-is_gone.left.items (filter stays items) (not c.is_gone.result) c.loop-item-test.true told c.loop-item.invariant
          (ap not w.if-not-is_gone.false) (ap (λ (v : Vec CellItem Global). v.items) w.left-is)
    ]
