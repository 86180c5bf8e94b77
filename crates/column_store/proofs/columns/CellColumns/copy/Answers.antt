use Rattle.std.proofs.Common.{sym, ap, subst, ◌∙◌}
use Rattle.column_store.specs.Crossed.{HaveHeight, all_items}
use Rattle.column_store.proofs.FrontLaws.{room_none}
use Rattle.column_store.proofs.columns.CellColumns.copy.Goals as goal

pub invariant_of-result : goal.invariant_of-result
invariant_of-result c = (
  subst (HaveHeight c.self.inside.height) (sym (c.in_ok-columns.ensures ∙ ap all_items c.deref.ensures.value)) c.self.invariant.0,
  room_none c.in_ok-columns.columns.items,
)
