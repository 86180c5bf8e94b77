use Rattle.std.proofs.Common.{arith}
use Rattle.std.proofs.lemmas.Grind.{common_steps}
use Rattle.shot_cells.proofs.SeenLemmas.{setting_next, setting_starts}
use Rattle.shot_cells.proofs.places.set_values.Goals as goal

pub loop-value-init : goal.loop-value-init
loop-value-init c = setting_starts c.args.tables.now c.args.cells.now c.args.values.items c.requires.beside

pub loop-value-preserved : goal.loop-value-preserved
loop-value-preserved c =
    setting_next c.args.tables.now c.args.cells.now c.args.values.items c.loop-value.values.items c.pop.new.self.items c.in-Some.value c.loop-value.tables c.index-cells-len.result
    c.loop-value.invariant c.in-Some.ensures.items (λ lt. grind (arith, common_steps, c.index-cells-len.is, c.len.ensures)) c.set_value.new.tables c.set_value.ensures
