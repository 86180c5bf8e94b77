use Rattle.std.proofs.Common.{◌∙◌, ap}
use Rattle.rename_marks.specs.declared.marking.Marking.{Marking}
use Rattle.rename_marks.specs.Noted.{walked}
use Rattle.rename_marks.specs.Scope.{scope_at}
use Rattle.rename_marks.proofs.WalkLemmas.{fresh_count, fresh_marks}
use Rattle.rename_marks.proofs.formula_marks.mark_formula.Goals as goal

pub returns-clause-marks : goal.returns-clause-marks
returns-clause-marks c =
    let s = scope_at c.args.place.now in
    fresh_marks c.args.rename.now s c.args.formula.now c.note_formula.new.found
    (c.in_ok-note_formula.ensures ∙ ap (λ (m : Marking). walked c.args.rename.now s m c.args.formula.now) c.new-found.ensures)

pub returns-clause-unresolved : goal.returns-clause-unresolved
returns-clause-unresolved c =
    let s = scope_at c.args.place.now in
    fresh_count c.args.rename.now s c.args.formula.now c.note_formula.new.found
    (c.in_ok-note_formula.ensures ∙ ap (λ (m : Marking). walked c.args.rename.now s m c.args.formula.now) c.new-found.ensures)
