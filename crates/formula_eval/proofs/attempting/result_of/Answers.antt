use Rattle.cell_types.specs.declared.value.CellValue.{CellValue}
use Rattle.formula_eval.specs.Reader.{Reader}
use Rattle.formula_eval.specs.Run.{done}
use Rattle.formula_eval.specs.Eval.{ev, as_result}
use Rattle.std.proofs.lemmas.Result.{err_from_is_err_and}
use Rattle.formula_eval.proofs.LookupEnds.{seq_halts}
use Rattle.formula_eval.proofs.attempting.result_of.Goals as goal

pub returns-in_err-value_of : goal.returns-in_err-value_of
returns-in_err-value_of g c =
    let rd : Reader = g.R.CellSource.told c.args.reader.now in
    let p = err_from_is_err_and c.from_residual.result c.from_residual.ensures.1 in
    rw (p.1, p.2)
    (seq_halts (λ (v : CellValue). v) (λ (v : CellValue). v) c.in_err-value_of.field-0.0 (ev rd c.args.at.now c.args.formula.now)
    (λ (v : CellValue). done (as_result v)) (g.N.NoteKeeper.noted c.args.notes.now) (g.N.NoteKeeper.noted c.value_of.new.notes) c.in_err-value_of.ensures)
