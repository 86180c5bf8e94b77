use Rattle.std.proofs.Common.{◌++◌, ◌∷◌, []}
use Rattle.std.proofs.lemmas.Result.{err_from_is_err_and}
use Rattle.cell_types.specs.declared.value.CellItem.{CellItem}
use Rattle.cell_types.specs.declared.value.CellValue.{CellValue}
use Rattle.formula_eval.specs.Asked.{read_note}
use Rattle.formula_eval.specs.Attribute.{item_of}
use Rattle.formula_eval.specs.Reader.{cell_at}
use Rattle.formula_eval.specs.Reading.{read_cell}
use Rattle.formula_eval.specs.Run.{done}
use Rattle.formula_eval.proofs.LookupEnds.{seq_halts}
use Rattle.formula_eval.proofs.attribute.item_told.Goals as goal

pub returns-in_err-told_value : goal.returns-in_err-told_value
returns-in_err-told_value c reader old kind told =
    let p = err_from_is_err_and c.from_residual.result c.from_residual.ensures.1 in
    rw (p.1, p.2)
    (seq_halts (λ (v : CellValue). v) (λ (i : CellItem). i) c.in_err-told_value.field-0.0 (read_cell reader (cell_at c.args.table.now c.args.column.now c.args.row))
    (λ (v : CellValue). done (item_of v)) old (old ++ read_note c.args.table.now c.args.column.now c.args.row ∷ []) (c.in_err-told_value.ensures reader old kind told))
