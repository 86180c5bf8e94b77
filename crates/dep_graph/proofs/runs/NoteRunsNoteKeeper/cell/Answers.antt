use Rattle.std.proofs.Common.{rules, ◌++◌, ◌∷◌, [], ap, ◌∙◌, ◌≡◌, refl, ◌+◌, ◌-◌, ◌<◌, length, vec_len, arith}
use Rattle.cell_types.specs.declared.cell.Read.TheVariants.{Cell}
use Rattle.formula_eval.specs.declared.note.Note.TheVariants as note
use Rattle.formula_eval.specs.Reader.{cell_at}
use Rattle.dep_graph.proofs.RunLaws.{notes_last, notes_of_more, on_ok}
use Rattle.dep_graph.proofs.runs.NoteRunsNoteKeeper.cell.Goals as goal

pub returns-then-is_of : goal.returns-then-is_of
returns-then-is_of c =
    let runs = c.self.inside.runs in
    let n = note.Read (Cell (cell_at c.args.table.now c.args.column.now c.args.row)) in
    let len : length runs.items ≡ vec_len runs = search rules in
    let some : 0 < vec_len runs = c.in-Some.ensures.variant.0 refl in
    let size : (vec_len runs - 1) + 1 ≡ length runs.items = omega (arith, len, some) in
    on_ok c.push_row.result
    (λ pushed. notes_last runs.items (vec_len runs - 1) c.in-Some.run'.now c.push_row.new.run n size c.in-Some.ensures.value
    (notes_of_more c.in-Some.run'.now c.push_row.new.run c.args.row n pushed.0 pushed.1 (c.is_of.ensures c.if-is_of.true c.args.row)) ∙ ap (λ l. l ++ n ∷ []) c.self.view_is) c.push_row.ensures
