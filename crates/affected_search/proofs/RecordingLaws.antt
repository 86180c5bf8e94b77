-- What one attempt records of a cell's reads.
use Rattle.std.proofs.Common.{List, ◌≡◌, refl, sym, ap, ◌∙◌, Option, Some}
use Rattle.cell_types.specs.declared.cell.CellId.{CellId}
use Rattle.cell_types.specs.declared.value.RowRef.{RowRef}
use Rattle.formula_parse.specs.Tree.{Tree}
use Rattle.formula_eval.specs.declared.note.Note.{Note}
use Rattle.formula_eval.specs.OfText.{evaluated_some, evaluated_text}
use Rattle.formula_eval.specs.Reader.{Reader}
use Rattle.formula_eval.specs.Run.{reads_of}
use Rattle.recalc.specs.Sheet.{evaluated, reads_by, row_of, run_of}
use Rattle.dep_graph.specs.Graph.{Graph, IsKept, IsSet}
use Rattle.dep_graph.proofs.NameLaws.{grown_same}
use Rattle.affected_search.specs.Recording.{RecordsCell}
use Rattle.affected_cells.specs.Noted.{notes_by}
use Rattle.affected_search.specs.NotedUpkeep.{RecordsNotes}
use Rattle.affected_search.proofs.NotedLaws.{set_notes_law}
use Rattle.affected_search.proofs.UpkeepLaws.{set_law}

pub records_cell : (x : Reader) (at : RowRef) (tree : Option Tree) (old new : Graph) (c : CellId) (notes : List Note) → at ≡ row_of c → (evaluated_some x at tree).notes ≡ notes → IsSet old new c notes → RecordsCell x tree old new c
unfolding evaluated_text
records_cell x at tree old new c notes here noted set s f e of is =
    set_law old new s c notes set
    (ap (reads_by s (λ d. Some (evaluated s d)) c) e ∙ ap (λ y. reads_of (run_of y c f).notes) (sym is) ∙ ap (λ o. reads_of (evaluated_some x (row_of c) o).notes) of
    ∙ ap (λ r. reads_of (evaluated_some x r tree).notes) (sym here) ∙ ap reads_of noted)

pub records_notes : (x : Reader) (at : RowRef) (tree : Option Tree) (old new : Graph) (c : CellId) (notes : List Note) → at ≡ row_of c → (evaluated_some x at tree).notes ≡ notes → IsSet old new c notes → RecordsNotes x tree old new c
unfolding evaluated_text
records_notes x at tree old new c notes here noted set s f e of is =
    set_notes_law old new s c notes set
    (ap (notes_by s (λ d. Some (evaluated s d)) c) e ∙ ap (λ y. (run_of y c f).notes) (sym is) ∙ ap (λ o. (evaluated_some x (row_of c) o).notes) of
    ∙ ap (λ r. (evaluated_some x r tree).notes) (sym here) ∙ noted)

pub kept_itself : (g : Graph) → IsKept g g
kept_itself g = record { reads = λ c. refl; grown = grown_same g.names }
