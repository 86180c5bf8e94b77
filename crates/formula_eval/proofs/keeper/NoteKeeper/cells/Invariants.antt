use Rattle.std.proofs.Common.{◌≡◌, ◌++◌, drop, map}
use Rattle.formula_eval.specs.Asked.{read_note}
use Rattle.formula_eval.proofs.keeper.NoteKeeper.cells.Given as goal

abbrev pub invariant-loop-row : goal.invariant-loop-row
invariant-loop-row g l =
    g.Self.NoteKeeper.noted l.self ++ map (read_note l.table l.column) (drop l.row-index l.rows)
    ≡ g.Self.NoteKeeper.noted l.initial.self ++ map (read_note l.table l.column) l.rows
