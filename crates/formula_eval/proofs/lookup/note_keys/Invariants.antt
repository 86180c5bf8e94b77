use Rattle.std.proofs.Common.{◌≡◌, ◌++◌, drop, map}
use Rattle.formula_eval.specs.Lookup.{key_notes}
use Rattle.formula_eval.proofs.lookup.note_keys.Given as goal

abbrev pub invariant-loop-key : goal.invariant-loop-key
invariant-loop-key g l = g.N.NoteKeeper.noted l.notes ++ key_notes l.table (map (λ k. k.name) (drop l.key-index l.keys)) ≡ g.N.NoteKeeper.noted l.fn.notes ++ key_notes l.table (map (λ k. k.name) l.keys)
