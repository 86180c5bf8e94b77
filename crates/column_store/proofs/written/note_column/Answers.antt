use Rattle.std.proofs.Common.{ℕ, List, [], ◌∷◌, ◌++◌, ◌≡◌, drop, refl, sym, ap, ◌∙◌, append-nil}
use Rattle.std.proofs.lemmas.List.{drop_all}
use Rattle.row_tables.specs.InPlace.{column_writes}
use Rattle.column_store.proofs.written.note_column.Goals as goal

none_written : (there : List ℕ) (column : ℕ) (rows : List ℕ) → column_writes there column rows [] ≡ []
none_written there column [] = refl
none_written there column (q ∷ rows) = refl

pub returns-in_default : goal.returns-in_default
returns-in_default c =
    sym (append-nil c.loop-index.writes.items)
    ∙ ap (λ ws. c.loop-index.writes.items ++ ws) (sym (
    ap (column_writes c.args.there.now c.args.column (drop c.loop-index.index c.args.rows.now)) (drop_all c.loop-index.index c.args.values.now c.in_default.ensures.lookup.3)
    ∙ none_written c.args.there.now c.args.column (drop c.loop-index.index c.args.rows.now)))
    ∙ c.loop-index.invariant
