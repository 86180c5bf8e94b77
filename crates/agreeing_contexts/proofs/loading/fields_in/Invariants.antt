use Rattle.std.proofs.Common.{◌≡◌, [], drop}
use Rattle.agreeing_contexts.specs.Fields.{gathered}
use Rattle.agreeing_contexts.specs.Rows.{row_fields}
use Rattle.agreeing_contexts.proofs.loading.fields_in.Given as goal

-- what is left completes it
abbrev pub invariant-loop-row : goal.invariant-loop-row
invariant-loop-row g l =
    gathered l.fields (row_fields (g.D.DocReader.document l.tables) (drop l.row-index l.rows))
    ≡ gathered [] (row_fields (g.D.DocReader.document l.tables) l.rows)
