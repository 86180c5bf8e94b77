-- Tests that decide as a context does.
use Rattle.std.specs.Prelude.{false, List, ℕ, Some, None, unwrap_or, ◌≡◌}
use Rattle.acl_formula.specs.RuleRow.{RuleRow}
use Rattle.censored_view.specs.declared.row_tests.RowTests.{RowTests}
use Rattle.censored_view.specs.Readable.{Readable}
use Rattle.censored_view.specs.RowTests.{answer_of}

-- of each row, whether it may be read alone
abbrev pub AreRowTests : Readable → RowTests → Type 0
AreRowTests x t = (row : RuleRow) → x.cell None row ≡ unwrap_or (answer_of t row) false

-- of each cell of a column, whether it may be read: where they say nothing, as its row alone
abbrev pub AreOwnTests : Readable → List ℕ → RowTests → Type 0
AreOwnTests x column t =
    (row : RuleRow) → x.cell (Some column) row ≡ unwrap_or (answer_of t row) (x.cell None row)
