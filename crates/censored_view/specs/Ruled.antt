-- Shown columns, each with what decides its cells.
use Rattle.std.specs.Prelude.{⊤, List, map, IfSome}
use Rattle.std.specs.List.{AllByRecursion}
use Rattle.doc_model.specs.declared.view.ViewCol.{ViewCol}
use Rattle.censored_view.specs.declared.ruled_columns.Deciding.{Deciding}
use Rattle.censored_view.specs.declared.ruled_columns.Deciding.TheVariants as by
use Rattle.censored_view.specs.declared.ruled_columns.RuledColumn.{RuledColumn}
use Rattle.censored_view.specs.declared.ruled_columns.RuledTable.{RuledTable}
use Rattle.censored_view.specs.Readable.{IsAsRow, Readable}
use Rattle.censored_view.specs.Tested.{AreOwnTests, AreRowTests}

-- the columns, as they are shown
abbrev pub columns_in : List RuledColumn → List ViewCol
columns_in cs = map (λ (c : RuledColumn). c.column.now) cs

-- a column without rules of its own has its cells decided as their rows alone, and tests decide as
-- the rules do
abbrev pub IsDecidedBy : Readable → ViewCol → Deciding → Type 0
IsDecidedBy x d by.Rows = IsAsRow x d.id
IsDecidedBy x d by.Asked = ⊤
IsDecidedBy x d (by.Tests t) = AreOwnTests x d.id t

abbrev pub IsRuled : Readable → RuledColumn → Type 0
IsRuled x c = IsDecidedBy x c.column.now c.deciding

abbrev pub AreRuled : Readable → List RuledColumn → Type 0
AreRuled x cs = AllByRecursion (IsRuled x) cs

-- the same of a table's columns, and of its rows alone
pub record IsRuledTable (x : Readable) (t : RuledTable) : Type 0 where
  pub rows : IfSome t.tests (AreRowTests x)
  pub columns : AreRuled x t.columns.items
