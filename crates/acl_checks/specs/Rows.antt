-- Rows as the checks read them: kept ones, and those that are in the document.
use Rattle.std.specs.Prelude.{List}
use Rattle.doc_model.specs.Document.{Document}
use Rattle.acl_formula.specs.RuleRow.{RuleRow}
use Rattle.acl_checks.specs.declared.checked_row.CheckedRow.{CheckedRow}
use Rattle.acl_checks.specs.declared.checked_row.CheckedRow.TheVariants as row
use Rattle.acl_checks.specs.Checks.{row_at}
use Rattle.acl_checks.specs.BeforeStep.{kept_row}

-- the row, where the tables are seen as a document
abbrev pub row_told : {D : Type 0} → (D → Document) → CheckedRow D → RuleRow
row_told document (row.Kept k) = kept_row k.now
row_told document (row.There tables table r) = row_at (document tables.now) table.now r
