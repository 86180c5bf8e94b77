-- The words that user actions begin with.
use Rattle.std.specs.Prelude.{ℕ, List, codes, Option, Some, None, if◌then◌else◌}
use Rattle.std.specs.Str.{bytes_eq}
use Rattle.action_lines.specs.declared.kinds.ActionKind.{ActionKind}
use Rattle.action_lines.specs.declared.kinds.ActionKind.TheVariants as kind

abbrev pub kind_text : ActionKind → List ℕ
kind_text kind.AddRecord = codes "AddRecord"
kind_text kind.BulkAddRecord = codes "BulkAddRecord"
kind_text kind.UpdateRecord = codes "UpdateRecord"
kind_text kind.BulkUpdateRecord = codes "BulkUpdateRecord"
kind_text kind.RemoveRecord = codes "RemoveRecord"
kind_text kind.BulkRemoveRecord = codes "BulkRemoveRecord"
kind_text kind.AddTable = codes "AddTable"
kind_text kind.RemoveTable = codes "RemoveTable"
kind_text kind.RenameTable = codes "RenameTable"
kind_text kind.AddColumn = codes "AddColumn"
kind_text kind.RemoveColumn = codes "RemoveColumn"
kind_text kind.RenameColumn = codes "RenameColumn"
kind_text kind.ModifyColumn = codes "ModifyColumn"

abbrev pub kind_from : List ℕ → Option ActionKind
kind_from t =
    if bytes_eq t (codes "AddRecord") then Some kind.AddRecord
    else if bytes_eq t (codes "BulkAddRecord") then Some kind.BulkAddRecord
    else if bytes_eq t (codes "UpdateRecord") then Some kind.UpdateRecord
    else if bytes_eq t (codes "BulkUpdateRecord") then Some kind.BulkUpdateRecord
    else if bytes_eq t (codes "RemoveRecord") then Some kind.RemoveRecord
    else if bytes_eq t (codes "BulkRemoveRecord") then Some kind.BulkRemoveRecord
    else if bytes_eq t (codes "AddTable") then Some kind.AddTable
    else if bytes_eq t (codes "RemoveTable") then Some kind.RemoveTable
    else if bytes_eq t (codes "RenameTable") then Some kind.RenameTable
    else if bytes_eq t (codes "AddColumn") then Some kind.AddColumn
    else if bytes_eq t (codes "RemoveColumn") then Some kind.RemoveColumn
    else if bytes_eq t (codes "RenameColumn") then Some kind.RenameColumn
    else if bytes_eq t (codes "ModifyColumn") then Some kind.ModifyColumn else None
