-- The numbers and the names by which replies tell refusals.
use Rattle.std.specs.Prelude.{ℕ, List, codes}
use Rattle.doc_model.specs.declared.refusal.Refusal.{Refusal}
use Rattle.doc_model.specs.declared.refusal.Refusal.TheVariants as refusal

abbrev pub refusal_number : Refusal → ℕ
refusal_number refusal.BadLine = 1
refusal_number refusal.LineTooLong = 2
refusal_number refusal.NotOpen = 3
refusal_number refusal.AlreadyOpen = 4
refusal_number refusal.UnknownToken = 5
refusal_number refusal.NoSuchTable = 6
refusal_number refusal.NoSuchColumn = 7
refusal_number refusal.NoSuchRow = 8
refusal_number refusal.DuplicateRow = 9
refusal_number refusal.MetaTable = 10
refusal_number refusal.FormulaColumn = 11
refusal_number refusal.BadValue = 12
refusal_number refusal.BadRule = 13
refusal_number refusal.BadName = 14
refusal_number refusal.Limit = 15
refusal_number refusal.NoSuchBundle = 16
refusal_number refusal.AlreadyUndone = 17
refusal_number refusal.UndoStale = 18
refusal_number refusal.StoreFault = 19
refusal_number refusal.Denied = 20
refusal_number refusal.Lagged = 21
refusal_number refusal.Unresolved = 22

abbrev pub refusal_name : Refusal → List ℕ
refusal_name refusal.BadLine = codes "BadLine"
refusal_name refusal.LineTooLong = codes "LineTooLong"
refusal_name refusal.NotOpen = codes "NotOpen"
refusal_name refusal.AlreadyOpen = codes "AlreadyOpen"
refusal_name refusal.UnknownToken = codes "UnknownToken"
refusal_name refusal.NoSuchTable = codes "NoSuchTable"
refusal_name refusal.NoSuchColumn = codes "NoSuchColumn"
refusal_name refusal.NoSuchRow = codes "NoSuchRow"
refusal_name refusal.DuplicateRow = codes "DuplicateRow"
refusal_name refusal.MetaTable = codes "MetaTable"
refusal_name refusal.FormulaColumn = codes "FormulaColumn"
refusal_name refusal.BadValue = codes "BadValue"
refusal_name refusal.BadRule = codes "BadRule"
refusal_name refusal.BadName = codes "BadName"
refusal_name refusal.Limit = codes "Limit"
refusal_name refusal.NoSuchBundle = codes "NoSuchBundle"
refusal_name refusal.AlreadyUndone = codes "AlreadyUndone"
refusal_name refusal.UndoStale = codes "UndoStale"
refusal_name refusal.StoreFault = codes "StoreFault"
refusal_name refusal.Denied = codes "Denied"
refusal_name refusal.Lagged = codes "Lagged"
refusal_name refusal.Unresolved = codes "Unresolved"
