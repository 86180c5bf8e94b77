-- Laws of records.
use Rattle.std.specs.Prelude.{◌≡◌, ℕ, List, true}
use Rattle.std.specs.List.{list_all}
use Rattle.record_lines.specs.declared.records.Kept.{Kept}
use Rattle.grist_json.specs.Reading.{is_whole}
use Rattle.record_lines.specs.Printable.{is_printable}
use Rattle.record_lines.specs.Printed.{record_data}
use Rattle.record_lines.specs.Records.{IsRecord, SpellsRecord}

-- bytes spell at most one record
abbrev pub OneRecord : Type 0
OneRecord = (bytes : List ℕ) (k l : Kept) → SpellsRecord k bytes → SpellsRecord l bytes → k ≡ l

-- the JSON that is printed of a record stands for it
abbrev pub PrintedRecord : Type 0
PrintedRecord =
    (k : Kept) → is_whole k.number ≡ true → list_all is_printable k.actions ≡ true
    → IsRecord k (record_data k.number k.actions)
