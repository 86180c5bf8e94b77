-- What of a document the tests of validity ask.
use Rattle.std.specs.Prelude.{ℕ, Bool, true, not, ◌&&◌, ◌||◌, nat_le, ◌+◌, List, [], ◌∷◌}
use Rattle.doc_model.specs.declared.column.CellColumn.{CellColumn}
use Rattle.doc_model.specs.declared.column.ColDef.{ColDef}
use Rattle.doc_model.specs.declared.column.ColInfo.{ColInfo}
use Rattle.doc_model.specs.ByIds.{has_id}
use Rattle.doc_model.specs.Column.{column_id, is_sound_info}
use Rattle.doc_model.specs.Document.{Document}
use Rattle.doc_model.specs.Grid.{Grid}
use Rattle.doc_model.specs.MetadataIds.{columns_id}
use Rattle.doc_model.specs.Rows.{all_in, has_no_duplicates, none_in}
use Rattle.doc_model.specs.Valid.{all_null, are_free, from_one, gives_data, is_new_column}

-- whether the numbers ascend from that one on
abbrev pub ascends_from : ℕ → List ℕ → Bool
ascends_from least [] = true
ascends_from least (r ∷ rows) = nat_le least r && ascends_from (r + 1) rows

-- what a BulkAdd asks of its table
abbrev pub takes_records : List ℕ → List CellColumn → Grid ColDef → Bool
takes_records rows ks g =
    has_no_duplicates rows && from_one rows && none_in rows g.rows && gives_data g rows ks

-- what a BulkUpdate asks of its table
abbrev pub has_records : List ℕ → List CellColumn → Grid ColDef → Bool
has_records rows ks g =
    has_no_duplicates rows && from_one rows && all_in rows g.rows && gives_data g rows ks

-- what a BulkRemove asks of its table
abbrev pub has_rows : List ℕ → Grid ColDef → Bool
has_rows rows g = has_no_duplicates rows && all_in rows g.rows

-- what an AddColumn asks of its table
abbrev pub takes_column : Document → ColDef → Grid ColDef → Bool
takes_column s d g =
    is_new_column g d.id && are_free s columns_id (d.row ∷ []) && is_sound_info d.info

-- what a RenameColumn asks of its table
abbrev pub takes_name : List ℕ → List ℕ → Grid ColDef → Bool
takes_name column new g = has_id column_id g.columns column && is_new_column g new

-- what a ModifyColumn asks of its table
abbrev pub takes_info : List ℕ → ColInfo → Grid ColDef → Bool
takes_info column info g =
    has_id column_id g.columns column && is_sound_info info
    && (not info.is_formula || all_null g column)
