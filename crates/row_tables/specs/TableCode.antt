-- How the logic stores a table and a described column.
use Rattle.std.specs.Prelude.{ℕ, List, refl}
use Rattle.std.specs.Coded.{Coded, code_by, coded×, coded_ℕ, coded_list}
use Rattle.cell_types.specs.declared.value.CellValue.{CellValue}
use Rattle.cell_types.specs.contracts.value.CellValue as value
use Rattle.doc_model.specs.declared.column.ColDef.{ColDef}
use Rattle.doc_model.specs.contracts.column.ColDef as column
use Rattle.doc_model.specs.Document.{Table, Document}
use Rattle.doc_model.specs.Schema.{Described}

abbrev pub coded_table : Coded Table
coded_table =
    code_by (List ℕ × (ℕ × (List ColDef × (List ℕ × List (List CellValue)))))
    (coded× (coded_list coded_ℕ) (coded× coded_ℕ (coded× (coded_list column.the_row.coded)
    (coded× (coded_list coded_ℕ) (coded_list (coded_list value.the_row.coded))))))
    (λ t. (t.id, (t.row, (t.grid.columns, (t.grid.rows, t.grid.cells)))))
    (λ p. record {
      id = p.0;
      row = p.1.0;
      grid = record { columns = p.1.1.0; rows = p.1.1.1.0; cells = p.1.1.1.1 };
    }) (λ _. refl)

abbrev pub coded_described : Coded Described
coded_described =
    code_by (ℕ × ColDef) (coded× coded_ℕ column.the_row.coded) (λ e. (e.parent, e.column))
    (λ p. record { parent = p.0; column = p.1 }) (λ _. refl)

abbrev pub coded_document : Coded Document
coded_document = coded_list coded_table
