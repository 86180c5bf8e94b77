-- The ids of the schema tables and of their columns.
use Rattle.std.specs.Prelude.{◌≡◌, codes}
use Rattle.meta_schema.specs.declared.schema_names.SchemaNames.{SchemaNames}
use Rattle.doc_model.specs.MetadataIds.{tables_id, columns_id}

-- each is the id that it is called for
pub record AreSchemaNames (names : SchemaNames) : Type 0 where
  pub tables : names.tables ≡ tables_id
  pub table_id : names.table_id ≡ codes "tableId"
  pub columns : names.columns ≡ columns_id
  pub parent_id : names.parent_id ≡ codes "parentId"
  pub col_id : names.col_id ≡ codes "colId"
  pub type_text : names.type_text ≡ codes "type"
  pub is_formula : names.is_formula ≡ codes "isFormula"
  pub formula : names.formula ≡ codes "formula"
