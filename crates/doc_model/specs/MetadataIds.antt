-- The four metadata tables: the two schema tables and the two of the access rules.
use Rattle.std.specs.Prelude.{ℕ, Bool, ◌||◌, List, codes}
use Rattle.std.specs.Str.{bytes_eq}

-- the rows of this table describe the tables
unfoldable pub tables_id : List ℕ
tables_id = codes "_grist_Tables"

-- the rows of this table describe the columns
unfoldable pub columns_id : List ℕ
columns_id = codes "_grist_Tables_column"

unfoldable pub resources_id : List ℕ
resources_id = codes "_grist_ACLResources"

unfoldable pub rules_id : List ℕ
rules_id = codes "_grist_ACLRules"

abbrev pub is_schema_id : List ℕ → Bool
is_schema_id id = bytes_eq tables_id id || bytes_eq columns_id id

abbrev pub is_acl_id : List ℕ → Bool
is_acl_id id = bytes_eq resources_id id || bytes_eq rules_id id

abbrev pub is_metadata_id : List ℕ → Bool
is_metadata_id id = is_schema_id id || is_acl_id id
