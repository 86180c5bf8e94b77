-- A script: what the two sessions of a generated run ask for, request by request.
use Rattle.std.specs.Prelude.{ℕ, zero, suc, ◌+◌, ◌-◌, ◌*◌, ◌/◌, ◌%◌, min, pos, ◌-ℤ◌, true, false, List, [], ◌∷◌, ◌++◌, map, codes, nat_eq, Some, None, if◌then◌else◌}
use Rattle.std.specs.List.{range_with_len}
use Rattle.cell_types.specs.declared.value.CellValue.{CellValue}
use Rattle.cell_types.specs.declared.value.CellValue.TheVariants as value
use Rattle.doc_model.specs.declared.entry.Entry.{Entry}
use Rattle.doc_model.specs.declared.request.Request.{Request}
use Rattle.doc_model.specs.declared.request.Request.TheVariants.{Open, Apply, Sync}
use Rattle.doc_model.specs.declared.user.User.{User}
use Rattle.doc_model.specs.declared.user_action.UserAction.{UserAction}
use Rattle.doc_model.specs.declared.user_action.UserAction.TheVariants.{Add, Update, AddTable}
use Rattle.doc_model.specs.declared.user_action.UserCol.{UserCol}
use Rattle.doc_model.specs.declared.user_action.UserColumn.{UserColumn}
use Rattle.run_generator.specs.Draws.{drawn}

-- an owner and an editor
abbrev pub owner : User
owner = record {
  token = codes "g1";
  access = Some (codes "owners");
  email = codes "g1@x.org";
  name = codes "g1";
  id = pos 1;
}

abbrev pub editor : User
editor = record {
  token = codes "g2";
  access = Some (codes "editors");
  email = codes "g2@x.org";
  name = codes "g2";
  id = pos 2;
}

abbrev pub users : List User
users = owner ∷ editor ∷ []

-- a request that no line had
abbrev pub asks : List ℕ → Request → Entry
asks session r = record { session = session; request = r; size = 0; kept = true }

-- the owner's session and the editor's
abbrev pub first_session : List ℕ
first_session = codes "s1"

abbrev pub second_session : List ℕ
second_session = codes "s2"

abbrev pub first_asks : Request → Entry
first_asks r = asks first_session r

abbrev pub second_asks : Request → Entry
second_asks r = asks second_session r

abbrev pub bundle : UserAction → Request
bundle action = Apply (action ∷ [])

-- columns of a new table: of data, and of a formula
abbrev pub data_column : List ℕ → UserCol
data_column id = record { id = id; ty = Some (codes "Int"); is_formula = None; formula = None }

abbrev pub formula_column : List ℕ → List ℕ → UserCol
formula_column id formula =
    record { id = id; ty = Some (codes "Int"); is_formula = None; formula = Some formula }

abbrev pub work : List ℕ
work = codes "Work"

abbrev pub adds_table : UserAction
adds_table = AddTable work (data_column (codes "N") ∷ data_column (codes "K")
    ∷ formula_column (codes "Q") (codes "$N // 3")
    ∷ formula_column (codes "S") (codes "SUM(Work.lookupRecords(K=$K).N)") ∷ [])

-- one value, or one value for each record
abbrev pub column : List ℕ → List CellValue → UserColumn
column id values = record { id = id; values = values }

abbrev pub text_column : List ℕ → List ℕ → UserColumn
text_column id text = column id (value.Text text ∷ [])

-- one record more
abbrev pub adds_record : List ℕ → List UserColumn → UserAction
adds_record table columns = Add table true 1 false columns

-- editors may not update rows of the table whose N is below zero
abbrev pub adds_resource : UserAction
adds_resource = adds_record (codes "_grist_ACLResources")
    (text_column (codes "colIds") (codes "*") ∷ text_column (codes "tableId") work ∷ [])

abbrev pub adds_memo_rule : UserAction
adds_memo_rule = adds_record (codes "_grist_ACLRules")
    (text_column (codes "aclFormula") (codes "user.Access == EDITOR and rec.N < 0")
    ∷ text_column (codes "memo") (codes "negative")
    ∷ text_column (codes "permissionsText") (codes "-U")
    ∷ column (codes "resource") (value.Int (pos 1) ∷ []) ∷ [])

abbrev pub adds_rule : List UserAction
adds_rule = adds_resource ∷ adds_memo_rule ∷ []

-- the values of N and K: N from a number drawn, and K of a row
abbrev pub n_from : ℕ → CellValue
n_from x = value.Int (pos (x % 1000) -ℤ pos 500)

abbrev pub n_of : ℕ → ℕ → CellValue
n_of n row = n_from (drawn n (2 * row - 1))

abbrev pub k_of : ℕ → ℕ → CellValue
k_of n row = value.Int (pos (drawn n (2 * row) % 100))

-- how many rows a bundle adds
abbrev pub rows_at_once : ℕ
rows_at_once = 500

-- how many bundles add n rows
abbrev pub bundles_of : ℕ → ℕ
bundles_of n = (n + 499) / rows_at_once

-- how many rows the bundle of that number adds, from 0 on: the last one adds the rest
abbrev pub rows_in : ℕ → ℕ → ℕ
rows_in n number = min rows_at_once (n - rows_at_once * number)

-- the rows of a bundle
abbrev pub rows_of : ℕ → ℕ → List ℕ
rows_of n number = range_with_len (rows_at_once * number + 1) (rows_in n number)

abbrev pub adds_rows : ℕ → ℕ → UserAction
adds_rows n number = Add work false (rows_in n number) false
    (column (codes "K") (map (k_of n) (rows_of n number))
    ∷ column (codes "N") (map (n_of n) (rows_of n number)) ∷ [])

-- so many bundles from that number on; behind each tenth the editor's session is heard
abbrev pub pause_after : ℕ → List Entry
pause_after number = if nat_eq ((number + 1) % 10) 0 then second_asks Sync ∷ [] else []

abbrev pub all_adds : ℕ → ℕ → ℕ → List Entry
all_adds n number zero = []
all_adds n number (suc more) =
    first_asks (bundle (adds_rows n number)) ∷ pause_after number ++ all_adds n (number + 1) more

-- the editor updates N of a row
abbrev pub updates_row : ℕ → ℕ → UserAction
updates_row n row = Update work true (pos row ∷ [])
    (column (codes "N") (n_from (drawn n (2 * n + row)) ∷ []) ∷ [])

-- so many rows from that one on
abbrev pub all_updates : ℕ → ℕ → ℕ → List Entry
all_updates n row zero = []
all_updates n row (suc more) =
    second_asks (bundle (updates_row n row)) ∷ all_updates n (row + 1) more

-- how many rows are updated
abbrev pub updated_rows : ℕ → ℕ
updated_rows n = min n 200

abbrev pub last_asks : List Entry
last_asks = first_asks Sync ∷ second_asks Sync ∷ []

-- what is asked for once the table and its rule are there
abbrev pub asks_of_rows : ℕ → List Entry
asks_of_rows n =
    all_adds n 0 (bundles_of n) ++ all_updates n 1 (updated_rows n) ++ last_asks

-- the script of n rows
abbrev pub script : ℕ → List Entry
script n = first_asks (Open (codes "g1")) ∷ second_asks (Open (codes "g2"))
    ∷ first_asks (bundle adds_table) ∷ first_asks (Apply adds_rule) ∷ asks_of_rows n
