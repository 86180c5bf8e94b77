-- Look-ups in a whole document, and what changes of its parts keep.
use Rattle.std.proofs.Common.{ℕ, Bool, true, false, cond, ◌||◌, ◌&&◌, List, [], ◌∷◌, ◌++◌, map, ◌≡◌, refl, sym, ap, ◌∙◌, Option, Some, None}
use Rattle.std.proofs.lemmas.Bool.{false≢true, true≢false}
use Rattle.std.specs.Str.{bytes_eq}
use Rattle.cell_types.specs.declared.value.CellValue.TheVariants as value
use Rattle.doc_model.specs.declared.action.DocAction.{DocAction}
use Rattle.doc_model.specs.declared.column.ColDef.{ColDef}
use Rattle.doc_model.specs.MetadataIds.{tables_id, columns_id, resources_id, rules_id, is_schema_id, is_metadata_id}
use Rattle.doc_model.specs.ByIds.{find_id, has_id}
use Rattle.doc_model.specs.Grid.{Grid}
use Rattle.doc_model.specs.Document.{Table, Document, table_id, table_row, on_grid, with_table}
use Rattle.doc_model.specs.Schema.{Described, described_row, describe, all_columns, in_order, tables_columns, columns_columns, tables_grid, columns_grid, metadata_table, with_schema}
use Rattle.doc_model.specs.Valid.{passes, record_table, schema_table, rows_of, valid}
use Rattle.doc_model.specs.Apply.{effect, apply, apply_all, all_valid}
use Rattle.doc_model.proofs.Choices.{cond_true, cond_false}
use Rattle.doc_model.proofs.ByIdsLaws.{bytes_itself}
use Rattle.doc_model.proofs.ByRowLaws.{map-with_id}
use Rattle.doc_model.proofs.WholeLaws.{IsGood, IsPlain, plain_from, metadata_from, tables_columns_apart}

pub find_plain : (r u : Grid ColDef) (p : List Table) (id : List ℕ) → IsPlain id → find_id table_id id (with_schema r u p) ≡ find_id table_id id p
find_plain r u p id h =
    cond_false (bytes_eq tables_id id) (Some (metadata_table tables_id (tables_grid p))) (find_id table_id id (metadata_table columns_id (columns_grid p) ∷ metadata_table resources_id r ∷ metadata_table rules_id u ∷ p)) h.tables
    ∙ cond_false (bytes_eq columns_id id) (Some (metadata_table columns_id (columns_grid p))) (find_id table_id id (metadata_table resources_id r ∷ metadata_table rules_id u ∷ p)) h.columns
    ∙ cond_false (bytes_eq resources_id id) (Some (metadata_table resources_id r)) (find_id table_id id (metadata_table rules_id u ∷ p)) h.resources
    ∙ cond_false (bytes_eq rules_id id) (Some (metadata_table rules_id u)) (find_id table_id id p) h.rules

pub has_plain : (r u : Grid ColDef) (p : List Table) (id : List ℕ) → IsPlain id → has_id table_id (with_schema r u p) id ≡ has_id table_id p id
has_plain r u p id h =
    ap (λ b. b || (bytes_eq columns_id id || (bytes_eq resources_id id || (bytes_eq rules_id id || has_id table_id p id)))) h.tables
    ∙ ap (λ b. b || (bytes_eq resources_id id || (bytes_eq rules_id id || has_id table_id p id))) h.columns
    ∙ ap (λ b. b || (bytes_eq rules_id id || has_id table_id p id)) h.resources
    ∙ ap (λ b. b || has_id table_id p id) h.rules

-- an id that no table has is plain, and no plain table's
pub absent_parts : (r u : Grid ColDef) (p : List Table) (id : List ℕ) → has_id table_id (with_schema r u p) id ≡ false → IsPlain id × (has_id table_id p id ≡ false)
absent_parts r u p id h =
    let five : (bytes_eq tables_id id ≡ false) × (bytes_eq columns_id id ≡ false) × (bytes_eq resources_id id ≡ false) × (bytes_eq rules_id id ≡ false) × (has_id table_id p id ≡ false)
    = none_of (bytes_eq tables_id id) (bytes_eq columns_id id) (bytes_eq resources_id id) (bytes_eq rules_id id) (has_id table_id p id) h in
    (record { tables = five.0; columns = five.1; resources = five.2; rules = five.3 }, five.4)
  where
    none_of : (a b c d e : Bool) → (a || (b || (c || (d || e)))) ≡ false → (a ≡ false) × (b ≡ false) × (c ≡ false) × (d ≡ false) × (e ≡ false)
    none_of true b c d e h = absurd (true≢false h)
    none_of false true c d e h = absurd (true≢false h)
    none_of false false true d e h = absurd (true≢false h)
    none_of false false false true e h = absurd (true≢false h)
    none_of false false false false e h = (refl, refl, refl, refl, h)

pub schema_table_plain : (r u : Grid ColDef) (p : List Table) (id : List ℕ) → IsPlain id → schema_table (with_schema r u p) id ≡ find_id table_id id p
schema_table_plain r u p id h = cond_false (is_metadata_id id) None (find_id table_id id (with_schema r u p)) (metadata_from id h) ∙ find_plain r u p id h

schema_false : (id : List ℕ) → IsPlain id → is_schema_id id ≡ false
schema_false id h = ap (λ b. b || bytes_eq columns_id id) h.tables ∙ h.columns

pub record_table_plain : (r u : Grid ColDef) (p : List Table) (id : List ℕ) → IsPlain id → record_table (with_schema r u p) id ≡ find_id table_id id p
record_table_plain r u p id h = cond_false (is_schema_id id) None (find_id table_id id (with_schema r u p)) (schema_false id h) ∙ find_plain r u p id h

-- the table of a schema action is a plain one
pub schema_table_parts : (r u : Grid ColDef) (p : List Table) (id : List ℕ) (t : Table) → schema_table (with_schema r u p) id ≡ Some t → IsPlain id × (find_id table_id id p ≡ Some t)
schema_table_parts r u p id t e =
    elim (is_metadata_id id) as (λ b. is_metadata_id id ≡ b → cond b None (find_id table_id id (with_schema r u p)) ≡ Some t → IsPlain id × (find_id table_id id p ≡ Some t)) [
      | true ↦ λ _ e. absurd (cc)
      | false ↦ λ no e. (plain_from id no, sym (find_plain r u p id (plain_from id no)) ∙ e)
    ] refl e

-- what is there and passes
pub passes_parts : {X : Type 0} (o : Option X) (test : X → Bool) → passes o test ≡ true → (x : X) × ((o ≡ Some x) × (test x ≡ true))
passes_parts None test e = absurd (false≢true e)
passes_parts (Some x) test e = (x, (refl, e))

pub rows_of-tables : (r u : Grid ColDef) (p : List Table) → rows_of (with_schema r u p) tables_id ≡ map table_row p
rows_of-tables r u p =
    ap (λ o. elim o as (λ _. List ℕ) [ None ↦ [] | Some t ↦ t.grid.rows ])
    (cond_true (bytes_eq tables_id tables_id) (Some (metadata_table tables_id (tables_grid p))) (find_id table_id tables_id (metadata_table columns_id (columns_grid p) ∷ metadata_table resources_id r ∷ metadata_table rules_id u ∷ p)) (bytes_itself tables_id))

pub rows_of-columns : (r u : Grid ColDef) (p : List Table) → rows_of (with_schema r u p) columns_id ≡ map described_row (in_order (all_columns p))
rows_of-columns r u p =
    ap (λ o. elim o as (λ _. List ℕ) [ None ↦ [] | Some t ↦ t.grid.rows ])
    (cond_false (bytes_eq tables_id columns_id) (Some (metadata_table tables_id (tables_grid p))) (find_id table_id columns_id (metadata_table columns_id (columns_grid p) ∷ metadata_table resources_id r ∷ metadata_table rules_id u ∷ p)) tables_columns_apart
    ∙ cond_true (bytes_eq columns_id columns_id) (Some (metadata_table columns_id (columns_grid p))) (find_id table_id columns_id (metadata_table resources_id r ∷ metadata_table rules_id u ∷ p)) (bytes_itself columns_id))

-- ---- changes of a plain table

-- a change that keeps what describes a table leaves the schema tables
abbrev pub KeepsColumns : (Grid ColDef → Grid ColDef) → Type 0
KeepsColumns f = (g : Grid ColDef) → (f g).columns ≡ g.columns

all_columns_same : (id : List ℕ) (f : Grid ColDef → Grid ColDef) (p : List Table) → KeepsColumns f → all_columns (with_table id (on_grid f) p) ≡ all_columns p
all_columns_same id f [] k = refl
all_columns_same id f (t ∷ p) k =
    ap (λ rest. map (λ (d : ColDef). let e : Described = record { parent = (cond (bytes_eq t.id id) (on_grid f t) t).row; column = d } in e) (cond (bytes_eq t.id id) (on_grid f t) t).grid.columns ++ rest) (all_columns_same id f p k)
    ∙ ap (λ es. es ++ all_columns p)
    (elim (bytes_eq t.id id) as (λ b. map (λ (d : ColDef). let e : Described = record { parent = (cond b (on_grid f t) t).row; column = d } in e) (cond b (on_grid f t) t).grid.columns
    ≡ map (λ (d : ColDef). let e : Described = record { parent = t.row; column = d } in e) t.grid.columns) [
      | true ↦ ap (map (λ (d : ColDef). let e : Described = record { parent = t.row; column = d } in e)) (k t.grid)
      | false ↦ refl
    ])

pub tables_grid_same : (id : List ℕ) (f : Table → Table) (p : List Table) → ((t : Table) → (f t).id ≡ t.id) → ((t : Table) → (f t).row ≡ t.row) → tables_grid (with_table id f p) ≡ tables_grid p
tables_grid_same id f p ki kr =
    ap (λ rows. let x : Grid ColDef = record { columns = tables_columns; rows = rows; cells = map (λ (t : Table). value.Text t.id ∷ []) (with_table id f p) } in x) (map-with_id table_id table_row id f p kr)
    ∙ ap (λ cells. let x : Grid ColDef = record { columns = tables_columns; rows = map table_row p; cells = cells } in x)
    (map-with_id table_id (λ (t : Table). value.Text t.id ∷ []) id f p (λ t. ap (λ n. value.Text n ∷ []) (ki t)))

-- a record change of a plain table
pub with_table-plain : (r u : Grid ColDef) (p : List Table) (id : List ℕ) (f : Grid ColDef → Grid ColDef) → IsPlain id → KeepsColumns f
    → with_table id (on_grid f) (with_schema r u p) ≡ with_schema r u (with_table id (on_grid f) p)
with_table-plain r u p id f h k =
    let q : List Table = with_table id (on_grid f) p in
    ap (λ t. t ∷ with_table id (on_grid f) (metadata_table columns_id (columns_grid p) ∷ metadata_table resources_id r ∷ metadata_table rules_id u ∷ p))
    (cond_false (bytes_eq tables_id id) (on_grid f (metadata_table tables_id (tables_grid p))) (metadata_table tables_id (tables_grid p)) h.tables
    ∙ ap (metadata_table tables_id) (sym (tables_grid_same id (on_grid f) p (λ t. refl) (λ t. refl))))
    ∙ ap (λ t. metadata_table tables_id (tables_grid q) ∷ t ∷ with_table id (on_grid f) (metadata_table resources_id r ∷ metadata_table rules_id u ∷ p))
    (cond_false (bytes_eq columns_id id) (on_grid f (metadata_table columns_id (columns_grid p))) (metadata_table columns_id (columns_grid p)) h.columns
    ∙ ap (λ es. metadata_table columns_id (record { columns = columns_columns; rows = map described_row (in_order es); cells = map describe (in_order es) })) (sym (all_columns_same id f p k)))
    ∙ ap (λ t. metadata_table tables_id (tables_grid q) ∷ metadata_table columns_id (columns_grid q) ∷ t ∷ with_table id (on_grid f) (metadata_table rules_id u ∷ p))
    (cond_false (bytes_eq resources_id id) (on_grid f (metadata_table resources_id r)) (metadata_table resources_id r) h.resources)
    ∙ ap (λ t. metadata_table tables_id (tables_grid q) ∷ metadata_table columns_id (columns_grid q) ∷ metadata_table resources_id r ∷ t ∷ q)
    (cond_false (bytes_eq rules_id id) (on_grid f (metadata_table rules_id u)) (metadata_table rules_id u) h.rules)

-- ---- one action after another

pub applied : (s : Document) (a : DocAction) → valid s a ≡ true → apply s a ≡ effect s a
applied s a v = cond_true (valid s a) (effect s a) s v

-- each of the actions is valid at its place, and they lead to the document
abbrev pub LeadsBack : Document → Document → List DocAction → Type 0
LeadsBack after s back = (all_valid after back ≡ true) × (apply_all after back ≡ s)

-- one action that undoes
pub one_back : (s after : Document) (b : DocAction) → valid after b ≡ true → effect after b ≡ s → (all_valid after (b ∷ []) ≡ true) × (apply_all after (b ∷ []) ≡ s)
one_back s after b v e = (ap (λ c. c && true) v, applied after b v ∙ e)

-- two actions that undo
pub two_back : (s between after : Document) (b c : DocAction) → valid after b ≡ true → effect after b ≡ between → valid between c ≡ true → effect between c ≡ s
    → (all_valid after (b ∷ c ∷ []) ≡ true) × (apply_all after (b ∷ c ∷ []) ≡ s)
two_back s between after b c vb eb vc ec =
    let mid : apply after b ≡ between = applied after b vb ∙ eb in
    let second : valid (apply after b) c ≡ true = ap (λ d. valid d c) mid ∙ vc in (
      ap (λ x. x && (valid (apply after b) c && true)) vb ∙ ap (λ x. x && true) second,
      ap (λ d. apply d c) mid ∙ applied between c vc ∙ ec,
    )

-- what comes of a valid action: the parts of the document after it, and that its inverse leads back
pub record Outcome (s : Document) (a : DocAction) (back : List DocAction) : Type 0 where
  pub resources : Grid ColDef
  pub rules : Grid ColDef
  pub plain : List Table
  pub becomes : effect s a ≡ with_schema resources rules plain
  pub good : IsGood resources rules plain
  pub leads : LeadsBack (with_schema resources rules plain) s back
