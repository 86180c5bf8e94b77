-- Sums after a table is renamed, and the columns that refer to it change their types.
use Rattle.std.proofs.Common.{ℕ, true, false, cond, ◌+◌, List, [], ◌∷◌, map, length, ◌≡◌, refl, sym, ap, subst, ◌∙◌, Option, Some, None, option_map, arith}
use Rattle.std.proofs.lemmas.Bool.{and_parts}
use Rattle.std.proofs.lemmas.Slice.Eq.{bytes_eq-Decides}
use Rattle.std.specs.List.{AllByRecursion}
use Rattle.std.specs.Str.{bytes_eq}
use Rattle.doc_model.specs.declared.action.DocAction.TheVariants.{ModifyColumn}
use Rattle.doc_model.specs.declared.action.Step.{Step}
use Rattle.doc_model.specs.declared.column.ColDef.{ColDef}
use Rattle.doc_model.specs.declared.column.ColInfo.{ColInfo}
use Rattle.doc_model.specs.Apply.{all_valid, apply, apply_all, with_column, with_info}
use Rattle.doc_model.specs.ByIds.{find_id}
use Rattle.doc_model.specs.Column.{column_id}
use Rattle.doc_model.specs.CountLaws.{Sums, SumsMove, bytes_of_formula, sums_of, sums_removed}
use Rattle.doc_model.specs.Counts.{counts, formula_bytes}
use Rattle.doc_model.specs.Document.{Document, Table, on_grid, table_id, with_table}
use Rattle.doc_model.specs.DocumentLaws.{IsWhole}
use Rattle.doc_model.specs.Grid.{Grid}
use Rattle.doc_model.specs.Schema.{no_grid, plain_tables, resources, rules, with_schema}
use Rattle.doc_model.specs.Valid.{valid}
use Rattle.doc_model.proofs.ByRowLaws.{find-with_id}
use Rattle.doc_model.proofs.Choices.{each_weaker}
use Rattle.doc_model.proofs.DocumentParts.{applied, find_plain}
use Rattle.doc_model.proofs.InverseLaws.{IsWhole-apply}
use Rattle.doc_model.proofs.SchemaCounts.{counts-apply}
use Rattle.doc_model.proofs.WholeLaws.{IsPlain}
use Rattle.doc_readers.specs.Parts.{grid_at}
use Rattle.user_actions.specs.StepLaws.{action_of}

-- a new info with the formula that the column has
pub record KeepsFormula (d : Document) (x : Step) : Type 0 where
  pub table : List ℕ
  pub column : List ℕ
  pub info : ColInfo
  pub is : x.action ≡ ModifyColumn table column info
  pub plain : IsPlain table
  pub kept : bytes_of_formula (grid_at d table) column ≡ length info.formula

pub record SameSums (s d : Document) : Type 0 where
  pub tables : (counts d).tables ≡ (counts s).tables
  pub cells : (counts d).cells ≡ (counts s).cells
  pub weight : (counts d).weight ≡ (counts s).weight

-- the bytes of a column's formula, where one with its own formula has another info
bytes_kept : (g : Grid ColDef) (c n : List ℕ) (info : ColInfo) → bytes_of_formula g c ≡ length info.formula → bytes_of_formula (with_column c (with_info info) g) n ≡ bytes_of_formula g n
bytes_kept g c n info kept =
    ap (λ (o : Option ColDef). elim o as (λ _. ℕ) [ None ↦ 0 | Some d ↦ formula_bytes d ]) (find-with_id column_id c (with_info info) (λ x. refl) g.columns n)
    ∙ elim (bytes_eq c n) as (λ b. bytes_eq c n ≡ b → (elim (cond b (option_map (with_info info) (find_id column_id n g.columns)) (find_id column_id n g.columns)) as (λ _. ℕ) [ None ↦ 0 | Some d ↦ formula_bytes d ]) ≡ bytes_of_formula g n) [
      | true ↦ λ is.
          let here : bytes_of_formula g n ≡ length info.formula = ap (bytes_of_formula g) (sym ((bytes_eq-Decides c n).0 is)) ∙ kept in
          elim (find_id column_id n g.columns) as (λ (o : Option ColDef). (elim o as (λ _. ℕ) [ None ↦ 0 | Some d ↦ formula_bytes d ]) ≡ length info.formula
          → (elim (option_map (with_info info) o) as (λ _. ℕ) [ None ↦ 0 | Some d ↦ formula_bytes d ]) ≡ (elim o as (λ _. ℕ) [ None ↦ 0 | Some d ↦ formula_bytes d ])) [
            | None ↦ λ _. refl
            | Some d ↦ λ e. sym e
          ] here
      | false ↦ λ _. refl
    ] refl

abbrev grid_of_option : Option Table → Grid ColDef
grid_of_option o = elim o [ None ↦ no_grid | Some t ↦ t.grid ]

find_then : (r u : Grid ColDef) (p : List Table) (table column : List ℕ) (info : ColInfo) (n : List ℕ) → IsPlain n → valid (with_schema r u p) (ModifyColumn table column info) ≡ true
    → find_id table_id n (apply (with_schema r u p) (ModifyColumn table column info)) ≡ cond (bytes_eq table n) (option_map (on_grid (with_column column (with_info info))) (find_id table_id n (with_schema r u p))) (find_id table_id n (with_schema r u p))
find_then r u p table column info n plain v =
    let f : Table → Table = on_grid (with_column column (with_info info)) in
    ap (find_id table_id n) (applied (with_schema r u p) (ModifyColumn table column info) v)
    ∙ find_plain r u (with_table table f p) n plain
    ∙ find-with_id table_id table f (λ x. refl) p n
    ∙ ap (λ o. cond (bytes_eq table n) (option_map f o) o) (sym (find_plain r u p n plain))

mapped_grid : (column : List ℕ) (info : ColInfo) (o : Option Table) → grid_of_option (option_map (on_grid (with_column column (with_info info))) o) ≡ with_column column (with_info info) (grid_of_option o)
mapped_grid column info None = refl
mapped_grid column info (Some t) = refl

bytes_then : (d : Document) → IsWhole d → (table column : List ℕ) (info : ColInfo) → valid d (ModifyColumn table column info) ≡ true → bytes_of_formula (grid_at d table) column ≡ length info.formula
    → (n c : List ℕ) → IsPlain n → bytes_of_formula (grid_at (apply d (ModifyColumn table column info)) n) c ≡ bytes_of_formula (grid_at d n) c
bytes_then d whole table column info v kept n c plain =
    let o : Option Table = find_id table_id n d in
    let found : find_id table_id n (apply d (ModifyColumn table column info)) ≡ cond (bytes_eq table n) (option_map (on_grid (with_column column (with_info info))) o) o
    = subst (λ d. valid d (ModifyColumn table column info) ≡ true → find_id table_id n (apply d (ModifyColumn table column info)) ≡ cond (bytes_eq table n) (option_map (on_grid (with_column column (with_info info))) (find_id table_id n d)) (find_id table_id n d))
    (sym whole.agrees.schema) (find_then (resources d) (rules d) (plain_tables d) table column info n plain) v in
    ap (λ o. bytes_of_formula (grid_of_option o) c) found
    ∙ elim (bytes_eq table n) as (λ b. bytes_eq table n ≡ b → bytes_of_formula (grid_of_option (cond b (option_map (on_grid (with_column column (with_info info))) o) o)) c ≡ bytes_of_formula (grid_of_option o) c) [
      | true ↦ λ is.
          let same : table ≡ n = (bytes_eq-Decides table n).0 is in
          ap (λ g. bytes_of_formula g c) (mapped_grid column info o) ∙ bytes_kept (grid_of_option o) column c info (ap (λ n. bytes_of_formula (grid_at d n) column) (sym same) ∙ kept)
      | false ↦ λ _. refl
    ] refl

keep : (d : Document) → IsWhole d → (x y : Step) → valid d x.action ≡ true → KeepsFormula d x → KeepsFormula d y → KeepsFormula (apply d x.action) y
keep d whole x y v a b = record {
  table = b.table;
  column = b.column;
  info = b.info;
  is = b.is;
  plain = b.plain;
  kept = ap (λ u. bytes_of_formula (grid_at (apply d u) b.table) b.column) a.is
      ∙ bytes_then d whole a.table a.column a.info (sym (ap (valid d) a.is) ∙ v) a.kept b.table b.column b.plain ∙ b.kept;
}

equal_sum : (n before g : ℕ) → n + g ≡ before + g → n ≡ before
equal_sum n before g e = omega arith

weight_removed : (d : Document) (table column : List ℕ) (info : ColInfo) → (sums_removed d (ModifyColumn table column info)).weight ≡ bytes_of_formula (grid_at d table) column
weight_removed d table column info =
    elim (find_id table_id table d) as (λ (o : Option Table). (elim o as (λ _. Sums) [ None ↦ Rattle.doc_model.specs.CountLaws.nothing | Some t ↦ record { tables = 0; cells = 0; weight = bytes_of_formula t.grid column } ]).weight ≡ bytes_of_formula (grid_of_option o) column) [
      | None ↦ refl
      | Some t ↦ refl
    ]

tables_removed : (d : Document) (table column : List ℕ) (info : ColInfo) → ((sums_removed d (ModifyColumn table column info)).tables ≡ 0) × ((sums_removed d (ModifyColumn table column info)).cells ≡ 0)
tables_removed d table column info =
    elim (find_id table_id table d) as (λ (o : Option Table). let w : Sums = elim o as (λ _. Sums) [ None ↦ Rattle.doc_model.specs.CountLaws.nothing | Some t ↦ record { tables = 0; cells = 0; weight = bytes_of_formula t.grid column } ] in (w.tables ≡ 0) × (w.cells ≡ 0)) [
      | None ↦ (refl, refl)
      | Some t ↦ (refl, refl)
    ]

one_same : (d : Document) → IsWhole d → (x : Step) → valid d x.action ≡ true → KeepsFormula d x → SameSums d (apply d x.action)
one_same d whole x v a =
    let action = ModifyColumn a.table a.column a.info in
    let moved : SumsMove d (apply d action) action = counts-apply d action whole (sym (ap (valid d) a.is) ∙ v) in
    let none : ((sums_removed d action).tables ≡ 0) × ((sums_removed d action).cells ≡ 0) = tables_removed d a.table a.column a.info in
    let bytes : (sums_removed d action).weight ≡ length a.info.formula = weight_removed d a.table a.column a.info ∙ a.kept in
    let mt : (counts (apply d action)).tables + (sums_removed d action).tables ≡ (counts d).tables + 0 = moved.tables in
    let mc : (counts (apply d action)).cells + (sums_removed d action).cells ≡ (counts d).cells + 0 = moved.cells in
    let mw : (counts (apply d action)).weight + (sums_removed d action).weight ≡ (counts d).weight + length a.info.formula = moved.weight in
    subst (λ u. SameSums d (apply d u)) (sym a.is) (record { tables = omega (arith, mt, none.0); cells = omega (arith, mc, none.1); weight = omega (arith, mw, bytes) })

pub all_same : (d : Document) (xs : List Step) → IsWhole d → all_valid d (map action_of xs) ≡ true → AllByRecursion (KeepsFormula d) xs → SameSums d (apply_all d (map action_of xs))
all_same d [] whole v h = record { tables = refl; cells = refl; weight = refl }
all_same d (x ∷ xs) whole v h =
    let parts : (valid d x.action ≡ true) × (all_valid (apply d x.action) (map action_of xs) ≡ true) = and_parts (valid d x.action) (all_valid (apply d x.action) (map action_of xs)) v in
    let one : SameSums d (apply d x.action) = one_same d whole x parts.0 h.0 in
    let rest : SameSums (apply d x.action) (apply_all (apply d x.action) (map action_of xs))
    = all_same (apply d x.action) xs (IsWhole-apply d x.action whole parts.0) parts.1 (each_weaker (KeepsFormula d) (KeepsFormula (apply d x.action)) (λ y. keep d whole x y parts.0 h.0) xs h.1) in
    record { tables = rest.tables ∙ one.tables; cells = rest.cells ∙ one.cells; weight = rest.weight ∙ one.weight }
