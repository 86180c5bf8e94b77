-- Rules get the same of rows that are alike, and rows that are shown are alike.
use Rattle.std.proofs.Common.{◌≡◌, ◌∙◌, ap, refl, sym, ℕ, Bool, true, false, cond, ◌&&◌, ◌||◌, List, [], ◌∷◌, Option, Some, None, bytes_eq}
use Rattle.std.specs.List.{list_any}
use Rattle.formula_parse.specs.Lexemes.{is_id}
use Rattle.cell_types.specs.declared.value.CellValue.{CellValue}
use Rattle.doc_model.specs.declared.column.ColDef.{ColDef}
use Rattle.doc_model.specs.declared.view.ViewCol.{ViewCol}
use Rattle.doc_model.specs.declared.view.ViewTable.{ViewTable}
use Rattle.doc_model.specs.ByIds.{find_id, has_id}
use Rattle.doc_model.specs.Changes.{grid}
use Rattle.doc_model.specs.Column.{column_id}
use Rattle.doc_model.specs.Document.{Document, Table, table_id}
use Rattle.doc_model.specs.Grid.{Grid, cell}
use Rattle.doc_model.specs.Readers.{cell_at}
use Rattle.doc_model.specs.Rows.{has}
use Rattle.doc_model.specs.Schema.{no_grid}
use Rattle.doc_model.specs.ViewEdits.{shown_id}
use Rattle.doc_readers.specs.Parts.{grid_at}
use Rattle.acl_formula.specs.Asked.{Asked}
use Rattle.acl_formula.specs.RuleFields.{field_of, read, row_id}
use Rattle.acl_formula.specs.RuleRow.{RuleRow}
use Rattle.acl_formula.specs.declared.mention.Mention.{Mention}
use Rattle.acl_formula.specs.declared.mention.Mention.TheVariants as mention
use Rattle.acl_formula.specs.declared.permissions.Perm.{Perm}
use Rattle.acl_formula.specs.declared.permissions.Perm.TheVariants as perm
use Rattle.acl_rules.specs.declared.decision.Ctx.{Ctx}
use Rattle.acl_checks.specs.Checks.{row_at}
use Rattle.censored_view.specs.Readable.{row_of}
use Rattle.rule_audit.specs.Laws.{AgreeOn, mention_value}
use Rattle.rule_audit.specs.Open.{open_columns}
use Rattle.rule_audit.specs.Reached.{has_open, is_column_safe, is_field_safe, is_given, is_safe}
use Rattle.rule_audit.specs.SeenLaws.{IsSeen, asked_of}
use Rattle.rule_audit.proofs.SeenLemmas.{seen_cells, seen_rows}
use Rattle.audited_checks.specs.AlikeRows.{AreAlike}

-- ---- what is asked of rows that are alike

module _ (p : Perm) (opened : List ViewCol) where
  field_alike : (a b : RuleRow) → AreAlike p opened a b → (n : List ℕ) → is_field_safe p opened n ≡ true → field_of (Some a) n ≡ field_of (Some b) n
  field_alike a b alike n h =
      elim (is_id n) as (λ e. cond e (has_open opened) (is_column_safe p opened n) ≡ true → cond e (row_id a.id) (read (a.cell n)) ≡ cond e (row_id b.id) (read (b.cell n))) [
        | true ↦ λ h. ap row_id (alike.ids h)
        | false ↦ λ h. ap read (alike.cells n h)
      ] h

  pub asked_alike : (x : Ctx) (a b c d : RuleRow) → AreAlike p opened a b → AreAlike p opened c d → AgreeOn (is_safe p opened) (asked_of x (Some a) (Some c)) (asked_of x (Some b) (Some d))
  asked_alike x a b c d before after = record { user = refl; mentions = by }
    where
      by : (m : Mention) → is_safe p opened m ≡ true → mention_value (asked_of x (Some a) (Some c)) m ≡ mention_value (asked_of x (Some b) (Some d)) m
      by (mention.Rec n) h = field_alike a b before n h
      by (mention.NewRec n) h = field_alike c d after n h
      by (mention.User n) h = refl

-- what is safe of changes is safe of new rows
pub new_alike : (opened : List ViewCol) (a b : RuleRow) → AreAlike perm.U opened a b → AreAlike perm.C opened a b
new_alike opened a b alike = record { ids = alike.ids; cells = alike.cells }

-- ---- rows that are shown

-- a cell of the document is that of the table's row
told_by : (o : Option Table) (c : List ℕ) (r : ℕ)
    → elim o as (λ _. Option CellValue) [ None ↦ None | Some u ↦ cond (has_id column_id u.grid.columns c && has u.grid.rows r) (Some (cell column_id u.grid c r)) None ]
    ≡ (row_of (elim o as (λ _. Grid ColDef) [ None ↦ no_grid | Some u ↦ u.grid ]) r).cell c
told_by None c r = refl
told_by (Some u) c r = refl

-- a column that is safe is among the open ones
pub among_open : (p : Perm) (c : List ℕ) (ds : List ViewCol) → is_column_safe p ds c ≡ true → has_id shown_id ds c ≡ true
among_open p c [] h = absurd (cc)
among_open p c (d ∷ ds) h =
    elim (bytes_eq d.id c) as (λ same. ((same && is_given p d) || is_column_safe p ds c) ≡ true → (same || has_id shown_id ds c) ≡ true) [
      | true ↦ λ h. refl
      | false ↦ λ h. among_open p c ds h
    ] h

module _ (x : Ctx) (v : ViewTable) (c : List ℕ) (r : ℕ) (here : has v.rows r ≡ true) (opened : has_id shown_id (open_columns x v) c ≡ true) where
  pub shown_cell : (s : Document) → IsSeen x s v → cell_at s v.id c r ≡ Some (cell shown_id (grid v) c r)
  shown_cell s seen =
      told_by (find_id table_id v.id s) c r
      ∙ seen_cells x s v c r seen opened (sym (seen_rows x s v c r seen opened) ∙ here)

  both_cells : (s t : Document) → IsSeen x s v → IsSeen x t v → cell_at s v.id c r ≡ cell_at t v.id c r
  both_cells s t seen other = shown_cell s seen ∙ sym (shown_cell t other)

pub shown_alike : (x : Ctx) (s t : Document) (v : ViewTable) (r : ℕ) (p : Perm) → IsSeen x s v → IsSeen x t v → has v.rows r ≡ true → AreAlike p (open_columns x v) (row_at s v.id r) (row_at t v.id r)
shown_alike x s t v r p seen other here = record {
  ids = λ h. refl;
  cells = λ c h. both_cells x v c r here (among_open p c (open_columns x v) h) s t seen other;
}
