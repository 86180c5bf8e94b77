-- Of a cell without a formula nothing is held.
use Rattle.std.proofs.Common.{ℕ, Bool, true, false, cond, ◌&&◌, List, [], ◌∷◌, map, length, ◌≡◌, refl, sym, ap, ◌∙◌, Option, Some, None}
use Rattle.std.proofs.lemmas.Bool.{true≢false}
use Rattle.std.specs.Option.{is_some}
use Rattle.cell_types.specs.declared.cell.CellId.{CellId}
use Rattle.cell_types.specs.declared.value.CellValue.{CellValue}
use Rattle.doc_model.specs.declared.column.ColDef.{ColDef}
use Rattle.doc_model.specs.ByIds.{find_id}
use Rattle.doc_model.specs.Column.{column_id}
use Rattle.doc_model.specs.Document.{Table, Document}
use Rattle.doc_model.specs.Grid.{Grid}
use Rattle.doc_model.specs.Rows.{has}
use Rattle.doc_readers.specs.Parts.{grid_at}
use Rattle.recalc.specs.declared.kept.KeptColumn.{KeptColumn}
use Rattle.recalc.specs.declared.kept.KeptTable.{KeptTable}
use Rattle.recalc.specs.Evaluated.{formula_at, formula_in}
use Rattle.recalc.specs.Kept.{ColumnShape, IsKeptOf, held_at, held_column, held_in, held_table, kept_column_id, kept_table_id}
use Rattle.recalc.proofs.KeptLemmas.{column_blank, column_kept, column_of, none_each, shape_blank, shape_kept, table_of}
use Rattle.recalc.proofs.PlaceLemmas.{held-none}
use Rattle.recalc.specs.Cells.{same_cell}
use Rattle.recalc.proofs.ToldCells.{grid_found}
use Rattle.recalc.proofs.Turn.{same_true}

no_values : (rows : List ℕ) (vs : List (Option CellValue)) (r : ℕ) → length vs ≡ 0 → held_in rows vs r ≡ None
no_values [] vs r e = refl
no_values (q ∷ rows) [] r e = refl
no_values (q ∷ rows) (v ∷ vs) r e = absurd (cc)

module _ (s : Document) (ks : List KeptTable) (kept : IsKeptOf s ks) (c : CellId) where
  abbrev by_columns : Grid ColDef → Option ColDef → Option (List ℕ)
  by_columns g o = elim o as (λ _. Option (List ℕ)) [ None ↦ None | Some d ↦ formula_in g c.row d ]

  abbrev by_tables : Option Table → Option (List ℕ)
  by_tables o = elim o as (λ _. Option (List ℕ)) [ None ↦ None | Some t ↦ by_columns t.grid (find_id column_id c.column t.grid.columns) ]

  in_values : (rows : List ℕ) (d : ColDef) (e : KeptColumn) → column_kept e ≡ column_blank rows d → cond (d.info.is_formula && has rows c.row) (Some d.info.formula) None ≡ None → held_in rows e.values.items c.row ≡ None
  in_values rows d e same none = by d.info.is_formula (has rows c.row) refl refl none
    where
      by : (a b : Bool) → d.info.is_formula ≡ a → has rows c.row ≡ b → cond (a && b) (Some d.info.formula) None ≡ None → held_in rows e.values.items c.row ≡ None
      by true true p q h = absurd (cc)
      by true false p q h = sym (held-none rows e.values.items c.row q)
      by false b p q h = no_values rows e.values.items c.row (ap (λ (x : ColumnShape). x.size) same ∙ ap (λ b. length (cond b (map none_each rows) [])) p)

  in_columns : (k : KeptTable) (t : Table) → shape_kept k ≡ shape_blank t → (o : Option KeptColumn) → find_id kept_column_id c.column k.columns.items ≡ o
      → by_columns t.grid (find_id column_id c.column t.grid.columns) ≡ None → held_column t.grid.rows c.row o ≡ None
  in_columns k t same None e none = refl
  in_columns k t same (Some h) e none =
      let d = column_of k t same c.column h (sym e) in
      in_values t.grid.rows d.0 h d.2 (sym (ap (by_columns t.grid) d.1) ∙ none)

  in_tables : (o : Option KeptTable) → find_id kept_table_id c.table ks ≡ o → formula_at s c ≡ None → held_table (grid_at s c.table).rows c.column c.row o ≡ None
  in_tables None e none = refl
  in_tables (Some k) e none =
      let t = table_of s ks kept c.table k (sym e) in
      ap (λ (g : Grid ColDef). held_column g.rows c.row (find_id kept_column_id c.column k.columns.items)) (grid_found s c.table t.0 t.1)
      ∙ in_columns k t.0 t.2 (find_id kept_column_id c.column k.columns.items) refl (sym (ap by_tables t.1) ∙ none)

  pub held_none : formula_at s c ≡ None → held_at s ks c ≡ None
  held_none none = in_tables (find_id kept_table_id c.table ks) refl none

pub none_there : (s : Document) (c : CellId) → is_some (formula_at s c) ≡ false → formula_at s c ≡ None
none_there s c h = by (formula_at s c) refl h
  where
    by : (o : Option (List ℕ)) → formula_at s c ≡ o → is_some o ≡ false → formula_at s c ≡ None
    by None e h = e
    by (Some f) e h = absurd (true≢false h)

-- so nothing is taken out of it
pub nothing_out : (s : Document) (ks : List KeptTable) → IsKeptOf s ks → (cell : CellId) → is_some (formula_at s cell) ≡ false
    → (c : CellId) → held_at s ks c ≡ cond (same_cell cell c) None (held_at s ks c)
nothing_out s ks kept cell h c = by (same_cell cell c) refl
  where
    by : (b : Bool) → same_cell cell c ≡ b → held_at s ks c ≡ cond b None (held_at s ks c)
    by true e = held_none s ks kept c (ap (formula_at s) (sym (same_true cell c e)) ∙ none_there s cell h)
    by false e = refl
