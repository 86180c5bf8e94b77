-- What a closed user is told of a shown column.
use Rattle.std.proofs.Common.{◌≡◌, ◌∙◌, ap, refl, sym, ℕ, Bool, true, false, cond, ◌&&◌, ◌||◌, List, [], ◌∷◌, Option, Some, None, unwrap_or, arith, length, ◌≤◌}
use Rattle.std.specs.List.{AllByRecursion}
use Rattle.std.proofs.lemmas.Bool.{leb-true, true≢false}
use Rattle.std.proofs.lemmas.List.{nil_from_length}
use Rattle.doc_model.specs.declared.column.ColDef.{ColDef}
use Rattle.doc_model.specs.declared.column.ColInfo.{ColInfo}
use Rattle.doc_model.specs.declared.view.ViewCol.{ViewCol}
use Rattle.doc_model.specs.declared.view.ViewTable.{ViewTable}
use Rattle.doc_model.specs.ByIds.{find_id}
use Rattle.doc_model.specs.Changes.{shown_table_id}
use Rattle.doc_model.specs.Column.{column_id, is_empty, is_short, is_sound_info, is_sound_type}
use Rattle.doc_model.specs.Document.{Document, Table, table_id}
use Rattle.doc_model.specs.Grid.{Grid}
use Rattle.doc_model.specs.Sound.{IsSoundGrid}
use Rattle.doc_model.specs.ViewEdits.{shown_id}
use Rattle.doc_model.proofs.ByIdsLaws.{found_all}
use Rattle.doc_model.proofs.Choices.{parts_3}
use Rattle.acl_formula.specs.declared.permissions.Perm.TheVariants as perm
use Rattle.acl_rules.specs.declared.decision.Ctx.{Ctx}
use Rattle.acl_reading.specs.RulesLet.{rules_let}
use Rattle.censored_view.specs.Readable.{Readable}
use Rattle.censored_view.specs.View.{shown_column, view}
use Rattle.recalc.specs.Evaluated.{filled}
use Rattle.rule_audit.specs.declared.faults.Audit.{Audit}
use Rattle.rule_audit.specs.declared.faults.Audit.TheVariants as fault
use Rattle.rule_audit.specs.Closed.{IsClosed, chain_fault, column_fault, columns_fault, first_fault, formula_fault, is_hidden, or_fault, rows_fault, ruled_fault, table_fault}
use Rattle.rule_audit.specs.Open.{open_columns}
use Rattle.rule_audit.specs.SeenLaws.{IsSeen}
use Rattle.audited_cells.proofs.ColumnLemmas.{behind_shown, find_shown, grid_here, its_table}
use Rattle.audited_columns.specs.ColumnLaws.{InfosLaw, told_info}

-- ---- no fault of all

behind_none : (a b : Option Audit) → or_fault a b ≡ None → b ≡ None
behind_none None b h = h
behind_none (Some f) b h = absurd (cc)

-- is none of each
each_none : {X : Type 0} (f : X → Option Audit) (xs : List X) → first_fault f xs ≡ None → AllByRecursion (λ x. f x ≡ None) xs
each_none f [] h = tt
each_none f (x ∷ xs) h =
    elim (f x) as (λ (o : Option Audit). f x ≡ o → or_fault o (first_fault f xs) ≡ None → AllByRecursion (λ x. f x ≡ None) (x ∷ xs)) [
      | None ↦ λ none h. (none, each_none f xs h)
      | Some a ↦ λ is h. absurd (cc)
    ] refl h

no_fault : (b : Bool) (f : Audit) → cond b (Some f) None ≡ None → b ≡ false
no_fault true f h = absurd (cc)
no_fault false f h = refl

module _ (x : Ctx) (s : Document) (v : ViewTable) (seen : IsSeen x s v) (closed : IsClosed x (view (rules_let x) s)) where
  columns_closed : columns_fault x (open_columns x v) v.id v.columns ≡ None
  unfolding table_fault
  columns_closed =
      behind_none (rows_fault x (open_columns x v) v.id) (columns_fault x (open_columns x v) v.id v.columns)
      (ap (λ b. cond b None (ruled_fault x (open_columns x v) v)) (sym seen.plain)
      ∙ found_all shown_table_id (λ (u : ViewTable). table_fault x u ≡ None) v.id (view (rules_let x) s) v (each_none (table_fault x) (view (rules_let x) s) closed) seen.found)

  -- a shown column has no formula that is hidden
  formula_shown : (c : List ℕ) (e : ViewCol) → find_id shown_id c v.columns ≡ Some e → is_hidden e ≡ false
  formula_shown c e found =
      let column : column_fault x (open_columns x v) v.id e ≡ None
      = found_all shown_id (λ (d : ViewCol). column_fault x (open_columns x v) v.id d ≡ None) c v.columns e (each_none (column_fault x (open_columns x v) v.id) v.columns columns_closed) found in
      no_fault (is_hidden e) (fault.HiddenFormula v.id e.id) (behind_none (chain_fault x perm.U (open_columns x v) v.id (Some e.id)) (formula_fault v.id e) column)

-- ---- what a column is

-- its formula, where it is shown, or the column has none
formula_told : (is_formula shown : Bool) (text : List ℕ) → (is_formula && elim (cond shown (Some text) None) as (λ (o : Option (List ℕ)). Bool) [ None ↦ true | Some t ↦ false ]) ≡ false
    → (is_formula || is_empty text) ≡ true → text ≡ cond is_formula (unwrap_or (cond shown (Some text) None) []) []
formula_told true true text h k = refl
formula_told true false text h k = absurd (true≢false h)
formula_told false shown text h k = let few : length text ≤ 0 = leb-true (length text) 0 k in nil_from_length text (omega (arith, few))

info_told : (q : Readable) (d : ColDef) → is_hidden (shown_column q d) ≡ false → is_sound_info d.info ≡ true → d.info ≡ told_info (shown_column q d)
info_told q d shown sound =
    let parts = parts_3 (is_sound_type d.info.ty) (is_short d.info.formula) (d.info.is_formula || is_empty d.info.formula) sound in
    ap (λ text. let i : ColInfo = record { ty = d.info.ty; is_formula = d.info.is_formula; formula = text } in i)
    (formula_told d.info.is_formula (q.formula d.id) d.info.formula shown parts.2)

pub column_told : InfosLaw
column_told x s v c e whole seen closed found =
    let lets : Readable = rules_let x v.id in
    let own = its_table x s v seen in
    let y : Table = own.0 in
    let sound : IsSoundGrid y.grid = found_all table_id (λ (t : Table). IsSoundGrid t.grid) v.id s y whole.sound.grids own.1.0 in
    let behind = behind_shown lets (find_id column_id c y.grid.columns) e (sym (find_shown lets c y.grid.columns sound.is_grid.distinct) ∙ ap (find_id shown_id c) (sym own.1.1) ∙ found) in
    let d : ColDef = behind.0 in
    let good : is_sound_info d.info ≡ true = found_all column_id (λ (d : ColDef). is_sound_info d.info ≡ true) c y.grid.columns d sound.infos behind.1.0 in
    record {
      column = d;
      there = ap (λ (g : Grid ColDef). find_id column_id c g.columns) (grid_here s v.id y own.1.0) ∙ behind.1.0;
      told = info_told lets d (ap is_hidden behind.1.1 ∙ formula_shown x (filled s) v seen closed c e found) good ∙ ap told_info behind.1.1;
    }
