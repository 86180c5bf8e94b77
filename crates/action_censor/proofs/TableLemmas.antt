-- What a bundle did to tables, as the code makes it.
use Rattle.std.proofs.Common.{ℕ, zero, suc, ◌+◌, ◌<◌, Bool, true, false, cond, List, [], ◌∷◌, ◌++◌, map, filter, take, length, get_or, ◌≡◌, refl, sym, ap, subst, ◌∙◌, Option, Some, None, arith}
use Rattle.std.proofs.lemmas.List.{take_more}
use Rattle.std.proofs.lemmas.List.Elements.{filter-append}
use Rattle.std.specs.List.{AllByRecursion}
use Rattle.std.specs.Str.{bytes_eq}
use Rattle.doc_model.specs.declared.column.ColDef.{ColDef}
use Rattle.doc_model.specs.ByIds.{AreDistinct, find_id, has_id}
use Rattle.doc_model.specs.Column.{column_id}
use Rattle.doc_model.specs.Document.{Document, Table, table_id}
use Rattle.doc_model.specs.Grid.{Grid, IsGrid}
use Rattle.doc_model.specs.LaidOut.{IsLaidOut}
use Rattle.doc_model.specs.Rows.{has, IsAscending}
use Rattle.doc_model.specs.Schema.{no_grid}
use Rattle.doc_model.proofs.ByIdsLaws.{found_all, has_id-map}
use Rattle.doc_model.proofs.ByRowLaws.{AreDistinct-filter}
use Rattle.doc_model.proofs.Choices.{both_true, each_unmapped}
use Rattle.doc_readers.specs.Parts.{grid_at}
use Rattle.acl_formula.specs.declared.user_info.AttributeRow.{AttributeRow}
use Rattle.censored_view.specs.Readable.{row_of}
use Rattle.action_censor.specs.declared.touched_table.TouchedTable.{TouchedTable}
use Rattle.action_censor.specs.Back.{grid_back}
use Rattle.action_censor.specs.Step.{Step, are_records, is_row_of, is_table_of}
use Rattle.action_censor.specs.Touched.{rows_told, tables_told, with_names}
use Rattle.action_censor.specs.TouchedTables.{AreTouchedTables, IsTouchedTable, kept_row, passing_rows, touched_id}
use Rattle.action_censor.proofs.BackLemmas.{all_ascend}
use Rattle.action_censor.proofs.NameLemmas.{distinct_names, is_named, itself, named-filter, named-with_names, named_at, steps_named}
use Rattle.action_censor.proofs.RowLemmas.{touched_among}

pub rows_up : (s : Document) → IsLaidOut s → (c : List ℕ) → IsAscending (grid_at s c).rows
rows_up s laid c =
    elim (find_id table_id c s) as (λ (o : Option Table). find_id table_id c s ≡ o → IsAscending (elim o as (λ _. Grid ColDef) [ None ↦ no_grid | Some t ↦ t.grid ]).rows) [
      | None ↦ λ _. tt
      | Some t ↦ λ e. (found_all table_id (λ (t : Table). IsGrid column_id t.grid) c s t laid.grids e).ascending
    ] refl

-- ---- one table

module _ (ks : List Step) (s : Document) (laid : IsLaidOut s) (records : are_records ks ≡ true) (id touched : List ℕ) (up : IsAscending touched) (same : (q : ℕ) → has touched q ≡ has (rows_told ks id) q) where
  abbrev now : Grid ColDef
  now = grid_at s id

  abbrev old : Grid ColDef
  old = grid_back ks id now

  pub made_table : has_id table_id s id ≡ true → is_table_of ks id ≡ true → (before : List AttributeRow) → map kept_row before ≡ map (row_of old) (filter (has old.rows) touched)
      → (after : List ℕ) → after ≡ filter (has now.rows) touched
      → (t : TouchedTable) → t.id ≡ id → t.before.items ≡ before → t.after.items ≡ after → IsTouchedTable ks s t
  made_table there about before is_before after is_after t named same_before same_after = record {
    there = ap (has_id table_id s) named ∙ there;
    about = ap (is_table_of ks) named ∙ about;
    before = ap (map kept_row) same_before ∙ is_before
        ∙ ap (map (row_of old)) (touched_among ks id touched old.rows (filter (has old.rows) touched) records up (all_ascend ks id now.rows (rows_up s laid id)) same refl)
        ∙ ap (λ n. passing_rows (is_row_of ks n) (grid_back ks n (grid_at s n))) (sym named);
    after = same_after ∙ is_after
        ∙ touched_among ks id touched now.rows (filter (has now.rows) touched) records up (rows_up s laid id) same refl
        ∙ ap (λ n. filter (is_row_of ks n) (grid_at s n).rows) (sym named);
  }

-- ---- all tables

-- one name more, where it passes
pub ids_next : (p : List ℕ → Bool) (names : List (List ℕ)) (i : ℕ) (n : List ℕ) (ys zs : List (List ℕ)) → i < length names → n ≡ get_or names i n
    → ys ≡ filter p (take i names) → zs ≡ ys ++ cond (p n) (n ∷ []) [] → zs ≡ filter p (take (i + 1) names)
ids_next p names i n ys zs lt is so made =
    made ∙ ap (λ l. l ++ cond (p n) (n ∷ []) []) so
    ∙ sym (filter-append p (take i names) (n ∷ []))
    ∙ ap (filter p) (sym (take_more names i n lt ∙ ap (λ z. take i names ++ z ∷ []) (sym is)))

take_whole : {X : Type 0} (xs : List X) (n : ℕ) → n ≡ length xs → take n xs ≡ xs
take_whole [] zero e = refl
take_whole [] (suc n) e = refl
take_whole (x ∷ xs) zero e = absurd (omega (arith, e))
take_whole (x ∷ xs) (suc n) e = ap (λ l. x ∷ l) (take_whole xs n (omega (arith, e)))

distinct_mapped : (ts : List TouchedTable) → AreDistinct itself (map touched_id ts) → AreDistinct touched_id ts
distinct_mapped [] distinct = tt
distinct_mapped (t ∷ ts) distinct = (each_unmapped (λ y. bytes_eq t.id y ≡ false) touched_id ts distinct.0, distinct_mapped ts distinct.1)

module _ (ks : List Step) (s : Document) (records : are_records ks ≡ true) (names : List (List ℕ)) (is : names ≡ with_names [] (tables_told ks)) where
  named_told : (c : List ℕ) → is_named names c ≡ is_table_of ks c
  named_told c = ap (λ l. is_named l c) is ∙ named-with_names [] (tables_told ks) c ∙ steps_named ks c records

  -- each of the names is of a table that steps are about
  pub about_at : (i : ℕ) (n : List ℕ) → i < length names → n ≡ get_or names i n → is_table_of ks n ≡ true
  about_at i n lt at = sym (named_told n) ∙ named_at names i n n lt at

  pub all_touched : (ts : List TouchedTable) (i : ℕ) → i ≡ length names → map touched_id ts ≡ filter (has_id table_id s) (take i names) → AllByRecursion (IsTouchedTable ks s) ts → AreTouchedTables ks s ts
  all_touched ts i end so each =
      let ids : map touched_id ts ≡ filter (has_id table_id s) names = so ∙ ap (filter (has_id table_id s)) (take_whole names i end) in
      let apart : AreDistinct itself names = subst (λ l. AreDistinct itself l) (sym is) (distinct_names [] (tables_told ks) tt) in
      record {
        distinct = distinct_mapped ts (subst (λ l. AreDistinct itself l) (sym ids) (AreDistinct-filter itself (has_id table_id s) names apart));
        each = each;
        all = λ c about there.
            sym (has_id-map itself touched_id ts c) ∙ ap (λ l. is_named l c) ids ∙ named-filter (has_id table_id s) names c
            ∙ both_true (is_named names c) (has_id table_id s c) (named_told c ∙ about) there;
      }
