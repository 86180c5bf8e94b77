-- What is found in a view, and that it is one.
use Rattle.std.proofs.Common.{ℕ, Bool, true, false, cond, ◌&&◌, List, [], ◌∷◌, map, filter, ◌≡◌, refl, ap, ◌∙◌, Option, Some, None, option_map}
use Rattle.std.specs.List.{list_any}
use Rattle.doc_model.specs.declared.column.ColDef.{ColDef}
use Rattle.doc_model.specs.declared.view.ViewTable.{ViewTable}
use Rattle.doc_model.specs.ByIds.{by_id, find_id}
use Rattle.doc_model.specs.Changes.{grid, IsView, shown_table_id}
use Rattle.doc_model.specs.Column.{column_id}
use Rattle.doc_model.specs.Document.{Table, Document, table_id}
use Rattle.doc_model.specs.Grid.{IsGrid}
use Rattle.doc_model.specs.LaidOut.{IsLaidOut}
use Rattle.doc_model.specs.ViewEdits.{IsShown}
use Rattle.doc_model.proofs.Choices.{keep, each_filter, each_mapped, each_weaker}
use Rattle.doc_model.proofs.ByIdsLaws.{each_by_id, find-filtered, found_id, IsByIds-by_id}
use Rattle.doc_model.proofs.RowsLaws.{IsAscending-filter}
use Rattle.plain_view.proofs.PartLemmas.{find-mapped, map_every}
use Rattle.censored_view.specs.Parts.{part, seen_part, shown_part}
use Rattle.censored_view.specs.Readable.{Readable, hidden, row_of}
use Rattle.censored_view.specs.View.{is_shown, shown_columns, shown_rows, shown_table, view}
use Rattle.censored_view.proofs.PlacedLemmas.{find-by_id}
use Rattle.censored_view.proofs.ShownRows.{IsShown-shown}

-- what is seen of a table that may be there, with all its rows
abbrev pub seen_whole : Readable → List ℕ → Option Table → Option ViewTable
seen_whole q c None = None
seen_whole q c (Some t) = seen_part q c (Some t) t.grid.rows

nothing_hidden : (ds : List ColDef) → list_any (λ (e : ColDef). hidden.column e.id) ds ≡ false
nothing_hidden [] = refl
nothing_hidden (d ∷ ds) = nothing_hidden ds

pub hides : (ds : List ColDef) → is_shown hidden ds ≡ false
hides [] = refl
hides (d ∷ ds) = nothing_hidden ds

pub whole_hidden : (c : List ℕ) (o : Option Table) → seen_whole hidden c o ≡ None
whole_hidden c None = refl
whole_hidden c (Some t) = ap (λ b. cond b (Some (shown_table hidden (record { id = c; row = t.row; grid = t.grid }))) None) (hides t.grid.columns)

module _ (x : List ℕ → Readable) (s : Document) (laid : IsLaidOut s) where
  abbrev passes : Table → Bool
  passes t = is_shown (x t.id) t.grid.columns

  abbrev as_shown : Table → ViewTable
  as_shown t = shown_table (x t.id) t

  kept : (c : List ℕ) (o : Option Table) → ((t : Table) → o ≡ Some t → t.id ≡ c) → option_map as_shown (keep passes o) ≡ seen_whole (x c) c o
  kept c None named = refl
  kept c (Some t) named =
      elim (passes t) as (λ b. option_map as_shown (cond b (Some t) None) ≡ cond b (Some (as_shown t)) None) [ true ↦ refl | false ↦ refl ]
      ∙ ap (λ n. seen_whole (x n) n (Some t)) (named t refl)

  pub find-view : (c : List ℕ) → find_id shown_table_id c (view x s) ≡ seen_whole (x c) c (find_id table_id c s)
  find-view c =
      find-by_id shown_table_id c (map as_shown (filter passes s))
      ∙ find-mapped table_id shown_table_id as_shown (λ t. refl) c (filter passes s)
      ∙ ap (option_map as_shown) (find-filtered table_id passes c s laid.distinct)
      ∙ kept c (find_id table_id c s) (λ t found. found_id table_id c s t found)

  pub IsView-view : IsView (view x s)
  IsView-view = record {
    by_ids = IsByIds-by_id shown_table_id (map as_shown (filter passes s));
    tables = each_by_id shown_table_id (λ (t : ViewTable). IsShown (grid t)) (map as_shown (filter passes s))
        (each_mapped (λ (t : ViewTable). IsShown (grid t)) as_shown (filter passes s)
        (each_filter (λ t. IsShown (grid (as_shown t))) passes s
        (each_weaker (λ (t : Table). IsGrid column_id t.grid) (λ t. IsShown (grid (as_shown t))) (λ t is. IsShown-shown (x t.id) t.grid t.grid.rows t.id is.ascending) s laid.grids)));
  }

  -- so is a part that is made of rows
  pub IsView-part : (affected : List ℕ → Bool) (test : List ℕ → ℕ → Bool) → IsView (part affected test x s)
  IsView-part affected test =
      let wanted : Table → Bool = λ t. affected t.id && is_shown (x t.id) t.grid.columns in
      let as_part : Table → ViewTable = λ t. shown_part (test t.id) (x t.id) t in
      record {
        by_ids = IsByIds-by_id shown_table_id (map as_part (filter wanted s));
        tables = each_by_id shown_table_id (λ (t : ViewTable). IsShown (grid t)) (map as_part (filter wanted s))
            (each_mapped (λ (t : ViewTable). IsShown (grid t)) as_part (filter wanted s)
            (each_filter (λ t. IsShown (grid (as_part t))) wanted s
            (each_weaker (λ (t : Table). IsGrid column_id t.grid) (λ t. IsShown (grid (as_part t)))
            (λ t is. IsShown-shown (x t.id) t.grid (filter (test t.id) t.grid.rows) t.id (IsAscending-filter (test t.id) t.grid.rows is.ascending)) s laid.grids)));
      }

pub all_pass : {X : Type 0} (xs : List X) → filter (λ _. true) xs ≡ xs
all_pass [] = refl
all_pass (x ∷ xs) = ap (λ l. x ∷ l) (all_pass xs)

-- the part with all tables and rows is the whole
pub part_whole : (x : List ℕ → Readable) (s : Document) → part (λ _. true) (λ _ _. true) x s ≡ view x s
part_whole x s =
    ap (by_id shown_table_id)
    (map_every (λ (t : Table). shown_part (λ _. true) (x t.id) t) (λ (t : Table). shown_table (x t.id) t)
    (λ t. ap (λ rows. shown_rows (x t.id) t.id (shown_columns (x t.id) t.grid.columns) (map (row_of t.grid) rows)) (all_pass t.grid.rows))
    (filter (λ (t : Table). is_shown (x t.id) t.grid.columns) s))
