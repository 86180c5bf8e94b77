-- What a document tells of its tables, and what definitions read.
use Rattle.std.proofs.Common.{ℕ, true, false, List, ◌≡◌, refl, sym, ◌∙◌, Option, Some, None, Bor}
use Rattle.std.specs.Option.{is_some, option_copied, MatchOption}
use Rattle.doc_readers.specs.Parts.{grid_at}
use Rattle.doc_model.specs.declared.column.ColDef.{ColDef}
use Rattle.doc_model.specs.ByIds.{find_id, has_id}
use Rattle.doc_model.specs.Document.{Table, Document, table_id}
use Rattle.doc_model.specs.Grid.{Grid}
use Rattle.doc_model.specs.Readers.{rows_at}
use Rattle.doc_model.specs.Schema.{no_grid}
use Rattle.doc_model.proofs.ByIdsLaws.{has_id-find}

-- a table that tells rows is there, and no other
has_told : (s : Document) (id : List ℕ) (rows : List ℕ) → rows_at s id ≡ Some rows → has_id table_id s id ≡ true
has_told s id rows h =
    has_id-find table_id id s
    ∙ elim (find_id table_id id s) as (λ (o : Option Table). elim o as (λ _. Option (List ℕ)) [ None ↦ None | Some t ↦ Some t.grid.rows ] ≡ Some rows → is_some o ≡ true) [
      | None ↦ λ e. absurd (cc)
      | Some t ↦ λ _. refl
    ] h

has_not_told : (s : Document) (id : List ℕ) → rows_at s id ≡ None → has_id table_id s id ≡ false
has_not_told s id h =
    has_id-find table_id id s
    ∙ elim (find_id table_id id s) as (λ (o : Option Table). elim o as (λ _. Option (List ℕ)) [ None ↦ None | Some t ↦ Some t.grid.rows ] ≡ None → is_some o ≡ false) [
      | None ↦ λ _. refl
      | Some t ↦ λ e. absurd (cc)
    ] h

pub has_by_rows : (s : Document) (id : List ℕ) (o : Option (Bor (List ℕ))) → MatchOption o (rows_at s id ≡ None) (λ rows. rows_at s id ≡ Some rows.now) → is_some o ≡ has_id table_id s id
has_by_rows s id None h = sym (has_not_told s id h)
has_by_rows s id (Some rows) h = sym (has_told s id rows.now h)

-- the rows that are read of a table are its rows
pub rows_read : (s : Document) (id : List ℕ) (rows : List ℕ) → rows_at s id ≡ Some rows → rows ≡ (grid_at s id).rows
rows_read s id rows h =
    elim (find_id table_id id s) as (λ (o : Option Table). elim o as (λ _. Option (List ℕ)) [ None ↦ None | Some t ↦ Some t.grid.rows ] ≡ Some rows → rows ≡ (elim o as (λ _. Grid ColDef) [ None ↦ no_grid | Some t ↦ t.grid ]).rows) [
      | None ↦ λ e. absurd (cc)
      | Some t ↦ λ e. cc
    ] h

pub some_copied : {X : Type 0} (o : Option (Bor X)) → is_some o ≡ is_some (option_copied o)
some_copied None = refl
some_copied (Some x) = refl
