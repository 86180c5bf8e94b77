-- Tables outside the metadata before and after a column has a new name.
use Rattle.std.proofs.Common.{ℕ, Bool, true, false, cond, List, [], ◌∷◌, map, ◌≡◌, refl, subst, sym, ap, ◌∙◌, Option, Some, None}
use Rattle.std.specs.List.{AllByRecursion}
use Rattle.std.specs.Option.{option_map}
use Rattle.std.specs.Str.{bytes_eq}
use Rattle.std.proofs.lemmas.Slice.Eq.{bytes_eq-Decides}
use Rattle.doc_model.specs.declared.column.ColDef.{ColDef}
use Rattle.doc_model.specs.ByIds.{find_id}
use Rattle.doc_model.specs.Document.{Document, Table, table_id}
use Rattle.doc_model.specs.Grid.{Grid}
use Rattle.doc_model.specs.Readers.{of_table}
use Rattle.doc_model.specs.Schema.{SchemaAgrees, plain_tables, resources, rules}
use Rattle.doc_model.proofs.DocumentParts.{find_plain}
use Rattle.doc_model.proofs.WholeLaws.{plain_from}
use Rattle.formula_records.specs.Recs.{Columns}
use Rattle.rename_marks.specs.declared.column_rename.ColumnRename.{ColumnRename}
use Rattle.rename_texts.specs.Renamed.{Rename}
use Rattle.renamed_values.specs.HeldRecords.{IsPlain}
use Rattle.renamed_documents.specs.RenamedTables.{ColumnFollows, IsFollowed, IsRenamed, Rewriting, grid_after, table_after}

-- the columns, rows and cells of a table
abbrev pub seen_in : List Table → List ℕ → Option (Grid ColDef)
seen_in ts a = option_map (λ (t : Table). t.grid) (find_id table_id a ts)

-- what is told of a table, where it is there
abbrev pub told : {X : Type 0} → X → (Grid ColDef → X) → Option (Grid ColDef) → X
told x f None = x
told x f (Some g) = f g

pub of_table_told : {X : Type 0} (s : Document) (a : List ℕ) (f : Grid ColDef → Option X) → of_table s a f ≡ told None f (seen_in s a)
of_table_told s a f = elim (find_id table_id a s) as (λ (o : Option Table). elim o [ None ↦ None | Some t ↦ f t.grid ] ≡ told None f (option_map (λ (t : Table). t.grid) o)) [ None ↦ refl | Some t ↦ refl ]

pub plain_found : (s : Document) (a : List ℕ) → SchemaAgrees s → IsPlain a → find_id table_id a s ≡ find_id table_id a (plain_tables s)
plain_found s a h p = ap (find_id table_id a) h.schema ∙ find_plain (resources s) (rules s) (plain_tables s) a (plain_from a p)

module _ (m : ColumnRename) (w : Rewriting) (a : List ℕ) where
  pub after_in : (ts : List Table) → seen_in (map (table_after m w) ts) a ≡ option_map (grid_after m w a) (seen_in ts a)
  after_in [] = refl
  after_in (t ∷ ts) = by (bytes_eq t.id a) refl (after_in ts)
    where
      by : (b : Bool) → bytes_eq t.id a ≡ b → seen_in (map (table_after m w) ts) a ≡ option_map (grid_after m w a) (seen_in ts a)
          → option_map (λ (t : Table). t.grid) (cond b (Some (table_after m w t)) (find_id table_id a (map (table_after m w) ts))) ≡ option_map (grid_after m w a) (option_map (λ (t : Table). t.grid) (cond b (Some t) (find_id table_id a ts)))
      by true e later = ap (λ i. Some (grid_after m w i t.grid)) ((bytes_eq-Decides t.id a).0 e)
      by false e later = later

  pub seen_after : (s s' : Document) → SchemaAgrees s → SchemaAgrees s' → IsRenamed m w s s' → IsPlain a → seen_in s' a ≡ option_map (grid_after m w a) (seen_in s a)
  seen_after s s' h h' is p =
      ap (option_map (λ (t : Table). t.grid)) (plain_found s' a h' p ∙ ap (find_id table_id a) is)
      ∙ after_in (plain_tables s)
      ∙ ap (λ o. option_map (grid_after m w a) (option_map (λ (t : Table). t.grid) o)) (sym (plain_found s a h p))

  -- what holds of each column of the tables holds of those of this one
  pub each_seen : (P : List ℕ → ColDef → Type 0) (ts : List Table) → AllByRecursion (λ (t : Table). AllByRecursion (P t.id) t.grid.columns) ts → (g : Grid ColDef) → seen_in ts a ≡ Some g → AllByRecursion (P a) g.columns
  each_seen P [] h g e = absurd (cc)
  each_seen P (t ∷ ts) h g e = by (bytes_eq t.id a) refl (each_seen P ts h.1 g) e
    where
      same_grid : (x y : Grid ColDef) → Some x ≡ Some y → x ≡ y
      same_grid x y e = cc

      by : (b : Bool) → bytes_eq t.id a ≡ b → (seen_in ts a ≡ Some g → AllByRecursion (P a) g.columns) → option_map (λ (t : Table). t.grid) (cond b (Some t) (find_id table_id a ts)) ≡ Some g → AllByRecursion (P a) g.columns
      by true i later e =
          subst (λ (x : Grid ColDef). AllByRecursion (P a) x.columns) (same_grid t.grid g e)
          (subst (λ (i : List ℕ). AllByRecursion (P i) t.grid.columns) ((bytes_eq-Decides t.id a).0 i) h.0)
      by false i later e = later e

  module _ (r : List ℕ → Rename) (k : Columns) where
    abbrev pub Follows : Grid ColDef → Type 0
    Follows g = AllByRecursion (ColumnFollows m r w k a) g.columns

    pub follows_seen : (s : Document) → SchemaAgrees s → IsFollowed m r w k s → IsPlain a → (g : Grid ColDef) → seen_in s a ≡ Some g → Follows g
    follows_seen s h is p g e = each_seen (λ t. ColumnFollows m r w k t) (plain_tables s) is.columns g (sym (ap (option_map (λ (t : Table). t.grid)) (plain_found s a h p)) ∙ e)

    -- what is told of the table before and after is related, where it is of each that follows
    pub told_related : {X Y : Type 0} (R : X → Y → Type 0) (x : X) (y : Y) (f : Grid ColDef → X) (f' : Grid ColDef → Y) (s s' : Document)
        → SchemaAgrees s → SchemaAgrees s' → IsRenamed m w s s' → IsFollowed m r w k s → IsPlain a
        → R x y → ((g : Grid ColDef) → Follows g → R (f g) (f' (grid_after m w a g))) → R (told x f (seen_in s a)) (told y f' (seen_in s' a))
    told_related R x y f f' s s' h h' is followed p none some =
        subst (λ (o : Option (Grid ColDef)). R (told x f (seen_in s a)) (told y f' o)) (sym (seen_after s s' h h' is p)) (by (seen_in s a) refl)
      where
        by : (o : Option (Grid ColDef)) → seen_in s a ≡ o → R (told x f o) (told y f' (option_map (grid_after m w a) o))
        by None e = none
        by (Some g) e = some g (follows_seen s h followed p g e)
