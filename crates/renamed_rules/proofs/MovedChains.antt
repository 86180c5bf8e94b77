-- Which rules are asked, under the new name of a column.
use Rattle.std.proofs.Common.{ℕ, Bool, true, false, cond, ◌&&◌, ◌||◌, List, [], ◌∷◌, map, ◌≡◌, refl, subst, sym, ap, ◌∙◌, Option, Some, None}
use Rattle.std.specs.Bool.{⊤}
use Rattle.std.specs.List.{AllByRecursion, list_any}
use Rattle.std.specs.Option.{option_map}
use Rattle.std.specs.Str.{bytes_eq}
use Rattle.std.proofs.lemmas.Bool.{and_parts, false≢true, or_left}
use Rattle.std.proofs.lemmas.Slice.Eq.{bytes_eq-Decides}
use Rattle.acl_rules.specs.declared.resource.Columns.{Columns}
use Rattle.acl_rules.specs.declared.resource.Columns.TheVariants as columns
use Rattle.acl_rules.specs.declared.resource.Resource.{Resource}
use Rattle.acl_rules.specs.declared.resource.Resource.TheVariants as resource
use Rattle.acl_rules.specs.Carried.{moved as moved_by, moved_columns, moved_id}
use Rattle.acl_rules.specs.Chain.{Part, are_all, is_of, names_column, of_column, of_document, of_table}
use Rattle.formula_records.specs.RecordTables.{IsIn}
use Rattle.rename_marks.specs.declared.column_rename.ColumnRename.{ColumnRename}
use Rattle.renamed_documents.specs.RenamingSteps.{naming}
use Rattle.renamed_documents.proofs.MovedNames.{moved_apart}
use Rattle.renamed_values.specs.SameEv.{IsKept, moved}
use Rattle.renamed_rules.specs.RenamedRules.{ListsKept, rows_of}

-- the parts of a chain that may be asked of a table, and whether they name another column than the new one
abbrev pub IsPartOf : ColumnRename → List ℕ → Part → Type 0
IsPartOf m t (of_column a c) = (a ≡ t) × IsKept m t c
IsPartOf m t (of_table a) = a ≡ t
IsPartOf m t of_document = ⊤

abbrev pub part_after : ColumnRename → Part → Part
part_after m (of_column t c) = of_column t (moved m t c)
part_after m (of_table t) = of_table t
part_after m of_document = of_document

-- a rule of such a part is asked about rows of the table
pub about_part : (m : ColumnRename) (t : List ℕ) (x : Part) → IsPartOf m t x → (q : Option Resource) → is_of x q ≡ true → IsIn (rows_of q) t
about_part m t x i None e = absurd (false≢true e)
about_part m t (of_column a c) i (Some (resource.Table id cs)) e = or_left (bytes_eq id t) false (ap (bytes_eq id) (sym i.0) ∙ (and_parts (bytes_eq id a) (names_column cs c) e).0)
about_part m t (of_column a c) i (Some resource.Document) e = tt
about_part m t (of_table a) i (Some (resource.Table id cs)) e = or_left (bytes_eq id t) false (ap (bytes_eq id) (sym i) ∙ (and_parts (bytes_eq id a) (are_all cs) e).0)
about_part m t (of_table a) i (Some resource.Document) e = tt
about_part m t of_document i (Some (resource.Table id cs)) e = absurd (false≢true e)
about_part m t of_document i (Some resource.Document) e = tt

module _ (m : ColumnRename) (t : List ℕ) where
  listed : (ds : List (List ℕ)) → cond (bytes_eq t m.table) (columns.These (map (moved_id m.old m.new) ds)) (columns.These ds) ≡ columns.These (map (moved m t) ds)
  listed ds = by (bytes_eq t m.table)
    where
      same : (ds : List (List ℕ)) → ds ≡ map (λ d. d) ds
      same [] = refl
      same (d ∷ ds) = ap (λ es. d ∷ es) (same ds)

      by : (b : Bool) → cond b (columns.These (map (moved_id m.old m.new) ds)) (columns.These ds) ≡ columns.These (map (λ d. cond (b && bytes_eq d m.old) m.new d) ds)
      by true = refl
      by false = ap columns.These (same ds)

  any_moved : (c : List ℕ) → IsKept m t c → (ds : List (List ℕ)) → AllByRecursion (IsKept m t) ds → list_any (λ d. bytes_eq d (moved m t c)) (map (moved m t) ds) ≡ list_any (λ d. bytes_eq d c) ds
  any_moved c k [] h = refl
  any_moved c k (d ∷ ds) h = ap (λ b. b || list_any (λ d. bytes_eq d (moved m t c)) (map (moved m t) ds)) (moved_apart m t d c h.0 k) ∙ ap (λ b. bytes_eq d c || b) (any_moved c k ds h.1)

  -- a table's resource, of the table that is asked
  names_moved : (c : List ℕ) → IsKept m t c → (cs : Columns) → ListsKept m (Some (resource.Table t cs)) → names_column (cond (bytes_eq t m.table) (moved_columns m.old m.new cs) cs) (moved m t c) ≡ names_column cs c
  names_moved c k columns.All h = elim (bytes_eq t m.table) as (λ b. names_column (cond b columns.All columns.All) (moved m t c) ≡ false) [ true ↦ refl | false ↦ refl ]
  names_moved c k (columns.These ds) h = ap (λ x. names_column x (moved m t c)) (listed ds) ∙ any_moved c k ds h

  all_moved : (b : Bool) (cs : Columns) → are_all (cond b (moved_columns m.old m.new cs) cs) ≡ are_all cs
  all_moved true columns.All = refl
  all_moved true (columns.These ds) = refl
  all_moved false cs = refl

  column_moved : (c id : List ℕ) (cs : Columns) → IsKept m t c → ListsKept m (Some (resource.Table id cs))
      → (bytes_eq id t && names_column (cond (bytes_eq id m.table) (moved_columns m.old m.new cs) cs) (moved m t c)) ≡ (bytes_eq id t && names_column cs c)
  column_moved c id cs k h = by (bytes_eq id t) refl
    where
      by : (b : Bool) → bytes_eq id t ≡ b → (b && names_column (cond (bytes_eq id m.table) (moved_columns m.old m.new cs) cs) (moved m t c)) ≡ (b && names_column cs c)
      by true e =
          let same : id ≡ t = (bytes_eq-Decides id t).0 e in
          ap (λ a. names_column (cond (bytes_eq a m.table) (moved_columns m.old m.new cs) cs) (moved m t c)) same
          ∙ names_moved c k cs (subst (λ (a : List ℕ). ListsKept m (Some (resource.Table a cs))) same h)
      by false e = refl

-- a rule stays of its part
pub part_same : (m : ColumnRename) (t : List ℕ) (x : Part) → IsPartOf m t x → (q : Option Resource) → ListsKept m q → is_of (part_after m x) (option_map (moved_by (naming m)) q) ≡ is_of x q
part_same m t x i None h = refl
part_same m t (of_column a c) i (Some (resource.Table id cs)) h = column_moved m a c id cs (subst (λ (b : List ℕ). IsKept m b c) (sym i.0) i.1) h
part_same m t (of_column a c) i (Some resource.Document) h = refl
part_same m t (of_table a) i (Some (resource.Table id cs)) h = ap (λ b. bytes_eq id a && b) (all_moved m t (bytes_eq id m.table) cs)
part_same m t (of_table a) i (Some resource.Document) h = refl
part_same m t of_document i (Some (resource.Table id cs)) h = refl
part_same m t of_document i (Some resource.Document) h = refl
