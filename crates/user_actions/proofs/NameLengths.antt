-- Names, and the ids of a document's tables, have the length of names.
use Rattle.std.proofs.Common.{ℕ, ◌<◌, true, ◌&&◌, ◌||◌, not, List, [], ◌∷◌, length, ◌≡◌, refl, subst, Option, Some, None, arith, leb, lit<, lit≤, ⊎_elim}
use Rattle.std.proofs.lemmas.Bool.{and_parts, false≢true, leb-true, or_cases}
use Rattle.std.proofs.lemmas.Slice.Eq.{bytes_eq-Decides}
use Rattle.std.specs.List.{list_all}
use Rattle.std.specs.Str.{bytes_eq, chars}
use Rattle.cell_types.specs.NameLength.{HasNameLength}
use Rattle.cell_types.specs.NameRule.{has_name_characters, is_name, is_reserved}
use Rattle.doc_model.specs.declared.column.ColDef.{ColDef}
use Rattle.doc_model.specs.ByIds.{find_id}
use Rattle.doc_model.specs.Document.{Document, Table, table_id}
use Rattle.std.specs.List.{AllByRecursion}
use Rattle.doc_model.specs.MetadataIds.{columns_id, is_acl_id, is_metadata_id, is_schema_id, resources_id, rules_id, tables_id}
use Rattle.doc_model.specs.Sound.{has_names}
use Rattle.doc_model.proofs.ByIdsLaws.{found_all, found_id}

some_characters : (cs : List ℕ) → has_name_characters cs ≡ true → 0 < length cs
some_characters [] h = absurd (false≢true h)
some_characters (c ∷ cs) h = omega arith

pub name_length : (c : List ℕ) → is_name c ≡ true → HasNameLength c
unfolding is_name
name_length c h =
    let outer : (has_name_characters (chars c) ≡ true) × ((leb (length (chars c)) 64 && not (is_reserved c)) ≡ true) = and_parts (has_name_characters (chars c)) (leb (length (chars c)) 64 && not (is_reserved c)) h in
    let inner : (leb (length (chars c)) 64 ≡ true) × (not (is_reserved c) ≡ true) = and_parts (leb (length (chars c)) 64) (not (is_reserved c)) outer.1 in
    record { some = some_characters (chars c) outer.0; few = leb-true (length (chars c)) 64 inner.0 }

tables_length : HasNameLength tables_id
unfolding chars tables_id
tables_length = record { some = lit< tt; few = lit≤ tt }

columns_length : HasNameLength columns_id
unfolding chars columns_id
columns_length = record { some = lit< tt; few = lit≤ tt }

resources_length : HasNameLength resources_id
unfolding chars resources_id
resources_length = record { some = lit< tt; few = lit≤ tt }

rules_length : HasNameLength rules_id
unfolding chars rules_id
rules_length = record { some = lit< tt; few = lit≤ tt }

one_of : (known c : List ℕ) → HasNameLength known → bytes_eq known c ≡ true → HasNameLength c
one_of known c h is = subst HasNameLength ((bytes_eq-Decides known c).0 is) h

two_of : (k l c : List ℕ) → HasNameLength k → HasNameLength l → (bytes_eq k c || bytes_eq l c) ≡ true → HasNameLength c
two_of k l c p q h = ⊎_elim (λ is. one_of k c p is) (λ is. one_of l c q is) (or_cases (bytes_eq k c) (bytes_eq l c) h)

metadata_length : (c : List ℕ) → is_metadata_id c ≡ true → HasNameLength c
metadata_length c h =
    ⊎_elim (λ is. two_of tables_id columns_id c tables_length columns_length is) (λ is. two_of resources_id rules_id c resources_length rules_length is)
    (or_cases (is_schema_id c) (is_acl_id c) h)

-- the id of a table that is found
pub found_length : (s : Document) → AllByRecursion (λ (t : Table). (is_metadata_id t.id || has_names t) ≡ true) s → (c : List ℕ) (t : Table) → find_id table_id c s ≡ Some t → HasNameLength c
found_length s names c t found =
    let named : (is_metadata_id t.id || has_names t) ≡ true = found_all table_id (λ t. (is_metadata_id t.id || has_names t) ≡ true) c s t names found in
    let length : HasNameLength t.id = ⊎_elim (λ is. metadata_length t.id is) (λ is. name_length t.id (and_parts (is_name t.id) (list_all (λ (d : ColDef). is_name d.id) t.grid.columns) is).0) (or_cases (is_metadata_id t.id) (has_names t) named) in
    subst HasNameLength (found_id table_id c s t found) length
