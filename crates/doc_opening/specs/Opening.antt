-- What kept records make of a document, one after the other.
use Rattle.std.specs.Prelude.{◌≡◌, ℕ, ◌+◌, List, [], ◌∷◌, Bool, ◌&&◌, nat_eq, nat_lt, length, Option, Some, None, IfSome, if◌then◌else◌}
use Rattle.doc_model.specs.Apply.{all_valid, apply_all}
use Rattle.doc_model.specs.Document.{Document}
use Rattle.doc_model.specs.NewDocument.{new_document}
use Rattle.record_lines.specs.declared.records.Kept.{Kept}
use Rattle.record_lines.specs.Records.{record_at}

-- a document, or the number of the first record that is bad at its place
pub data Opening : Type 0 where
  opens : Document → Opening
  bad : ℕ → Opening

-- the record has the number of its place, which is not the last one, and its actions are valid
abbrev pub is_good : Document → ℕ → Kept → Bool
is_good s n k = (nat_lt n 4294967295 && nat_eq k.number n) && all_valid s k.actions

-- the document after a record at that place, where it is good there
abbrev pub after_record : Document → ℕ → Option Kept → Option Document
after_record s n None = None
after_record s n (Some k) = if is_good s n k then Some (apply_all s k.actions) else None

-- the document after the record that the bytes spell, where they spell one that is good there
unfoldable pub kept_on : Document → ℕ → List ℕ → Option Document
kept_on s n bytes = after_record s n (record_at bytes)

-- what the records from that number on make of a document
abbrev pub opened_onto : Document → ℕ → List (List ℕ) → Opening
opened_onto s n [] = opens s
opened_onto s n (r ∷ rs) =
    elim (kept_on s n r) [ None ↦ bad n | Some new ↦ opened_onto new (n + 1) rs ]

-- what records make of the new document
abbrev pub opened : List (List ℕ) → Opening
opened records = opened_onto new_document 0 records

-- ---- where a keeper's records are told, or are not

-- so many records lead from the first document to this one; where told, they are all
pub record Opens (told : Option (List (List ℕ))) (first s : Document) (n : ℕ) : Type 0 where
  pub records : List (List ℕ)
  pub leads : opened_onto first 0 records ≡ opens s
  pub count : length records ≡ n
  pub told_all : IfSome told (λ rs. rs ≡ records)

-- the record of that number is the first bad one; where told, that is what the records come to
pub record FirstBad (told : Option (List (List ℕ))) (first : Document) (n : ℕ) : Type 0 where
  pub records : List (List ℕ)
  pub refused : opened_onto first 0 records ≡ bad n
  pub count : length records ≡ n + 1
  pub told_first : IfSome told (λ rs. opened_onto first 0 rs ≡ bad n)
