-- What lines ask for, of which every entry is as the lines make it.
use Rattle.std.proofs.Common.{◌≡◌, ℕ, List, [], ◌∷◌, ◌++◌, Option, Some, None}
use Rattle.std.specs.List.{AllByRecursion}
use Rattle.doc_model.specs.declared.entry.Entry.{Entry}
use Rattle.grist_serve.specs.Answered.{Asked, asks_entry, asks_of, asks_peek, line_asks, peek_or, peeked_table}
use Rattle.grist_serve.specs.Requests.{line_entries}

pub all_append : {A : Type 0} (P : A → Type 0) (xs ys : List A) → AllByRecursion P xs → AllByRecursion P ys → AllByRecursion P (xs ++ ys)
all_append P [] ys a b = b
all_append P (x ∷ xs) ys a b = (a.0, all_append P xs ys a.1 b)

module _ (P : Entry → Type 0) where
  -- so it is of the entry that is asked for, where one is
  abbrev pub AsksBy : Asked → Type 0
  AsksBy (asks_entry e) = P e
  AsksBy (asks_peek table) = Unit {0}

  entries_or : (es : List Entry) (peek : Option (List ℕ)) → AllByRecursion P es → AllByRecursion AsksBy (peek_or peek es)
  entries_or [] None all = tt
  entries_or (e ∷ es) None all = (all.0, entries_or es None all.1)
  entries_or es (Some table) all = (tt, tt)

  module _ (name : List ℕ) (each : (text : List ℕ) → AllByRecursion P (line_entries name text)) where
    pub line_asks_by : (text : List ℕ) → AllByRecursion AsksBy (line_asks name text)
    line_asks_by text = entries_or (line_entries name text) (peeked_table text) (each text)

    pub asks_by : (lines : List (List ℕ)) → AllByRecursion AsksBy (asks_of name lines)
    asks_by [] = tt
    asks_by (l ∷ ls) = all_append AsksBy (line_asks name l) (asks_of name ls) (line_asks_by l) (asks_by ls)
