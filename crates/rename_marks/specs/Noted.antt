-- What a walk over a formula notes.
use Rattle.std.specs.Prelude.{ℕ, ◌+◌, min, Bool, false, cond, List, [], ◌∷◌, ◌++◌, replicate}
use Rattle.formula_parse.specs.Tree.{Keys, Tree, Trees}
use Rattle.formula_records.specs.RecordTables.{only}
use Rattle.rename_texts.specs.Marked.{marks}
use Rattle.rename_marks.specs.declared.column_rename.ColumnRename.{ColumnRename}
use Rattle.rename_marks.specs.declared.marking.Marking.{Marking}
use Rattle.rename_marks.specs.Marks.{item_marks, key_marks, more_item_marks, more_key_marks}
use Rattle.rename_marks.specs.Scope.{Scope, rename_in}
use Rattle.rename_marks.specs.ScopeUses.{key_uses, uses, uses_each}
use Rattle.rename_marks.specs.Uses.{Use, is_replaced, is_unresolved, use_of}

-- the greatest count that is told
abbrev pub max_count : ℕ
max_count = 4294967295

abbrev pub capped : ℕ → ℕ
capped n = min n max_count

-- a count with those uses counted that cannot be resolved; it stands still at the greatest
abbrev pub counted : ColumnRename → ℕ → List Use → ℕ
counted r n [] = n
counted r n (u ∷ us) = counted r (cond (is_unresolved r u) (capped (n + 1)) n) us

-- with these marks behind the others, and these uses counted
unfoldable pub noted : ColumnRename → Marking → List Bool → List Use → Marking
noted r m ms us = record { marks = m.marks ++ ms; unresolved = counted r m.unresolved us }

-- with so many lexemes that stay
unfoldable pub stayed : Marking → ℕ → Marking
stayed m n = record { marks = m.marks ++ replicate n false; unresolved = m.unresolved }

-- with a use
unfoldable pub used : ColumnRename → Marking → Use → Marking
used r m u = noted r m (is_replaced r u ∷ []) (u ∷ [])

module _ (r : ColumnRename) (s : Scope) where
  -- with a formula
  unfoldable pub walked : Marking → Tree → Marking
  walked m t = noted r m (marks (rename_in r s) t) (uses s t)

  -- with items that have commas between them, or in front of each
  unfoldable pub walked_items : Marking → Trees → Marking
  walked_items m ts = noted r m (item_marks (rename_in r s) ts) (uses_each s ts)

  unfoldable pub walked_more : Marking → Trees → Marking
  walked_more m ts = noted r m (more_item_marks (rename_in r s) ts) (uses_each s ts)

  -- with a key of a lookup in the table and its value
  abbrev pub with_key : List ℕ → Marking → List ℕ → Tree → Marking
  with_key t m n a = walked (stayed (used r m (use_of (only t) n)) 1) a

  -- with keys that have commas between them, or in front of each
  unfoldable pub walked_keys : List ℕ → Marking → Keys → Marking
  walked_keys t m ks = noted r m (key_marks (rename_in r s) t ks) (key_uses s t ks)

  unfoldable pub walked_more_keys : List ℕ → Marking → Keys → Marking
  walked_more_keys t m ks = noted r m (more_key_marks (rename_in r s) t ks) (key_uses s t ks)
