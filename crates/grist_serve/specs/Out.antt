-- When what a session is given in a history is what a pass was given.
use Rattle.std.specs.Prelude.{◌≡◌, ℕ, false, List, [], ◌∷◌, ◌++◌}
use Rattle.std.specs.Str.{bytes_eq}
use Rattle.doc_model.specs.declared.entry.Entry.{Entry}
use Rattle.session_gate.specs.History.{is_by}
use Rattle.session_gate.specs.declared.known.Made.{Made}

-- exactly the pass's own entries are of the session
abbrev pub AreOwn : ℕ → List ℕ → List (Made Entry) → Type 0
AreOwn n name [] = Unit {0}
AreOwn n name (x ∷ xs) = (bytes_eq x.entry.session name ≡ is_by n x.by) × AreOwn n name xs

-- no entry is of the session
abbrev pub AreOthers : List ℕ → List (Made Entry) → Type 0
AreOthers name [] = Unit {0}
AreOthers name (x ∷ xs) = (bytes_eq x.entry.session name ≡ false) × AreOthers name xs

-- in the whole history the session has its entries in one part, where they are the pass's own
pub record IsPartOf (name : List ℕ) (n : ℕ) (before more all : List (Made Entry)) : Type 0 where
  pub after : List (Made Entry)
  pub whole : all ≡ (before ++ more) ++ after
  pub none_before : AreOthers name before
  pub own : AreOwn n name more
  pub none_after : AreOthers name after
