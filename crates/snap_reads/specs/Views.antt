-- What contracts see of a writer and of a reader, and what a peek tells.
use Rattle.std.specs.Prelude.{◌≡◌, ◌⊎◌, ◌≤◌, ℕ, Bool, List, ◌∷◌, length}
use Rattle.snap_reads.specs.Past.{ContinuesAll}
use Rattle.snap_reads.specs.declared.past.Past.{Past}

-- the history that readers take, the one that the last operation led to, and whether an
-- operation was lost, so that nothing is published any more
pub record WriterView (O E : Type 0) : Type 0 where
  pub published : Past O E
  pub last : Past O E
  pub lost : Bool

-- the histories that it took or was told of, the newest first, and how many entries the one that
-- it takes is to have
pub record ReaderView (O E : Type 0) : Type 0 where
  pub known : List (Past O E)
  pub least : ℕ

-- nothing was taken, or a history that continues all that was known
abbrev pub TakesOn : {O E : Type 0} → List (Past O E) → List (Past O E) → Type 0
TakesOn {O} {E} old new = (new ≡ old)
    ⊎ ((past : Past O E) × (new ≡ past ∷ old) × ContinuesAll old past)

-- The answer is one of a shot that stands for a history, which continues all that was known and
-- has no fewer entries than were asked for; it is known from then on
pub record IsPeek {S O E A : Type 0} (past : S → Past O E) (stands : S → Type 0)
    (answers : S → A → Type 0) (old : List (Past O E)) (least : ℕ) (new : List (Past O E))
    (answer : A) : Type 0 where
  pub shot : S
  pub stood : stands shot
  pub known : new ≡ past shot ∷ old
  pub later : ContinuesAll old (past shot)
  pub marked : least ≤ length (past shot).entries
  pub answered : answers shot answer
