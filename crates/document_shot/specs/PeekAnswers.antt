-- What a peek at a table is answered.
use Rattle.std.specs.Prelude.{◌≡◌, ◌≤◌, ℕ, List, [], ◌∷◌, length, Some, None, if◌then◌else◌}
use Rattle.doc_model.specs.declared.entry.Entry.{Entry}
use Rattle.doc_model.specs.declared.view.ViewTable.{ViewTable}
use Rattle.doc_model.specs.Changes.{changes}
use Rattle.doc_model.specs.Document.{Document}
use Rattle.snap_reads.specs.declared.past.Past.{Past}
use Rattle.snap_reads.specs.Past.{ContinuesAll}
use Rattle.peek_lines.specs.declared.answers.PeekAnswer.{PeekAnswer}
use Rattle.peek_lines.specs.declared.answers.PeekAnswer.TheVariants.{Table, NotOpen, Lagged, NoSuchTable}
use Rattle.rule_contexts.specs.Context.{view}
use Rattle.bundle_core.specs.Mailbox.{asked_table}
use Rattle.bundle_core.specs.State.{Open, State, session_of}
use Rattle.document_shot.specs.Pasts.{state_at}
use Rattle.document_shot.specs.declared.past.CoreStart.{CoreStart}

-- the table that was asked for, where there is one
abbrev pub table_answer : List ViewTable → PeekAnswer
table_answer [] = NoSuchTable
table_answer (t ∷ ts) = Table (changes [] (t ∷ ts))

-- the answer to an open session
abbrev pub open_answer : Document → List ℕ → Open → PeekAnswer
open_answer s table o =
    if o.mailbox.lagging
    then Lagged
    else table_answer (asked_table table (view o.holder.user s))

-- the answer to a session in a state
abbrev pub peek_answer : State → List ℕ → List ℕ → PeekAnswer
peek_answer st session table =
    elim (session_of session st) [ None ↦ NotOpen | Some o ↦ open_answer st.document table o ]

-- A peek of a session was answered by what a history leads to, which continues all that was known
-- and has no fewer entries than were asked for; it is known from then on
pub record IsPeekAnswer (session table : List ℕ) (old : List (Past CoreStart Entry)) (least : ℕ)
    (new : List (Past CoreStart Entry)) (answer : PeekAnswer) : Type 0 where
  pub past : Past CoreStart Entry
  pub known : new ≡ past ∷ old
  pub later : ContinuesAll old past
  pub marked : least ≤ length past.entries
  pub answered : answer ≡ peek_answer (state_at past) session table
