-- A generated run: what it does by how it ends, and the line that sums it up.
use Rattle.std.specs.Prelude.{◌≡◌, ℕ, ◌+◌, Bool, true, false, List, [], ◌∷◌, ◌++◌, codes, length, option_to_list, Option, if◌then◌else◌}
use Rattle.std.specs.Fmt.{decimal}
use Rattle.std.specs.Io.KnownBytes.{Appends}
use Rattle.doc_model.specs.Document.{Document}
use Rattle.doc_model.specs.declared.entry.Entry.{Entry}
use Rattle.doc_model.specs.declared.user.User.{User}
use Rattle.run_generator.specs.Script.{first_session, script, second_session, users}
use Rattle.io_edges.specs.Sending.{SendsFront}
use Rattle.bundle_judge.specs.declared.bare_verdict.BareVerdict.TheVariants as verdict
use Rattle.bundle_core.specs.Mailbox.{Outcome, quiet, says, shows_view}
use Rattle.bundle_core.specs.MadeLines.{made_line}
use Rattle.bundle_core.specs.State.{State, Verdicts, opening, records_kept, step, verdicts}
use Rattle.grist_run.specs.declared.status.Status.{Status}
use Rattle.grist_run.specs.declared.status.Status.TheVariants.{Done, WriteFault, StoreFault, NoMemory, BadStore, HistoryFull}
use Rattle.grist_run.specs.Admission.{admitted, all_asked, stops_at, takes_all}
use Rattle.grist_run.specs.Replay.{KeepsRecords}

-- ---- what is counted

-- an access rule denied the bundle
abbrev pub is_denial : Outcome → Bool
is_denial quiet = false
is_denial shows_view = false
is_denial (says (verdict.Denied action rule)) = true
is_denial (says _) = false

abbrev pub one_if_denied : Verdicts → ℕ
one_if_denied v = if is_denial v.outcome then 1 else 0

-- how many bundles of a history were denied
abbrev pub denials : List User → State → List Entry → ℕ
denials us st [] = 0
denials us st (e ∷ es) = one_if_denied (verdicts us st e) + denials us (step us st e) es

-- how many stream lines an entry made for a session: one or none
abbrev pub made_for : List User → State → Entry → List ℕ → ℕ
made_for us st e name = length (option_to_list (made_line us st e name))

-- and for both sessions of a script
abbrev pub made_at : List User → State → Entry → ℕ
made_at us st e = made_for us st e first_session + made_for us st e second_session

-- how many were made in a history
abbrev pub all_made : List User → State → List Entry → ℕ
all_made us st [] = 0
all_made us st (e ∷ es) = made_at us st e + all_made us (step us st e) es

-- ---- what is written

-- an object of JSON, and a newline
abbrev pub summary_line : (accepted denied entries lines rows : ℕ) → List ℕ
summary_line accepted denied entries lines rows =
    codes "{\"accepted\":" ++ decimal accepted
    ++ codes ",\"denied\":" ++ decimal denied
    ++ codes ",\"entries\":" ++ decimal entries
    ++ codes ",\"lines\":" ++ decimal lines
    ++ codes ",\"rows\":" ++ decimal rows
    ++ codes "}\n"

-- the line of a history of these users over this document
abbrev pub summary_of : List User → Document → ℕ → List Entry → List ℕ
summary_of us start rows h =
    summary_line (records_kept us (opening start) h) (denials us (opening start) h) (length h)
    (all_made us (opening start) h) rows

-- ---- what a run does

module _ (us : List User) (start : Document) (rows : ℕ) (h : List Entry)
    (written written_new : Option (List ℕ)) where
  -- the history is the script, and the line was written
  pub record GeneratesAll : Type 0 where
    pub took : admitted [] (script rows) ≡ takes_all (all_asked h)
    pub all : all_asked h ≡ script rows
    pub told : Appends written written_new (summary_of us start rows h)

  -- the same, and a front of the line was written
  pub record GeneratesUntold : Type 0 where
    pub took : admitted [] (script rows) ≡ takes_all (all_asked h)
    pub all : all_asked h ≡ script rows
    pub told : SendsFront (summary_of us start rows h) written written_new

  -- the history is a front of the script, and full for the entry behind it
  pub record GeneratesUntilFull : Type 0 where
    pub stopped : admitted [] (script rows) ≡ stops_at (all_asked h)
    pub more : List Entry
    pub front : script rows ≡ all_asked h ++ more
    pub untold : Appends written written_new []

  -- the history is a front of the script
  pub record GeneratesFront : Type 0 where
    pub more : List Entry
    pub front : script rows ≡ all_asked h ++ more
    pub untold : Appends written written_new []

  -- no document was opened
  pub record GeneratesNothing : Type 0 where
    pub none : h ≡ []
    pub untold : Appends written written_new []

  -- what a generated run did, by how it ended
  abbrev pub Generates : Status → Type 0
  Generates Done = GeneratesAll
  Generates WriteFault = GeneratesUntold
  Generates HistoryFull = GeneratesUntilFull
  Generates NoMemory = GeneratesFront
  Generates StoreFault = GeneratesNothing
  Generates (BadStore number) = GeneratesNothing
  Generates _ = ⊥

-- A whole generated run: the document that its keeper's records lead to, and what became of the
-- keeper
pub record IsGenerated (rows : ℕ) (status : Status) (h : List Entry)
    (written written_new : Option (List ℕ)) (told now : Option (List (List ℕ)))
    (failures failures_new : ℕ) : Type 0 where
  pub start : Document
  pub generates : Generates users start rows h written written_new status
  pub keeper : KeepsRecords users start status h told now failures failures_new
