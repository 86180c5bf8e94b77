-- What a run does with an input whose bytes are told.
use Rattle.std.specs.Prelude.{◌≡◌, ℕ, List, [], ◌++◌, Option, ⊤}
use Rattle.std.specs.Io.KnownBytes.{Appends, IsAtEnd}
use Rattle.doc_model.specs.Document.{Document}
use Rattle.doc_model.specs.declared.entry.Entry.{Entry}
use Rattle.doc_model.specs.declared.user.User.{User}
use Rattle.io_edges.specs.Lines.{lines_of}
use Rattle.io_edges.specs.Sending.{SendsFront}
use Rattle.grist_run.specs.declared.status.Status.{Status}
use Rattle.grist_run.specs.declared.status.Status.TheVariants.{Done, Usage, BadUsers, ReadFault, WriteFault, StoreFault, NoMemory, BadStore, TurnsSpent, PortFault, HistoryFull}
use Rattle.grist_run.specs.Admission.{admitted, all_asked, takes_all, stops_at}
use Rattle.grist_run.specs.Script.{entries_of}
use Rattle.grist_run.specs.Sending.{frames_of}
use Rattle.grist_run.specs.UserLines.{Script, bad_user, script, script_of, asking_lines, users_said}

-- what an input says
abbrev pub script_in : List ℕ → Script
script_in input = script_of (lines_of input)

-- the entries that an input asks for
abbrev pub entries_in : List ℕ → List Entry
entries_in input = entries_of (asking_lines (script_in input))

module _ (start : Document) (input : List ℕ) (history : List Entry)
    (written_old written_new : Option (List ℕ)) where
  -- nothing is left of the input, all that it asks for is the history, and all frames were written
  pub record AnswersInput (left : Option (List ℕ)) : Type 0 where
    pub users : List User
    pub requests : List (List ℕ)
    pub said : script_in input ≡ script users requests
    pub took : admitted [] (entries_of requests) ≡ takes_all (all_asked history)
    pub at_end : IsAtEnd left
    pub written : Appends written_old written_new (frames_of users start history)

  -- the input's first bad user line has this number
  pub record RefusesInput (number : ℕ) : Type 0 where
    pub bad : script_in input ≡ bad_user number
    pub none : history ≡ []
    pub written : Appends written_old written_new []

  -- the history is full for the entry behind it
  pub record FillsHistory : Type 0 where
    pub stopped : admitted [] (entries_in input) ≡ stops_at (all_asked history)
    pub written : Appends written_old written_new
        (frames_of (users_said (script_in input)) start history)

  -- the history is a front of what the input asks for, and its frames were written
  pub record AnswersFront : Type 0 where
    pub more : List Entry
    pub entries : entries_in input ≡ all_asked history ++ more
    pub written : Appends written_old written_new
        (frames_of (users_said (script_in input)) start history)

  -- the same, but of the frames a front was written
  pub record WritesFront : Type 0 where
    pub more : List Entry
    pub entries : entries_in input ≡ all_asked history ++ more
    pub written : SendsFront
        (frames_of (users_said (script_in input)) start history) written_old written_new

  -- no document was opened
  pub record OpensNothing : Type 0 where
    pub none : history ≡ []
    pub written : Appends written_old written_new []

-- what a run over this document did with the input, by how it ended
abbrev pub Follows : Document → Status → List ℕ → Option (List ℕ) → List Entry → Option (List ℕ)
    → Option (List ℕ) → Type 0
Follows start Done input left h w w' = AnswersInput start input h w w' left
Follows start Usage input left h w w' = ⊤
Follows start (BadUsers number) input left h w w' = RefusesInput start input h w w' number
Follows start ReadFault input left h w w' = AnswersFront start input h w w'
Follows start WriteFault input left h w w' = WritesFront start input h w w'
Follows start StoreFault input left h w w' = OpensNothing start input h w w'
Follows start NoMemory input left h w w' = WritesFront start input h w w'
Follows start (BadStore number) input left h w w' = OpensNothing start input h w w'
Follows start TurnsSpent input left h w w' = AnswersFront start input h w w'
Follows start PortFault input left h w w' = ⊥
Follows start HistoryFull input left h w w' = FillsHistory start input h w w'
