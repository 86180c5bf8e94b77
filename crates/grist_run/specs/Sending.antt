-- What was sent of the frames of a history.
use Rattle.std.specs.Prelude.{◌≡◌, ℕ, List, ◌++◌, Option}
use Rattle.std.specs.Io.KnownBytes.{Appends}
use Rattle.doc_model.specs.declared.entry.Entry.{Entry}
use Rattle.doc_model.specs.declared.user.User.{User}
use Rattle.doc_model.specs.Document.{Document}
use Rattle.io_edges.specs.Sending.{Sends}
use Rattle.bundle_core.specs.Frames.{frames}
use Rattle.bundle_core.specs.State.{opening}

-- the frames of a history that began with this document
abbrev pub frames_of : List User → Document → List Entry → List ℕ
frames_of users start history = frames users (opening start) history

-- of these bytes a front was written, some wait, and what stands behind those is lost
pub record SendsPart (bytes waiting : List ℕ)
    (written_old written_new : Option (List ℕ)) : Type 0 where
  pub front : List ℕ
  pub lost : List ℕ
  pub split : bytes ≡ front ++ waiting ++ lost
  pub written : Appends written_old written_new front

-- the frames of what was added to a history were sent behind those that waited
pub record Adds (users : List User) (start : Document) (old new : List Entry)
    (waiting_old waiting_new : List ℕ) (written_old written_new : Option (List ℕ)) : Type 0 where
  pub more : List ℕ
  pub frames_new : frames_of users start new ≡ frames_of users start old ++ more
  pub sends : Sends (waiting_old ++ more) waiting_new written_old written_new

-- not all of them were
pub record AddsPart (users : List User) (start : Document) (old new : List Entry)
    (waiting_old waiting_new : List ℕ) (written_old written_new : Option (List ℕ)) : Type 0 where
  pub more : List ℕ
  pub frames_new : frames_of users start new ≡ frames_of users start old ++ more
  pub sends : SendsPart (waiting_old ++ more) waiting_new written_old written_new
