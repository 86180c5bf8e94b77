-- How a core keeps an open session.
use Rattle.std.specs.Prelude.{ℕ, ◌+◌, ◌-◌, ◌<◌, ◌^◌, ◌≡◌, Bool, true, List, [], ◌∷◌, ◌++◌, Option, Some, None, if◌then◌else◌}
use Rattle.doc_model.specs.declared.user.User.{User}
use Rattle.doc_model.specs.declared.view.ViewAction.{ViewAction}
use Rattle.doc_model.specs.Document.{Document}
use Rattle.grist_json.specs.Lines.{stream_text}
use Rattle.bundle_core.specs.Mailbox.{is_full}
use Rattle.bundle_core.specs.State.{Holder, Open}
use Rattle.rule_contexts.specs.Context.{view}

-- a session without its view, which is the document's; a line that is ready to be posted, and for
-- how many lines, and how many bundles, there is room
pub record SessionState : Type 0 where
  pub session : List ℕ
  pub holder : Holder
  pub made : ℕ
  pub waiting : List (List ℕ)
  pub lagging : Bool
  pub ready : Option (List ℕ)
  pub room : ℕ
  pub note_room : ℕ

-- the session with its view of a document
abbrev pub open_of : Document → SessionState → Open
open_of s x = record {
  session = x.session;
  holder = x.holder;
  mailbox = record {
    view = view x.holder.user s;
    made = x.made;
    waiting = x.waiting;
    lagging = x.lagging;
  };
}

-- the line that tells these actions; none where there are none, or where the session lags
abbrev pub line_for : List ViewAction → SessionState → Option (List ℕ)
line_for [] x = None
line_for (a ∷ as') x = if x.lagging then None else Some (stream_text (x.made + 1) (a ∷ as'))

-- the line that tells what its user is told is ready, and there is room for it
pub record IsReady (told : User → List ViewAction) (x : SessionState) : Type 0 where
  pub line : x.ready ≡ line_for (told x.holder.user) x
  pub room : 0 < x.room

-- what is the same after lines were made ready and room was made
pub record IsPrepared (old new : SessionState) : Type 0 where
  pub session : new.session ≡ old.session
  pub holder : new.holder ≡ old.holder
  pub made : new.made ≡ old.made
  pub waiting : new.waiting ≡ old.waiting
  pub lagging : new.lagging ≡ old.lagging

-- the session after its line was posted, or could not be, or where there is none
abbrev pub after_post : SessionState → Option (List ℕ) → SessionState
after_post x None = record {
  session = x.session;
  holder = x.holder;
  made = x.made;
  waiting = x.waiting;
  lagging = x.lagging;
  ready = None;
  room = x.room;
  note_room = x.note_room;
}
after_post x (Some line) =
    if is_full x.waiting
    then record {
      session = x.session;
      holder = x.holder;
      made = x.made;
      waiting = x.waiting;
      lagging = true;
      ready = None;
      room = x.room;
      note_room = x.note_room;
    }
    else record {
      session = x.session;
      holder = x.holder;
      made = x.made + 1;
      waiting = x.waiting ++ line ∷ [];
      lagging = x.lagging;
      ready = None;
      room = x.room - 1;
      note_room = x.note_room;
    }

abbrev pub posted_state : SessionState → SessionState
posted_state x = after_post x x.ready

-- the session may be posted its line: there is room, and the count has not come to its end
pub record MayPost (x : SessionState) : Type 0 where
  pub room : 0 < x.room
  pub few : x.made < 2 ^ 63

-- the lines that waited were given
pub record IsEmptied (old new : SessionState) : Type 0 where
  pub session : new.session ≡ old.session
  pub user : new.holder.user ≡ old.holder.user
  pub waiting : new.waiting ≡ []
  pub lagging : new.lagging ≡ old.lagging
