-- What a session that is open has seen and is still to be given. Every line that a session is ever
-- given is made here, from the session's own requests and views alone.
use Rattle.std.specs.Prelude.{ℕ, ◌+◌, Bool, true, false, ◌||◌, List, [], ◌∷◌, ◌++◌, length, nat_le, Option, Some, None, if◌then◌else◌}
use Rattle.std.specs.List.{sum_by}
use Rattle.std.specs.Str.{bytes_eq}
use Rattle.doc_model.specs.declared.request.Request.{Request}
use Rattle.doc_model.specs.declared.request.Request.TheVariants.{Fetch}
use Rattle.doc_model.specs.declared.verdict.Verdict.TheVariants.{Changes}
use Rattle.doc_model.specs.declared.view.ViewAction.{ViewAction}
use Rattle.doc_model.specs.declared.view.ViewTable.{ViewTable}
use Rattle.doc_model.specs.Changes.{changes}
use Rattle.plain_view.specs.PartsOfViews.{part_of}
use Rattle.grist_json.specs.Lines.{reply_text, stream_text}
use Rattle.bundle_core.specs.Replies.{reply_of}
use Rattle.bundle_judge.specs.declared.bare_verdict.BareVerdict.{BareVerdict}

-- the view now, the number of stream lines made, those that wait, and whether one could not be made
pub record Mailbox : Type 0 where
  pub view : List ViewTable
  pub made : ℕ
  pub waiting : List (List ℕ)
  pub lagging : Bool

-- the mailbox of a session that has just been opened
abbrev pub new_mailbox : List ViewTable → Mailbox
new_mailbox view = record { view = view; made = 0; waiting = []; lagging = false }

-- so much waits that no further line is made
abbrev pub is_full : List (List ℕ) → Bool
is_full waiting = nat_le 4096 (length waiting) || nat_le 4194304 (sum_by length waiting)

-- the changes of the view are written in a line with the next number, unless the session lags then
abbrev pub posted : List ViewTable → List ViewAction → Mailbox → Mailbox
posted new actions m =
    if m.lagging || is_full m.waiting
    then record { view = new; made = m.made; waiting = m.waiting; lagging = true }
    else record {
      view = new;
      made = m.made + 1;
      waiting = m.waiting ++ stream_text (m.made + 1) actions ∷ [];
      lagging = false;
    }

-- no changes, no line
abbrev pub posted_if_any : List ViewTable → List ViewAction → Mailbox → Mailbox
posted_if_any new [] m = m
posted_if_any new (a ∷ as') m = posted new (a ∷ as') m

-- a bundle led to this view
abbrev pub due : List ViewTable → Mailbox → Mailbox
due new m = posted_if_any new (changes m.view new) m

-- what a request came to, without what its reply shows of the view
pub data Outcome : Type 0 where
  quiet : Outcome
  shows_view : Outcome
  says : BareVerdict → Outcome

-- the table that is asked for, with all its rows, where the view has it
abbrev pub asked_table : List ℕ → List ViewTable → List ViewTable
asked_table table v = part_of (λ c. bytes_eq c table) (λ c r. true) v

-- what a reply shows of a view: all of it, or the table that was asked for
abbrev pub shown_part : Request → List ViewTable → List ViewAction
shown_part (Fetch table) v = changes [] (asked_table table v)
shown_part r v = changes [] v

-- the reply to a request, where it has one
abbrev pub replies : Request → Outcome → List ViewTable → List (List ℕ)
replies r quiet v = []
replies r shows_view v = reply_text (Changes (shown_part r v)) ∷ []
replies r (says verdict) v = reply_of verdict ∷ []

-- the mailbox after a turn, and the lines that were given in it
pub record Turn : Type 0 where
  pub mailbox : Option Mailbox
  pub lines : List (List ℕ)

-- the lines that wait are given
abbrev pub emptied : Mailbox → Mailbox
emptied m = record { view = m.view; made = m.made; waiting = []; lagging = m.lagging }

-- a turn of a session that stays open: what waits, the line of its own request, the reply
abbrev pub stays : Mailbox → Mailbox → List (List ℕ) → Turn
stays before after reply =
    record { mailbox = Some (emptied after); lines = before.waiting ++ after.waiting ++ reply }

-- a turn of a session, by its mailbox before and its view after its own request
abbrev pub own : Option Mailbox → Request → Outcome → Option (List ViewTable) → Turn
own None r o None = record { mailbox = None; lines = replies r o [] }
own None r o (Some v) = record { mailbox = Some (new_mailbox v); lines = replies r o v }
own (Some m) r quiet None = record { mailbox = None; lines = [] }
own (Some m) r shows_view None =
    record { mailbox = None; lines = m.waiting ++ replies r shows_view [] }
own (Some m) r (says verdict) None =
    record { mailbox = None; lines = m.waiting ++ replies r (says verdict) [] }
own (Some m) r o (Some v) = stays m (due v (emptied m)) (replies r o v)
