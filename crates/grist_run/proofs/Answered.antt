-- What one entry adds to the frames of a history.
use Rattle.std.proofs.Common.{◌≡◌, ℕ, suc, ◌+◌, true, false, not, ◌&&◌, ◌||◌, nat_le, nat_lt, length, List, [], ◌∷◌, ◌++◌, Option, inl, inr, refl, sym, ap, ◌∙◌, subst, append_assoc, append-nil, lit<, lit≤}
use Rattle.std.specs.Str.{chars}
use Rattle.std.proofs.lemmas.List.{map-append}
use Rattle.std.specs.Prelude.{fold, sum_by}
use Rattle.cell_types.specs.NameLength.{HasNameLength}
use Rattle.doc_model.specs.declared.entry.Entry.{Entry}
use Rattle.doc_model.specs.declared.request.Request.{Request}
use Rattle.doc_model.specs.declared.user.User.{User}
use Rattle.doc_model.specs.Document.{Document}
use Rattle.io_edges.specs.Sending.{Sends}
use Rattle.io_edges.proofs.SendingLemmas.{sends_none}
use Rattle.bundle_core.specs.Core.{CoreState, entry_bound, entry_of, is_full, is_gone, size_bound, size_of, with_entry, IsStep}
use Rattle.bundle_core.specs.Frames.{framed, frames}
use Rattle.bundle_core.specs.KeptCore.{IsTaken, KeptCore}
use Rattle.bundle_core.specs.State.{State, opening, run, step, given}
use Rattle.grist_run.specs.Admission.{admitted, all_asked, asked, takes_all, stops_at}
use Rattle.grist_run.specs.Answering.{AnswersAll, FindsFull, AnswersPart}
use Rattle.grist_run.specs.Script.{nobody}
use Rattle.grist_run.specs.Sending.{frames_of, SendsPart}
use Rattle.grist_run.specs.Staying.{StaysStarted}
use Rattle.grist_run.proofs.Sent.{nothing_sent}

-- the session of lines that are no frame has the length of a name
pub nobody_length : HasNameLength nobody
unfolding chars
nobody_length = record { some = lit< tt; few = lit≤ tt }

-- ---- whether a history is full is not up to what was kept

length-asked : (h : List Entry) → length (all_asked h) ≡ length h
length-asked [] = refl
length-asked (e ∷ es) = ap suc (length-asked es)

sizes-asked : (n : ℕ) (h : List Entry) → fold (λ m e. m + size_of e) n (all_asked h) ≡ fold (λ m e. m + size_of e) n h
sizes-asked n [] = refl
sizes-asked n (e ∷ es) = sizes-asked (n + e.size) es

pub is_full-asked : (h : List Entry) (r : Request) (size : ℕ) → is_full (all_asked h) r size ≡ is_full h r size
is_full-asked h r size =
    ap (λ n. not (is_gone r) && (nat_le entry_bound n || nat_lt size_bound (sum_by size_of (all_asked h) + size))) (length-asked h)
    ∙ ap (λ n. not (is_gone r) && (nat_le entry_bound (length h) || nat_lt size_bound (n + size))) (sizes-asked 0 h)

frames-append : (users : List User) (st : State) (es : List Entry) (e : Entry) → frames users st (es ++ e ∷ []) ≡ frames users st es ++ framed e.session (given users (run users st es) e)
frames-append users st [] e = append-nil (framed e.session (given users st e))
frames-append users st (x ∷ es) e =
    ap (λ r. framed x.session (given users st x) ++ r) (frames-append users (step users st x) es e)
    ∙ sym (append_assoc (framed x.session (given users st x)) (frames users (step users st x) es) (framed e.session (given users (run users (step users st x) es) e)))

-- an entry that is not the end of a connection is kept
added_entry : (c : CoreState) (e : Entry) → is_gone e.request ≡ false → with_entry c e ≡ record { users = c.users; start = c.start; history = c.history ++ e ∷ [] }
added_entry c e stays = rw stays refl

admitted_one : (h : List Entry) (e : Entry) → is_full h e.request e.size ≡ false → admitted (all_asked h) (asked e ∷ []) ≡ takes_all (all_asked (h ++ e ∷ []))
admitted_one h e room = rw (is_full-asked h e.request e.size ∙ room) (ap takes_all (sym (map-append asked h (e ∷ []))))

pub admitted_none : (h : List Entry) (e : Entry) → is_full h e.request e.size ≡ true → admitted (all_asked h) (asked e ∷ []) ≡ stops_at (all_asked h)
admitted_none h e full = rw (is_full-asked h e.request e.size ∙ full) refl

module _ (old new : CoreState) (e : Entry) (lines : List (List ℕ)) (s : IsStep old new e lines) (stays : is_gone e.request ≡ false) where
  pub same_start : new.start ≡ old.start
  same_start = ap (λ (c : CoreState). c.start) (s.added ∙ added_entry old e stays)

  longer : new.history ≡ old.history ++ e ∷ []
  longer = ap (λ (c : CoreState). c.history) (s.added ∙ added_entry old e stays)

  pub took_one : admitted (all_asked old.history) (asked e ∷ []) ≡ takes_all (all_asked new.history)
  took_one = admitted_one old.history e s.has_room ∙ ap (λ h. takes_all (all_asked h)) (sym longer)

  more_frames : frames_of old.users old.start new.history ≡ frames_of old.users old.start old.history ++ framed e.session lines
  more_frames =
      ap (frames_of old.users old.start) longer ∙ frames-append old.users (opening old.start) old.history e
      ∙ ap (λ ls. frames_of old.users old.start old.history ++ framed e.session ls) (sym s.lines_given)

  module _ (v v' : List ℕ) (w w' : Option (List ℕ)) where
    pub answers_step : Sends (v ++ framed e.session lines) v' w w' → AnswersAll old.users old.start old.history new.history (asked e ∷ []) v v' w w'
    answers_step sends = record {
      took = took_one;
      adds = record { more = framed e.session lines; frames_new = more_frames; sends = sends };
    }

    pub answers_part : SendsPart (v ++ framed e.session lines) v' w w' → AnswersPart old.users old.start old.history new.history (asked e ∷ []) v v' w w'
    answers_part sends = record {
      took = inr took_one;
      adds = record { more = framed e.session lines; frames_new = more_frames; sends = sends };
    }

-- what stays of a core at a step
pub stays_taken : (old new : KeptCore) (session : List ℕ) (r : Request) (size : ℕ) (lines : List (List ℕ)) → IsTaken old new session r size lines → is_gone r ≡ false → StaysStarted old new
stays_taken old new session r size lines t stays =
    let e = entry_of session r size t.kept in
    record {
      users = ap (λ (c : CoreState). c.users) (t.taken.added ∙ added_entry old.state e stays);
      start = same_start old.state new.state e lines t.taken stays;
      opening = t.keeps.opening;
      before = t.keeps.before;
    }

module _ (users : List User) (start : Document) (h k es : List Entry) (v : List ℕ) (w : Option (List ℕ)) (same : k ≡ h) where
  same_frames : frames_of users start k ≡ frames_of users start h ++ []
  same_frames = ap (frames_of users start) same ∙ sym (append-nil (frames_of users start h))

  -- nothing was taken
  pub takes_nothing : AnswersPart users start h k es v v w w
  takes_nothing = record {
    took = inl same;
    adds = record { more = []; frames_new = same_frames; sends = nothing_sent v [] w };
  }

-- a line that asks for nothing
pub answers_nothing : (users : List User) (start : Document) (h es : List Entry) (v : List ℕ) (w : Option (List ℕ)) → [] ≡ es → AnswersAll users start h h es v v w w
answers_nothing users start h es v w none = record {
  took = ap (admitted (all_asked h)) (sym none);
  adds = record {
    more = [];
    frames_new = sym (append-nil (frames_of users start h));
    sends = subst (λ (l : List ℕ). Sends l v w w) (sym (append-nil v)) (sends_none v w);
  };
}

-- the history is full for the entry
pub finds_full : (old new : CoreState) (e : Entry) (v : List ℕ) (w : Option (List ℕ)) → is_full old.history e.request e.size ≡ true → new ≡ old → FindsFull old.history new.history (asked e ∷ []) v v w w
finds_full old new e v w full same = record {
  full = admitted_none old.history e full;
  same = ap (λ (c : CoreState). c.history) same;
  waiting = refl;
  written = refl;
}
