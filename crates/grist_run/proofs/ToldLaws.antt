-- What a run did with an input whose bytes are told.
use Rattle.std.proofs.Common.{◌≡◌, ℕ, List, [], ◌∷◌, ◌++◌, Option, Some, None, inl, ⊎_elim, refl, sym, ap, ◌∙◌, subst, append_assoc, append-nil}
use Rattle.std.specs.Io.KnownBytes.{Appends}
use Rattle.doc_model.specs.Document.{Document}
use Rattle.doc_model.specs.declared.entry.Entry.{Entry}
use Rattle.doc_model.specs.declared.user.User.{User}
use Rattle.io_edges.specs.Lines.{lines_of}
use Rattle.io_edges.specs.Sending.{SendsFront}
use Rattle.io_edges.proofs.LineLemmas.{lines_of-stream_of}
use Rattle.grist_run.specs.declared.status.Status.{Status}
use Rattle.grist_run.specs.declared.status.Status.TheVariants.{Done, Usage, BadUsers, ReadFault, WriteFault, StoreFault, NoMemory, BadStore, TurnsSpent, PortFault, HistoryFull}
use Rattle.grist_run.specs.Admission.{admitted, all_asked, takes_all, stops_at}
use Rattle.io_edges.specs.Came.{Came, CameAll, CameFirst}
use Rattle.grist_run.specs.Run.{IsRun}
use Rattle.grist_run.specs.Script.{line_entries, entries_of}
use Rattle.grist_run.specs.Sending.{frames_of}
use Rattle.grist_run.specs.Told.{script_in, entries_in, Follows, AnswersFront, WritesFront}
use Rattle.grist_run.specs.UserLines.{script, script_of, asking_lines, users_said}
use Rattle.grist_run.proofs.Admitting.{admitted-all, admitted-stays, no_front, takes≢stops}
use Rattle.io_edges.proofs.Coming.{stream_of-append}
use Rattle.grist_run.proofs.Said.{script-asks, script-bad}

entries-append : (ls ks : List (List ℕ)) → entries_of (ls ++ ks) ≡ entries_of ls ++ entries_of ks
entries-append [] ks = refl
entries-append (l ∷ ls) ks = ap (λ es. line_entries l ++ es) (entries-append ls ks) ∙ sym (append_assoc (line_entries l) (entries_of ls) (entries_of ks))

-- ---- the lines that came are the first of the input

came_front : (input : List ℕ) (m : Option (List ℕ)) (lines : List (List ℕ)) (rest : List ℕ) (turns : ℕ) → Came (Some input) m lines rest turns → (more : List (List ℕ)) × (lines_of input ≡ lines ++ more)
came_front input None lines rest turns c = absurd c.consumed
came_front input (Some left) lines rest turns c = (lines_of (rest ++ left), ap lines_of (c.consumed ∙ ap (λ b. b ++ left) c.split ∙ stream_of-append lines rest left) ∙ lines_of-stream_of lines (rest ++ left) c.each)

pub came_all : (input : List ℕ) (m : Option (List ℕ)) (lines : List (List ℕ)) → CameAll (Some input) m lines → lines_of input ≡ lines
came_all input None lines c = absurd c.consumed
came_all input (Some left) lines c = ap lines_of (c.consumed ∙ ap (λ b. c.came ++ b) c.at_end ∙ append-nil c.came) ∙ c.split

pub came_first : (input : List ℕ) (m : Option (List ℕ)) (lines : List (List ℕ)) → CameFirst (Some input) m lines → (more : List (List ℕ)) × (lines_of input ≡ lines ++ more)
came_first input m lines c = ⊎_elim (λ p. came_front input m lines p.0 p.1 p.2) (λ p. ([], came_all input m lines p ∙ sym (append-nil lines))) c

-- ---- what the lines asked for is the first of what the input asks for

asked_none : (h : List Entry) → all_asked h ≡ [] → h ≡ []
asked_none [] none = refl
asked_none (e ∷ es) none = let never : ⊥ = cc none in absurd never

-- the history that these lines asked for, and the input's script
pub record Fronts (start : Document) (input : List ℕ) (users : List User) (h : List Entry) : Type 0 where
  pub more : List Entry
  pub entries : entries_in input ≡ all_asked h ++ more
  pub frames : frames_of (users_said (script_in input)) start h ≡ frames_of users start h

module _ (start : Document) (input : List ℕ) (lines behind : List (List ℕ)) (users : List User) (h : List Entry) (is : lines_of input ≡ lines ++ behind) where
  goes_on : (r : List ℕ) (rs : List (List ℕ)) → script_of lines ≡ script users (r ∷ rs) → script_in input ≡ script users ((r ∷ rs) ++ behind)
  goes_on r rs said = ap script_of is ∙ script-asks 1 [] users lines behind r rs said

  -- no frames are those of an empty history
  front_none : h ≡ [] → Fronts start input users h
  front_none none = record {
    more = entries_in input;
    entries = ap (λ es. all_asked es ++ entries_in input) (sym none);
    frames = ap (frames_of (users_said (script_in input)) start) none ∙ ap (frames_of users start) (sym none);
  }

  pub front_of : (requests : List (List ℕ)) (more : List Entry) → script_of lines ≡ script users requests → entries_of requests ≡ all_asked h ++ more → Fronts start input users h
  front_of [] more said entries = front_none (asked_none h (no_front (all_asked h) more (sym entries)))
  front_of (r ∷ rs) more said entries = record {
    more = more ++ entries_of behind;
    entries = ap (λ s. entries_of (asking_lines s)) (goes_on r rs said) ∙ entries-append (r ∷ rs) behind ∙ ap (λ es. es ++ entries_of behind) entries ∙ append_assoc (all_asked h) more (entries_of behind);
    frames = ap (λ s. frames_of (users_said s) start h) (goes_on r rs said);
  }

  pub stopped_of : (requests : List (List ℕ)) → script_of lines ≡ script users requests → admitted [] (entries_of requests) ≡ stops_at (all_asked h) → admitted [] (entries_in input) ≡ stops_at (all_asked h)
  stopped_of [] said stopped = absurd (takes≢stops stopped)
  stopped_of (r ∷ rs) said stopped = ap (λ s. admitted [] (entries_of (asking_lines s))) (goes_on r rs said) ∙ ap (admitted []) (entries-append (r ∷ rs) behind) ∙ admitted-stays [] (all_asked h) (entries_of (r ∷ rs)) (entries_of behind) stopped

  pub stopped_frames : (requests : List (List ℕ)) → script_of lines ≡ script users requests → admitted [] (entries_of requests) ≡ stops_at (all_asked h) → frames_of (users_said (script_in input)) start h ≡ frames_of users start h
  stopped_frames [] said stopped = absurd (takes≢stops stopped)
  stopped_frames (r ∷ rs) said stopped = ap (λ s. frames_of (users_said s) start h) (goes_on r rs said)

-- ---- a run

module _ (start : Document) (input : List ℕ) (m w z : Option (List ℕ)) (h : List Entry) where
  -- the reading stopped
  front_told : (lines : List (List ℕ)) (users : List User) (requests : List (List ℕ)) → CameFirst (Some input) m lines → script_of lines ≡ script users requests → admitted [] (entries_of requests) ≡ takes_all (all_asked h) → Appends w z (frames_of users start h) → AnswersFront start input h w z
  front_told lines users requests came said took written =
      let first = came_first input m lines came in
      let front = front_of start input lines first.0 users h first.1 requests [] said (admitted-all [] (all_asked h) (entries_of requests) took ∙ sym (append-nil (all_asked h))) in
      record { more = front.more; entries = front.entries; written = subst (λ (b : List ℕ). Appends w z b) (sym front.frames) written }

  -- not all was written
  short_told : (lines : List (List ℕ)) (users : List User) (requests : List (List ℕ)) (more : List Entry) → CameFirst (Some input) m lines → script_of lines ≡ script users requests → entries_of requests ≡ all_asked h ++ more → SendsFront (frames_of users start h) w z → WritesFront start input h w z
  short_told lines users requests more came said entries written =
      let first = came_first input m lines came in
      let front = front_of start input lines first.0 users h first.1 requests more said entries in
      record { more = front.more; entries = front.entries; written = subst (λ (b : List ℕ). SendsFront b w z) (sym front.frames) written }

  told : (users : List User) (status : Status) → IsRun users start status (Some input) m h w z → Follows start status input m h w z
  told users Done r = record {
    users = users;
    requests = r.serves.requests;
    said = ap script_of (came_all input m r.lines r.came) ∙ r.serves.said;
    took = r.serves.took;
    at_end = r.came.at_end;
    written = r.written;
  }
  told users Usage r = tt
  told users (BadUsers number) r =
      let first = came_first input m r.lines r.came in
      record { bad = ap script_of first.1 ∙ script-bad 1 number [] r.lines first.0 r.bad; none = r.none; written = r.written }
  told users ReadFault r = front_told r.1.lines users r.1.serves.requests (inl (r.1.rest, r.0, r.1.came)) r.1.serves.said r.1.serves.took r.1.written
  told users WriteFault r = short_told r.lines users r.requests r.more r.came r.said r.entries r.written
  told users StoreFault r = record { none = r.none; written = r.written }
  told users (BadStore number) r = record { none = r.none; written = r.written }
  told users NoMemory r = short_told r.lines users r.requests r.more r.came r.said r.entries r.written
  told users TurnsSpent r = front_told r.lines users r.serves.requests (inl (r.rest, 4294967296, r.came)) r.serves.said r.serves.took r.written
  told users PortFault r = absurd r
  told users HistoryFull r =
      let first = came_first input m r.lines r.came in
      record {
        stopped = stopped_of start input r.lines first.0 users h first.1 r.requests r.said r.stopped;
        written = subst (λ (b : List ℕ). Appends w z b) (sym (stopped_frames start input r.lines first.0 users h first.1 r.requests r.said r.stopped)) r.written;
      }

-- the same, where the input is known to be told
pub run_follows : (users : List User) (start : Document) (status : Status) (l m w z : Option (List ℕ)) (h : List Entry) → IsRun users start status l m h w z → (input : List ℕ) → l ≡ Some input → Follows start status input m h w z
run_follows users start status l m w z h r input is = told start input m w z h users status (subst (λ (o : Option (List ℕ)). IsRun users start status o m h w z) is r)
