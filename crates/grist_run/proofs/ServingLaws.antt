-- Lines that were answered, and one line more.
use Rattle.std.proofs.Common.{◌≡◌, ℕ, List, [], ◌∷◌, ◌++◌, Option, Result, Ok, Err, inl, inr, ⊎_elim, sym, ap, ◌∙◌, subst, append_assoc, append-nil}
use Rattle.doc_model.specs.Document.{Document}
use Rattle.doc_model.specs.declared.entry.Entry.{Entry}
use Rattle.doc_model.specs.declared.user.User.{User}
use Rattle.io_edges.specs.Lines.{kept_of}
use Rattle.io_edges.specs.NextLine.{Reads}
use Rattle.io_edges.specs.Reading.{LineState}
use Rattle.io_edges.specs.Sending.{Sends}
use Rattle.io_edges.proofs.SendingLemmas.{sends_none}
use Rattle.io_edges.specs.declared.line_reader.NextLine.{NextLine}
use Rattle.io_edges.specs.declared.line_reader.NextLine.TheVariants.{Line, Last, End}
use Rattle.bundle_core.specs.Core.{CoreState}
use Rattle.grist_run.specs.declared.status.Status.{Status}
use Rattle.grist_run.specs.declared.status.Status.TheVariants.{Done, Usage, BadUsers, ReadFault, WriteFault, StoreFault, NoMemory, BadStore, TurnsSpent, PortFault, HistoryFull}
use Rattle.grist_run.specs.Admission.{admitted, all_asked, takes_all, stops_at}
use Rattle.grist_run.specs.Answering.{Answers, AnswersAll, AnswersPart, FindsFull}
use Rattle.grist_run.specs.Hearing.{IsAt, IsAtLine, IsAtLast, IsAtEndOf}
use Rattle.grist_run.specs.Reading.{ReadsNext}
use Rattle.io_edges.specs.Came.{Came, CameFirst}
use Rattle.grist_run.specs.Run.{Serves}
use Rattle.grist_run.specs.Script.{line_entries, entries_of}
use Rattle.grist_run.specs.Sending.{frames_of, SendsPart}
use Rattle.grist_run.specs.Serving.{IsServing, TakesTurn, EndsServing}
use Rattle.grist_run.specs.UserLines.{script, script_of}
use Rattle.grist_run.proofs.Admitting.{admitted-append, admitted-all}
use Rattle.io_edges.proofs.Coming.{came_part, came_line, came_last, came_end, came_fault, came_spent}
use Rattle.grist_run.proofs.Kept.{kept_entries}
use Rattle.grist_run.proofs.Said.{script-asks_more}
use Rattle.io_edges.proofs.SendingLemmas.{sends_after}
use Rattle.grist_run.proofs.Sent.{part_after, part_of}

entries-push : (ls : List (List ℕ)) (t : List ℕ) → entries_of (ls ++ t ∷ []) ≡ entries_of ls ++ line_entries t
entries-push [] t = append-nil (line_entries t)
entries-push (l ∷ ls) t = ap (λ es. line_entries l ++ es) (entries-push ls t) ∙ sym (append_assoc (line_entries l) (entries_of ls) (line_entries t))

module _ (users : List User) (start : Document) (h k : List Entry) (v v' : List ℕ) (x w w' : Option (List ℕ)) (requests : List (List ℕ)) (text line : List ℕ) (kept : line ≡ kept_of text) (took : admitted [] (entries_of requests) ≡ takes_all (all_asked h)) (sent : Sends (frames_of users start h) v x w) where
  same_entries : line_entries line ≡ line_entries text
  same_entries = ap line_entries kept ∙ kept_entries text

  longer : entries_of (requests ++ text ∷ []) ≡ entries_of requests ++ line_entries line
  longer = entries-push requests text ∙ ap (λ es. entries_of requests ++ es) (sym same_entries)

  goes_on : admitted [] (entries_of (requests ++ text ∷ [])) ≡ admitted (all_asked h) (line_entries line)
  goes_on = ap (admitted []) longer ∙ admitted-append [] (all_asked h) (entries_of requests) (line_entries line) took

  -- all was answered
  pub took_line : AnswersAll users start h k (line_entries line) v v' w w' → admitted [] (entries_of (requests ++ text ∷ [])) ≡ takes_all (all_asked k)
  took_line a = goes_on ∙ a.took

  pub sent_line : AnswersAll users start h k (line_entries line) v v' w w' → Sends (frames_of users start k) v' x w'
  sent_line a = subst (λ (b : List ℕ). Sends b v' x w') (sym a.adds.frames_new) (sends_after (frames_of users start h) a.adds.more v v' sent a.adds.sends)

  -- the history is full
  pub stopped_line : FindsFull h k (line_entries line) v v' w w' → admitted [] (entries_of (requests ++ text ∷ [])) ≡ stops_at (all_asked k)
  stopped_line f = goes_on ∙ f.full ∙ ap (λ l. stops_at (all_asked l)) (sym f.same)

  pub sent_before : FindsFull h k (line_entries line) v v' w w' → Sends (frames_of users start k) v' x w'
  sent_before f = subst (λ (b : List ℕ). Sends b v' x w') (ap (frames_of users start) (sym f.same)) (subst (λ (b : List ℕ). Sends (frames_of users start h) b x w') (sym f.waiting) (subst (λ (o : Option (List ℕ)). Sends (frames_of users start h) v x o) (sym f.written) sent))

  -- not all was answered
  pub part_line : AnswersPart users start h k (line_entries line) v v' w w' → (more : List Entry) × (entries_of (requests ++ text ∷ []) ≡ all_asked k ++ more)
  part_line p = ⊎_elim
      (λ same. (line_entries line, longer ∙ ap (λ es. es ++ line_entries line) (admitted-all [] (all_asked h) (entries_of requests) took ∙ ap all_asked (sym same))))
      (λ all. ([], admitted-all [] (all_asked k) (entries_of (requests ++ text ∷ [])) (goes_on ∙ all) ∙ sym (append-nil (all_asked k))))
      p.took

  pub sent_part : AnswersPart users start h k (line_entries line) v v' w w' → SendsPart (frames_of users start k) v' x w'
  sent_part p = subst (λ (b : List ℕ). SendsPart b v' x w') (sym p.adds.frames_new) (part_after (frames_of users start h) p.adds.more v v' sent p.adds.sends)

  -- the answer ended the run
  pub ends_answer : {l m : Option (List ℕ)} (lines : List (List ℕ)) → CameFirst l m lines → script_of lines ≡ script users (requests ++ text ∷ []) → (status : Status) → Answers (Err status) users start h k (line_entries line) v v' w w' → EndsServing users start status l m k v' x w'
  ends_answer lines came said HistoryFull f = record { lines = lines; requests = requests ++ text ∷ []; came = came; said = said; stopped = stopped_line f; written = sent_before f }
  ends_answer lines came said WriteFault p = record { lines = lines; requests = requests ++ text ∷ []; more = (part_line p).0; came = came; said = said; entries = (part_line p).1; written = sent_part p }
  ends_answer lines came said NoMemory p = record { lines = lines; requests = requests ++ text ∷ []; more = (part_line p).0; came = came; said = said; entries = (part_line p).1; written = sent_part p }
  ends_answer lines came said Done a = absurd a
  ends_answer lines came said Usage a = absurd a
  ends_answer lines came said (BadUsers n) a = absurd a
  ends_answer lines came said ReadFault a = absurd a
  ends_answer lines came said StoreFault a = absurd a
  ends_answer lines came said (BadStore n) a = absurd a
  ends_answer lines came said TurnsSpent a = absurd a
  ends_answer lines came said PortFault a = absurd a

-- a line, and the reading behind it
module _ (core core' : CoreState) (v v' : List ℕ) (x w w' l m n : Option (List ℕ)) (old new : LineState) (users : core'.users ≡ core.users) (start : core'.start ≡ core.start) (line : List ℕ) (is : line ≡ old.line) where
  module _ (s : IsServing Line l m core v x w old) where
    abbrev at : IsAtLine l m core.users s.requests old
    at = s.line

    abbrev now_lines : List (List ℕ)
    now_lines = at.lines ++ at.text ∷ []

    abbrev now_requests : List (List ℕ)
    now_requests = s.requests ++ at.text ∷ []

    -- the line was not answered, or not whole
    pub line_ends : (status : Status) → Answers (Err status) core.users core.start core.history core'.history (line_entries line) v v' w w' → EndsServing core.users core.start status l m core'.history v' x w'
    line_ends status a = ends_answer core.users core.start core.history core'.history v v' x w w' s.requests at.text line (is ∙ at.kept) s.took s.sent now_lines (inl (_, _, at.came)) at.said status a

    module _ (a : AnswersAll core.users core.start core.history core'.history (line_entries line) v v' w w') where
      took_now : admitted [] (entries_of now_requests) ≡ takes_all (all_asked core'.history)
      took_now = took_line core.users core.start core.history core'.history v v' x w w' s.requests at.text line (is ∙ at.kept) s.took s.sent a

      sent_now : Sends (frames_of core.users core.start core'.history) v' x w'
      sent_now = sent_line core.users core.start core.history core'.history v v' x w w' s.requests at.text line (is ∙ at.kept) s.took s.sent a

      sent_new : Sends (frames_of core'.users core'.start core'.history) v' x w'
      sent_new = subst (λ (us : List User). Sends (frames_of us core'.start core'.history) v' x w') (sym users) (subst (λ (d : Document). Sends (frames_of core.users d core'.history) v' x w') (sym start) sent_now)

      said_next : (ks : List (List ℕ)) → script_of (now_lines ++ ks) ≡ script core'.users (now_requests ++ ks)
      said_next ks = script-asks_more core.users now_lines ks s.requests at.text at.said ∙ ap (λ us. script us (now_requests ++ ks)) (sym users)

      line_next : (next : NextLine) → Reads (Ok next) old new m n → IsAt next l n core'.users now_requests new
      line_next Line r = record { lines = now_lines; text = r.text; kept = r.answer; came = came_line l m n now_lines old new at.came r; said = said_next (r.text ∷ []) }
      line_next Last r = record { lines = now_lines; text = r.text; kept = r.answer.1; came = came_last l m n now_lines old new at.came r; said = said_next (r.text ∷ []) }
      line_next End r = record { lines = now_lines; came = came_end l m n now_lines old new at.came r; said = at.said ∙ ap (λ us. script us now_requests) (sym users) }

      -- and the next one was read
      pub turn_goes_on : (next : NextLine) → Reads (Ok next) old new m n → IsServing next l n core' v' x w' new
      turn_goes_on next r = record { requests = now_requests; line = line_next next r; took = took_now; sent = sent_new }

      serves : Serves now_lines core.users core'.history
      serves = record { requests = now_requests; said = at.said; took = took_now }

      -- and no next one was read
      pub turn_ends : (status : Status) → ReadsNext (Err status) old new m n → EndsServing core.users core.start status l n core'.history v' x w'
      turn_ends ReadFault r = (new.turns, record { lines = now_lines; rest = r.text; came = came_fault l m n now_lines old new at.came r; one_line = r.one_line; serves = serves; written = sent_now })
      turn_ends TurnsSpent r = record {
        lines = now_lines;
        rest = r.0.text;
        came = subst (λ (t : ℕ). Came l n now_lines r.0.text t) r.1 (came_spent l m n now_lines old new at.came r.0);
        one_line = r.0.one_line;
        serves = serves;
        written = sent_now;
      }
      turn_ends NoMemory r = record {
        lines = now_lines;
        requests = now_requests;
        more = [];
        came = inl (_, _, came_part l m n now_lines old new at.came r);
        said = at.said;
        entries = admitted-all [] (all_asked core'.history) (entries_of now_requests) took_now ∙ sym (append-nil (all_asked core'.history));
        written = part_of v' sent_now;
      }
      turn_ends Done r = absurd r
      turn_ends Usage r = absurd r
      turn_ends (BadUsers number) r = absurd r
      turn_ends WriteFault r = absurd r
      turn_ends StoreFault r = absurd r
      turn_ends (BadStore number) r = absurd r
      turn_ends PortFault r = absurd r
      turn_ends HistoryFull r = absurd r

      -- the next one was read or was not
      pub turn_taken : (r : Result NextLine Status) → ReadsNext r old new m n → TakesTurn core.users core.start r l n core' v' x w' new
      turn_taken (Ok next) r = turn_goes_on next r
      turn_taken (Err status) r = turn_ends status r

  -- the last line of the input
  module _ (s : IsServing Last l m core v x w old) where
    abbrev last : IsAtLast l m core.users s.requests old
    last = s.line

    pub last_ends : (status : Status) → Answers (Err status) core.users core.start core.history core'.history (line_entries line) v v' w w' → EndsServing core.users core.start status l m core'.history v' x w'
    last_ends status a = ends_answer core.users core.start core.history core'.history v v' x w w' s.requests last.text line (is ∙ last.kept) s.took s.sent (last.lines ++ last.text ∷ []) (inr last.came) last.said status a

    pub last_answered : AnswersAll core.users core.start core.history core'.history (line_entries line) v v' w w' → EndsServing core.users core.start Done l m core'.history v' x w'
    last_answered a = record {
      lines = last.lines ++ last.text ∷ [];
      came = last.came;
      serves = record { requests = s.requests ++ last.text ∷ []; said = last.said; took = took_line core.users core.start core.history core'.history v v' x w w' s.requests last.text line (is ∙ last.kept) s.took s.sent a };
      written = sent_line core.users core.start core.history core'.history v v' x w w' s.requests last.text line (is ∙ last.kept) s.took s.sent a;
    }

-- the end of the input
pub serving_ends : {core : CoreState} {v : List ℕ} {x w l m : Option (List ℕ)} {reader : LineState} → IsServing End l m core v x w reader → EndsServing core.users core.start Done l m core.history v x w
serving_ends {core} s =
    let at : IsAtEndOf _ _ core.users s.requests = s.line in
    record { lines = at.lines; came = at.came; serves = record { requests = s.requests; said = at.said; took = s.took }; written = s.sent }

-- nothing was answered yet
pub serving_starts : (next : NextLine) (l m : Option (List ℕ)) (core : CoreState) (waiting : List ℕ) (w : Option (List ℕ)) (reader : LineState) → core.history ≡ [] → waiting ≡ [] → IsAt next l m core.users [] reader → IsServing next l m core waiting w w reader
serving_starts next l m core waiting w reader first none at = record {
  requests = [];
  line = at;
  took = ap (λ h. takes_all (all_asked h)) (sym first);
  sent = subst (λ (h : List Entry). Sends (frames_of core.users core.start h) waiting w w) (sym first) (subst (λ (v : List ℕ). Sends [] v w w) (sym none) (sends_none [] w));
}

-- the users and the document at the start are those of an earlier core
pub ends_for : (old core : CoreState) (status : Status) (l m : Option (List ℕ)) (h : List Entry) (v : List ℕ) (x w : Option (List ℕ)) → core.users ≡ old.users → core.start ≡ old.start → EndsServing core.users core.start status l m h v x w → EndsServing old.users old.start status l m h v x w
ends_for old core status l m h v x w users start e =
    subst (λ (us : List User). EndsServing us old.start status l m h v x w) users (subst (λ (d : Document). EndsServing core.users d status l m h v x w) start e)
