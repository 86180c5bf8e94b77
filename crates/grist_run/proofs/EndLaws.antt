-- How a run ends: what waits is written, or a front of it is.
use Rattle.std.proofs.Common.{◌≡◌, ℕ, List, [], ◌∷◌, ◌++◌, Option, inl, inr, refl, sym, ◌∙◌, subst, append-nil}
use Rattle.std.specs.Io.KnownBytes.{Appends, Keeps}
use Rattle.doc_model.specs.Document.{Document}
use Rattle.doc_model.specs.NewDocument.{new_document}
use Rattle.doc_model.specs.declared.entry.Entry.{Entry}
use Rattle.doc_model.specs.declared.user.User.{User}
use Rattle.doc_opening.specs.declared.opening.StartCause.{StartCause}
use Rattle.doc_opening.specs.declared.opening.StartCause.TheVariants as cause
use Rattle.io_edges.specs.Reading.{LineState}
use Rattle.io_edges.specs.Sending.{Sends, SendsFront}
use Rattle.io_edges.specs.declared.line_reader.NextLine.{NextLine}
use Rattle.io_edges.specs.declared.line_reader.NextLine.TheVariants.{Line, Last, End}
use Rattle.io_edges.proofs.SendingLemmas.{appends_none}
use Rattle.grist_run.specs.declared.status.Status.{Status}
use Rattle.grist_run.specs.declared.status.Status.TheVariants.{Done, Usage, BadUsers, ReadFault, WriteFault, StoreFault, NoMemory, BadStore, TurnsSpent, PortFault, HistoryFull}
use Rattle.grist_run.specs.Admission.{all_asked}
use Rattle.grist_run.specs.Hearing.{IsAt, Nothing, EndsHearing}
use Rattle.io_edges.specs.Came.{CameFirst}
use Rattle.grist_run.specs.Run.{Runs, IsRun, StopsReading, StopsShort, StopsUnopened}
use Rattle.grist_run.specs.Script.{entries_of}
use Rattle.grist_run.specs.Sending.{SendsPart}
use Rattle.grist_run.specs.Serving.{EndsServing}
use Rattle.grist_run.specs.Starting.{start_status}
use Rattle.grist_run.specs.UserLines.{script, script_of}
use Rattle.grist_run.proofs.Admitting.{admitted-all, admitted-front}
use Rattle.io_edges.proofs.Coming.{came_none}
use Rattle.grist_run.proofs.Sent.{sends_all, part_all, part_front, part_of}

module _ {W F V G : List ℕ → Type 0} (whole : (b : List ℕ) → W b → V b) (front : (b : List ℕ) → F b → G b) (users : List User) (start : Document) (l m : Option (List ℕ)) (h : List Entry) where
  -- what was written is told in other words
  pub runs_map : (status : Status) → Runs W F users start status l m h → Runs V G users start status l m h
  runs_map Done r = record { lines = r.lines; came = r.came; serves = r.serves; written = whole _ r.written }
  runs_map Usage r = record { left = r.left; none = r.none; written = whole _ r.written }
  runs_map (BadUsers number) r = record { lines = r.lines; came = r.came; bad = r.bad; none = r.none; written = whole _ r.written }
  runs_map ReadFault r = (r.0, record { lines = r.1.lines; rest = r.1.rest; came = r.1.came; one_line = r.1.one_line; serves = r.1.serves; written = whole _ r.1.written })
  runs_map WriteFault r = record { lines = r.lines; requests = r.requests; more = r.more; came = r.came; said = r.said; entries = r.entries; written = front _ r.written }
  runs_map StoreFault r = record { lines = r.lines; requests = r.requests; came = r.came; said = r.said; none = r.none; written = whole _ r.written }
  runs_map (BadStore number) r = record { lines = r.lines; requests = r.requests; came = r.came; said = r.said; none = r.none; written = whole _ r.written }
  runs_map NoMemory r = record { lines = r.lines; requests = r.requests; more = r.more; came = r.came; said = r.said; entries = r.entries; written = front _ r.written }
  runs_map TurnsSpent r = record { lines = r.lines; rest = r.rest; came = r.came; one_line = r.one_line; serves = r.serves; written = whole _ r.written }
  runs_map PortFault r = absurd r
  runs_map HistoryFull r = record { lines = r.lines; requests = r.requests; came = r.came; said = r.said; stopped = r.stopped; written = whole _ r.written }

module _ (users : List User) (start : Document) (l m x w z : Option (List ℕ)) (h : List Entry) (v : List ℕ) where
  -- what waited was written
  flushed : (status : Status) → Appends w z v → Runs (λ b. Sends b v x w) (λ b. SendsPart b v x w) users start status l m h → IsRun users start status l m h x z
  flushed status more r = runs_map (λ b s. sends_all v z s more) (λ b s. part_all v z s more) users start l m h status r

  pub run_flushed : (status : Status) → Appends w z v → EndsServing users start status l m h v x w → IsRun users start status l m h x z
  run_flushed Done more r = flushed Done more r
  run_flushed Usage more r = absurd r
  run_flushed (BadUsers number) more r = absurd r
  run_flushed StoreFault more r = absurd r
  run_flushed (BadStore number) more r = absurd r
  run_flushed ReadFault more r = flushed ReadFault more r
  run_flushed WriteFault more r = flushed WriteFault more r
  run_flushed NoMemory more r = flushed NoMemory more r
  run_flushed TurnsSpent more r = flushed TurnsSpent more r
  run_flushed PortFault more r = absurd r
  run_flushed HistoryFull more r = flushed HistoryFull more r

  module _ (t : SendsFront v w z) where
    part_sent : (b : List ℕ) → Sends b v x w → SendsFront b x z
    part_sent b s = part_front v z (part_of v s) t

    reading_lost : (turns : ℕ) → StopsReading (λ b. Sends b v x w) (λ b. SendsPart b v x w) users start l m h turns → StopsShort (Appends x z) (λ b. SendsFront b x z) users start l m h
    reading_lost turns r = record {
      lines = r.lines;
      requests = r.serves.requests;
      more = [];
      came = inl (r.rest, turns, r.came);
      said = r.serves.said;
      entries = admitted-all [] (all_asked h) (entries_of r.serves.requests) r.serves.took ∙ sym (append-nil (all_asked h));
      written = part_sent _ r.written;
    }

    -- a front of what waited was written
    pub run_cut : (status : Status) → EndsServing users start status l m h v x w → IsRun users start WriteFault l m h x z
    run_cut Done r = record {
      lines = r.lines;
      requests = r.serves.requests;
      more = [];
      came = inr r.came;
      said = r.serves.said;
      entries = admitted-all [] (all_asked h) (entries_of r.serves.requests) r.serves.took ∙ sym (append-nil (all_asked h));
      written = part_sent _ r.written;
    }
    run_cut Usage r = absurd r
    run_cut (BadUsers number) r = absurd r
    run_cut StoreFault r = absurd r
    run_cut (BadStore number) r = absurd r
    run_cut ReadFault r = reading_lost r.0 r.1
    run_cut WriteFault r = record { lines = r.lines; requests = r.requests; more = r.more; came = r.came; said = r.said; entries = r.entries; written = part_front v z r.written t }
    run_cut NoMemory r = record { lines = r.lines; requests = r.requests; more = r.more; came = r.came; said = r.said; entries = r.entries; written = part_front v z r.written t }
    run_cut TurnsSpent r = reading_lost 4294967296 r
    run_cut PortFault r = absurd r
    run_cut HistoryFull r =
        let before = admitted-front [] (all_asked h) (entries_of r.requests) r.stopped in
        record { lines = r.lines; requests = r.requests; more = before.0; came = r.came; said = r.said; entries = before.1; written = part_sent _ r.written }

-- ---- before anything was answered

module _ (l m w : Option (List ℕ)) where
  nothing_written : (b : List ℕ) → Nothing b → Appends w w b
  nothing_written b none = subst (λ (c : List ℕ). Appends w w c) (sym none) (appends_none w)

  nothing_sent_of : (b : List ℕ) → Nothing b → SendsFront b w w
  nothing_sent_of b none = record { front = []; rest = b; split = refl; written = appends_none w }

  heard : (users : List User) (status : Status) → Runs Nothing Nothing users new_document status l m [] → IsRun users new_document status l m [] w w
  heard users status r = runs_map nothing_written nothing_sent_of users new_document l m [] status r

  abbrev SomeRun : Status → Type 0
  SomeRun status = (users : List User) × IsRun users new_document status l m [] w w

  pub run_heard : (status : Status) → EndsHearing status l m → SomeRun status
  run_heard Done r = absurd r
  run_heard Usage r = absurd r
  run_heard (BadUsers number) r = (r.0, heard r.0 (BadUsers number) r.1)
  run_heard ReadFault r = (r.0, heard r.0 ReadFault r.1)
  run_heard WriteFault r = absurd r
  run_heard StoreFault r = absurd r
  run_heard NoMemory r = (r.0, heard r.0 NoMemory r.1)
  run_heard (BadStore number) r = absurd r
  run_heard TurnsSpent r = (r.0, heard r.0 TurnsSpent r.1)
  run_heard PortFault r = absurd r
  run_heard HistoryFull r = absurd r

-- out of memory before anything was read
pub run_none : (l w : Option (List ℕ)) → IsRun [] new_document NoMemory l l [] w w
run_none l w = record { lines = []; requests = []; more = []; came = inl ([], 0, came_none l); said = refl; entries = refl; written = nothing_sent_of l l w [] refl }

-- nothing is done
pub run_usage : (l w : Option (List ℕ)) → Keeps l l → IsRun [] new_document Usage l l [] w w
run_usage l w keeps = record { left = keeps; none = refl; written = appends_none w }

-- ---- the users were heard, and no document was opened

module _ (l m w : Option (List ℕ)) (users : List User) (reader : LineState) where
  -- the lines that came, and what they say
  record Unopened : Type 0 where
    lines : List (List ℕ)
    requests : List (List ℕ)
    came : CameFirst l m lines
    said : script_of lines ≡ script users requests

  unopened : (next : NextLine) → IsAt next l m users [] reader → Unopened
  unopened Line at = record { lines = at.lines ++ at.text ∷ []; requests = at.text ∷ []; came = inl (_, _, at.came); said = at.said }
  unopened Last at = record { lines = at.lines ++ at.text ∷ []; requests = at.text ∷ []; came = inr at.came; said = at.said }
  unopened End at = record { lines = at.lines; requests = []; came = inr at.came; said = at.said }

  stops : Unopened → StopsUnopened (Appends w w) (λ b. SendsFront b w w) users new_document l m []
  stops u = record { lines = u.lines; requests = u.requests; came = u.came; said = u.said; none = refl; written = appends_none w }

  short : Unopened → StopsShort (Appends w w) (λ b. SendsFront b w w) users new_document l m []
  short u = record { lines = u.lines; requests = u.requests; more = entries_of u.requests; came = u.came; said = u.said; entries = refl; written = nothing_sent_of l m w [] refl }

  pub run_unopened : (next : NextLine) → IsAt next l m users [] reader → (cause : StartCause) → IsRun users new_document (start_status cause) l m [] w w
  run_unopened next at cause.StoreFault = stops (unopened next at)
  run_unopened next at (cause.BadStore number) = stops (unopened next at)
  run_unopened next at cause.NoMemory = short (unopened next at)

-- the same run, told by an outcome
pub run_told : (users : List User) (start : Document) (l m w z : Option (List ℕ)) (status told : Status) (history kept : List Entry) → told ≡ status → kept ≡ history → IsRun users start status l m history w z → IsRun users start told l m kept w z
run_told users start l m w z status told history kept same as_before r =
    subst (λ (s : Status). IsRun users start s l m kept w z) (sym same) (subst (λ (h : List Entry). IsRun users start status l m h w z) (sym as_before) r)
