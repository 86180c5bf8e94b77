-- What the pass of a connection asked for and was given, whatever its end, and the peeks among that.
use Rattle.std.proofs.Common.{◌≡◌, ℕ, Bool, true, false, List, [], ◌∷◌, ◌++◌, length, map, Option, refl, sym, ap, ◌∙◌, subst, append-nil, inl, inr, ⊎_elim, cond}
use Rattle.std.specs.Io.KnownBytes.{Appends}
use Rattle.std.specs.List.{AllByRecursion}
use Rattle.doc_model.specs.declared.entry.Entry.{Entry}
use Rattle.doc_model.specs.declared.request.Request.TheVariants.{Gone, TooLong}
use Rattle.io_edges.proofs.SendingLemmas.{appends_none}
use Rattle.io_edges.specs.declared.session_end.SessionEnd.{SessionEnd}
use Rattle.io_edges.specs.declared.session_end.SessionEnd.TheVariants.{Closed, ReadFault, WriteFault, TurnsSpent, Full, NoMemory}
use Rattle.session_gate.specs.History.{entries_of}
use Rattle.snap_reads.specs.Views.{TakesOn}
use Rattle.grist_json.specs.Requests.{request_at}
use Rattle.bundle_core.specs.Core.{entry_of}
use Rattle.grist_serve.specs.Answered.{Answered, Asked, LastCloses, LastMayClose, NoneCloses, asked_of, asks_of, bytes_given, line_asks, peeked, turned, turns_among}
use Rattle.grist_serve.specs.Link.{DoesNothing, TellsGone, gone_entries}
use Rattle.io_edges.specs.Lines.{is_blank, is_long}
use Rattle.grist_serve.specs.Requests.{asked_by, line_entries}
use Rattle.grist_serve.specs.ShotAnswering.{Answers}
use Rattle.grist_serve.specs.ShotLink.{EndsBy, ServesShotLink}
use Rattle.grist_serve.specs.Standing.{Goes, Rests, Standing, starts_at}
use Rattle.grist_serve.specs.Turns.{Adds, OwnTurn, asked_in, bytes_of, is_open_after}
use Rattle.grist_serve.proofs.ShotLineLaws.{front_after}
use Rattle.grist_serve.proofs.TurnLemmas.{adds_both, adds_none, bytes-append}
use Rattle.grist_lanes.specs.InHistory.{Writes}
use Rattle.grist_lanes.specs.Services.{IsServed, LaneView, Service, Telling}
use Rattle.grist_lanes.proofs.AskLemmas.{AsksBy, all_append, asks_by, line_asks_by}

-- every turn is of that session
abbrev pub AreTurnsOf : List ℕ → List OwnTurn → Type 0
AreTurnsOf name turns = AllByRecursion (λ t. t.entry.session ≡ name) turns

-- the entry is of that session
abbrev IsOf : List ℕ → Entry → Type 0
IsOf name e = e.session ≡ name

-- what was answered to the lines of a session, and what was written of the bytes that it gave;
-- behind it nothing was answered
record Lines (end : SessionEnd) (name : List ℕ) (old new : Standing) (w w' : Option (List ℕ)) : Type 0 where
  pub answered : List Answered
  pub last : Standing
  pub goes : Goes name old answered last
  pub adds : Adds old.pass last.pass (turns_among answered)
  pub sessions : AreTurnsOf name (turns_among answered)
  pub rests : Rests last new
  pub written : Writes end (bytes_given answered) w w'

-- and with the end of the connection: all turns of the pass, of one session, of which the last gives
-- no bytes where no line asked for it
pub record Took (end : SessionEnd) (name : List ℕ) (old new : LaneView) (w w' : Option (List ℕ)) : Type 0 where
  pub answered : List Answered
  pub last : Standing
  pub goes : Goes name (starts_at old.pass old.known) answered last
  pub known : TakesOn last.known new.known
  pub turns : List OwnTurn
  pub adds : Adds old.pass new.pass turns
  pub sessions : AreTurnsOf name turns
  pub gives : bytes_of turns ≡ bytes_of (turns_among answered)
  pub written : Writes end (bytes_given answered) w w'

one_of : (name : List ℕ) (b c : Bool) (x y : Entry) → x.session ≡ name → y.session ≡ name → AllByRecursion (IsOf name) (cond b (x ∷ []) (cond c [] (y ∷ [])))
one_of name true c x y p q = (p, tt)
one_of name false true x y p q = tt
one_of name false false x y p q = (q, tt)

of_line : (name text : List ℕ) → AllByRecursion (IsOf name) (line_entries name text)
of_line name text = one_of name (is_long text) (is_blank text) (entry_of name TooLong 1048577 true) (entry_of name (asked_by (request_at text)) (length text) true) refl refl

gone_of_session : (name : List ℕ) (b : Bool) (e : Entry) → e.session ≡ name → AllByRecursion (IsOf name) (cond b (e ∷ []) [])
gone_of_session name true e p = (p, tt)
gone_of_session name false e p = tt

turns_of_session : (name : List ℕ) (turns : List OwnTurn) → AllByRecursion (IsOf name) (map asked_in turns) → AreTurnsOf name turns
turns_of_session name [] all = tt
turns_of_session name (t ∷ ts) all = (all.0, turns_of_session name ts all.1)

of_requests : (name : List ℕ) (turns : List OwnTurn) (es : List Entry) → map asked_in turns ≡ es → AllByRecursion (IsOf name) es → AreTurnsOf name turns
of_requests name turns es is all = turns_of_session name turns (subst (AllByRecursion (IsOf name)) (sym is) all)

among_of_session : (name : List ℕ) (xs : List Answered) → AllByRecursion (AsksBy (IsOf name)) (map asked_of xs) → AreTurnsOf name (turns_among xs)
among_of_session name [] all = tt
among_of_session name (turned t ∷ xs) all = (all.0, among_of_session name xs all.1)
among_of_session name (peeked p ∷ xs) all = among_of_session name xs all.1

of_asked : (name : List ℕ) (xs : List Answered) (asked : List Asked) → map asked_of xs ≡ asked → AllByRecursion (AsksBy (IsOf name)) asked → AreTurnsOf name (turns_among xs)
of_asked name xs asked is all = among_of_session name xs (subst (AllByRecursion (AsksBy (IsOf name))) (sym is) all)

rests_there : (s : Standing) → Rests s s
rests_there s = record { adds = adds_none s.pass; takes = inl refl }

module _ (name : List ℕ) where
  of_lines : (lines : List (List ℕ)) → AllByRecursion (AsksBy (IsOf name)) (asks_of name lines)
  of_lines lines = asks_by (IsOf name) name (of_line name) lines

  -- what was asked was answered, and then nothing
  module _ (old mid new : Standing) (rests : Rests mid new) (w w' : Option (List ℕ)) where
    answered_by : (end : SessionEnd) (Closes : List Answered → Type 0) (asked : List Asked) → AllByRecursion (AsksBy (IsOf name)) asked → Answers (λ bytes. Writes end bytes w w') Closes name old mid asked → Lines end name old new w w'
    answered_by end Closes asked all a = record {
      answered = a.answered;
      last = mid;
      goes = a.goes;
      adds = a.adds;
      sessions = of_asked name a.answered asked a.requests all;
      rests = rests;
      written = a.written;
    }

    lines_by : (end : SessionEnd) (Closes : List Answered → Type 0) (lines : List (List ℕ)) → Answers (λ bytes. Writes end bytes w w') Closes name old mid (asks_of name lines) → Lines end name old new w w'
    lines_by end Closes lines a = answered_by end Closes (asks_of name lines) (of_lines lines) a

  module _ (old new : Standing) (w w' : Option (List ℕ)) where
    lines_taken : (end : SessionEnd) (l l' : Option (List ℕ)) → EndsBy end name l l' old new w w' → Lines end name old new w w'
    lines_taken Closed l l' (inl input) = lines_by old new new (rests_there new) w w' Closed LastMayClose input.lines input.answers
    lines_taken Closed l l' (inr closes) = lines_by old new new (rests_there new) w w' Closed LastCloses (closes.lines ++ closes.last ∷ []) closes.answers
    lines_taken ReadFault l l' stops = lines_by old new new (rests_there new) w w' ReadFault NoneCloses (stops.1).lines (stops.1).answers
    lines_taken TurnsSpent l l' stops = lines_by old new new (rests_there new) w w' TurnsSpent NoneCloses stops.lines stops.answers
    lines_taken WriteFault l l' stops =
        let lines = asks_of name stops.lines in
        let last = line_asks name stops.last in
        answered_by old new new (rests_there new) w w' WriteFault LastMayClose (lines ++ last)
        (all_append (AsksBy (IsOf name)) lines last (of_lines stops.lines) (line_asks_by (IsOf name) name (of_line name) stops.last))
        (front_after name old stops.before new lines last w stops.sent stops.answered w' stops.answers)
    lines_taken Full l l' stops = lines_by old stops.before new stops.rests w w' Full NoneCloses stops.lines stops.answers
    lines_taken NoMemory l l' stops = lines_by old stops.before new stops.rests w w' NoMemory NoneCloses stops.lines stops.answers

-- the end of the connection gives nothing more
then_gone : (end : SessionEnd) (name : List ℕ) (old new : LaneView) (mid : Standing) (w w' : Option (List ℕ)) → Lines end name (starts_at old.pass old.known) mid w w' → mid.known ≡ new.known → TellsGone name mid.pass new.pass → Took end name old new w w'
then_gone end name old new mid w w' lines known_is gone =
    let turns : List OwnTurn = turns_among lines.answered in
    let meanwhile : Adds old.pass mid.pass turns = subst (λ ts. Adds old.pass mid.pass ts) (append-nil turns) (adds_both old.pass lines.last.pass mid.pass turns [] lines.adds lines.rests.adds) in
    let own = gone_of_session name (is_open_after mid.pass.opening (entries_of (mid.pass.seen ++ gone.between)) name) (entry_of name Gone 0 true) refl in
    record {
      answered = lines.answered;
      last = lines.last;
      goes = lines.goes;
      known = subst (TakesOn lines.last.known) known_is lines.rests.takes;
      turns = turns ++ gone.turns;
      adds = adds_both old.pass mid.pass new.pass turns gone.turns meanwhile gone.adds;
      sessions = all_append (λ (t : OwnTurn). t.entry.session ≡ name) turns gone.turns lines.sessions (of_requests name gone.turns (gone_entries mid.pass.opening (entries_of (mid.pass.seen ++ gone.between)) name) gone.requests own);
      gives = bytes-append turns gone.turns ∙ ap (λ z. bytes_of turns ++ z) gone.quiet ∙ append-nil (bytes_of turns);
      written = lines.written;
    }

nothing_taken : (name : List ℕ) (end : SessionEnd) (l l' : Option (List ℕ)) (old new : LaneView) (w w' : Option (List ℕ)) → DoesNothing end l l' old.pass new.pass w w' → new.known ≡ old.known → Took end name old new w w'
nothing_taken name end l l' old new w w' none same = record {
  answered = [];
  last = starts_at old.pass old.known;
  goes = refl;
  known = inl same;
  turns = [];
  adds = subst (λ p. Adds old.pass p []) (sym none.pass) (adds_none old.pass);
  sessions = tt;
  gives = refl;
  written = subst (λ e. Writes e [] w w') (sym none.end_is) (subst (λ z. Appends w z []) (sym none.written) (appends_none w));
}

pub taken : {Conn : Type 0} (t : Telling Conn) (name : List ℕ) (s : Service Conn) → IsServed t name s → Took s.end name s.old s.new (t.written s.before) (t.written s.after)
taken t name s served = ⊎_elim
    (λ (link : ServesShotLink s.end name (t.left s.before) (t.left s.after) s.old.pass s.new.pass s.old.known s.new.known (t.written s.before) (t.written s.after)).
    then_gone s.end name s.old s.new link.before_end (t.written s.before) (t.written s.after)
    (lines_taken name (starts_at s.old.pass s.old.known) link.before_end (t.written s.before) (t.written s.after) s.end (t.left s.before) (t.left s.after) link.lines) link.known_is link.gone)
    (λ (none : DoesNothing s.end (t.left s.before) (t.left s.after) s.old.pass s.new.pass (t.written s.before) (t.written s.after) × (s.new.known ≡ s.old.known)).
    nothing_taken name s.end (t.left s.before) (t.left s.after) s.old s.new (t.written s.before) (t.written s.after) none.0 none.1)
    served.serves
