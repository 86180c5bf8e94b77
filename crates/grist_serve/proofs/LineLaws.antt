-- Lines that were read and answered one after the other.
use Rattle.std.proofs.Common.{◌≡◌, ◌≢◌, ℕ, Bool, true, false, List, [], ◌∷◌, ◌++◌, map, Option, Ok, Err, Result, inl, inr, sym, ap, ◌∙◌, subst, append_assoc, append-nil}
use Rattle.std.proofs.lemmas.List.{map-append}
use Rattle.std.specs.Io.KnownBytes.{Appends}
use Rattle.io_edges.proofs.SendingLemmas.{appends_both, sends_second}
use Rattle.io_edges.specs.Lines.{kept_of}
use Rattle.io_edges.specs.NextLine.{Reads}
use Rattle.io_edges.specs.Reading.{LineState}
use Rattle.io_edges.specs.declared.line_reader.NextLine.TheVariants.{Line, Last, End}
use Rattle.io_edges.specs.declared.line_reader.ReadEnd.TheVariants as read
use Rattle.doc_model.specs.declared.entry.Entry.{Entry}
use Rattle.grist_serve.specs.Answering.{Answers, AnswersAll, AnswersClosing, AnswersFront, AnswersLine, AnswersOpen}
use Rattle.io_edges.specs.Came.{Came, CameFirst}
use Rattle.grist_serve.specs.Link.{EndsBy, IsServing, StopsWriting}
use Rattle.grist_serve.specs.Requests.{line_entries, requests_of}
use Rattle.grist_serve.specs.Turns.{CorePass, ClosesLast, OwnTurn, asked_in, bytes_of}
use Rattle.io_edges.specs.declared.session_end.SessionEnd.{SessionEnd}
use Rattle.io_edges.specs.declared.session_end.SessionEnd.TheVariants.{Closed, ReadFault, WriteFault, TurnsSpent, Full, NoMemory}
use Rattle.grist_serve.proofs.CallLemmas.{answers_nothing}
use Rattle.io_edges.proofs.Coming.{came_none, came_part, came_line, came_last, came_end, came_fault, came_spent}
use Rattle.grist_serve.proofs.Kept.{kept_entries}
use Rattle.grist_serve.proofs.TurnLemmas.{adds_both, bytes-append, closes_both, may_both, open_both}

requests-push : (name : List ℕ) (ls : List (List ℕ)) (t : List ℕ) → requests_of name (ls ++ t ∷ []) ≡ requests_of name ls ++ line_entries name t
requests-push name [] t = append-nil (line_entries name t)
requests-push name (l ∷ ls) t = ap (λ es. line_entries name l ++ es) (requests-push name ls t) ∙ sym (append_assoc (line_entries name l) (requests_of name ls) (line_entries name t))

-- one answer after the other
module _ (old mid new : CorePass) (asked more : List Entry) (w v : Option (List ℕ)) (a : AnswersOpen old mid asked w v) where
  joined : {Written W : List ℕ → Type 0} {Closed C : List OwnTurn → Type 0}
      → ((bytes : List ℕ) → Written bytes → W (bytes_of a.turns ++ bytes))
      → ((turns : List OwnTurn) → Closed turns → C (a.turns ++ turns))
      → Answers Written Closed mid new more → Answers W C old new (asked ++ more)
  joined {Written} {W} {Closed} {C} writes closes b = record {
    turns = a.turns ++ b.turns;
    adds = adds_both old mid new a.turns b.turns a.adds b.adds;
    requests = map-append asked_in a.turns b.turns ∙ ap (λ z. z ++ map asked_in b.turns) a.requests ∙ ap (λ z. asked ++ z) b.requests;
    closed = closes b.turns b.closed;
    written = subst W (sym (bytes-append a.turns b.turns)) (writes (bytes_of b.turns) b.written);
  }

  module _ (u : Option (List ℕ)) where
    all_both : (bytes : List ℕ) → Appends v u bytes → Appends w u (bytes_of a.turns ++ bytes)
    all_both bytes sent = appends_both w v u (bytes_of a.turns) bytes a.written sent

    pub open_after : AnswersOpen mid new more v u → AnswersOpen old new (asked ++ more) w u
    open_after b = joined all_both (λ ts c. open_both a.turns ts a.closed c) b

    pub closing_after : AnswersClosing mid new more v u → AnswersClosing old new (asked ++ more) w u
    closing_after b = joined all_both (λ ts c. closes_both a.turns ts a.closed c) b

    pub front_after : AnswersFront mid new more v u → AnswersFront old new (asked ++ more) w u
    front_after b = joined (λ bytes sent. sends_second (bytes_of a.turns) bytes w v u a.written sent) (λ ts c. may_both a.turns ts a.closed c) b

-- where writing stopped, a front was written of all that was answered
pub front_written : (name : List ℕ) (l l' : Option (List ℕ)) (old new : CorePass) (w u : Option (List ℕ)) (s : StopsWriting name l l' old new w u) → AnswersFront old new (requests_of name (s.lines ++ s.last ∷ [])) w u
front_written name l l' old new w u s =
    subst (λ es. AnswersFront old new es w u) (sym (requests-push name s.lines s.last))
    (front_after old s.before new (requests_of name s.lines) (line_entries name s.last) w s.sent s.answered u s.answers)

-- the session may have been closed or not
pub open_may : (old new : CorePass) (asked : List Entry) (w u : Option (List ℕ)) → AnswersOpen old new asked w u → AnswersAll old new asked w u
open_may old new asked w u a = record { turns = a.turns; adds = a.adds; requests = a.requests; closed = inl a.closed; written = a.written }

pub closing_may : (old new : CorePass) (asked : List Entry) (w u : Option (List ℕ)) → AnswersClosing old new asked w u → AnswersAll old new asked w u
closing_may old new asked w u a = record { turns = a.turns; adds = a.adds; requests = a.requests; closed = inr a.closed; written = a.written }

not_empty : (xs : List OwnTurn) (x : OwnTurn) → [] ≡ xs ++ x ∷ [] → ⊥
not_empty [] x e = absurd (cc)
not_empty (y ∷ ys) x e = absurd (cc)

-- turns of which the last closed the session are some
some_closes : (ts : List OwnTurn) (asked : List Entry) → map asked_in ts ≡ asked → ClosesLast ts → asked ≢ []
some_closes [] asked e c none = not_empty c.before c.last c.split
some_closes (t ∷ ts) asked e c none = let f = e ∙ none in absurd (cc)

-- nothing was answered yet
pub serving_starts : (name : List ℕ) (l : Option (List ℕ)) (p : CorePass) (w : Option (List ℕ)) (reader : LineState) → reader.ahead ≡ [] → reader.turns ≡ 0 → IsServing name l l p p w w reader
serving_starts name l p w reader ahead turns = record {
  lines = [];
  came = subst (λ (t : ℕ). Came l l [] reader.ahead t) (sym turns) (subst (λ (b : List ℕ). Came l l [] b 0) (sym ahead) (came_none l));
  answers = answers_nothing p w;
}

-- the lines so far were answered, and the next was read or not
module _ (name : List ℕ) (l m n : Option (List ℕ)) (old mid : CorePass) (w v : Option (List ℕ)) (before after : LineState) (s : IsServing name l m old mid w v before) where
  pub ends_fault : Reads (Err read.ReadFault) before after m n → EndsBy ReadFault name l n old mid w v
  ends_fault r = (after.turns, record { lines = s.lines; rest = r.text; came = came_fault l m n s.lines before after s.came r; one_line = r.one_line; answers = s.answers })

  pub ends_spent : Reads (Err read.TurnsSpent) before after m n → after.turns ≡ 4294967296 → EndsBy TurnsSpent name l n old mid w v
  ends_spent r turns = record {
    lines = s.lines;
    rest = r.text;
    came = subst (λ (t : ℕ). Came l n s.lines r.text t) turns (came_spent l m n s.lines before after s.came r);
    one_line = r.one_line;
    answers = s.answers;
  }

  pub ends_short : Reads (Err read.NoMemory) before after m n → EndsBy NoMemory name l n old mid w v
  ends_short r = record {
    lines = s.lines;
    more = [];
    came = subst (λ (ls : List (List ℕ)). CameFirst l n ls) (sym (append-nil s.lines)) (inl (_, _, came_part l m n s.lines before after s.came r));
    answers = s.answers;
  }

  pub ends_input : Reads (Ok End) before after m n → EndsBy Closed name l n old mid w v
  ends_input r = inl record { lines = s.lines; came = came_end l m n s.lines before after s.came r; answers = open_may old mid (requests_of name s.lines) w v s.answers }

  module _ (new : CorePass) (u : Option (List ℕ)) (text : List ℕ) (kept : after.line ≡ kept_of text) where
    -- what the line as far as it is kept asks for is what the line asks for
    same_entries : line_entries name after.line ≡ line_entries name text
    same_entries = ap (line_entries name) kept ∙ kept_entries name text

    longer : requests_of name s.lines ++ line_entries name after.line ≡ requests_of name (s.lines ++ text ∷ [])
    longer = ap (λ es. requests_of name s.lines ++ es) same_entries ∙ sym (requests-push name s.lines text)

    goes_on : AnswersOpen mid new (line_entries name after.line) v u → AnswersOpen old new (requests_of name (s.lines ++ text ∷ [])) w u
    goes_on b = subst (λ es. AnswersOpen old new es w u) longer (open_after old mid new (requests_of name s.lines) (line_entries name after.line) w v s.answers u b)

    closing : AnswersClosing mid new (line_entries name after.line) v u → AnswersClosing old new (requests_of name (s.lines ++ text ∷ [])) w u
    closing b = subst (λ es. AnswersClosing old new es w u) longer (closing_after old mid new (requests_of name s.lines) (line_entries name after.line) w v s.answers u b)

    unasked : AnswersOpen mid new [] v u → AnswersOpen old new (requests_of name s.lines) w u
    unasked b = subst (λ es. AnswersOpen old new es w u) (append-nil (requests_of name s.lines)) (open_after old mid new (requests_of name s.lines) [] w v s.answers u b)

    -- the answer ended the link
    ends_answer : (end : SessionEnd) → CameFirst l n (s.lines ++ text ∷ []) → AnswersLine (Err end) mid new (line_entries name after.line) v u → EndsBy end name l n old new w u
    ends_answer WriteFault came b = record {
      lines = s.lines;
      last = text;
      before = mid;
      sent = v;
      came = came;
      answered = s.answers;
      answers = subst (λ es. AnswersFront mid new es v u) same_entries b;
    }
    ends_answer Full came b = record {
      lines = s.lines;
      last = text;
      request = b.request;
      came = came;
      asks = sym same_entries ∙ b.asks;
      full = b.full;
      answers = unasked b.answers;
    }
    ends_answer NoMemory came b = record { lines = s.lines; more = text ∷ []; came = came; answers = unasked b }
    ends_answer Closed came b = absurd b
    ends_answer ReadFault came b = absurd b
    ends_answer TurnsSpent came b = absurd b

  module _ (new : CorePass) (u : Option (List ℕ)) where
    -- a line was read and answered
    pub line_served : Reads (Ok Line) before after m n → AnswersLine (Ok false) mid new (line_entries name after.line) v u → IsServing name l n old new w u after
    line_served r b = record {
      lines = s.lines ++ r.text ∷ [];
      came = came_line l m n s.lines before after s.came r;
      answers = goes_on new u r.text r.answer b;
    }

    pub line_closes : Reads (Ok Line) before after m n → AnswersLine (Ok true) mid new (line_entries name after.line) v u → EndsBy Closed name l n old new w u
    line_closes r b = inr record {
      lines = s.lines;
      last = r.text;
      rest = after.ahead;
      turns = after.turns;
      came = came_line l m n s.lines before after s.came r;
      asks = some_closes b.turns (line_entries name r.text) (b.requests ∙ same_entries new u r.text r.answer) b.closed;
      answers = closing new u r.text r.answer b;
    }

    pub line_ends : (end : SessionEnd) → Reads (Ok Line) before after m n → AnswersLine (Err end) mid new (line_entries name after.line) v u → EndsBy end name l n old new w u
    line_ends end r b = ends_answer new u r.text r.answer end (inl (_, _, came_line l m n s.lines before after s.came r)) b

    -- the same of a last line without newline
    pub last_served : (closes : Bool) → Reads (Ok Last) before after m n → AnswersLine (Ok closes) mid new (line_entries name after.line) v u → EndsBy Closed name l n old new w u
    last_served false r b = inl record {
      lines = s.lines ++ r.text ∷ [];
      came = came_last l m n s.lines before after s.came r;
      answers = open_may old new (requests_of name (s.lines ++ r.text ∷ [])) w u (goes_on new u r.text r.answer.1 b);
    }
    last_served true r b = inl record {
      lines = s.lines ++ r.text ∷ [];
      came = came_last l m n s.lines before after s.came r;
      answers = closing_may old new (requests_of name (s.lines ++ r.text ∷ [])) w u (closing new u r.text r.answer.1 b);
    }

    pub last_ends : (end : SessionEnd) → Reads (Ok Last) before after m n → AnswersLine (Err end) mid new (line_entries name after.line) v u → EndsBy end name l n old new w u
    last_ends end r b = ends_answer new u r.text r.answer.1 end (inr (came_last l m n s.lines before after s.came r)) b

-- the same over what the calls of one turn tell
module _ (name : List ℕ) (l m n n' : Option (List ℕ)) (old mid new : CorePass) (w v v' u : Option (List ℕ)) (before after after' : LineState) (s : IsServing name l m old mid w v before) (left : n' ≡ n) (same : v' ≡ v) (reader : after' ≡ after) where
  moved : (r : Result Bool SessionEnd) → AnswersLine r mid new (line_entries name after.line) v' u → AnswersLine r mid new (line_entries name after.line) v u
  moved r b = subst (λ (z : Option (List ℕ)). AnswersLine r mid new (line_entries name after.line) z u) same b

  ends : (end : SessionEnd) → EndsBy end name l n old new w u → EndsBy end name l n' old new w u
  ends end b = subst (λ (z : Option (List ℕ)). EndsBy end name l z old new w u) (sym left) b

  pub turn_goes_on : Reads (Ok Line) before after m n → AnswersLine (Ok false) mid new (line_entries name after.line) v' u → IsServing name l n' old new w u after'
  turn_goes_on r b =
      subst (λ (z : LineState). IsServing name l n' old new w u z) (sym reader)
      (subst (λ (z : Option (List ℕ)). IsServing name l z old new w u after) (sym left) (line_served name l m n old mid w v before after s new u r (moved (Ok false) b)))

  pub turn_closes : Reads (Ok Line) before after m n → AnswersLine (Ok true) mid new (line_entries name after.line) v' u → EndsBy Closed name l n' old new w u
  turn_closes r b = ends Closed (line_closes name l m n old mid w v before after s new u r (moved (Ok true) b))

  pub turn_ends : (end : SessionEnd) → Reads (Ok Line) before after m n → AnswersLine (Err end) mid new (line_entries name after.line) v' u → EndsBy end name l n' old new w u
  turn_ends end r b = ends end (line_ends name l m n old mid w v before after s new u end r (moved (Err end) b))

  pub turn_last : (closes : Bool) → Reads (Ok Last) before after m n → AnswersLine (Ok closes) mid new (line_entries name after.line) v' u → EndsBy Closed name l n' old new w u
  turn_last closes r b = ends Closed (last_served name l m n old mid w v before after s new u closes r (moved (Ok closes) b))

  pub turn_last_ends : (end : SessionEnd) → Reads (Ok Last) before after m n → AnswersLine (Err end) mid new (line_entries name after.line) v' u → EndsBy end name l n' old new w u
  turn_last_ends end r b = ends end (last_ends name l m n old mid w v before after s new u end r (moved (Err end) b))

-- what is written stands beside what is read
pub same_written : (end : SessionEnd) (name : List ℕ) (l n : Option (List ℕ)) (old mid : CorePass) (w v v' : Option (List ℕ)) → v' ≡ v → EndsBy end name l n old mid w v → EndsBy end name l n old mid w v'
same_written end name l n old mid w v v' same e = subst (λ (z : Option (List ℕ)). EndsBy end name l n old mid w z) (sym same) e
