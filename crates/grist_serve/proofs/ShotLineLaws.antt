-- Lines that were read and answered one after the other, some of them peeks.
use Rattle.std.proofs.Common.{◌≡◌, ◌≢◌, ℕ, Bool, true, false, List, [], ◌∷◌, ◌++◌, map, Option, Ok, Err, Result, inl, inr, refl, sym, ap, ◌∙◌, subst, append_assoc, append-nil}
use Rattle.std.proofs.lemmas.List.{map-append}
use Rattle.std.specs.Io.KnownBytes.{Appends}
use Rattle.io_edges.proofs.SendingLemmas.{appends_both, appends_none, sends_second}
use Rattle.io_edges.specs.Lines.{kept_of}
use Rattle.io_edges.specs.NextLine.{Reads}
use Rattle.io_edges.specs.Reading.{LineState}
use Rattle.io_edges.specs.declared.line_reader.NextLine.TheVariants.{Line, Last, End}
use Rattle.io_edges.specs.declared.line_reader.ReadEnd.TheVariants as read
use Rattle.io_edges.specs.declared.session_end.SessionEnd.{SessionEnd}
use Rattle.io_edges.specs.declared.session_end.SessionEnd.TheVariants.{Closed, ReadFault, WriteFault, TurnsSpent, Full, NoMemory}
use Rattle.grist_serve.specs.Answered.{Answered, Asked, LastCloses, asked_of, asks_of, bytes_given, line_asks, turns_among}
use Rattle.io_edges.specs.Came.{Came, CameFirst}
use Rattle.grist_serve.specs.ShotAnswering.{Answers, AnswersAll, AnswersClosing, AnswersFront, AnswersLine, AnswersOpen}
use Rattle.grist_serve.specs.ShotLink.{EndsBy, IsServing}
use Rattle.grist_serve.specs.Standing.{Rests, Standing}
use Rattle.grist_serve.specs.Turns.{Adds}
use Rattle.grist_serve.proofs.AnsweredLemmas.{bytes_given-append, goes_both, last_both, may_both, none_both, not_none, turns_among-append}
use Rattle.io_edges.proofs.Coming.{came_none, came_part, came_line, came_last, came_end, came_fault, came_spent}
use Rattle.grist_serve.proofs.Kept.{kept_asks}
use Rattle.grist_serve.proofs.TurnLemmas.{adds_both, adds_none}

asks-push : (name : List ℕ) (ls : List (List ℕ)) (t : List ℕ) → asks_of name (ls ++ t ∷ []) ≡ asks_of name ls ++ line_asks name t
asks-push name [] t = append-nil (line_asks name t)
asks-push name (l ∷ ls) t = ap (λ es. line_asks name l ++ es) (asks-push name ls t) ∙ sym (append_assoc (line_asks name l) (asks_of name ls) (line_asks name t))

-- one answer after the other
module _ (name : List ℕ) (old mid new : Standing) (asked more : List Asked) (w v : Option (List ℕ)) (a : AnswersOpen name old mid asked w v) where
  joined : {Written W : List ℕ → Type 0} {Closes C : List Answered → Type 0}
      → ((bytes : List ℕ) → Written bytes → W (bytes_given a.answered ++ bytes))
      → ((xs : List Answered) → Closes xs → C (a.answered ++ xs))
      → Answers Written Closes name mid new more → Answers W C name old new (asked ++ more)
  joined {Written} {W} {Closes} {C} writes closes b = record {
    answered = a.answered ++ b.answered;
    goes = goes_both name a.answered b.answered old mid new a.goes b.goes;
    adds = subst (λ ts. Adds old.pass new.pass ts) (sym (turns_among-append a.answered b.answered)) (adds_both old.pass mid.pass new.pass (turns_among a.answered) (turns_among b.answered) a.adds b.adds);
    requests = map-append asked_of a.answered b.answered ∙ ap (λ z. z ++ map asked_of b.answered) a.requests ∙ ap (λ z. asked ++ z) b.requests;
    closed = closes b.answered b.closed;
    written = subst W (sym (bytes_given-append a.answered b.answered)) (writes (bytes_given b.answered) b.written);
  }

  module _ (u : Option (List ℕ)) where
    all_both : (bytes : List ℕ) → Appends v u bytes → Appends w u (bytes_given a.answered ++ bytes)
    all_both bytes sent = appends_both w v u (bytes_given a.answered) bytes a.written sent

    pub open_after : AnswersOpen name mid new more v u → AnswersOpen name old new (asked ++ more) w u
    open_after b = joined all_both (λ xs c. none_both a.answered xs a.closed c) b

    pub closing_after : AnswersClosing name mid new more v u → AnswersClosing name old new (asked ++ more) w u
    closing_after b = joined all_both (λ xs c. last_both a.answered xs a.closed c) b

    pub front_after : AnswersFront name mid new more v u → AnswersFront name old new (asked ++ more) w u
    front_after b = joined (λ bytes sent. sends_second (bytes_given a.answered) bytes w v u a.written sent) (λ xs c. may_both a.answered xs a.closed c) b

    -- nothing more was written
    pub open_still : Appends v u [] → AnswersOpen name old mid asked w u
    open_still sent = record {
      answered = a.answered;
      goes = a.goes;
      adds = a.adds;
      requests = a.requests;
      closed = a.closed;
      written = subst (Appends w u) (append-nil (bytes_given a.answered)) (all_both [] sent);
    }

-- the session may have been closed or not
pub open_may : (name : List ℕ) (old new : Standing) (asked : List Asked) (w u : Option (List ℕ)) → AnswersOpen name old new asked w u → AnswersAll name old new asked w u
open_may name old new asked w u a = record { answered = a.answered; goes = a.goes; adds = a.adds; requests = a.requests; closed = inl a.closed; written = a.written }

pub closing_may : (name : List ℕ) (old new : Standing) (asked : List Asked) (w u : Option (List ℕ)) → AnswersClosing name old new asked w u → AnswersAll name old new asked w u
closing_may name old new asked w u a = record { answered = a.answered; goes = a.goes; adds = a.adds; requests = a.requests; closed = inr a.closed; written = a.written }

none_mapped : (xs : List Answered) → map asked_of xs ≡ [] → xs ≡ []
none_mapped [] e = refl
none_mapped (x ∷ xs) e = absurd (cc)

-- answers of which the last closed the session are some
some_closes : (xs : List Answered) (asked : List Asked) → map asked_of xs ≡ asked → LastCloses xs → asked ≢ []
some_closes xs asked e c none = not_none xs c (none_mapped xs (e ∙ none))

-- nothing was asked
pub answers_nothing : (name : List ℕ) (s : Standing) (w : Option (List ℕ)) → AnswersOpen name s s [] w w
answers_nothing name s w = record { answered = []; goes = refl; adds = adds_none s.pass; requests = refl; closed = tt; written = appends_none w }

-- nothing was answered yet
pub serving_starts : (name : List ℕ) (l : Option (List ℕ)) (p : Standing) (w : Option (List ℕ)) (reader : LineState) → reader.ahead ≡ [] → reader.turns ≡ 0 → IsServing name l l p p w w reader
serving_starts name l p w reader ahead turns = record {
  lines = [];
  came = subst (λ (t : ℕ). Came l l [] reader.ahead t) (sym turns) (subst (λ (b : List ℕ). Came l l [] b 0) (sym ahead) (came_none l));
  answers = answers_nothing name p w;
}

rests_none : (s : Standing) → Rests s s
rests_none s = record { adds = adds_none s.pass; takes = inl refl }

-- the lines so far were answered, and the next was read or not
module _ (name : List ℕ) (l m n : Option (List ℕ)) (old mid : Standing) (w v : Option (List ℕ)) (before after : LineState) (s : IsServing name l m old mid w v before) where
  pub ends_fault : Reads (Err read.ReadFault) before after m n → EndsBy ReadFault name l n old mid w v
  ends_fault r = (after.turns, record { lines = s.lines; rest = r.text; came = came_fault l m n s.lines before after s.came r; one_line = r.one_line; answers = s.answers })

  pub ends_spent : Reads (Err read.TurnsSpent) before after m n → after.turns ≡ 4294967296 → EndsBy TurnsSpent name l n old mid w v
  ends_spent r turns = record {
    lines = s.lines;
    rest = r.text;
    came = subst (λ (t : ℕ). Came l n s.lines r.text t) turns (came_spent l m n s.lines before after s.came r);
    one_line = r.one_line;
    answers = s.answers;
  }

  pub ends_short : Reads (Err read.NoMemory) before after m n → EndsBy NoMemory name l n old mid w v
  ends_short r = record {
    lines = s.lines;
    more = [];
    before = mid;
    came = subst (λ (ls : List (List ℕ)). CameFirst l n ls) (sym (append-nil s.lines)) (inl (_, _, came_part l m n s.lines before after s.came r));
    answers = s.answers;
    rests = rests_none mid;
  }

  pub ends_input : Reads (Ok End) before after m n → EndsBy Closed name l n old mid w v
  ends_input r = inl record { lines = s.lines; came = came_end l m n s.lines before after s.came r; answers = open_may name old mid (asks_of name s.lines) w v s.answers }

  module _ (new : Standing) (u : Option (List ℕ)) (text : List ℕ) (kept : after.line ≡ kept_of text) where
    -- what the line as far as it is kept asks for is what the line asks for
    same_asks : line_asks name after.line ≡ line_asks name text
    same_asks = ap (line_asks name) kept ∙ kept_asks name text

    longer : asks_of name s.lines ++ line_asks name after.line ≡ asks_of name (s.lines ++ text ∷ [])
    longer = ap (λ es. asks_of name s.lines ++ es) same_asks ∙ sym (asks-push name s.lines text)

    goes_on : AnswersOpen name mid new (line_asks name after.line) v u → AnswersOpen name old new (asks_of name (s.lines ++ text ∷ [])) w u
    goes_on b = subst (λ es. AnswersOpen name old new es w u) longer (open_after name old mid new (asks_of name s.lines) (line_asks name after.line) w v s.answers u b)

    closing : AnswersClosing name mid new (line_asks name after.line) v u → AnswersClosing name old new (asks_of name (s.lines ++ text ∷ [])) w u
    closing b = subst (λ es. AnswersClosing name old new es w u) longer (closing_after name old mid new (asks_of name s.lines) (line_asks name after.line) w v s.answers u b)

    unasked : Appends v u [] → AnswersOpen name old mid (asks_of name s.lines) w u
    unasked sent = open_still name old mid mid (asks_of name s.lines) [] w v s.answers u sent

    -- the answer ended the link
    ends_answer : (end : SessionEnd) → CameFirst l n (s.lines ++ text ∷ []) → AnswersLine (Err end) name mid new (line_asks name after.line) v u → EndsBy end name l n old new w u
    ends_answer WriteFault came b = record {
      lines = s.lines;
      last = text;
      before = mid;
      sent = v;
      came = came;
      answered = s.answers;
      answers = subst (λ es. AnswersFront name mid new es v u) same_asks b;
    }
    ends_answer Full came b = record {
      lines = s.lines;
      last = text;
      request = b.request;
      before = mid;
      came = came;
      asks = sym same_asks ∙ b.asks;
      full = b.full;
      answers = unasked b.written;
      rests = b.rests;
    }
    ends_answer NoMemory came b = record { lines = s.lines; more = text ∷ []; before = mid; came = came; answers = unasked b.written; rests = b.rests }
    ends_answer Closed came b = absurd b
    ends_answer ReadFault came b = absurd b
    ends_answer TurnsSpent came b = absurd b

  module _ (new : Standing) (u : Option (List ℕ)) where
    -- a line was read and answered
    pub line_served : Reads (Ok Line) before after m n → AnswersLine (Ok false) name mid new (line_asks name after.line) v u → IsServing name l n old new w u after
    line_served r b = record {
      lines = s.lines ++ r.text ∷ [];
      came = came_line l m n s.lines before after s.came r;
      answers = goes_on new u r.text r.answer b;
    }

    pub line_closes : Reads (Ok Line) before after m n → AnswersLine (Ok true) name mid new (line_asks name after.line) v u → EndsBy Closed name l n old new w u
    line_closes r b = inr record {
      lines = s.lines;
      last = r.text;
      rest = after.ahead;
      turns = after.turns;
      came = came_line l m n s.lines before after s.came r;
      asks = some_closes b.answered (line_asks name r.text) (b.requests ∙ same_asks new u r.text r.answer) b.closed;
      answers = closing new u r.text r.answer b;
    }

    pub line_ends : (end : SessionEnd) → Reads (Ok Line) before after m n → AnswersLine (Err end) name mid new (line_asks name after.line) v u → EndsBy end name l n old new w u
    line_ends end r b = ends_answer new u r.text r.answer end (inl (_, _, came_line l m n s.lines before after s.came r)) b

    -- the same of a last line without newline
    pub last_served : (closes : Bool) → Reads (Ok Last) before after m n → AnswersLine (Ok closes) name mid new (line_asks name after.line) v u → EndsBy Closed name l n old new w u
    last_served false r b = inl record {
      lines = s.lines ++ r.text ∷ [];
      came = came_last l m n s.lines before after s.came r;
      answers = open_may name old new (asks_of name (s.lines ++ r.text ∷ [])) w u (goes_on new u r.text r.answer.1 b);
    }
    last_served true r b = inl record {
      lines = s.lines ++ r.text ∷ [];
      came = came_last l m n s.lines before after s.came r;
      answers = closing_may name old new (asks_of name (s.lines ++ r.text ∷ [])) w u (closing new u r.text r.answer.1 b);
    }

    pub last_ends : (end : SessionEnd) → Reads (Ok Last) before after m n → AnswersLine (Err end) name mid new (line_asks name after.line) v u → EndsBy end name l n old new w u
    last_ends end r b = ends_answer new u r.text r.answer.1 end (inr (came_last l m n s.lines before after s.came r)) b

-- the same over what the calls of one turn tell
module _ (name : List ℕ) (l m n n' : Option (List ℕ)) (old mid new : Standing) (w v v' u : Option (List ℕ)) (before after after' : LineState) (s : IsServing name l m old mid w v before) (left : n' ≡ n) (same : v' ≡ v) (reader : after' ≡ after) where
  moved : (r : Result Bool SessionEnd) → AnswersLine r name mid new (line_asks name after.line) v' u → AnswersLine r name mid new (line_asks name after.line) v u
  moved r b = subst (λ (z : Option (List ℕ)). AnswersLine r name mid new (line_asks name after.line) z u) same b

  ends : (end : SessionEnd) → EndsBy end name l n old new w u → EndsBy end name l n' old new w u
  ends end b = subst (λ (z : Option (List ℕ)). EndsBy end name l z old new w u) (sym left) b

  pub turn_goes_on : Reads (Ok Line) before after m n → AnswersLine (Ok false) name mid new (line_asks name after.line) v' u → IsServing name l n' old new w u after'
  turn_goes_on r b =
      subst (λ (z : LineState). IsServing name l n' old new w u z) (sym reader)
      (subst (λ (z : Option (List ℕ)). IsServing name l z old new w u after) (sym left) (line_served name l m n old mid w v before after s new u r (moved (Ok false) b)))

  pub turn_closes : Reads (Ok Line) before after m n → AnswersLine (Ok true) name mid new (line_asks name after.line) v' u → EndsBy Closed name l n' old new w u
  turn_closes r b = ends Closed (line_closes name l m n old mid w v before after s new u r (moved (Ok true) b))

  pub turn_ends : (end : SessionEnd) → Reads (Ok Line) before after m n → AnswersLine (Err end) name mid new (line_asks name after.line) v' u → EndsBy end name l n' old new w u
  turn_ends end r b = ends end (line_ends name l m n old mid w v before after s new u end r (moved (Err end) b))

  pub turn_last : (closes : Bool) → Reads (Ok Last) before after m n → AnswersLine (Ok closes) name mid new (line_asks name after.line) v' u → EndsBy Closed name l n' old new w u
  turn_last closes r b = ends Closed (last_served name l m n old mid w v before after s new u closes r (moved (Ok closes) b))

  pub turn_last_ends : (end : SessionEnd) → Reads (Ok Last) before after m n → AnswersLine (Err end) name mid new (line_asks name after.line) v' u → EndsBy end name l n' old new w u
  turn_last_ends end r b = ends end (last_ends name l m n old mid w v before after s new u end r (moved (Err end) b))

-- what is written stands beside what is read
pub same_written : (end : SessionEnd) (name : List ℕ) (l n : Option (List ℕ)) (old mid : Standing) (w v v' : Option (List ℕ)) → v' ≡ v → EndsBy end name l n old mid w v → EndsBy end name l n old mid w v'
same_written end name l n old mid w v v' same e = subst (λ (z : Option (List ℕ)). EndsBy end name l n old mid w z) (sym same) e
