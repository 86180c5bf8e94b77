-- What one request was answered, as an answer among peeks.
use Rattle.std.proofs.Common.{◌≡◌, ℕ, Bool, true, false, List, [], ◌∷◌, ◌++◌, map, Option, Result, Ok, Err, refl, ap, ◌∙◌, inl}
use Rattle.std.specs.Io.KnownBytes.{Appends}
use Rattle.io_edges.specs.declared.session_end.SessionEnd.TheVariants.{Closed, ReadFault, WriteFault, TurnsSpent, Full, NoMemory}
use Rattle.io_edges.specs.declared.session_end.SessionEnd.{SessionEnd}
use Rattle.doc_model.specs.declared.entry.Entry.{Entry}
use Rattle.grist_serve.specs.Answered.{Answered, LastCloses, LastMayClose, NoneCloses, asks_entry, turned}
use Rattle.grist_serve.specs.Answering as plain
use Rattle.grist_serve.specs.Due.{WasAnswered}
use Rattle.grist_serve.specs.ShotAnswering.{Answers, AnswersLine, FindsFull, FindsNoMemory}
use Rattle.grist_serve.specs.Standing.{Rests, Standing}
use Rattle.grist_serve.specs.Turns.{Adds, ClosesLast, CorePass, MayCloseLast, OwnTurn, StayOpen, asked_in, bytes_of}
use Rattle.grist_serve.proofs.AnsweredLemmas.{one_closes, one_may}

-- the only turn closed the session
only_closes : (t : OwnTurn) (before : List OwnTurn) (last : OwnTurn) → t ∷ [] ≡ before ++ last ∷ [] → last.closes ≡ true → t.closes ≡ true
only_closes t [] last e c = let same : t ≡ last = cc in ap (λ (x : OwnTurn). x.closes) same ∙ c
only_closes t (b ∷ []) last e c = absurd (cc)
only_closes t (b ∷ d ∷ before) last e c = absurd (cc)

open_one : (t : OwnTurn) → StayOpen (t ∷ []) → NoneCloses (turned t ∷ [])
open_one t c = c

closing_one : (t : OwnTurn) → ClosesLast (t ∷ []) → LastCloses (turned t ∷ [])
closing_one t c = one_closes (turned t) (only_closes t c.before c.last c.split c.closes)

may_one : (t : OwnTurn) → MayCloseLast (t ∷ []) → LastMayClose (turned t ∷ [])
may_one t c = one_may (turned t)

-- nothing was asked, so no turn was taken
nothing_adds : (old new : CorePass) (ts : List OwnTurn) → Adds old new ts → map asked_in ts ≡ [] → Adds old new []
nothing_adds old new [] a e = a
nothing_adds old new (t ∷ ts) a e = absurd (cc)

nothing_sent : (ts : List OwnTurn) (w w' : Option (List ℕ)) → map asked_in ts ≡ [] → Appends w w' (bytes_of ts) → Appends w w' []
nothing_sent [] w w' e s = s
nothing_sent (t ∷ ts) w w' e s = absurd (cc)

module _ (name : List ℕ) (old new : Standing) (known : new.known ≡ old.known) where
  rests : (a : Adds old.pass new.pass []) → Rests old new
  rests a = record { adds = a; takes = inl known }

  module _ (w w' : Option (List ℕ)) where
    pub no_memory : plain.AnswersOpen old.pass new.pass [] w w' → FindsNoMemory old new w w'
    no_memory a = record {
      rests = rests (nothing_adds old.pass new.pass a.turns a.adds a.requests);
      written = nothing_sent a.turns w w' a.requests a.written;
    }

    pub finds_full : (e : Entry) → plain.FindsFull old.pass new.pass (e ∷ []) w w' → FindsFull old new (asks_entry e ∷ []) w w'
    finds_full e f = record {
      request = f.request;
      asks = ap (λ (es : List Entry). map (λ x. asks_entry x) es) f.asks;
      full = f.full;
      rests = rests (nothing_adds old.pass new.pass f.answers.turns f.answers.adds f.answers.requests);
      written = nothing_sent f.answers.turns w w' f.answers.requests f.answers.written;
    }

  module _ (turn : new.has_turned ≡ true) (e : Entry) where
    -- the one turn is the one answer
    one_answer : (W : List ℕ → Type 0) (C : List OwnTurn → Type 0) (D : List Answered → Type 0) → ((t : OwnTurn) → C (t ∷ []) → D (turned t ∷ []))
        → (ts : List OwnTurn) → Adds old.pass new.pass ts → map asked_in ts ≡ e ∷ [] → C ts → W (bytes_of ts) → Answers W D name old new (asks_entry e ∷ [])
    one_answer W C D closes [] a r c s = absurd (cc)
    one_answer W C D closes (t ∷ []) a r c s = record {
      answered = turned t ∷ [];
      goes = (new, record { adds = a; has_turned = turn; known = known }, refl);
      adds = a;
      requests = ap (λ (es : List Entry). map (λ x. asks_entry x) es) r;
      closed = closes t c;
      written = s;
    }
    one_answer W C D closes (t ∷ u ∷ ts) a r c s = absurd (cc)

    one_of : {W : List ℕ → Type 0} {C : List OwnTurn → Type 0} {D : List Answered → Type 0} → ((t : OwnTurn) → C (t ∷ []) → D (turned t ∷ [])) → plain.Answers W C old.pass new.pass (e ∷ []) → Answers W D name old new (asks_entry e ∷ [])
    one_of {W} {C} {D} closes a = one_answer W C D closes a.turns a.adds a.requests a.closed a.written

-- what is told of the turn holds of the answer
pub turn_answers : (name : List ℕ) (old new : Standing) → new.known ≡ old.known → (e : Entry) (w w' : Option (List ℕ)) (r : Result Bool SessionEnd) → (WasAnswered r → new.has_turned ≡ true)
    → plain.AnswersLine r old.pass new.pass (e ∷ []) w w' → AnswersLine r name old new (asks_entry e ∷ []) w w'
turn_answers name old new known e w w' (Ok false) turn a = one_of name old new known (turn tt) e open_one a
turn_answers name old new known e w w' (Ok true) turn a = one_of name old new known (turn tt) e closing_one a
turn_answers name old new known e w w' (Err WriteFault) turn a = one_of name old new known (turn tt) e may_one a
turn_answers name old new known e w w' (Err Full) turn a = finds_full name old new known w w' e a
turn_answers name old new known e w w' (Err NoMemory) turn a = no_memory name old new known w w' a
turn_answers name old new known e w w' (Err Closed) turn a = absurd a
turn_answers name old new known e w w' (Err ReadFault) turn a = absurd a
turn_answers name old new known e w w' (Err TurnsSpent) turn a = absurd a
