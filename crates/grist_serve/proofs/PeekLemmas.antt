-- What one peek was answered.
use Rattle.std.proofs.Common.{◌≡◌, ◌≤◌, ℕ, List, [], ◌∷◌, Option, Some, None, refl, sym, ap, ◌∙◌, subst, append-nil, inl, arith, Result, Ok, Err, IfOk}
use Rattle.std.specs.Io.KnownBytes.{Appends}
use Rattle.io_edges.specs.Sending.{SendsFront}
use Rattle.doc_model.specs.declared.entry.Entry.{Entry}
use Rattle.grist_json.specs.Lines.{reply_text}
use Rattle.peek_lines.specs.Answers.{verdict_of}
use Rattle.peek_lines.specs.declared.answers.PeekAnswer.{PeekAnswer}
use Rattle.peek_lines.specs.declared.answers.PeekAnswer.TheVariants.{NotOpen}
use Rattle.snap_reads.specs.declared.past.Mark.{Mark}
use Rattle.snap_reads.specs.declared.past.Past.{Past}
use Rattle.bundle_core.specs.Told.{with_newlines}
use Rattle.document_shot.specs.PeekAnswers.{IsPeekAnswer}
use Rattle.document_shot.specs.declared.past.CoreStart.{CoreStart}
use Rattle.grist_serve.specs.Answered.{Peek, asks_peek, bytes_given, peeked}
use Rattle.grist_serve.specs.Due.{IsDue, IsPeekAnswered, IsPeekDue, IsPeekReply, standing}
use Rattle.grist_serve.specs.ShotAnswering.{AnswersFront, AnswersOpen}
use Rattle.grist_serve.specs.Standing.{IsPeekAfter, IsPeekOf, after_peek}
use Rattle.grist_serve.specs.Turns.{CorePass}
use Rattle.grist_serve.specs.declared.peeking.Due.{Due}
use Rattle.grist_serve.specs.declared.peeking.Due.TheVariants.{NoTurn, NoMark, At}
use Rattle.grist_serve.proofs.TurnLemmas.{adds_none}

-- before the first turn
pub not_open : (name table : List ℕ) (known : List (Past CoreStart Entry)) → IsPeekAnswered NoTurn name table known known NotOpen
not_open name table known = record {
  peek = record { table = table; past = None; answer = NotOpen };
  at = refl;
  given = refl;
  known = refl;
  told = record { none_taken = refl; answered = refl };
}

-- by a shot that is as new as the mark
pub from_shot : (mark : Mark) (name table : List ℕ) (known : List (Past CoreStart Entry)) (least : ℕ) (new : List (Past CoreStart Entry)) (answer : PeekAnswer) → mark.entries ≤ least
    → IsPeekAnswer name table known least new answer → IsPeekAnswered (At mark) name table known new answer
from_shot mark name table known least new answer later a = record {
  peek = record { table = table; past = Some a.past; answer = answer };
  at = refl;
  given = refl;
  known = a.known;
  told = record {
    past = a.past;
    taken = refl;
    later = a.later;
    marked = omega (arith, later, a.marked);
    answered = a.answered;
  };
}

pub all_from_shot : {E : Type 0} (mark : Mark) (name table : List ℕ) (known : List (Past CoreStart Entry)) (least : ℕ) (new : List (Past CoreStart Entry)) (r : Result PeekAnswer E) → mark.entries ≤ least
    → IfOk r (IsPeekAnswer name table known least new) → IfOk r (IsPeekAnswered (At mark) name table known new)
all_from_shot mark name table known least new (Ok answer) later a = from_shot mark name table known least new answer later a
all_from_shot mark name table known least new (Err e) later a = tt

peek_of : (due : Due) (pass : CorePass) → IsDue due pass → (name : List ℕ) (known : List (Past CoreStart Entry)) (p : Peek) → IsPeekDue due name known p → IsPeekOf name (standing pass due known) p
peek_of NoTurn pass d name known p t = t
peek_of NoMark pass d name known p t = absurd t
peek_of (At mark) pass d name known p t = subst (λ (n : ℕ). IsPeekAfter name n known p) d t

module _ (due : Due) (pass : CorePass) (d : IsDue due pass) (name table : List ℕ) (known more : List (Past CoreStart Entry)) where
  module _ (line : List ℕ) (r : IsPeekReply due name table known more line) where
    abbrev peek : Peek
    peek = r.answered.peek

    leads : standing pass due more ≡ after_peek (standing pass due known) peek
    leads = ap (λ (k : List (Past CoreStart Entry)). standing pass due k) r.answered.known

    bytes : with_newlines (line ∷ []) ≡ bytes_given (peeked peek ∷ [])
    bytes =
        ap (λ (l : List ℕ). with_newlines (l ∷ [])) (r.text ∙ ap (λ (a : PeekAnswer). reply_text (verdict_of a)) (sym r.answered.given))
        ∙ sym (append-nil (with_newlines (reply_text (verdict_of peek.answer) ∷ [])))

    module _ (w w' : Option (List ℕ)) where
      pub peek_answers : Appends w w' (with_newlines (line ∷ [])) → AnswersOpen name (standing pass due known) (standing pass due more) (asks_peek table ∷ []) w w'
      peek_answers sent = record {
        answered = peeked peek ∷ [];
        goes = (peek_of due pass d name known peek r.answered.told, leads);
        adds = adds_none pass;
        requests = ap (λ (t : List ℕ). asks_peek t ∷ []) r.answered.at;
        closed = (refl, tt);
        written = subst (Appends w w') bytes sent;
      }

      pub peek_front : SendsFront (with_newlines (line ∷ [])) w w' → AnswersFront name (standing pass due known) (standing pass due more) (asks_peek table ∷ []) w w'
      peek_front sent = record {
        answered = peeked peek ∷ [];
        goes = (peek_of due pass d name known peek r.answered.told, leads);
        adds = adds_none pass;
        requests = ap (λ (t : List ℕ). asks_peek t ∷ []) r.answered.at;
        closed = inl (refl, tt);
        written = subst (λ (b : List ℕ). SendsFront b w w') bytes sent;
      }
