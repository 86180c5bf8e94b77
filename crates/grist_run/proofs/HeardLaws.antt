-- Users that were heard, and one line more.
use Rattle.std.proofs.Common.{◌≡◌, ℕ, ◌+◌, List, [], ◌∷◌, ◌++◌, Option, Ok, Err, inl, inr, ⊎_elim, refl, sym, ap, ◌∙◌, subst, length-append, arith}
use Rattle.doc_model.specs.declared.user.User.{User}
use Rattle.io_edges.specs.Lines.{kept_of}
use Rattle.io_edges.specs.NextLine.{Reads}
use Rattle.io_edges.specs.Reading.{LineState}
use Rattle.io_edges.specs.declared.line_reader.NextLine.TheVariants.{Line, Last, End}
use Rattle.grist_run.specs.declared.status.Status.{Status}
use Rattle.grist_run.specs.declared.status.Status.TheVariants.{Done, Usage, BadUsers, ReadFault, WriteFault, StoreFault, NoMemory, BadStore, TurnsSpent, PortFault, HistoryFull}
use Rattle.grist_run.specs.declared.user_lines.Heard.TheVariants as heard
use Rattle.grist_run.specs.Hearing.{IsHeard, IsAtLine, IsAtLast, IsAtEndOf, HeardSoFar, EndsHearing, EndsUsers}
use Rattle.grist_run.specs.Reading.{ReadsNext}
use Rattle.io_edges.specs.Came.{Came, CameFirst}
use Rattle.grist_run.specs.Run.{Serves}
use Rattle.grist_run.specs.UserLines.{Saying, passes, adds, fails, ends, saying, script, bad_user, script_of}
use Rattle.io_edges.proofs.Coming.{came_none, came_part, came_line, came_last, came_end, came_fault, came_spent}
use Rattle.grist_run.proofs.Kept.{kept_saying}
use Rattle.grist_run.proofs.Said.{said_nothing, said_user, said_bad, said_request}

-- nothing was heard yet
pub heard_none : (left : Option (List ℕ)) (reader : LineState) → reader.ahead ≡ [] → reader.turns ≡ 0 → HeardSoFar left left [] reader 1
heard_none left reader ahead turns = record {
  lines = [];
  came = subst (λ (a : List ℕ). Came left left [] a reader.turns) (sym ahead) (subst (λ (t : ℕ). Came left left [] [] t) (sym turns) (came_none left));
  said = refl;
  numbered = refl;
}

-- the lines so far said users alone, and the run stops
short : {l n : Option (List ℕ)} (lines : List (List ℕ)) (users : List User) → CameFirst l n lines → script_of lines ≡ script users [] → EndsHearing NoMemory l n
short lines users came said = (users, record { lines = lines; requests = []; more = []; came = came; said = said; entries = refl; written = refl })

module _ (l m n : Option (List ℕ)) (users : List User) (old new : LineState) (number : ℕ) (h : HeardSoFar l m users old number) where
  serves : Serves h.lines users []
  serves = record { requests = []; said = h.said; took = refl }

  -- no line was read
  pub heard_stops : (status : Status) → ReadsNext (Err status) old new m n → EndsHearing status l n
  heard_stops ReadFault r = (users, (new.turns, record { lines = h.lines; rest = r.text; came = came_fault l m n h.lines old new h.came r; one_line = r.one_line; serves = serves; written = refl }))
  heard_stops TurnsSpent r = (
    users,
    record {
      lines = h.lines;
      rest = r.0.text;
      came = subst (λ (t : ℕ). Came l n h.lines r.0.text t) r.1 (came_spent l m n h.lines old new h.came r.0);
      one_line = r.0.one_line;
      serves = serves;
      written = refl;
    },
  )
  heard_stops NoMemory r = short h.lines users (inl (_, _, came_part l m n h.lines old new h.came r)) h.said
  heard_stops Done r = absurd r
  heard_stops Usage r = absurd r
  heard_stops (BadUsers k) r = absurd r
  heard_stops WriteFault r = absurd r
  heard_stops StoreFault r = absurd r
  heard_stops (BadStore k) r = absurd r
  heard_stops PortFault r = absurd r
  heard_stops HistoryFull r = absurd r

  -- the end of the input was read
  pub heard_end : Reads (Ok End) old new m n → IsAtEndOf l n users []
  heard_end r = record { lines = h.lines; came = came_end l m n h.lines old new h.came r; said = h.said }

  -- what was heard of a line as far as it is kept is what the line says
  said_kept : (text line : List ℕ) (s : Saying) → line ≡ kept_of text → saying users line ≡ s → saying users text ≡ s
  said_kept text line s kept says = sym (kept_saying text users) ∙ ap (saying users) (sym kept) ∙ says

  said_users : (text line : List ℕ) (users' : List User) → line ≡ kept_of text → IsHeard heard.Users (saying users line) users users' → script_of (h.lines ++ text ∷ []) ≡ script users' []
  said_users text line users' kept is = ⊎_elim
      (λ p. said_nothing users h.lines text h.said (said_kept text line passes kept p.0) ∙ ap (λ v. script v []) (sym p.1))
      (λ p. said_user users h.lines text h.said p.0 (said_kept text line (adds p.0) kept p.1) ∙ ap (λ v. script v []) (sym p.2))
      is

  module _ (line : List ℕ) (users' : List User) where
    -- a whole line was read
    module _ (r : Reads (Ok Line) old new m n) (is : line ≡ new.line) where
      kept_line : line ≡ kept_of r.text
      kept_line = is ∙ r.answer

      pub heard_users : IsHeard heard.Users (saying users line) users users' → HeardSoFar l n users' new (number + 1)
      heard_users says = record {
        lines = h.lines ++ r.text ∷ [];
        came = came_line l m n h.lines old new h.came r;
        said = said_users r.text line users' kept_line says;
        numbered = omega (arith, h.numbered, length-append h.lines (r.text ∷ []));
      }

      pub heard_bad : IsHeard heard.BadUser (saying users line) users users' → EndsHearing (BadUsers number) l n
      heard_bad says = (
        users,
        record {
          lines = h.lines ++ r.text ∷ [];
          came = inl (_, _, came_line l m n h.lines old new h.came r);
          bad = said_bad users h.lines r.text h.said (said_kept r.text line fails kept_line says) ∙ ap bad_user (sym h.numbered);
          none = refl;
          written = refl;
        },
      )

      pub heard_request : IsHeard heard.Request (saying users line) users users' → IsAtLine l n users' [] new
      heard_request says = record {
        lines = h.lines;
        text = r.text;
        kept = r.answer;
        came = came_line l m n h.lines old new h.came r;
        said = said_request users h.lines r.text h.said (said_kept r.text line ends kept_line says.0) ∙ ap (λ v. script v (r.text ∷ [])) (sym says.1);
      }

      pub heard_request_at : IsHeard heard.Request (saying users line) users users' → EndsUsers l n users' number
      unfolding heard_request
      heard_request_at says = record {
        lines = h.lines ++ r.text ∷ [];
        text = r.text;
        came = inl (_, _, came_line l m n h.lines old new h.came r);
        said = (heard_request says).said;
        count = omega (arith, h.numbered, length-append h.lines (r.text ∷ []));
      }

      pub heard_nothing_of_line : EndsHearing NoMemory l n
      heard_nothing_of_line = short h.lines users (inl (_, _, came_part l m n h.lines old new h.came r)) h.said

    -- a last line was read
    module _ (r : Reads (Ok Last) old new m n) (is : line ≡ new.line) where
      kept_last : line ≡ kept_of r.text
      kept_last = is ∙ r.answer.1

      pub heard_last_users : IsHeard heard.Users (saying users line) users users' → IsAtEndOf l n users' []
      heard_last_users says = record { lines = h.lines ++ r.text ∷ []; came = came_last l m n h.lines old new h.came r; said = said_users r.text line users' kept_last says }

      pub heard_last_bad : IsHeard heard.BadUser (saying users line) users users' → EndsHearing (BadUsers number) l n
      heard_last_bad says = (
        users,
        record {
          lines = h.lines ++ r.text ∷ [];
          came = inr (came_last l m n h.lines old new h.came r);
          bad = said_bad users h.lines r.text h.said (said_kept r.text line fails kept_last says) ∙ ap bad_user (sym h.numbered);
          none = refl;
          written = refl;
        },
      )

      pub heard_last_request : IsHeard heard.Request (saying users line) users users' → IsAtLast l n users' [] new
      heard_last_request says = record {
        lines = h.lines;
        text = r.text;
        kept = r.answer.1;
        came = came_last l m n h.lines old new h.came r;
        said = said_request users h.lines r.text h.said (said_kept r.text line ends kept_last says.0) ∙ ap (λ v. script v (r.text ∷ [])) (sym says.1);
      }

      pub heard_last_request_at : IsHeard heard.Request (saying users line) users users' → EndsUsers l n users' number
      unfolding heard_last_request
      heard_last_request_at says = record {
        lines = h.lines ++ r.text ∷ [];
        text = r.text;
        came = inr (came_last l m n h.lines old new h.came r);
        said = (heard_last_request says).said;
        count = omega (arith, h.numbered, length-append h.lines (r.text ∷ []));
      }

      pub heard_nothing_of_last : EndsHearing NoMemory l n
      heard_nothing_of_last = short h.lines users (inl (_, _, came_part l m n h.lines old new h.came r)) h.said
