-- What the gate tells of a call, as turns of its pass.
use Rattle.std.proofs.Common.{◌≡◌, ℕ, Bool, true, false, not, ◌&&◌, List, [], ◌∷◌, ◌++◌, length, map, Option, Some, Ok, refl, sym, ap, ◌∙◌, subst, append_assoc, append-nil, arith, ⊎_elim, if◌then◌else◌}
use Rattle.std.proofs.lemmas.List.{length-append, map-append}
use Rattle.std.specs.Io.KnownBytes.{Appends}
use Rattle.io_edges.proofs.SendingLemmas.{appends_none}
use Rattle.io_edges.specs.Sending.{SendsFront}
use Rattle.doc_model.specs.declared.entry.Entry.{Entry}
use Rattle.doc_model.specs.declared.request.Request.TheVariants as request
use Rattle.bundle_core.specs.Core.{is_full, is_gone}
use Rattle.bundle_core.specs.Machine.{IsGiven, event_entry, is_open, state_at}
use Rattle.bundle_core.specs.State.{State, given, opening}
use Rattle.bundle_core.specs.Told.{with_newlines}
use Rattle.bundle_core.specs.declared.machine.CoreOpening.{CoreOpening}
use Rattle.bundle_core.specs.declared.machine.Event.{Event}
use Rattle.bundle_core.specs.declared.machine.Given.{Given}
use Rattle.bundle_core.specs.declared.machine.Given.TheVariants as out
use Rattle.session_gate.specs.declared.known.Made.{Made}
use Rattle.session_gate.specs.Call.{EndsWithCall, IsCall, IsSamePass, SeesMore, own_calls}
use Rattle.session_gate.specs.History.{calls_by, entries_of, entry_of, made_by}
use Rattle.grist_serve.specs.Answering.{AnswersFront, AnswersLine, AnswersOpen, FindsFull}
use Rattle.grist_serve.specs.Link.{TellsGone, gone_entries}
use Rattle.grist_serve.specs.Turns.{Adds, CorePass, OwnTurn, asked_in, bytes_of, entry_in, turn_at, is_open_at, lines_at, state_next}
use Rattle.grist_serve.proofs.States.{after-append, after_at, at_is, lines_is, open_after}
use Rattle.grist_serve.proofs.TurnLemmas.{adds_none, adds_nothing, one_closes, one_may, turns_are, turns_call}

-- what the gate tells of one call
abbrev pub Called : CorePass → CorePass → Event → Given → Type 0
Called old new event out = IsCall (λ o before after e out. IsGiven o before after e out) old new event out

-- the lists agree in their last items
last_same : {A : Type 0} (xs : List A) (x y : A) → xs ++ x ∷ [] ≡ xs ++ y ∷ [] → x ≡ y
last_same [] x y e = cc
last_same (z ∷ zs) x y e = last_same zs x y (cc)

not_longer : {A : Type 0} (xs : List A) (x : A) → xs ≡ xs ++ x ∷ [] → ⊥
not_longer xs x e = let n = ap length e in let m = length-append xs (x ∷ []) in omega (arith, n, m)

module _ (o : CoreOpening) (history : List Entry) (e : Entry) where
  -- the lines of a turn are those that the core says
  lines_found : lines_at o.users (after_at o history) e ≡ given o.users (state_at o history) e
  lines_found = lines_is o.users (after_at o history) e ∙ ap (λ (s : State). given o.users s e) (at_is o history)

  -- and so is what it closed
  closes_found : (turn_at o.users (after_at o history) e).closes ≡ (is_open o history e.session && not (is_open o (history ++ e ∷ []) e.session))
  closes_found =
      ap (λ (b : Bool). b && not (is_open_at (state_next o.users (after_at o history) e) e.session)) (open_after o history e.session)
      ∙ ap (λ (s : State). is_open o history e.session && not (is_open_at s e.session)) (sym (after-append o.users (opening o.document) history e))
      ∙ ap (λ (b : Bool). is_open o history e.session && not b) (open_after o (history ++ e ∷ []) e.session)

module _ (old new : CorePass) (same : IsSamePass old new) (o : CoreOpening) (is : old.opening ≡ Some o) (between : List (Made Entry)) (apart : calls_by old.number between ≡ []) where
  -- the history in which the call found the core
  abbrev found : List Entry
  found = entries_of (old.seen ++ between)

  abbrev turn : Entry → OwnTurn
  turn e = turn_at o.users (after_at o found) e

  -- the step added this entry
  pub call_one : (e : Entry) → EndsWithCall old between new → entries_of new.seen ≡ found ++ e ∷ [] → (new.seen ≡ (old.seen ++ between) ++ made_by old.number e ∷ []) × Adds old new (turn e ∷ [])
  call_one e ends added = ⊎_elim
      (λ (t : (new.seen ≡ old.seen ++ between) × (own_calls new ≡ own_calls old)). absurd (not_longer found e (sym (ap entries_of t.0) ∙ added)))
      (λ (t : (x : Entry) × (new.seen ≡ (old.seen ++ between) ++ made_by old.number x ∷ []) × (own_calls new ≡ own_calls old ++ x ∷ [])).
      let x_is : t.0 ≡ e = last_same found t.0 e (sym (map-append entry_of (old.seen ++ between) (made_by old.number t.0 ∷ [])) ∙ sym (ap entries_of t.1) ∙ added) in
      let seen_is : new.seen ≡ (old.seen ++ between) ++ made_by old.number e ∷ [] = t.1 ∙ ap (λ y. (old.seen ++ between) ++ made_by old.number y ∷ []) x_is in (
        seen_is,
        record {
          same = same;
          seen = (between ++ made_by old.number e ∷ [], sym (append_assoc old.seen between (made_by old.number e ∷ [])) ∙ sym seen_is);
          calls = t.2 ∙ ap (λ y. own_calls old ++ y ∷ []) x_is;
          turns_are =
              turns_are new (Some o) old.number ((old.seen ++ between) ++ made_by old.number e ∷ []) (same.opening ∙ is) same.number seen_is
              ∙ turns_call o old.number old.seen between e apart
              ∙ ap (λ ts. ts ++ turn e ∷ []) (sym (turns_are old (Some o) old.number old.seen is refl refl));
        },
      ))
      ends

  -- the step added nothing
  pub call_none : EndsWithCall old between new → entries_of new.seen ≡ found → (new.seen ≡ old.seen ++ between) × Adds old new []
  call_none ends added = ⊎_elim
      (λ (t : (new.seen ≡ old.seen ++ between) × (own_calls new ≡ own_calls old)).
      (t.0, adds_nothing old new same record { between = between; apart = apart; seen = t.0; own = t.1 }))
      (λ (t : (x : Entry) × (new.seen ≡ (old.seen ++ between) ++ made_by old.number x ∷ []) × (own_calls new ≡ own_calls old ++ x ∷ [])).
      absurd (not_longer found t.0 (sym added ∙ ap entries_of t.1 ∙ map-append entry_of (old.seen ++ between) (made_by old.number t.0 ∷ []))))
      ends

-- nothing was asked
pub answers_nothing : (p : CorePass) (w : Option (List ℕ)) → AnswersOpen p p [] w w
answers_nothing p w = record { turns = []; adds = adds_none p; requests = refl; closed = tt; written = appends_none w }

-- the pass saw more, for want of memory
pub answers_seen : (old new : CorePass) (w : Option (List ℕ)) → IsSamePass old new → SeesMore old new → AnswersOpen old new [] w w
answers_seen old new w same more = record { turns = []; adds = adds_nothing old new same more; requests = refl; closed = tt; written = appends_none w }

module _ (old new : CorePass) (same : IsSamePass old new) (event : Event) where
  -- the history is full for the event
  pub finds_full : (w : Option (List ℕ)) → Called old new event out.Full → FindsFull old new (event_entry event true ∷ []) w w
  finds_full w c =
      let n = call_none old new same c.opening c.opening_is c.between c.apart c.ends c.answer.same in
      record {
        request = event_entry event true;
        asks = refl;
        full = ap (λ es. is_full es event.request event.size) c.answer.same ∙ c.answer.full;
        answers = record { turns = []; adds = n.1; requests = refl; closed = tt; written = appends_none w };
      }

  module _ (lines : List (List ℕ)) (closes : Bool) (stays : is_gone event.request ≡ false) (c : Called old new event (out.Lines lines closes)) where
    abbrev entry : Entry
    entry = event_entry event c.answer.kept

    abbrev history : List Entry
    history = entries_of (old.seen ++ c.between)

    abbrev own : OwnTurn
    own = turn_at c.opening.users (after_at c.opening history) entry

    longer : entries_of new.seen ≡ history ++ entry ∷ []
    longer = c.answer.added ∙ ap (λ (b : Bool). if b && not (is_open c.opening history event.session) then history else history ++ entry ∷ []) stays

    adds_own : Adds old new (own ∷ [])
    adds_own = (call_one old new same c.opening c.opening_is c.between c.apart entry c.ends longer).1

    bytes_own : bytes_of (own ∷ []) ≡ with_newlines lines
    bytes_own = append-nil (with_newlines own.lines) ∙ ap with_newlines (lines_found c.opening history entry ∙ sym c.answer.lines_given)

    closes_own : own.closes ≡ closes
    closes_own =
        closes_found c.opening history entry
        ∙ ap (λ (es : List Entry). is_open c.opening history event.session && not (is_open c.opening es event.session)) (sym longer)
        ∙ sym c.answer.closing

    module _ (w w' : Option (List ℕ)) where
      by_closing : (b : Bool) → own.closes ≡ b → Appends w w' (with_newlines lines) → AnswersLine (Ok b) old new (event_entry event true ∷ []) w w'
      by_closing true e sent = record { turns = own ∷ []; adds = adds_own; requests = refl; closed = one_closes own e; written = subst (Appends w w') (sym bytes_own) sent }
      by_closing false e sent = record { turns = own ∷ []; adds = adds_own; requests = refl; closed = (e, tt); written = subst (Appends w w') (sym bytes_own) sent }

      pub answers_lines : Appends w w' (with_newlines lines) → AnswersLine (Ok closes) old new (event_entry event true ∷ []) w w'
      answers_lines sent = by_closing closes closes_own sent

      pub answers_front : SendsFront (with_newlines lines) w w' → AnswersFront old new (event_entry event true ∷ []) w w'
      answers_front sent = record { turns = own ∷ []; adds = adds_own; requests = refl; closed = one_may own; written = subst (λ bs. SendsFront bs w w') (sym bytes_own) sent }

-- the end of a connection
module _ (name : List ℕ) (old new : CorePass) (same : IsSamePass old new) where
  abbrev gone : Event
  gone = record { session = name; request = request.Gone; size = 0 }

  module _ (lines : List (List ℕ)) (closes : Bool) (c : Called old new gone (out.Lines lines closes)) where
    abbrev entry_gone : Entry
    entry_gone = event_entry gone c.answer.kept

    abbrev before_gone : List Entry
    before_gone = entries_of (old.seen ++ c.between)

    -- the turns of the end
    record Told (asked : List Entry) : Type 0 where
      turns : List OwnTurn
      adds : Adds old new turns
      requests : map asked_in turns ≡ asked
      quiet : bytes_of turns ≡ []
      seen : new.seen ≡ (old.seen ++ c.between) ++ map (made_by old.number) (map entry_in turns)

    told_by : (b : Bool) → is_open c.opening before_gone name ≡ b → Told (if b then event_entry gone true ∷ [] else [])
    told_by true open_is =
        let added : entries_of new.seen ≡ before_gone ++ entry_gone ∷ [] =
        c.answer.added ∙ ap (λ (b : Bool). if not b then before_gone else before_gone ++ entry_gone ∷ []) open_is in
        let t = call_one old new same c.opening c.opening_is c.between c.apart entry_gone c.ends added in
        let own : OwnTurn = turn_at c.opening.users (after_at c.opening before_gone) entry_gone in
        record {
          turns = own ∷ [];
          adds = t.1;
          requests = refl;
          quiet = append-nil (with_newlines own.lines) ∙ ap with_newlines (lines_found c.opening before_gone entry_gone ∙ sym c.answer.lines_given ∙ c.answer.quiet refl);
          seen = t.0;
        }
    told_by false open_is =
        let added : entries_of new.seen ≡ before_gone =
        c.answer.added ∙ ap (λ (b : Bool). if not b then before_gone else before_gone ++ entry_gone ∷ []) open_is in
        let t = call_none old new same c.opening c.opening_is c.between c.apart c.ends added in
        record { turns = []; adds = t.1; requests = refl; quiet = refl; seen = t.0 ∙ sym (append-nil (old.seen ++ c.between)) }

    told : Told (gone_entries (Some c.opening) before_gone name)
    told = told_by (is_open c.opening before_gone name) refl

    tells_gone : TellsGone name old new
    tells_gone =
        let t = told in
        record {
          between = c.between;
          turns = t.turns;
          adds = t.adds;
          requests = t.requests ∙ ap (λ (o : Option CoreOpening). gone_entries o before_gone name) (sym c.opening_is);
          quiet = t.quiet;
          seen = t.seen;
        }

  pub call_gone : (given : Given) → Called old new gone given → TellsGone name old new
  call_gone (out.Lines lines closes) c = tells_gone lines closes c
  call_gone out.Full c = let e = c.answer.stays in absurd (cc)
