-- The turns of a pass, over histories: they stay in every longer one.
use Rattle.std.proofs.Common.{◌≡◌, ℕ, ◌==◌, Bool, true, false, List, [], ◌∷◌, ◌++◌, map, refl, ap, sym, ◌∙◌, arith, Some, None, Option, if◌then◌else◌, append_assoc, append-nil, inl, inr}
use Rattle.std.proofs.lemmas.Bool.Decides.{nat_tests}
use Rattle.std.proofs.lemmas.List.{map-append}
use Rattle.doc_model.specs.declared.entry.Entry.{Entry}
use Rattle.doc_model.specs.declared.user.User.{User}
use Rattle.bundle_core.specs.State.{State, opening}
use Rattle.bundle_core.specs.Told.{with_newlines}
use Rattle.bundle_core.specs.declared.machine.CoreOpening.{CoreOpening}
use Rattle.session_gate.specs.declared.known.Made.{Made}
use Rattle.session_gate.specs.Call.{IsSamePass, SeesMore, own_calls}
use Rattle.session_gate.specs.History.{calls_by, entries_of, is_by, made_by}
use Rattle.grist_serve.specs.Turns.{Adds, ClosesLast, CorePass, MayCloseLast, OwnTurn, StayOpen, bytes_of, entry_in, turn_at, turns_by, turns_in, turns_of, state_next}
use Rattle.grist_serve.proofs.States.{after, after_at}

module _ (users : List User) (n : ℕ) where
  -- the turns in two histories, one behind the other
  pub turns-append : (st : State) (xs ys : List (Made Entry)) → turns_by users st n (xs ++ ys) ≡ turns_by users st n xs ++ turns_by users (after users st (entries_of xs)) n ys
  turns-append st [] ys = refl
  turns-append st (x ∷ xs) ys =
      let mine : List OwnTurn = if is_by n x.by then turn_at users st x.entry ∷ [] else [] in
      ap (λ ts. mine ++ ts) (turns-append (state_next users st x.entry) xs ys)
      ∙ sym (append_assoc mine (turns_by users (state_next users st x.entry) n xs) (turns_by users (after users st (entries_of (x ∷ xs))) n ys))

  none_if : (b : Bool) (x : Entry) (xs : List Entry) (ts : List OwnTurn) → (if b then x ∷ xs else xs) ≡ [] → ((if b then ts else []) ≡ []) × (xs ≡ [])
  none_if true x xs ts e = absurd (cc)
  none_if false x xs ts e = (refl, e)

  -- a pass has no turns where it has no calls
  pub turns-none : (st : State) (xs : List (Made Entry)) → calls_by n xs ≡ [] → turns_by users st n xs ≡ []
  turns-none st [] e = refl
  turns-none st (x ∷ xs) e =
      let t = none_if (is_by n x.by) x.entry (calls_by n xs) (turn_at users st x.entry ∷ []) e in
      ap (λ ts. ts ++ turns_by users (state_next users st x.entry) n xs) t.0 ∙ turns-none (state_next users st x.entry) xs t.1

  own_if : (b : Bool) (ts : List OwnTurn) → b ≡ true → (if b then ts else []) ++ [] ≡ ts
  own_if true ts e = append-nil ts
  own_if false ts e = absurd (cc)

  pub turns-own : (st : State) (e : Entry) → turns_by users st n (made_by n e ∷ []) ≡ turn_at users st e ∷ []
  turns-own st e = own_if (n == n) (turn_at users st e ∷ []) (grind (arith, nat_tests))

module _ (o : CoreOpening) (n : ℕ) where
  -- what others do in between is no turn of the pass
  pub turns_apart : (seen between : List (Made Entry)) → calls_by n between ≡ [] → turns_in (Some o) n (seen ++ between) ≡ turns_in (Some o) n seen
  turns_apart seen between none =
      turns-append o.users n (opening o.document) seen between
      ∙ (ap (λ ts. turns_in (Some o) n seen ++ ts) (turns-none o.users n (after_at o (entries_of seen)) between none) ∙ append-nil (turns_in (Some o) n seen))

  -- and its own entry is a turn in the state that the history before it leads to
  pub turns_call : (seen between : List (Made Entry)) (e : Entry) → calls_by n between ≡ [] → turns_in (Some o) n ((seen ++ between) ++ made_by n e ∷ []) ≡ turns_in (Some o) n seen ++ turn_at o.users (after_at o (entries_of (seen ++ between))) e ∷ []
  turns_call seen between e none =
      turns-append o.users n (opening o.document) (seen ++ between) (made_by n e ∷ [])
      ∙ ap (λ ts. turns_in (Some o) n (seen ++ between) ++ ts) (turns-own o.users n (after_at o (entries_of (seen ++ between))) e)
      ∙ ap (λ ts. ts ++ turn_at o.users (after_at o (entries_of (seen ++ between))) e ∷ []) (turns_apart seen between none)

-- the turns of a pass with that opening and number
pub turns_are : (p : CorePass) (o : Option CoreOpening) (n : ℕ) (seen : List (Made Entry)) → p.opening ≡ o → p.number ≡ n → p.seen ≡ seen → turns_of p ≡ turns_in o n seen
turns_are p o n seen a b c = ap (λ z. turns_in z p.number p.seen) a ∙ ap (λ z. turns_in o z p.seen) b ∙ ap (turns_in o n) c

pub adds_none : (old : CorePass) → Adds old old []
adds_none old = record {
  same = record { gate = refl; number = refl; opening = refl };
  seen = ([], append-nil old.seen);
  calls = sym (append-nil (own_calls old));
  turns_are = sym (append-nil (turns_of old));
}

apart_in : (o : Option CoreOpening) (n : ℕ) (seen between : List (Made Entry)) → calls_by n between ≡ [] → turns_in o n (seen ++ between) ≡ turns_in o n seen
apart_in None n seen between none = refl
apart_in (Some o) n seen between none = turns_apart o n seen between none

-- a pass that saw more took no turn
pub adds_nothing : (old new : CorePass) → IsSamePass old new → SeesMore old new → Adds old new []
adds_nothing old new same more = record {
  same = same;
  seen = (more.between, sym more.seen);
  calls = more.own ∙ sym (append-nil (own_calls old));
  turns_are =
      turns_are new old.opening old.number (old.seen ++ more.between) same.opening same.number more.seen
      ∙ apart_in old.opening old.number old.seen more.between more.apart
      ∙ sym (append-nil (turns_of old));
}

-- one thing after the other
pub adds_both : (old mid new : CorePass) (ts us : List OwnTurn) → Adds old mid ts → Adds mid new us → Adds old new (ts ++ us)
adds_both old mid new ts us a b = record {
  same = record { gate = b.same.gate ∙ a.same.gate; number = b.same.number ∙ a.same.number; opening = b.same.opening ∙ a.same.opening };
  seen = (a.seen.0 ++ b.seen.0, sym (append_assoc old.seen a.seen.0 b.seen.0) ∙ ap (λ z. z ++ b.seen.0) a.seen.1 ∙ b.seen.1);
  calls = b.calls ∙ ap (λ z. z ++ map entry_in us) a.calls ∙ append_assoc (own_calls old) (map entry_in ts) (map entry_in us) ∙ ap (λ z. own_calls old ++ z) (sym (map-append entry_in ts us));
  turns_are = b.turns_are ∙ ap (λ z. z ++ us) a.turns_are ∙ append_assoc (turns_of old) ts us;
}

-- ---- what turns gave and closed

pub bytes-append : (ts us : List OwnTurn) → bytes_of (ts ++ us) ≡ bytes_of ts ++ bytes_of us
bytes-append [] us = refl
bytes-append (t ∷ ts) us = ap (λ z. with_newlines t.lines ++ z) (bytes-append ts us) ∙ sym (append_assoc (with_newlines t.lines) (bytes_of ts) (bytes_of us))

pub open_both : (ts us : List OwnTurn) → StayOpen ts → StayOpen us → StayOpen (ts ++ us)
open_both [] us a b = b
open_both (t ∷ ts) us a b = (a.0, open_both ts us a.1 b)

pub closes_both : (ts us : List OwnTurn) → StayOpen ts → ClosesLast us → ClosesLast (ts ++ us)
closes_both ts us a c = record {
  before = ts ++ c.before;
  last = c.last;
  split = ap (λ z. ts ++ z) c.split ∙ sym (append_assoc ts c.before (c.last ∷ []));
  open_before = open_both ts c.before a c.open_before;
  closes = c.closes;
}

pub may_both : (ts us : List OwnTurn) → StayOpen ts → MayCloseLast us → MayCloseLast (ts ++ us)
may_both ts us a (inl b) = inl (open_both ts us a b)
may_both ts us a (inr c) = inr (closes_both ts us a c)

-- one turn closes or does not
pub one_closes : (t : OwnTurn) → t.closes ≡ true → ClosesLast (t ∷ [])
one_closes t e = record { before = []; last = t; split = refl; open_before = tt; closes = e }

one_by : (t : OwnTurn) (b : Bool) → t.closes ≡ b → MayCloseLast (t ∷ [])
one_by t true e = inr (one_closes t e)
one_by t false e = inl (e, tt)

pub one_may : (t : OwnTurn) → MayCloseLast (t ∷ [])
one_may t = one_by t t.closes refl
