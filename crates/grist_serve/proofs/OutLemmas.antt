-- What a pass was given in its part of the history is what its session is given in all of it.
use Rattle.std.proofs.Common.{◌≡◌, ℕ, Bool, true, false, List, [], ◌∷◌, ◌++◌, refl, ap, sym, ◌∙◌, if◌then◌else◌, append_assoc, append-nil, Some}
use Rattle.std.proofs.lemmas.List.{map-append}
use Rattle.std.specs.Str.{bytes_eq}
use Rattle.doc_model.specs.declared.entry.Entry.{Entry}
use Rattle.doc_model.specs.declared.user.User.{User}
use Rattle.bundle_core.specs.State.{State, opening, step}
use Rattle.bundle_core.specs.Told.{given_to, out, with_newlines}
use Rattle.session_gate.specs.declared.known.Made.{Made}
use Rattle.session_gate.specs.History.{entries_of, entry_of, is_by}
use Rattle.grist_serve.specs.Laws.{GivenLaw}
use Rattle.grist_serve.specs.Out.{AreOthers, AreOwn, IsPartOf}
use Rattle.grist_serve.specs.Turns.{OwnTurn, bytes_of, turn_at, turns_by, turns_in, turns_of, lines_at, state_next}
use Rattle.grist_serve.proofs.States.{after, after_at, lines_is, next_is}
use Rattle.grist_serve.proofs.TurnLemmas.{turns-append, turns_are}

module _ (users : List User) (name : List ℕ) where
  -- what a session is given, over what is kept shut
  abbrev out_shut : State → List Entry → List ℕ
  out_shut st [] = []
  out_shut st (e ∷ es) = (if bytes_eq e.session name then with_newlines (lines_at users st e) else []) ++ out_shut (state_next users st e) es

  out_is : (st : State) (es : List Entry) → out_shut st es ≡ out users st name es
  out_is st [] = refl
  out_is st (e ∷ es) =
      ap (λ (ls : List (List ℕ)). (if bytes_eq e.session name then with_newlines ls else []) ++ out_shut (state_next users st e) es) (lines_is users st e)
      ∙ ap (λ (s : State). given_to users st name e ++ out_shut s es) (next_is users st e)
      ∙ ap (λ (bs : List ℕ). given_to users st name e ++ bs) (out_is (step users st e) es)

  out-append : (st : State) (xs ys : List Entry) → out_shut st (xs ++ ys) ≡ out_shut st xs ++ out_shut (after users st xs) ys
  out-append st [] ys = refl
  out-append st (x ∷ xs) ys =
      let mine : List ℕ = (if bytes_eq x.session name then with_newlines (lines_at users st x) else []) in
      ap (λ bs. mine ++ bs) (out-append (state_next users st x) xs ys)
      ∙ sym (append_assoc mine (out_shut (state_next users st x) xs) (out_shut (after users st (x ∷ xs)) ys))

  -- the bytes of one turn, or of none
  bytes_by : (b : Bool) (t : OwnTurn) (ts : List OwnTurn) → bytes_of ((if b then t ∷ [] else []) ++ ts) ≡ (if b then with_newlines t.lines else []) ++ bytes_of ts
  bytes_by true t ts = refl
  bytes_by false t ts = refl

  out-own : (n : ℕ) (st : State) (xs : List (Made Entry)) → AreOwn n name xs → out_shut st (entries_of xs) ≡ bytes_of (turns_by users st n xs)
  out-own n st [] a = refl
  out-own n st (x ∷ xs) a =
      ap (λ (b : Bool). (if b then with_newlines (lines_at users st x.entry) else []) ++ out_shut (state_next users st x.entry) (entries_of xs)) a.0
      ∙ ap (λ bs. (if is_by n x.by then with_newlines (lines_at users st x.entry) else []) ++ bs) (out-own n (state_next users st x.entry) xs a.1)
      ∙ sym (bytes_by (is_by n x.by) (turn_at users st x.entry) (turns_by users (state_next users st x.entry) n xs))

  out-others : (st : State) (xs : List (Made Entry)) → AreOthers name xs → out_shut st (entries_of xs) ≡ []
  out-others st [] a = refl
  out-others st (x ∷ xs) a =
      ap (λ (b : Bool). (if b then with_newlines (lines_at users st x.entry) else []) ++ out_shut (state_next users st x.entry) (entries_of xs)) a.0
      ∙ out-others (state_next users st x.entry) xs a.1

  -- all that a session is given is what the pass was given in that part
  out-part : (st : State) (n : ℕ) (before more all : List (Made Entry)) → IsPartOf name n before more all → out_shut st (entries_of all) ≡ bytes_of (turns_by users (after users st (entries_of before)) n more)
  out-part st n before more all p =
      let first = entries_of before in
      let second = entries_of more in
      let third = entries_of p.after in
      ap (λ z. out_shut st (entries_of z)) p.whole
      ∙ ap (out_shut st) (map-append entry_of (before ++ more) p.after ∙ ap (λ z. z ++ third) (map-append entry_of before more))
      ∙ out-append st (first ++ second) third
      ∙ ap (λ bs. out_shut st (first ++ second) ++ bs) (out-others (after users st (first ++ second)) p.after p.none_after)
      ∙ append-nil (out_shut st (first ++ second))
      ∙ out-append st first second
      ∙ ap (λ bs. bs ++ out_shut (after users st first) second) (out-others st before p.none_before)
      ∙ out-own n (after users st first) more p.own

front_same : {A : Type 0} (xs ys zs : List A) → xs ++ ys ≡ xs ++ zs → ys ≡ zs
front_same [] ys zs e = e
front_same (x ∷ xs) ys zs e = front_same xs ys zs (cc)

pub given-law : GivenLaw
given-law name o old new turns more all a is seen part =
    let n = old.number in
    let before = turns_in (Some o) n old.seen in
    let own : List OwnTurn = turns_by o.users (after_at o (entries_of old.seen)) n more in
    let now : turns_of new ≡ before ++ own =
    turns_are new (Some o) n (old.seen ++ more) (a.same.opening ∙ is) a.same.number seen
    ∙ turns-append o.users n (opening o.document) old.seen more in
    let was : turns_of old ≡ before = turns_are old (Some o) n old.seen is refl refl in
    ap bytes_of (front_same before turns own (ap (λ ts. ts ++ turns) (sym was) ∙ sym a.turns_are ∙ now))
    ∙ sym (out-part o.users name (opening o.document) n old.seen more all part)
    ∙ out_is o.users name (opening o.document) (entries_of all)
