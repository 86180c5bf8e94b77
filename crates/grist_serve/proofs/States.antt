-- What is kept shut in turns is what the core says of a state.
use Rattle.std.proofs.Common.{◌≡◌, ℕ, List, [], ◌∷◌, ◌++◌, refl, ap, ◌∙◌}
use Rattle.std.specs.Prelude.{is_some}
use Rattle.doc_model.specs.declared.entry.Entry.{Entry}
use Rattle.doc_model.specs.declared.user.User.{User}
use Rattle.bundle_core.specs.Machine.{is_open, state_at}
use Rattle.bundle_core.specs.State.{State, given, opening, run, session_of, step}
use Rattle.bundle_core.specs.declared.machine.CoreOpening.{CoreOpening}
use Rattle.grist_serve.specs.Turns.{is_open_at, lines_at, state_next}

pub lines_is : (users : List User) (st : State) (e : Entry) → lines_at users st e ≡ given users st e
unfolding lines_at
lines_is users st e = refl

pub next_is : (users : List User) (st : State) (e : Entry) → state_next users st e ≡ step users st e
unfolding state_next
next_is users st e = refl

open_is : (st : State) (name : List ℕ) → is_open_at st name ≡ is_some (session_of name st)
unfolding is_open_at
open_is st name = refl

-- the state after a history
abbrev pub after : List User → State → List Entry → State
after users st [] = st
after users st (e ∷ es) = after users (state_next users st e) es

after_is : (users : List User) (st : State) (es : List Entry) → after users st es ≡ run users st es
after_is users st [] = refl
after_is users st (e ∷ es) = ap (λ (s : State). after users s es) (next_is users st e) ∙ after_is users (step users st e) es

pub after-append : (users : List User) (st : State) (es : List Entry) (e : Entry) → after users st (es ++ e ∷ []) ≡ state_next users (after users st es) e
after-append users st [] e = refl
after-append users st (x ∷ es) e = after-append users (state_next users st x) es e

abbrev pub after_at : CoreOpening → List Entry → State
after_at o es = after o.users (opening o.document) es

pub at_is : (o : CoreOpening) (es : List Entry) → after_at o es ≡ state_at o es
at_is o es = after_is o.users (opening o.document) es

pub open_after : (o : CoreOpening) (es : List Entry) (name : List ℕ) → is_open_at (after_at o es) name ≡ is_open o es name
open_after o es name = ap (λ (s : State). is_open_at s name) (at_is o es) ∙ open_is (state_at o es) name
