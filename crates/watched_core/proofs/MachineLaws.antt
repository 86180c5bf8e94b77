-- What a step of a core says of the histories before and after it.
use Rattle.std.proofs.Common.{◌≡◌, ℕ, ◌+◌, Bool, true, false, not, ◌&&◌, ◌||◌, length, sum_by, nat_le, nat_lt, List, [], ◌∷◌, ◌++◌, Option, Result, Ok, Err, OnErr, inl, inr, refl, sym, ap, subst, ◌∙◌, if◌then◌else◌}
use Rattle.std.proofs.lemmas.Bool.{false≢true}
use Rattle.session_gate.specs.History.{AddsOneOrNone}
use Rattle.doc_model.specs.declared.entry.Entry.{Entry}
use Rattle.doc_model.specs.declared.user.User.{User}
use Rattle.doc_model.specs.Document.{Document}
use Rattle.bundle_core.specs.declared.history_core.Answer.{Answer}
use Rattle.bundle_core.specs.declared.history_core.Answer.TheVariants as answer
use Rattle.bundle_core.specs.declared.machine.CoreOpening.{CoreOpening}
use Rattle.bundle_core.specs.declared.machine.Event.{Event}
use Rattle.bundle_core.specs.Core.{CoreState, entry_bound, has_no_effect, is_gone, is_open_in, size_bound, size_of, with_entry}
use Rattle.bundle_core.specs.KeptCore.{IsTaken, IsUnchanged, KeptCore}
use Rattle.bundle_core.specs.Machine.{GivesLines, HasNoRoom, core_at, event_entry, opening_of, state_at, with_event}
use Rattle.bundle_core.specs.Steps.{IsAnswer, IsRefused}
use Rattle.bundle_core.proofs.GoneLaws.{given-gone, gone_only}

-- ---- a step

with_entry-history : (c : CoreState) (e : Entry) → (with_entry c e).history ≡ (if has_no_effect c e then c.history else c.history ++ e ∷ [])
with_entry-history c e =
    elim (has_no_effect c e) as (λ b. (let n : CoreState = if b then c else record { users = c.users; start = c.start; history = c.history ++ e ∷ [] } in n.history) ≡ (if b then c.history else c.history ++ e ∷ [])) [
      | true ↦ refl
      | false ↦ refl
    ]

-- users and the opening document stay
with_entry-rest : (c : CoreState) (e : Entry) → with_entry c e ≡ (let n : CoreState = record { users = c.users; start = c.start; history = (with_entry c e).history } in n)
with_entry-rest c e =
    elim (has_no_effect c e) as (λ b. (let n : CoreState = if b then c else record { users = c.users; start = c.start; history = c.history ++ e ∷ [] } in n ≡ (let m : CoreState = record { users = c.users; start = c.start; history = n.history } in m))) [
      | true ↦ refl
      | false ↦ refl
    ]

abbrev pub made : List User → Document → Option (List (List ℕ)) → ℕ → CoreOpening
made users start records faults = record { users = users; document = start; records = records; faults = faults }

module _ (old new : KeptCore) (e : Event) (lines : List (List ℕ)) (t : IsTaken old new e.session e.request e.size lines) where
  abbrev o : CoreOpening
  o = opening_of old

  abbrev entry : Entry
  entry = event_entry e t.kept

  pub taken_history : new.state.history ≡ with_event o old.state.history entry
  taken_history = ap (λ (c : CoreState). c.history) t.taken.added ∙ with_entry-history old.state entry

  -- what it was opened with stays
  pub taken_state : new.state ≡ core_at o new.state.history
  taken_state =
      let P : CoreState → Type 0 = λ n. n ≡ core_at o n.history in
      subst P (sym t.taken.added) (with_entry-rest old.state entry)

  pub taken_opening : opening_of new ≡ o
  taken_opening =
      let P : CoreState → Type 0 = λ n. made n.users n.start new.kept.opening new.kept.before ≡ o in
      subst P (sym taken_state) (ap (λ r. made o.users o.document r new.kept.before) t.keeps.opening ∙ ap (made o.users o.document old.kept.opening) t.keeps.before)

  pub taken_grows : AddsOneOrNone old.state.history new.state.history
  taken_grows =
      let P : List Entry → Type 0 = λ es. AddsOneOrNone old.state.history es in
      subst P (sym taken_history) (elim (has_no_effect old.state entry) as (λ b. AddsOneOrNone old.state.history (if b then old.state.history else old.state.history ++ entry ∷ [])) [
        | true ↦ inl refl
        | false ↦ inr (entry, refl)
      ])

  pub gives_lines : (closes : Bool) → closes ≡ is_open_in old.state e.session && not (is_open_in new.state e.session) → GivesLines o old.state.history new.state.history e lines closes
  gives_lines closes is = record {
    kept = t.kept;
    has_room = t.taken.has_room;
    lines_given = t.taken.lines_given;
    added = taken_history;
    would = t.keeps.would;
    quiet = λ gone. t.taken.lines_given ∙ given-gone old.state.users (state_at o old.state.history) entry (gone_only e.request gone);
    closing = is ∙ ap (λ c. is_open_in old.state e.session && not (is_open_in c e.session)) taken_state;
  }

-- ---- a history without room

stays_full : (gone other : Bool) → (not gone && other) ≡ true → gone ≡ false
stays_full true other h = absurd (false≢true h)
stays_full false other h = refl

module _ (old new : KeptCore) (e : Event) where
  refused_full : (a : Answer) → ((lines : List (List ℕ)) → a ≡ answer.Lines lines → ⊥) → IsAnswer old new e.session e.request e.size a → IsRefused old new e.request e.size
  refused_full (answer.Lines lines) isnt h = absurd (isnt lines refl)
  refused_full answer.Full isnt h = h

  pub full_opening : (a : Answer) → ((lines : List (List ℕ)) → a ≡ answer.Lines lines → ⊥) → IsAnswer old new e.session e.request e.size a → opening_of new ≡ opening_of old
  full_opening a isnt h = ap (λ c. opening_of c) (refused_full a isnt h).same

  pub full_grows : (a : Answer) → ((lines : List (List ℕ)) → a ≡ answer.Lines lines → ⊥) → IsAnswer old new e.session e.request e.size a → AddsOneOrNone old.state.history new.state.history
  full_grows a isnt h = inl (ap (λ (c : KeptCore). c.state.history) (refused_full a isnt h).same)

  pub full_given : (a : Answer) → ((lines : List (List ℕ)) → a ≡ answer.Lines lines → ⊥) → IsAnswer old new e.session e.request e.size a → HasNoRoom old.state.history new.state.history e
  full_given a isnt h =
      let r = refused_full a isnt h in
      record {
        full = r.full;
        stays = stays_full (is_gone e.request) (nat_le entry_bound (length old.state.history) || nat_lt size_bound (sum_by size_of old.state.history + e.size)) r.full;
        same = ap (λ (c : KeptCore). c.state.history) r.same;
      }

-- ---- a step without memory

pub err_any : {A E P : Type 0} (r : Result A E) → P → OnErr r P
err_any (Ok a) p = tt
err_any (Err e) p = p

module _ (old new : KeptCore) (u : IsUnchanged old new) where
  pub unchanged_opening : opening_of new ≡ opening_of old
  unchanged_opening =
      ap (λ (s : CoreState). made s.users s.start new.kept.opening new.kept.before) u.state
      ∙ ap (λ r. made old.state.users old.state.start r new.kept.before) u.opening
      ∙ ap (made old.state.users old.state.start old.kept.opening) u.before

  pub unchanged_history : new.state.history ≡ old.state.history
  unchanged_history = ap (λ (s : CoreState). s.history) u.state

  pub unchanged_grows : AddsOneOrNone old.state.history new.state.history
  unchanged_grows = inl unchanged_history
