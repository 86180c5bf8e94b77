use Rattle.std.proofs.Common.{◌≡◌, false, not, ◌&&◌, List, ◌∷◌, [], ◌++◌, sum_by, is_some, ap, subst, sym, ◌∙◌, arith, if◌then◌else◌}
use Rattle.doc_model.specs.declared.entry.Entry.{Entry}
use Rattle.doc_model.specs.declared.user.User.{User}
use Rattle.doc_model.specs.Document.{Document}
use Rattle.bundle_core.specs.Core.{CoreState, document_of, has_no_effect, is_full, marked, size_of, state_after, IsCore}
use Rattle.bundle_core.specs.KeptCore.{IsKeptFrom, IsTaken, Keeps, KeptCore}
use Rattle.bundle_core.specs.LastChange.{IsLast}
use Rattle.bundle_core.specs.State.{State, session_of}
use Rattle.bundle_core.specs.Turns.{IsTurn}
use Rattle.bundle_core.proofs.CoreLaws.{core_after, core_same, few_accepted, few_made, lines_at, more_open}
use Rattle.bundle_core.proofs.KeptLaws.{core_view, keeps_on, kept_more, kept_same}
use Rattle.bundle_core.proofs.LastChanges.{next_last}
use Rattle.bundle_core.proofs.OpenLemmas.{same_length}
use Rattle.bundle_core.proofs.history_core.Core.take.Goals as goal

pub answer-requires-clause-few : goal.answer-requires-clause-few
answer-requires-clause-few g c =
    let kept = c.self.inside in
    few_made kept.users (document_of kept.opening) kept.entries.items kept.doc kept.tally kept.sessions.items kept.bytes_left c.self.invariant.0

pub answer-requires-clause-few_bundles : goal.answer-requires-clause-few_bundles
answer-requires-clause-few_bundles g c =
    let kept = c.self.inside in
    few_accepted kept.users (document_of kept.opening) kept.entries.items kept.doc kept.tally kept.sessions.items kept.bytes_left c.self.invariant.0

pub invariant_of-self-in_err-turn : goal.invariant_of-self-in_err-turn
invariant_of-self-in_err-turn g c =
    let kept = c.self.inside in
    let P : List Entry → Type 0 = λ es. IsCore kept.users (document_of kept.opening) es c.answer.new.doc c.answer.new.tally c.answer.new.sessions.items kept.bytes_left in
    let K : List Entry → Type 0 = λ es. IsKeptFrom kept.users (document_of kept.opening) es kept.opened kept.before c.answer.new.records c.answer.new.doc in
    let L : List Entry → Type 0 = λ es. IsLast kept.users (document_of kept.opening) es c.answer.new.doc kept.last in
    let D : Document → Type 0 = λ t. IsLast kept.users (document_of kept.opening) kept.entries.items t kept.last in (
      subst P (sym c.in_ok-reserve.ensures.items)
          (core_same kept.users (document_of kept.opening) kept.entries.items kept.doc c.answer.new.doc kept.tally c.answer.new.tally kept.sessions.items c.answer.new.sessions.items kept.bytes_left c.in_err-turn.ensures.err_document c.in_err-turn.ensures.tally c.in_err-turn.ensures.err c.self.invariant.0),
      omega (arith, same_length kept.sessions.items c.answer.new.sessions.items c.in_err-turn.ensures.err, c.in_ok-reserve.ensures.len, c.in_ok-reserve.ensures.capacity, c.self.invariant.1),
      subst K (sym c.in_ok-reserve.ensures.items)
          (kept_same kept.users (document_of kept.opening) kept.entries.items kept.opened kept.before kept.records c.answer.new.records kept.doc c.answer.new.doc c.in_err-turn.ensures.err_told c.in_err-turn.ensures.err_count c.in_err-turn.ensures.err_document c.in_err-turn.ensures.later c.self.invariant.2),
      subst L (sym c.in_ok-reserve.ensures.items) (subst D (sym c.in_err-turn.ensures.err_document) c.self.invariant.3),
    )

pub invariant_of-self-2 : goal.invariant_of-self-2
invariant_of-self-2 g c =
    let kept = c.self.inside in
    let start = document_of kept.opening in
    let es = kept.entries.items in
    let turn = c.in_ok-turn.turn in
    let e = marked c.args.entry turn.kept in
    let A : List User → Type 0 = λ users. IsTurn users kept.doc c.answer.new.doc kept.sessions.items c.answer.new.sessions.items kept.records c.answer.new.records e turn.lines.items in
    let is : A kept.users = subst A c.as_slice-users.ensures c.in_ok-turn.ensures.ok in
    let answers = is.answers in
    let S : State → Type 0 = λ st. Keeps kept.users st e kept.records c.answer.new.records in
    let keeps : S (state_after kept.users start es) = subst S (sym c.self.invariant.0.state) is.keeps in
    let grown : c.push_reserved.new.self.items ≡ es ++ e ∷ [] = c.push_reserved.ensures.items ∙ ap (λ x. x ++ c.with_mark.result ∷ []) c.in_ok-reserve.ensures.items ∙ ap (λ x. es ++ x ∷ []) c.with_mark.ensures in
    let P : List Entry → Type 0 = λ xs. IsCore kept.users start xs c.answer.new.doc c.answer.new.tally c.answer.new.sessions.items c.left_after-self-inside.result in
    let K : List Entry → Type 0 = λ xs. IsKeptFrom kept.users start xs kept.opened kept.before c.answer.new.records c.answer.new.doc in
    let L : List Entry → Type 0 = λ xs. IsLast kept.users start xs c.answer.new.doc turn.change in
    let room : is_full es e.request e.size ≡ false = ap (λ (s : KeptCore). is_full s.state.history e.request e.size) c.self.view_is ∙ c.requires.room in (
      subst P (sym grown)
          (core_after kept.users start kept.doc c.answer.new.doc kept.tally kept.sessions.items c.answer.new.sessions.items es e turn.lines.items kept.bytes_left c.self.invariant.0 answers
          c.answer.new.tally c.left_after-self-inside.result c.in_ok-turn.ensures.whole c.in_ok-turn.ensures.tally c.requires.stays room (c.left_after-self-inside.ensures (sum_by size_of es) c.self.invariant.0.left)),
      omega (
        arith,
        more_open kept.users start kept.doc c.answer.new.doc kept.tally kept.sessions.items c.answer.new.sessions.items es e turn.lines.items kept.bytes_left c.self.invariant.0 answers,
        c.len.ensures,
        c.in_ok-reserve.ensures.ok,
        c.push_reserved.ensures.len,
        c.push_reserved.ensures.capacity,
      ),
      subst K (sym grown) (kept_more kept.users start es kept.opened kept.before kept.records c.answer.new.records kept.doc c.answer.new.doc e c.self.invariant.2 keeps c.in_ok-turn.ensures.later is.reopens),
      subst L (sym grown) (next_last kept.users start es e kept.doc c.answer.new.doc kept.records c.answer.new.records turn.change (ap (λ (st : State). st.document) c.self.invariant.0.state) c.in_ok-turn.ensures.change keeps.count),
    )

pub returns-clause-ok : goal.returns-clause-ok
returns-clause-ok g c =
    let kept = c.self.inside in
    let start = document_of kept.opening in
    let es = kept.entries.items in
    let more = c.push_reserved.new.self.items in
    let turn = c.in_ok-turn.turn in
    let e = marked c.args.entry turn.kept in
    let A : List User → Type 0 = λ users. IsTurn users kept.doc c.answer.new.doc kept.sessions.items c.answer.new.sessions.items kept.records c.answer.new.records e turn.lines.items in
    let is : A kept.users = subst A c.as_slice-users.ensures c.in_ok-turn.ensures.ok in
    let S : State → Type 0 = λ st. Keeps kept.users st e kept.records c.answer.new.records in
    let keeps : S (state_after kept.users start es) = subst S (sym c.self.invariant.0.state) is.keeps in
    let old : CoreState = record { users = kept.users; start = start; history = es } in
    let grown : more ≡ es ++ e ∷ [] = c.push_reserved.ensures.items ∙ ap (λ x. x ++ c.with_mark.result ∷ []) c.in_ok-reserve.ensures.items ∙ ap (λ x. es ++ x ∷ []) c.with_mark.ensures in
    let effect : has_no_effect old e ≡ false = ap (λ g. g && not (is_some (session_of e.session (state_after old.users old.start old.history)))) c.requires.stays in
    let new : KeptCore = core_view kept.users start more kept.opened kept.before c.answer.new.records in
    let P : KeptCore → Type 0 = λ o. is_full o.state.history e.request e.size ≡ false → IsTaken o new e.session e.request e.size c.from.result in
    subst P c.self.view_is (λ room. record {
      kept = turn.kept;
      taken = record {
        has_room = room;
        lines_given = c.from.ensures ∙ lines_at kept.users start kept.doc c.answer.new.doc kept.tally kept.sessions.items c.answer.new.sessions.items es e turn.lines.items kept.bytes_left c.self.invariant.0 is.answers;
        added = ap (λ xs. let s : CoreState = record { users = kept.users; start = start; history = xs } in s) grown
            ∙ sym (ap (λ b. if b then old else (let s : CoreState = record { users = kept.users; start = start; history = es ++ e ∷ [] } in s)) effect);
      };
      keeps = keeps_on kept.users start es kept.opened kept.before kept.records c.answer.new.records kept.doc c.answer.new.doc e c.self.invariant.2 keeps c.in_ok-turn.ensures.later more;
    }) c.requires.room
