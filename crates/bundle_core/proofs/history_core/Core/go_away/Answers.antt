use Rattle.std.proofs.Common.{◌≡◌, true, List, ℕ, ◌∷◌, [], ◌++◌, length, sum_by, None, refl, ap, subst, sym, ◌∙◌, arith}
use Rattle.doc_model.specs.declared.entry.Entry.{Entry}
use Rattle.doc_model.specs.declared.request.Request.TheVariants.{Gone}
use Rattle.bundle_core.specs.Core.{CoreState, document_of, entry_of, size_of, state_after, IsCore, IsStep}
use Rattle.bundle_core.specs.Dispatch.{Finds, Misses}
use Rattle.bundle_core.specs.KeptCore.{IsKeptFrom, IsTaken, KeptCore}
use Rattle.bundle_core.specs.LastChange.{IsLast}
use Rattle.bundle_core.specs.SessionState.{SessionState}
use Rattle.bundle_core.specs.State.{State}
use Rattle.bundle_core.proofs.CoreLaws.{core_parted, gone_found, gone_missed, one_fewer}
use Rattle.bundle_core.proofs.KeptLaws.{core_view, gone_keeps, gone_taken, kept_gone}
use Rattle.bundle_core.proofs.LastChanges.{next_last}
use Rattle.bundle_core.proofs.history_core.Core.go_away.Goals as goal

pub returns-in_default : goal.returns-in_default
returns-in_default g c =
    let kept = c.self.inside in
    let name = c.args.session.now in
    let start = document_of kept.opening in
    let es = kept.entries.items in
    let e : Entry = entry_of name Gone c.args.size true in
    let M : List SessionState → Type 0 = λ xs. Misses name xs c.in_default.field-0 in
    let misses : M kept.sessions.items = subst M c.deref.ensures.value c.in_default.ensures in
    let view : KeptCore = core_view kept.users start es kept.opened kept.before kept.records in
    let Q : List (List ℕ) → Type 0 = λ lines. IsStep view.state view.state e lines in
    let P : KeptCore → Type 0 = λ o. IsTaken o o name Gone c.args.size c.from-nothing.result in
    subst P c.self.view_is (gone_taken kept.users start es es kept.opened kept.before kept.records kept.doc name c.args.size c.from-nothing.result c.self.invariant.2
    (subst Q (sym (c.from-nothing.ensures ∙ c.new.ensures.items))
    (gone_missed kept.users start es kept.doc kept.tally kept.sessions.items kept.bytes_left name c.self.invariant.0 c.in_default.field-0 c.args.size misses)))

pub invariant_of-self : goal.invariant_of-self
invariant_of-self g c =
    let kept = c.self.inside in
    let name = c.args.session.now in
    let p = c.in-Ok.index in
    let F : List SessionState → Type 0 = λ xs. Finds name xs p in
    let finds : F kept.sessions.items = subst F c.deref.ensures.value c.in-Ok.ensures in
    let named : c.remove.result.session ≡ name = ap (λ (x : SessionState). x.session) c.remove.ensures.value ∙ finds.named c.remove.result in
    let entered : c.last_entry-entry.result ≡ entry_of name Gone c.args.size true = c.last_entry-entry.ensures ∙ ap (λ n. entry_of n Gone c.args.size true) named in
    let grown : c.push_reserved.new.self.items ≡ kept.entries.items ++ entry_of name Gone c.args.size true ∷ [] = c.push_reserved.ensures.items ∙ ap (λ e. kept.entries.items ++ e ∷ []) entered in
    let fewer = one_fewer kept.users (document_of kept.opening) kept.entries.items kept.doc kept.tally kept.sessions.items kept.bytes_left name c.self.invariant.0 p finds c.args.size in
    let E : List Entry → Type 0 = λ es. IsCore kept.users (document_of kept.opening) es kept.doc kept.tally c.remove.new.self.items c.left_after-self-inside.result in
    let X : List SessionState → Type 0 = λ xs. IsCore kept.users (document_of kept.opening) (kept.entries.items ++ entry_of name Gone c.args.size true ∷ []) kept.doc kept.tally xs c.left_after-self-inside.result in
    let K : List Entry → Type 0 = λ es. IsKeptFrom kept.users (document_of kept.opening) es kept.opened kept.before kept.records kept.doc in
    let start = document_of kept.opening in
    let e : Entry = entry_of name Gone c.args.size true in
    let L : List Entry → Type 0 = λ es. IsLast kept.users start es kept.doc None in (
      subst E (sym grown) (subst X (sym c.remove.ensures.items)
          (core_parted kept.users (document_of kept.opening) kept.entries.items kept.doc kept.tally kept.sessions.items kept.bytes_left name c.self.invariant.0 p finds c.args.size
          c.left_after-self-inside.result (c.left_after-self-inside.ensures (sum_by size_of kept.entries.items) c.self.invariant.0.left))),
      omega (arith, fewer, ap length c.remove.ensures.items, c.push_reserved.ensures.len, c.push_reserved.ensures.capacity, c.self.invariant.1),
      subst K (sym grown) (kept_gone kept.users (document_of kept.opening) kept.entries.items kept.opened kept.before kept.records kept.doc name c.args.size c.self.invariant.2),
      subst L (sym grown) (next_last kept.users start kept.entries.items e kept.doc kept.doc kept.records kept.records None (ap (λ (st : State). st.document) c.self.invariant.0.state) (refl, refl) (gone_keeps kept.users (state_after kept.users start kept.entries.items) name c.args.size kept.records).count),
    )

pub returns : goal.returns
returns g c =
    let kept = c.self.inside in
    let name = c.args.session.now in
    let start = document_of kept.opening in
    let es = kept.entries.items in
    let more = c.push_reserved.new.self.items in
    let p = c.in-Ok.index in
    let e : Entry = entry_of name Gone c.args.size true in
    let F : List SessionState → Type 0 = λ xs. Finds name xs p in
    let finds : F kept.sessions.items = subst F c.deref.ensures.value c.in-Ok.ensures in
    let named : c.remove.result.session ≡ name = ap (λ (x : SessionState). x.session) c.remove.ensures.value ∙ finds.named c.remove.result in
    let entered : c.last_entry-entry.result ≡ e = c.last_entry-entry.ensures ∙ ap (λ n. entry_of n Gone c.args.size true) named in
    let grown : more ≡ es ++ e ∷ [] = c.push_reserved.ensures.items ∙ ap (λ x. es ++ x ∷ []) entered in
    let old : CoreState = record { users = kept.users; start = start; history = es } in
    let N : List Entry → Type 0 = λ xs. IsStep old (record { users = kept.users; start = start; history = xs }) e [] in
    let Q : List (List ℕ) → Type 0 = λ lines. IsStep old (record { users = kept.users; start = start; history = more }) e lines in
    let P : KeptCore → Type 0 = λ o. IsTaken o (core_view kept.users start more kept.opened kept.before kept.records) name Gone c.args.size c.from-nothing.result in
    subst P c.self.view_is (gone_taken kept.users start es more kept.opened kept.before kept.records kept.doc name c.args.size c.from-nothing.result c.self.invariant.2
    (subst Q (sym (c.from-nothing.ensures ∙ c.new.ensures.items)) (subst N (sym grown)
    (gone_found kept.users start es kept.doc kept.tally kept.sessions.items kept.bytes_left name c.self.invariant.0 p finds c.args.size))))
