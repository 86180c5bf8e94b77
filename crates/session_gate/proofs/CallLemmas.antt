-- What one call tells its pass, from what its steps tell.
use Rattle.std.proofs.Common.{◌≡◌, ◌⊎◌, ℕ, ◌<◌, List, [], ◌∷◌, ◌++◌, length, refl, ap, sym, subst, ◌∙◌, inl, inr, ⊎_elim, Some, None, Option, arith, Result, Ok, Err, IfOk, OnErr}
use Rattle.std.proofs.lemmas.List.{append-nil, nil_from_length}
use Rattle.atomic_table.specs.Table.{rest}
use Rattle.atomic_table.specs.Seated.{TableId}
use Rattle.session_gate.specs.declared.known.Made.{Made}
use Rattle.session_gate.specs.declared.known.Known.{Known}
use Rattle.session_gate.specs.History.{entries_of, calls_by, IsLegal, AddsOneOrNone, IsTurn, Leads, made_by, grown}
use Rattle.session_gate.specs.Known.{GateSeat, Sat, turn_of, parts_of, told_of, number_of, opening_of, holding, resting}
use Rattle.session_gate.specs.Steps.{IsWon, IsOut}
use Rattle.session_gate.specs.Call.{IsSamePass, HasSeenLegal, IsSureAt, SeesMore, IsCall}
use Rattle.session_gate.specs.Seats.{pass_at, shown, IsIdle}
use Rattle.session_gate.proofs.HistoryLemmas.{grown_same, grown_more, entries_more, calls-append, calls_own, legal_more}

module _ {E : Type 0} where
  -- what is seen after a turn has the machine's history
  pub entries_grown : (n : ℕ) (seen : List (Made E)) (h : List E) → AddsOneOrNone (entries_of seen) h → entries_of (grown n seen h) ≡ h
  entries_grown n seen h step = ⊎_elim (λ (e : h ≡ entries_of seen). ap entries_of (grown_same n seen h e) ∙ sym e)
      (λ (t : (x : E) × (h ≡ entries_of seen ++ x ∷ [])). ap entries_of (grown_more n seen h t.0 t.1) ∙ (entries_more n seen t.0 ∙ sym t.1)) step

  -- what came between has no calls of the pass, so it has the calls that it had
  own_apart : (n : ℕ) (seen between : List (Made E)) → calls_by n between ≡ [] → calls_by n (seen ++ between) ≡ calls_by n seen
  own_apart n seen between none = calls-append n seen between ∙ (ap (λ (ys : List E). calls_by n seen ++ ys) none ∙ append-nil (calls_by n seen))

  grown_ends : (n : ℕ) (seen between : List (Made E)) (h : List E) → calls_by n between ≡ [] → AddsOneOrNone (entries_of (seen ++ between)) h
      → ((grown n (seen ++ between) h ≡ seen ++ between) × (calls_by n (grown n (seen ++ between) h) ≡ calls_by n seen))
      ⊎ ((e : E) × (grown n (seen ++ between) h ≡ (seen ++ between) ++ made_by n e ∷ []) × (calls_by n (grown n (seen ++ between) h) ≡ calls_by n seen ++ e ∷ []))
  grown_ends n seen between h none step =
      let own : calls_by n (seen ++ between) ≡ calls_by n seen = own_apart n seen between none in
      ⊎_elim (λ (e : h ≡ entries_of (seen ++ between)). let all = grown_same n (seen ++ between) h e in inl (all, ap (calls_by n) all ∙ own))
      (λ (t : (x : E) × (h ≡ entries_of (seen ++ between) ++ x ∷ [])). let all = grown_more n (seen ++ between) h t.0 t.1 in
      inr (t.0, all, ap (calls_by n) all ∙ (calls_own n (seen ++ between) t.0 ∙ ap (λ (ys : List E). ys ++ t.0 ∷ []) own))) step

module _ {E O : Type 0} where
  pub some_known : (v : Option (Known E O)) → 0 < parts_of v → (k : Known E O) × (v ≡ Some k)
  some_known None e = absurd (omega arith)
  some_known (Some k) e = (k, refl)

module _ {M E O : Type 0} where
  pub idle_is : (s : GateSeat M E O) → IsIdle s → (k : Known E O) × (◌≡◌ {A = Sat M E O} s.me (Some k, []))
  idle_is s r = let k = some_known s.me.0 (let p = r.parts in omega arith) in (k.0, λ i. (k.1 i, nil_from_length s.me.1 r.carried i))

  pub untold : (s : GateSeat M E O) (k : Known E O) → IsIdle s → (◌≡◌ {A = Sat M E O} s.me (Some k, [])) → k.told ≡ []
  untold s k r is = nil_from_length k.told (ap (λ (m : Sat M E O). length (told_of m.0)) (sym is) ∙ r.told)

  -- a pass that has seen more is idle again
  pub idle_again : (s t : GateSeat M E O) (k : Known E O) (seen : List (Made E)) → IsIdle s → (◌≡◌ {A = Sat M E O} s.me (Some k, [])) → (◌≡◌ {A = Sat M E O} t.me (Some (resting k seen), [])) → IsIdle t
  idle_again s t k seen r is now =
      let parts : k.parts ≡ 1 = ap (λ (m : Sat M E O). parts_of m.0) (sym is) ∙ r.parts in
      let told : length k.told ≡ 0 = ap (λ (m : Sat M E O). length (told_of m.0)) (sym is) ∙ r.told in
      record {
        carried = ap (λ (m : Sat M E O). length m.1) now;
        turn = ap (λ (m : Sat M E O). turn_of m.0) now;
        parts = ap (λ (m : Sat M E O). parts_of m.0) now ∙ parts;
        told = ap (λ (m : Sat M E O). length (told_of m.0)) now ∙ told;
      }

  pub same_again : (s t : GateSeat M E O) (k : Known E O) (seen : List (Made E)) → t.table_id ≡ s.table_id → (◌≡◌ {A = Sat M E O} s.me (Some k, [])) → (◌≡◌ {A = Sat M E O} t.me (Some (resting k seen), [])) → IsSamePass (shown s) (shown t)
  same_again s t k seen table is now = record {
    gate = table;
    number = ap (λ (m : Sat M E O). number_of m.0) now ∙ ap (λ (m : Sat M E O). number_of m.0) (sym is);
    opening = ap (λ (m : Sat M E O). opening_of m.0) now ∙ ap (λ (m : Sat M E O). opening_of m.0) (sym is);
  }

module _ {E O Ev Out : Type 0} (takes_event : Ev → Type 0) (answers : O → List E → List E → Ev → Out → Type 0) where
  -- what a step tells is a turn
  pub is_turn : {X : Type 0} (o : O) (h h' : List E) (event : Ev) (r : Result Out X) → takes_event event → AddsOneOrNone h h' → IfOk r (λ out. answers o h h' event out) → OnErr r (h' ≡ h) → IsTurn takes_event answers o h h'
  is_turn o h h' event (Ok out) may step ok err = ⊎_elim (λ (e : h' ≡ h). inl e) (λ (t : (e : E) × (h' ≡ h ++ e ∷ [])). inr (t.0, t.1, (event, out, may, ok))) step
  is_turn o h h' event (Err x) may step ok err = inl err

module _ {M E O Ev Out : Type 0} (history : M → List E) (opening : M → O) (takes_event : Ev → Type 0) (answers : O → List E → List E → Ev → Out → Type 0) where
  abbrev K : Type 0
  K = Known E O

  abbrev P : Type 0
  P = Sat M E O

  -- the slot that was taken with the turn is the one to be emptied
  pub one_out : (k : K) (v m : P) → v ≡ (Some k, []) → IsWon history opening takes_event answers v m → (t : Option M) × (m.1 ≡ (0, t) ∷ rest m.1)
  one_out k v m is won =
      let w = won k (ap (λ (z : P). z.0) is) in
      let a : m.1 ≡ (0, Some w.machine) ∷ v.1 = ap (λ (z : P). z.1) w.now in
      (Some w.machine, a ∙ (λ i. (0, Some w.machine) ∷ sym (ap rest a) i))

  -- what was won, and what was read in the slot
  pub goes_out : (k : K) (v m1 m2 : P) (t : Option M) → v ≡ (Some k, []) → IsWon history opening takes_event answers v m1 → m1.1 ≡ (0, t) ∷ rest m1.1 → m2 ≡ (m1.0, (0, None) ∷ rest m1.1)
      → (x : M) × (t ≡ Some x) × IsOut history opening takes_event answers k m2 x
  goes_out k v m1 m2 t is won had now =
      let w = won k (ap (λ (z : P). z.0) is) in
      let held : K = holding k (k.seen ++ w.between) in
      let at : m1 ≡ (Some held, (0, Some w.machine) ∷ []) = w.now ∙ ap (λ (z : P). (Some held, (0, Some w.machine) ∷ z.1)) is in
      let p : ℕ × Option M = (0, t) in
      let q : ℕ × Option M = (0, Some w.machine) in
      let a : p ∷ rest m1.1 ≡ q ∷ [] = sym had ∙ ap (λ (z : P). z.1) at in
      let b : p ≡ q = cc in (
        w.machine,
        ap (λ (z : ℕ × Option M). z.1) b,
        record {
          between = w.between;
          apart = w.apart;
          now = now ∙ ap (λ (z : P). (z.0, (0, None) ∷ rest z.1)) at;
          history_is = w.history_is;
          opening_is = w.opening_is;
          legal = w.legal;
        },
      )

  pub out_as : (k : K) (m : P) (t : Option M) (x y : M) → t ≡ Some x → t ≡ Some y → IsOut history opening takes_event answers k m x → IsOut history opening takes_event answers k m y
  out_as k m t x y is is' d =
      let e : Some x ≡ Some y = sym is ∙ is' in
      let same : x ≡ y = cc in
      subst (IsOut history opening takes_event answers k m) same d

  -- the facts of the step, about what the pass has seen
  pub turn_at : (k : K) (m : P) (x y : M) (d : IsOut history opening takes_event answers k m x) → IsTurn takes_event answers (opening x) (history x) (history y) → IsTurn takes_event answers k.opening (entries_of (k.seen ++ d.between)) (history y)
  turn_at k m x y d t = subst (λ (z : O × List E). IsTurn takes_event answers z.0 z.1 (history y)) (λ i. (d.opening_is i, d.history_is i)) t

  answered : (gate gate' : TableId) (k : K) (v m w : P) (x y : M) (event : Ev) (out : Out) (d : IsOut history opening takes_event answers k m x) → v ≡ (Some k, []) → AddsOneOrNone (history x) (history y)
      → answers (opening x) (history x) (history y) event out → w ≡ (Some (resting k (grown k.number (k.seen ++ d.between) (history y))), []) → IsCall answers (pass_at gate v.0) (pass_at gate' w.0) event out
  answered gate gate' k v m w x y event out d is step ans now =
      let all : List (Made E) = grown k.number (k.seen ++ d.between) (history y) in
      let step' : AddsOneOrNone (entries_of (k.seen ++ d.between)) (history y) = subst (λ (z : List E). AddsOneOrNone z (history y)) d.history_is step in
      subst (λ (z : P × P). IsCall answers (pass_at gate z.0.0) (pass_at gate' z.1.0) event out) (λ i. (sym is i, sym now i)) record {
        opening = k.opening;
        opening_is = refl;
        between = d.between;
        apart = d.apart;
        ends = grown_ends k.number k.seen d.between (history y) d.apart step';
        answer = subst (λ (z : O × List E × List E). answers z.0 z.1 z.2 event out) (λ i. (d.opening_is i, d.history_is i, sym (entries_grown k.number (k.seen ++ d.between) (history y) step') i)) ans;
      }

  unanswered : (gate gate' : TableId) (k : K) (v m w : P) (x y : M) (d : IsOut history opening takes_event answers k m x) → v ≡ (Some k, []) → history y ≡ history x
      → w ≡ (Some (resting k (grown k.number (k.seen ++ d.between) (history y))), []) → SeesMore (pass_at gate v.0) (pass_at gate' w.0)
  unanswered gate gate' k v m w x y d is same now =
      subst (λ (z : P × P). SeesMore (pass_at gate z.0.0) (pass_at gate' z.1.0)) (λ i. (sym is i, sym now i)) record {
        between = d.between;
        apart = d.apart;
        seen = grown_same k.number (k.seen ++ d.between) (history y) (same ∙ d.history_is);
        own = ap (calls_by k.number) (grown_same k.number (k.seen ++ d.between) (history y) (same ∙ d.history_is)) ∙ own_apart k.number k.seen d.between d.apart;
      }

  pub tells_ok : {X : Type 0} (s t : GateSeat M E O) (k : K) (m : P) (x y : M) (event : Ev) (r : Result Out X) (d : IsOut history opening takes_event answers k m x) → ◌≡◌ {A = P} s.me (Some k, []) → AddsOneOrNone (history x) (history y)
      → IfOk r (λ out. answers (opening x) (history x) (history y) event out) → ◌≡◌ {A = P} t.me (Some (resting k (grown k.number (k.seen ++ d.between) (history y))), []) → IfOk r (λ out. IsCall answers (shown s) (shown t) event out)
  tells_ok s t k m x y event (Ok out) d is step ok now = answered s.table_id t.table_id k s.me m t.me x y event out d is step ok now
  tells_ok s t k m x y event (Err e) d is step ok now = ok

  pub tells_err : {X : Type 0} (s t : GateSeat M E O) (k : K) (m : P) (x y : M) (r : Result Out X) (d : IsOut history opening takes_event answers k m x) → ◌≡◌ {A = P} s.me (Some k, [])
      → OnErr r (history y ≡ history x) → ◌≡◌ {A = P} t.me (Some (resting k (grown k.number (k.seen ++ d.between) (history y))), []) → OnErr r (SeesMore (shown s) (shown t))
  tells_err s t k m x y (Ok out) d is err now = err
  tells_err s t k m x y (Err e) d is err now = unanswered s.table_id t.table_id k s.me m t.me x y d is err now

  legal_grown : (o : O) (n : ℕ) (seen : List (Made E)) (h : List E) → IsLegal takes_event answers o seen → IsTurn takes_event answers o (entries_of seen) h → IsLegal takes_event answers o (grown n seen h)
  legal_grown o n seen h legal turn = ⊎_elim (λ (e : h ≡ entries_of seen). subst (IsLegal takes_event answers o) (sym (grown_same n seen h e)) legal)
      (λ (t : (x : E) × (h ≡ entries_of seen ++ x ∷ []) × Leads takes_event answers o (entries_of seen) h).
      let to : h ≡ entries_of (seen ++ made_by n t.0 ∷ []) = t.1 ∙ sym (entries_more n seen t.0) in
      subst (IsLegal takes_event answers o) (sym (grown_more n seen h t.0 t.1)) (legal_more takes_event answers o seen (made_by n t.0) legal (subst (Leads takes_event answers o (entries_of seen)) to t.2))) turn

  pub tells_legal : (t : GateSeat M E O) (k : K) (m : P) (x y : M) (d : IsOut history opening takes_event answers k m x) → IsTurn takes_event answers (opening x) (history x) (history y)
      → ◌≡◌ {A = P} t.me (Some (resting k (grown k.number (k.seen ++ d.between) (history y))), []) → HasSeenLegal takes_event answers (shown t)
  tells_legal t k m x y d turn now =
      let legal = legal_grown k.opening k.number (k.seen ++ d.between) (history y) d.legal (turn_at k m x y d turn) in
      subst (λ (z : P). HasSeenLegal takes_event answers (pass_at t.table_id z.0)) (sym now) (λ o e. let same : k.opening ≡ o = cc in subst (λ (z : O). IsLegal takes_event answers z (grown k.number (k.seen ++ d.between) (history y))) same legal)

  pub is_sure_out : (is_sure : O → List E → Ev → Type 0) (s : GateSeat M E O) (k : K) (m : P) (x : M) (event : Ev) (d : IsOut history opening takes_event answers k m x) → ◌≡◌ {A = P} s.me (Some k, []) → IsSureAt takes_event answers is_sure (shown s) event → is_sure (opening x) (history x) event
  is_sure_out is_sure s k m x event d is sure =
      let h : IsSureAt takes_event answers is_sure (pass_at s.table_id (Some k)) event = subst (λ (z : P). IsSureAt takes_event answers is_sure (pass_at s.table_id z.0) event) is sure in
      subst (λ (z : O × List E). is_sure z.0 z.1 event) (λ i. (sym d.opening_is i, sym d.history_is i)) (h k.opening d.between refl d.apart d.legal)
