-- The start, the making of a pass and its handing back keep the rule.
use Rattle.std.proofs.Common.{◌≡◌, ◌≢◌, ℕ, ◌+◌, ◌-◌, ◌*◌, ◌<◌, ◌≤◌, Bool, true, false, List, [], ◌∷◌, ◌++◌, map, length, set, get_or, refl, ap, sym, subst, ◌∙◌, inl, inr, ⊎_elim, arith, length-set, length-append, IsSome, Some, None, Option, zero-add}
use Rattle.std.proofs.lemmas.List.Sums.{sum_by-set, sum_by_push}
use Rattle.std.proofs.lemmas.List.{length-map}
use Rattle.std.proofs.lemmas.Option.{slice_get_within}
use mathlib.Core.List.{IsPrefix}
use mathlib.Core.Logic.{dite}
use mathlib.Core.Option.{some, some-injective, some-ne-none}
use native.Mathlib.Decide.{ℕ_discrete}
use lib.ListN.{get_elem?}
use Rattle.atomic_table.specs.Table.{opening as opening_state, Splits, Joins}
use Rattle.session_gate.specs.declared.known.Made.{Made}
use Rattle.session_gate.specs.declared.known.Told.{Told}
use Rattle.session_gate.specs.declared.known.Known.{Known}
use Rattle.session_gate.specs.History.{brought, calls_by}
use Rattle.session_gate.specs.Known.{GateState, parts_of, longer, first_seat, dealt, next_seat, gathered, told_by}
use Rattle.session_gate.specs.Rule.{IsBelow, IsOwnOrSpent, IsSeen, Knows, IsLongest, Stands, Kept}
use Rattle.atomic_table.proofs.Lists.{set_here, set_else, at_set, at_longer}
use Rattle.session_gate.proofs.Lists.{prefix_self, at_below, get_or_at, snoc_at, one_at}
use Rattle.session_gate.proofs.ViewLemmas.{each_after, not_holder, asked_set, longest_set}
use Rattle.session_gate.proofs.HistoryLemmas.{entries_brought, calls_brought, brought_alone, none_seen, seen_longer, longer_whole}

module _ {E O : Type 0} where
  asked_longer : (views : List (Option (Known E O))) (y : Option (Known E O)) (j n : ℕ) → IsOwnOrSpent views j n → IsOwnOrSpent (views ++ y ∷ []) j n
  asked_longer views y j n asked = ⊎_elim (λ (f : n ≡ j). inl f) (λ (f : get_elem? views n ≡ some None). inr (at_longer views (y ∷ []) n None f)) asked

  -- the longer `seen` stays, so whoever has seen the whole history is there still
  longest_joins : (log : List (Made E)) (views : List (Option (Known E O))) (id other : ℕ) (k l w : Known E O) → get_elem? views id ≡ some (Some k) → get_elem? (set views id (Some w)) other ≡ some (Some l) → other ≢ id
      → IsPrefix k.seen log → IsPrefix l.seen log → w.seen ≡ longer k.seen l.seen → (j : ℕ) (m : Known E O) → IsLongest log views j m → (j' : ℕ) × (m' : Known E O) × IsLongest log (set (set views id (Some w)) other None) j' m'
  longest_joins log views id other k l w at there apart p q is j m r =
      let last : List (Option (Known E O)) = set (set views id (Some w)) other None in
      let here : get_elem? last id ≡ some (Some w) = set_else (set views id (Some w)) other id None (λ e. apart (sym e)) ∙ set_here views id (Some w) (at_below views id (Some k) at) in
      let was : get_elem? views other ≡ some (Some l) = sym (set_else views id other (Some w) apart) ∙ there in
      dite (ℕ_discrete j id)
      (λ e. let a : some (Some k) ≡ some (Some m) = sym at ∙ (ap (get_elem? views) (sym e) ∙ r.sits) in let b : Some k ≡ Some m = some-injective (Some k) (Some m) a in let same : k ≡ m = cc in
      (id, w, record { sits = here; whole = is ∙ longer_whole log k.seen l.seen p q (inl (ap (λ (z : Known E O). z.seen) same ∙ r.whole)) }))
      (λ ne. dite (ℕ_discrete j other)
      (λ e. let a : some (Some l) ≡ some (Some m) = sym was ∙ (ap (get_elem? views) (sym e) ∙ r.sits) in let b : Some l ≡ Some m = some-injective (Some l) (Some m) a in let same : l ≡ m = cc in
      (id, w, record { sits = here; whole = is ∙ longer_whole log k.seen l.seen p q (inr (ap (λ (z : Known E O). z.seen) same ∙ r.whole)) }))
      (λ ne'. (j, m, record { sits = set_else (set views id (Some w)) other j None ne' ∙ (set_else views id j (Some w) ne ∙ r.sits); whole = r.whole })))

pub below_more : (by : Option ℕ) (m n : ℕ) → m ≤ n → IsBelow m by → IsBelow n by
below_more None m n le h = h
below_more (Some k) m n le h = omega arith

module _ {M E O Ev Out : Type 0} (history : M → List E) (opening : M → O) (takes_event : Ev → Type 0) (answers : O → List E → List E → Ev → Out → Type 0) (start : M) (passes : ℕ) where
  abbrev K : Type 0
  K = Known E O

  abbrev St : Type 0
  St = GateState M E O

  abbrev Rule : St → Type 0
  Rule = Kept history opening takes_event answers start passes

  abbrev base : List (Made E)
  base = map brought (history start)

  stands_on : (log : List (Made E)) (held : Bool) (holder : ℕ) (s : St) (views' : List (Option K)) → ((l : K) → get_elem? s.views holder ≡ some (Some l) → l.turn ≡ true → get_elem? views' holder ≡ some (Some l))
      → Stands history opening start log held holder s → Stands history opening start log held holder record { words = s.words; homes = s.homes; views = views' }
  stands_on log false holder s views' stay at = at
  stands_on log true holder s views' stay at = (at.0, (at.1.0, stay at.1.0 at.1.1 at.1.2, at.1.2))

  pub starts : (word : ℕ) → 0 < passes → word ≡ 2 * length (history start) → Rule (opening_state (word ∷ []) (Some start ∷ []) (first_seat history opening start passes))
  starts word some_pass is =
      let k : K = record { number = 0; room = passes - 1; parts = passes; turn = false; opening = opening start; seen = base; told = [] } in
      let own : IsSeen base base 0 base = record { prefix = prefix_self base; begins = prefix_self base; own = refl } in
      record {
        log = base;
        held = false;
        holder = 0;
        word = ap (λ (n : ℕ). n ∷ []) (let l = length-map (history start) (brought {E = E}) in omega arith);
        begins = prefix_self base;
        legal = λ i x e by. let h : IsSome {T = ℕ} None = subst IsSome (brought_alone (history start) i x e) by in absurd (cc);
        stands = (start, refl, sym (entries_brought (history start)), refl);
        each = λ j l e. let h = one_at (Some k) j (Some l) e in let same : k ≡ l = (let f = h.1 in cc) in
            subst (λ (z : ℕ × K). Knows (opening start) passes base base false 0 (Some k ∷ []) z.0 z.1) (λ i. (sym h.0 i, same i))
            record { number = refl; opening = refl; seen = own; turn = λ f. absurd (cc); parts = some_pass; room = λ _. (refl, omega arith); told = λ i t g. absurd (some-ne-none t (sym g)) };
        longest = (0, k, record { sits = refl; whole = refl });
        others = λ n le. calls_brought n (history start);
        few = some_pass;
        numbered = λ i x e le. let h = slice_get_within base i x e in let l = length-map (history start) (brought {E = E}) in absurd (omega arith);
        parts = zero-add passes;
      }

  pub starts_with : (word : ℕ) (slots : List (Option M)) → 0 < passes → word ≡ 2 * length (history start) → slots ≡ Some start ∷ [] → Rule (opening_state (word ∷ []) slots (first_seat history opening start passes))
  starts_with word slots some_pass is one = subst (λ (z : List (Option M)). Rule (opening_state (word ∷ []) z (first_seat history opening start passes))) (sym one) (starts word some_pass is)

  pub deals : (id : ℕ) (k : K) → 0 < k.room → 2 ≤ k.parts → k.turn ≡ false → Splits Rule id (Some k) (dealt (Some k)) (next_seat (Some k))
  deals id k room parts turn s r at =
      let mine = r.each id k at in
      let last = mine.room room in
      let inside : id < length s.views = at_below s.views id (Some k) at in
      let w : K = record { number = k.number; room = 0; parts = 1; turn = k.turn; opening = k.opening; seen = k.seen; told = k.told } in
      let y : K = record { number = k.number + 1; room = k.room - 1; parts = k.parts - 1; turn = false; opening = k.opening; seen = k.seen; told = [] } in
      let views' : List (Option K) = set s.views id (Some w) ++ Some y ∷ [] in
      let long : length views' ≡ length s.views + 1 = length-append (set s.views id (Some w)) (Some y ∷ []) ∙ ap (λ (n : ℕ). n + 1) (length-set s.views id (Some w)) in
      let asked : (j n : ℕ) → IsOwnOrSpent s.views j n → IsOwnOrSpent views' j n = (λ j n h. asked_longer (set s.views id (Some w)) (Some y) j n (asked_set s.views id j n k (Some w) at h)) in
      let whole = longest_set r.log s.views id k w at (λ e. e) r.longest.0 r.longest.1 r.longest.2 in
      let fresh : calls_by (k.number + 1) r.log ≡ [] = r.others (k.number + 1) (let n = mine.number in omega arith) in
      record {
        log = r.log;
        held = r.held;
        holder = r.holder;
        word = r.word;
        begins = r.begins;
        legal = r.legal;
        stands = stands_on r.log r.held r.holder s views' (λ l g turns. at_longer (set s.views id (Some w)) (Some y ∷ []) r.holder (Some l) (set_else s.views id r.holder (Some w) (not_holder s.views id r.holder k l at turn g turns) ∙ g)) r.stands;
        each = λ j l e. ⊎_elim
            (λ (f : get_elem? (set s.views id (Some w)) j ≡ some (Some l)). each_after (Knows (opening start) passes base r.log r.held r.holder views') s.views id w
            record { number = mine.number; opening = mine.opening; seen = mine.seen; turn = mine.turn; parts = omega arith; room = λ z. absurd (omega arith); told = λ i t g. let h = mine.told i t g in (asked id t.number h.0, h.1) }
            (λ j2 l2 other g. let q = r.each j2 l2 g in record {
              number = q.number;
              opening = q.opening;
              seen = q.seen;
              turn = q.turn;
              parts = q.parts;
              room = λ z. let h = q.room z in absurd (other (omega arith));
              told = λ i t g. let h = q.told i t g in (asked j2 t.number h.0, h.1);
            })
            j l f)
            (λ (f : (j ≡ length (set s.views id (Some w))) × (Some y ≡ Some l)). let same : y ≡ l = (let f1 = f.1 in cc) in let at_end : j ≡ length s.views = f.0 ∙ length-set s.views id (Some w) in let number = mine.number in
            subst (Knows (opening start) passes base r.log r.held r.holder views' j) same
            record {
              number = omega arith;
              opening = mine.opening;
              seen = record { prefix = mine.seen.prefix; begins = mine.seen.begins; own = fresh ∙ sym (none_seen (k.number + 1) r.log k.seen mine.seen.prefix fresh) };
              turn = λ f. absurd (cc);
              parts = omega arith;
              room = λ z. (omega arith, omega arith);
              told = λ i t g. absurd (some-ne-none t (sym g));
            })
            (snoc_at (set s.views id (Some w)) (Some y) j (Some l) e);
        longest = (whole.0, whole.1, record { sits = at_longer (set s.views id (Some w)) (Some y ∷ []) whole.0 (Some whole.1) whole.2.sits; whole = whole.2.whole });
        others = λ n le. r.others n (omega arith);
        few = omega arith;
        numbered = λ i x e le. below_more x.by (length s.views) (length views') (omega arith) (r.numbered i x e le);
        parts = let e = sum_by-set parts_of s.views id (Some w) None inside in let p = sum_by_push parts_of (set s.views id (Some w)) (Some y) in
            let was : parts_of (get_or s.views id None) ≡ k.parts = ap parts_of (get_or_at s.views id (Some k) None at) in let q = r.parts in omega arith;
      }

  pub joins : (id other : ℕ) (k l : K) → k.turn ≡ false → l.turn ≡ false → Joins Rule id (Some k) other (Some l) (gathered (Some k) (Some l)) None
  joins id other k l turn rest s r at apart there =
      let w : K = record { number = k.number; room = 0; parts = k.parts + l.parts; turn = k.turn; opening = k.opening; seen = longer k.seen l.seen; told = (k.told ++ told_by k ∷ []) ++ told_by l ∷ [] } in
      let views' : List (Option K) = set s.views id (Some w) in
      let last : List (Option K) = set views' other None in
      let was : get_elem? s.views other ≡ some (Some l) = sym (set_else s.views id other (Some w) apart) ∙ there in
      let mine = r.each id k at in
      let his = r.each other l was in
      let inside : other < length views' = at_below views' other (Some l) there in
      let long : length last ≡ length s.views = length-set views' other None ∙ length-set s.views id (Some w) in
      let asked : (j n : ℕ) → IsOwnOrSpent s.views j n → IsOwnOrSpent last j n = (λ j n h. asked_set views' other j n l None there (asked_set s.views id j n k (Some w) at h)) in
      let gone : get_elem? last other ≡ some None = set_here views' other None inside in
      record {
        log = r.log;
        held = r.held;
        holder = r.holder;
        word = r.word;
        begins = r.begins;
        legal = r.legal;
        stands = stands_on r.log r.held r.holder s last (λ m g turns. set_else views' other r.holder None (not_holder s.views other r.holder l m was rest g turns)
            ∙ (set_else s.views id r.holder (Some w) (not_holder s.views id r.holder k m at turn g turns) ∙ g)) r.stands;
        each = λ j l2 e. ⊎_elim (λ (t : (j ≡ other) × (None ≡ Some l2)). absurd (let f = t.1 in cc))
            (λ (t : (j ≢ other) × (get_elem? views' j ≡ some (Some l2))). each_after (Knows (opening start) passes base r.log r.held r.holder last) s.views id w
            record {
              number = mine.number;
              opening = mine.opening;
              seen = seen_longer base r.log k.number l.number k.seen l.seen mine.seen his.seen;
              turn = λ z. absurd (let f : false ≡ true = sym turn ∙ z in cc);
              parts = let p = mine.parts in omega arith;
              room = λ z. absurd (omega arith);
              told = λ i t g. ⊎_elim
                  (λ (f : get_elem? (k.told ++ told_by k ∷ []) i ≡ some t). ⊎_elim
                  (λ (e : get_elem? k.told i ≡ some t). let h = mine.told i t e in (asked id t.number h.0, h.1))
                  (λ (e : (i ≡ length k.told) × (told_by k ≡ t)). subst (λ (z : Told E). IsOwnOrSpent last id z.number × IsSeen base r.log z.number z.seen) e.1 (inl mine.number, mine.seen))
                  (snoc_at k.told (told_by k) i t f))
                  (λ (f : (i ≡ length (k.told ++ told_by k ∷ [])) × (told_by l ≡ t)). subst (λ (z : Told E). IsOwnOrSpent last id z.number × IsSeen base r.log z.number z.seen) f.1 (inr (ap (get_elem? last) his.number ∙ gone), his.seen))
                  (snoc_at (k.told ++ told_by k ∷ []) (told_by l) i t g);
            }
            (λ j3 l3 ne g. let q = r.each j3 l3 g in record {
              number = q.number;
              opening = q.opening;
              seen = q.seen;
              turn = q.turn;
              parts = q.parts;
              room = λ z. let h = q.room z in (omega arith, omega arith);
              told = λ i t g. let h = q.told i t g in (asked j3 t.number h.0, h.1);
            })
            j l2 t.1)
            (at_set views' other j None (Some l2) e);
        longest = longest_joins r.log s.views id other k l w at there apart mine.seen.prefix his.seen.prefix refl r.longest.0 r.longest.1 r.longest.2;
        others = λ n le. r.others n (omega arith);
        few = let f = r.few in omega arith;
        numbered = λ i x e le. below_more x.by (length s.views) (length last) (omega arith) (r.numbered i x e le);
        parts =
            let e = sum_by-set parts_of s.views id (Some w) None (at_below s.views id (Some k) at) in
            let f = sum_by-set parts_of views' other None None inside in
            let was_k : parts_of (get_or s.views id None) ≡ k.parts = ap parts_of (get_or_at s.views id (Some k) None at) in
            let was_l : parts_of (get_or views' other None) ≡ l.parts = ap parts_of (get_or_at views' other (Some l) None there) in
            let q = r.parts in omega arith;
      }
