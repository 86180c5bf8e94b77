-- What the other passes know stays, where the history only grows by this pass.
use Rattle.std.proofs.Common.{◌≡◌, ◌≢◌, ℕ, Bool, true, false, List, [], set, get_or, ap, sym, subst, ◌∙◌, inl, inr, ⊎_elim, arith, length-set, Some, None, Option}
use Rattle.std.specs.List.{sum_by}
use Rattle.std.proofs.lemmas.List.Sums.{sum_by-set}
use mathlib.Core.List.{IsPrefix}
use mathlib.Core.Logic.{dite}
use mathlib.Core.Option.{some, some-injective}
use native.Mathlib.Decide.{ℕ_discrete}
use lib.ListN.{get_elem?}
use Rattle.session_gate.specs.declared.known.Made.{Made}
use Rattle.session_gate.specs.declared.known.Known.{Known}
use Rattle.session_gate.specs.History.{calls_by}
use Rattle.session_gate.specs.Known.{parts_of}
use Rattle.session_gate.specs.Rule.{IsOwnOrSpent, Knows, IsLongest}
use Rattle.atomic_table.proofs.Lists.{at_set, set_here, set_else}
use Rattle.session_gate.proofs.Lists.{at_below, get_or_at}
use Rattle.session_gate.proofs.HistoryLemmas.{seen_grows}

module _ {E O : Type 0} where
  -- a seat with a pass is not one that was handed back
  pub not_spent : (views : List (Option (Known E O))) (i j : ℕ) (k : Known E O) → get_elem? views i ≡ some (Some k) → get_elem? views j ≡ some None → j ≢ i
  not_spent views i j k live spent e =
      let a : some (Some k) ≡ some None = sym live ∙ (ap (get_elem? views) (sym e) ∙ spent) in absurd (cc)

  -- a seat with no turn is not the holder
  pub not_holder : (views : List (Option (Known E O))) (i holder : ℕ) (k l : Known E O) → get_elem? views i ≡ some (Some k) → k.turn ≡ false → get_elem? views holder ≡ some (Some l) → l.turn ≡ true → holder ≢ i
  not_holder views i holder k l at rest there turns e =
      let a : some (Some k) ≡ some (Some l) = sym at ∙ (ap (get_elem? views) (sym e) ∙ there) in
      let b : Some k ≡ Some l = some-injective (Some k) (Some l) a in
      let c : k ≡ l = cc in
      let d : false ≡ true = sym rest ∙ (ap (λ (z : Known E O). z.turn) c ∙ turns) in absurd (cc)

  -- one of whom another seat was told is not this one, and is asked there still
  pub asked_apart : (views : List (Option (Known E O))) (id j n : ℕ) (k : Known E O) → get_elem? views id ≡ some (Some k) → j ≢ id → IsOwnOrSpent views j n → n ≢ id
  asked_apart views id j n k at other asked e = ⊎_elim (λ (f : n ≡ j). other (sym f ∙ e)) (λ (f : get_elem? views n ≡ some None). not_spent views id n k at f e) asked

  pub asked_set : (views : List (Option (Known E O))) (id j n : ℕ) (k : Known E O) (w : Option (Known E O)) → get_elem? views id ≡ some (Some k) → IsOwnOrSpent views j n → IsOwnOrSpent (set views id w) j n
  asked_set views id j n k w at asked = ⊎_elim (λ (f : n ≡ j). inl f) (λ (f : get_elem? views n ≡ some None). inr (set_else views id n w (not_spent views id n k at f) ∙ f)) asked

  pub knows_other : (o : O) (passes : ℕ) (base log log' : List (Made E)) (held : Bool) (holder : ℕ) (held' : Bool) (holder' : ℕ) (views : List (Option (Known E O))) (id : ℕ) (k w : Known E O) (j : ℕ) (k2 : Known E O)
      → get_elem? views id ≡ some (Some k) → j ≢ id → IsPrefix log log' → ((n : ℕ) → n ≢ id → calls_by n log' ≡ calls_by n log)
      → (k2.turn ≡ true → (held' ≡ true) × (j ≡ holder') × (k2.seen ≡ log') × (k2.told ≡ []))
      → Knows o passes base log held holder views j k2 → Knows o passes base log' held' holder' (set views id (Some w)) j k2
  knows_other o passes base log log' held holder held' holder' views id k w j k2 at other more same turn r = record {
    number = r.number;
    opening = r.opening;
    seen = seen_grows base log log' k2.number k2.seen more (same k2.number (λ e. other (sym r.number ∙ e))) r.seen;
    turn = turn;
    parts = r.parts;
    room = λ z. let h = r.room z in let l = length-set views id (Some w) in (omega arith, omega arith);
    told = λ i t e. let h = r.told i t e in
        (asked_set views id j t.number k (Some w) at h.0, seen_grows base log log' t.number t.seen more (same t.number (asked_apart views id j t.number k at other h.0)) h.1);
  }

  pub each_after : (P : ℕ → (Known E O) → Type 0) (views : List (Option (Known E O))) (id : ℕ) (w : Known E O) → P id w → ((j : ℕ) (k2 : Known E O) → j ≢ id → get_elem? views j ≡ some (Some k2) → P j k2)
      → (j : ℕ) (k2 : Known E O) → get_elem? (set views id (Some w)) j ≡ some (Some k2) → P j k2
  each_after P views id w mine others j k2 e = ⊎_elim (λ (t : (j ≡ id) × (Some w ≡ Some k2)). let same : w ≡ k2 = (let h = t.1 in cc) in subst (λ (z : ℕ × (Known E O)). P z.0 z.1) (λ i. (sym t.0 i, same i)) mine)
      (λ (t : (j ≢ id) × (get_elem? views j ≡ some (Some k2))). others j k2 t.0 t.1) (at_set views id j (Some w) (Some k2) e)

  pub parts_same : (views : List (Option (Known E O))) (id : ℕ) (k w : Known E O) → get_elem? views id ≡ some (Some k) → w.parts ≡ k.parts → sum_by parts_of (set views id (Some w)) ≡ sum_by parts_of views
  parts_same views id k w at same =
      let e = sum_by-set parts_of views id (Some w) None (at_below views id (Some k) at) in
      let was : parts_of (get_or views id None) ≡ k.parts = ap parts_of (get_or_at views id (Some k) None at) in omega arith

  -- whoever has seen the whole history is there still where a seat comes to know something else
  pub longest_set : (log : List (Made E)) (views : List (Option (Known E O))) (id : ℕ) (k w : Known E O) → get_elem? views id ≡ some (Some k) → (k.seen ≡ log → w.seen ≡ log) → (j : ℕ) (l : Known E O) → IsLongest log views j l
      → (j' : ℕ) × (l' : Known E O) × IsLongest log (set views id (Some w)) j' l'
  longest_set log views id k w at same j l r = dite (ℕ_discrete j id)
      (λ e. let a : some (Some k) ≡ some (Some l) = sym at ∙ (ap (get_elem? views) (sym e) ∙ r.sits) in
      let b : Some k ≡ Some l = some-injective (Some k) (Some l) a in
      let c : k ≡ l = cc in
      (id, w, record { sits = set_here views id (Some w) (at_below views id (Some k) at); whole = same (ap (λ (z : Known E O). z.seen) c ∙ r.whole) }))
      (λ ne. (j, l, record { sits = set_else views id j (Some w) ne ∙ r.sits; whole = r.whole }))
