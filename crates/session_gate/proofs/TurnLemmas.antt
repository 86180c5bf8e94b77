-- The steps of a call keep the rule: a turn is won or lost, and returned.
use Rattle.std.proofs.Common.{◌≡◌, ◌≢◌, ℕ, ◌+◌, ◌*◌, ◌%◌, ◌<◌, ◌≤◌, eqb, Bool, true, false, List, [], ◌∷◌, ◌++◌, map, length, set, get_or, refl, ap, sym, subst, ◌∙◌, ⊎_elim, arith, length-set, slice_get, Some, None, Option}
use mathlib.Core.List.{IsPrefix}
use mathlib.Core.Option.{some, none}
use mathlib.Core.Option as maybe
use lib.ListN.{get_elem?}
use lib.Seq.{set-get_or}
use Rattle.std.proofs.lemmas.List.{length-map}
use prog.Atomic.{either}
use Rattle.atomic_table.specs.Table.{Act, step, keeps, takes, gives, Valid, stepped, carried_after, rest, Allows}
use Rattle.session_gate.specs.declared.known.Made.{Made}
use Rattle.session_gate.specs.declared.known.Known.{Known}
use Rattle.session_gate.specs.History.{brought, entries_of, calls_by, IsLegal, IsTurn, Leads, made_by, grown}
use Rattle.session_gate.specs.Known.{Sat, GateState, holding, resting}
use Rattle.session_gate.specs.Rule.{IsBelow, word_of, IsSeen, Knows, Stands, Kept}
use Rattle.session_gate.specs.Steps.{Wins, IsWon, wins_or_loses, returns_turn}
use Rattle.atomic_table.proofs.Lists.{set_here, set_again, exchanged}
use Rattle.session_gate.proofs.Lists.{prefix_self, prefix_trans, at_below, nothing_at, snoc_get}
use Rattle.session_gate.proofs.ViewLemmas.{knows_other, each_after, parts_same}
use Rattle.session_gate.proofs.HistoryLemmas.{none_between, grown_same, grown_more, entries_more, calls_other, legal_more}

module _ {M E O : Type 0} where
  -- the machine was put into the slot that the seat holds
  pub slot_in : (k : Known E O) (x : M) (m m' : Sat M E O) → m ≡ (Some k, (0, None) ∷ []) → m' ≡ (m.0, (0, Some x) ∷ rest m.1) → m' ≡ (Some k, (0, Some x) ∷ [])
  slot_in k x m m' is now = now ∙ ap (λ (z : Sat M E O). (z.0, (0, Some x) ∷ rest z.1)) is

module _ {M E O Ev Out : Type 0} (history : M → List E) (opening : M → O) (takes_event : Ev → Type 0) (answers : O → List E → List E → Ev → Out → Type 0) (start : M) (passes : ℕ) where
  abbrev K : Type 0
  K = Known E O

  abbrev St : Type 0
  St = GateState M E O

  abbrev P : Type 0
  P = Sat M E O

  abbrev Rule : St → Type 0
  Rule = Kept history opening takes_event answers start passes

  abbrev base : List (Made E)
  base = map brought (history start)

  -- what a step of the seat id has to show, where the word goes to n
  abbrev Goes : St → ℕ → Sat M E O → (Sat M E O → Type 0) → ℕ → Type 0
  Goes s id me told n = (w : Option K) × (a : Act (Option M)) × Valid s.homes me.1 a × Rule (stepped s 0 n id me.1 w a) × told (w, carried_after me.1 a)

  stays : (s : St) (r : Rule s) (id : ℕ) (k : K) → get_elem? s.views id ≡ some (Some k) → Rule (stepped s 0 (get_or s.words 0 0) id [] (Some k) keeps)
  stays s r id k at = subst (λ (z : List ℕ × List (Option K)). Rule record { words = z.0; homes = s.homes; views = z.1 }) (λ i. (sym (set-get_or s.words 0 0) i, sym (set_again s.views id (Some k) at) i)) r

  won_turn : (s : St) (r : Rule s) (id : ℕ) (k : K) (at : ℕ) (held : Bool) → r.held ≡ held → get_elem? s.views id ≡ some (Some k) → k.told ≡ [] → get_or s.words 0 0 ≡ at → at % 2 ≡ 0
      → Goes s id (Some k, []) (IsWon history opening takes_event answers (Some k, [])) (at + 1)
  won_turn s r id k at true is seat untold here even =
      let word : get_or s.words 0 0 ≡ 2 * length r.log + 1 = ap (λ (ws : List ℕ). get_or ws 0 0) (r.word ∙ ap (λ h. word_of h (length r.log) ∷ []) is) in absurd (omega arith)
  won_turn s r id k at false is seat untold here even =
      let words : s.words ≡ (2 * length r.log) ∷ [] = r.word ∙ ap (λ h. word_of h (length r.log) ∷ []) is in
      let word : get_or s.words 0 0 ≡ 2 * length r.log = ap (λ (ws : List ℕ). get_or ws 0 0) words in
      let home : Stands history opening start r.log false r.holder s = subst (λ h. Stands history opening start r.log h r.holder s) is r.stands in
      let mine = r.each id k seat in
      let between : List (Made E) = mine.seen.prefix.0 in
      let whole : k.seen ++ between ≡ r.log = mine.seen.prefix.1 in
      let w : K = holding k (k.seen ++ between) in
      let m : M = home.0 in (
        Some w,
        takes 0 (Some m),
        ap (λ (hs : List (maybe.Option (Option M))). get_elem? hs 0) home.1,
        record {
          log = r.log;
          held = true;
          holder = id;
          word = ap (λ (ws : List ℕ). set ws 0 (at + 1)) words ∙ ap (λ (n : ℕ). n ∷ []) (omega arith);
          begins = r.begins;
          legal = r.legal;
          stands = (ap (λ (hs : List (maybe.Option (Option M))). set hs 0 none) home.1, (w, set_here s.views id (Some w) (at_below s.views id (Some k) seat), refl));
          each = each_after (Knows (opening start) passes base r.log true id (set s.views id (Some w))) s.views id w
              record {
                number = mine.number;
                opening = mine.opening;
                seen = subst (IsSeen base r.log k.number) (sym whole) record { prefix = prefix_self r.log; begins = r.begins; own = refl };
                turn = λ _. (refl, refl, whole, untold);
                parts = mine.parts;
                room = λ z. let h = mine.room z in let l = length-set s.views id (Some w) in (omega arith, omega arith);
                told = λ i t e. absurd (nothing_at k.told i t untold e);
              }
              (λ j k2 other e. knows_other (opening start) passes base r.log r.log r.held r.holder true id s.views id k w j k2 seat other (prefix_self r.log) (λ n ne. refl)
              (λ turn. let t = (r.each j k2 e).turn turn in let f : false ≡ true = sym is ∙ t.0 in absurd (cc)) (r.each j k2 e));
          longest = (id, w, record { sits = set_here s.views id (Some w) (at_below s.views id (Some k) seat); whole = whole });
          others = λ n le. r.others n (let l = length-set s.views id (Some w) in omega arith);
          few = let l = length-set s.views id (Some w) in let f = r.few in omega arith;
          numbered = λ i x e le. subst (λ (n : ℕ). IsBelow n x.by) (sym (length-set s.views id (Some w))) (r.numbered i x e le);
          parts = parts_same s.views id k w seat refl ∙ r.parts;
        },
        λ k2 e. let same : k ≡ k2 = cc in let out : P = (Some w, (0, Some m) ∷ []) in
            subst (λ (z : K). Wins history opening takes_event answers z (Some k, []) out) same record {
              between = between;
              machine = m;
              now = refl;
              apart = none_between k.number r.log k.seen between whole mine.seen.own;
              history_is = home.2 ∙ ap entries_of (sym whole);
              opening_is = home.3 ∙ sym mine.opening;
              legal = subst (λ (z : O × List (Made E)). IsLegal takes_event answers z.0 z.1) (λ i. (sym mine.opening i, sym whole i)) r.legal;
            },
      )

  pub wins_allowed : (slots id at : ℕ) (me : P) (k : K) → at % 2 ≡ 0 → me ≡ (Some k, []) → k.told ≡ []
      → Allows Rule slots id me 0 (λ n. either (eqb n at) (at + 1) n) (wins_or_loses history opening takes_event answers (step slots 0 at (at + 1) none) me)
  wins_allowed slots id at me k even is untold = subst (λ (z : P). Allows Rule slots id z 0 (λ n. either (eqb n at) (at + 1) n) (wins_or_loses history opening takes_event answers (step slots 0 at (at + 1) none) z)) (sym is) (λ s r wide seat small.
      let me0 : P = (Some k, []) in
      let n : ℕ = get_or s.words 0 0 in
      exchanged n at (at + 1) (Goes s id me0 (wins_or_loses history opening takes_event answers (step slots 0 at (at + 1) none) me0 n))
      (λ hit. let g = won_turn s r id k at r.held refl seat untold hit even in (g.0, g.1, g.2, g.3, ((λ _. g.4), λ miss. absurd (miss hit))))
      (λ miss. (Some k, keeps, tt, stays s r id k seat, ((λ hit. absurd (miss hit)), λ _. refl))))

  -- the machine y comes home with the history of the log', and the seat id gives the turn up
  comes_home : (s : St) (r : Rule s) (id : ℕ) (k : K) (y : M) (new : ℕ) (log' : List (Made E)) → get_elem? s.views id ≡ some (Some k) → k.turn ≡ true
      → IsPrefix r.log log' → ((n : ℕ) → n ≢ id → calls_by n log' ≡ calls_by n r.log) → IsLegal takes_event answers (opening start) log' → ((i : ℕ) (x : Made E) → slice_get log' i ≡ Some x → length (history start) ≤ i → IsBelow (length s.views) x.by)
      → history y ≡ entries_of log' → opening y ≡ opening start → new ≡ 2 * length log'
      → Rule (stepped s 0 new id ((0, Some y) ∷ []) (Some (resting k log')) gives)
  comes_home s r id k y new log' seat turn more same legal numbered hist opens word =
      let mine = r.each id k seat in
      let held = mine.turn turn in
      let w : K = resting k log' in
      let words : s.words ≡ (2 * length r.log + 1) ∷ [] = r.word ∙ ap (λ h. word_of h (length r.log) ∷ []) held.0 in
      let out : Stands history opening start r.log true r.holder s = subst (λ h. Stands history opening start r.log h r.holder s) held.0 r.stands in
      let number : k.number ≡ id = mine.number in
      let inside : id < length s.views = at_below s.views id (Some k) seat in record {
        log = log';
        held = false;
        holder = 0;
        word = ap (λ (ws : List ℕ). set ws 0 new) words ∙ ap (λ (n : ℕ). n ∷ []) word;
        begins = prefix_trans base r.log log' r.begins more;
        legal = legal;
        stands = (y, ap (λ (hs : List (maybe.Option (Option M))). set hs 0 (some (Some y))) out.0, hist, opens);
        each = each_after (Knows (opening start) passes base log' false 0 (set s.views id (Some w))) s.views id w
            record {
              number = number;
              opening = mine.opening;
              seen = record { prefix = prefix_self log'; begins = prefix_trans base r.log log' r.begins more; own = refl };
              turn = λ f. absurd (cc);
              parts = mine.parts;
              room = λ z. let h = mine.room z in let l = length-set s.views id (Some w) in (omega arith, omega arith);
              told = λ i t e. absurd (nothing_at k.told i t held.3 e);
            }
            (λ j k2 other e. knows_other (opening start) passes base r.log log' r.held r.holder false 0 s.views id k w j k2 seat other more same
            (λ turn2. let t = (r.each j k2 e).turn turn2 in absurd (other (t.1 ∙ sym held.1))) (r.each j k2 e));
        longest = (id, w, record { sits = set_here s.views id (Some w) inside; whole = refl });
        others = λ n le. let l = length-set s.views id (Some w) in same n (λ e. omega arith) ∙ r.others n (omega arith);
        few = let l = length-set s.views id (Some w) in let f = r.few in omega arith;
        numbered = λ i x e le. subst (λ (n : ℕ). IsBelow n x.by) (sym (length-set s.views id (Some w))) (numbered i x e le);
        parts = parts_same s.views id k w seat refl ∙ r.parts;
      }

  home_again : (s : St) (r : Rule s) (id : ℕ) (k : K) (y : M) (new : ℕ) → get_elem? s.views id ≡ some (Some k) → k.turn ≡ true → opening y ≡ k.opening → new ≡ 2 * length (history y) → IsTurn takes_event answers k.opening (entries_of k.seen) (history y)
      → Rule (stepped s 0 new id ((0, Some y) ∷ []) (Some (resting k (grown k.number k.seen (history y)))) gives)
  home_again s r id k y new seat turn opens word turns =
      let mine = r.each id k seat in
      let held = mine.turn turn in
      let seen : k.seen ≡ r.log = held.2 in
      let opens' : opening y ≡ opening start = opens ∙ mine.opening in
      let into : List (Made E) → Type 0 = λ z. Rule (stepped s 0 new id ((0, Some y) ∷ []) (Some (resting k z)) gives) in
      ⊎_elim
      (λ (e : history y ≡ entries_of k.seen).
      let all : grown k.number k.seen (history y) ≡ r.log = grown_same k.number k.seen (history y) e ∙ seen in
      let hist : history y ≡ entries_of r.log = e ∙ ap entries_of seen in
      let count : length (history y) ≡ length r.log = ap length hist ∙ length-map r.log (λ (x : Made E). x.entry) in
      subst into (sym all) (comes_home s r id k y new r.log seat turn (prefix_self r.log) (λ n ne. refl) r.legal r.numbered hist opens' (word ∙ ap (λ (n : ℕ). 2 * n) count)))
      (λ (t : (e : E) × (history y ≡ entries_of k.seen ++ e ∷ []) × Leads takes_event answers k.opening (entries_of k.seen) (history y)).
      let x : E = t.0 in
      let log' : List (Made E) = r.log ++ made_by k.number x ∷ [] in
      let all : grown k.number k.seen (history y) ≡ log' = grown_more k.number k.seen (history y) x t.1 ∙ ap (λ (z : List (Made E)). z ++ made_by k.number x ∷ []) seen in
      let hist : history y ≡ entries_of log' = t.1 ∙ (ap (λ (z : List (Made E)). entries_of z ++ x ∷ []) seen ∙ sym (entries_more k.number r.log x)) in
      let count : length (history y) ≡ length log' = ap length hist ∙ length-map log' (λ (x : Made E). x.entry) in
      let leads : Leads takes_event answers (opening start) (entries_of r.log) (entries_of log') =
      subst (λ (z : O × List E × List E). Leads takes_event answers z.0 z.1 z.2) (λ i. (mine.opening i, ap entries_of seen i, hist i)) t.2 in
      subst into (sym all) (comes_home s r id k y new log' seat turn (made_by k.number x ∷ [], refl) (λ n ne. calls_other n k.number r.log x (λ e. ne (e ∙ mine.number)))
      (legal_more takes_event answers (opening start) r.log (made_by k.number x) r.legal leads)
      (λ i z e le. ⊎_elim (λ (f : slice_get r.log i ≡ Some z). r.numbered i z f le)
      (λ (f : (i ≡ length r.log) × (made_by k.number x ≡ z)). subst (λ (q : Made E). IsBelow (length s.views) q.by) f.1 (let b = at_below s.views id (Some k) seat in let n = mine.number in omega arith)) (snoc_get r.log (made_by k.number x) i z e))
      hist opens' (word ∙ ap (λ (n : ℕ). 2 * n) count)))
      turns

  pub returns_allowed : (slots id new : ℕ) (me : P) (k : K) (y : M) → me ≡ (Some k, (0, Some y) ∷ []) → k.turn ≡ true → opening y ≡ k.opening → IsTurn takes_event answers k.opening (entries_of k.seen) (history y) → new ≡ 2 * length (history y)
      → Allows Rule slots id me 0 (λ _. new) (returns_turn history (step slots 0 new 0 none) me)
  returns_allowed slots id new me k y is turn opens turns word = subst (λ (z : P). Allows Rule slots id z 0 (λ _. new) (returns_turn history (step slots 0 new 0 none) z)) (sym is) (λ s r wide seat small. (
    Some (resting k (grown k.number k.seen (history y))),
    gives,
    tt,
    home_again s r id k y new seat turn opens word turns,
    λ k2 y2 e.
        let a : Some k ≡ Some k2 = ap (λ (z : P). z.0) e in
        let p : ℕ × Option M = (0, Some y) in
        let p2 : ℕ × Option M = (0, Some y2) in
        let b : p ∷ [] ≡ p2 ∷ [] = ap (λ (z : P). z.1) e in
        let c : p ≡ p2 = cc in
        let d : Some y ≡ Some y2 = ap (λ (z : ℕ × Option M). z.1) c in
        let same_k : k ≡ k2 = cc in
        let same_y : y ≡ y2 = cc in
        λ i. (Some (resting (same_k i) (grown (same_k i).number (same_k i).seen (history (same_y i)))), []),
  ))
