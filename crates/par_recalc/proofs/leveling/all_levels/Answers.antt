use Rattle.std.proofs.Common.{ℕ, ◌<◌, ◌≡◌, suc, List, [], ◌∷◌, ◌++◌, map, length, Vec, rules, ap, sym, subst, ◌∙◌, arith}
use Rattle.std.specs.Prelude.{slice_get}
use Rattle.std.specs.Global.{Global}
use Rattle.std.proofs.lemmas.List.{length-append, length-map, map-append}
use Rattle.par_recalc.specs.Levels.{is_below, marked_anew, marks, places_of}
use Rattle.par_recalc.specs.Numbers.{numbers_named, own_number}
use Rattle.par_recalc.proofs.RoundLemmas.{empty_list, next_round, round_smaller, same_size, snoc_all, unmarked}
use Rattle.par_recalc.proofs.leveling.all_levels.Goals as goal

pub round-requires-clause-own : goal.round-requires-clause-own
round-requires-clause-own c =
    let fs = c.args.formulas.now in
    let k = length c.rounds.levels.items in
    ap length (c.deref.ensures.value ∙ c.rounds.invariant.marked) ∙ length-map fs (is_below fs k)
    ∙ sym (ap length c.requires.own ∙ length-map fs (own_number fs))

pub round-requires-clause-all : goal.round-requires-clause-all
round-requires-clause-all c =
    let fs = c.args.formulas.now in
    let k = length c.rounds.levels.items in
    ap length c.requires.all ∙ length-map fs (numbers_named fs)
    ∙ sym (ap length (c.deref.ensures.value ∙ c.rounds.invariant.marked) ∙ length-map fs (is_below fs k))

pub marked_anew-requires : goal.marked_anew-requires
marked_anew-requires c =
    let fs = c.args.formulas.now in
    let k = length c.rounds.levels.items in
    let before = c.deref.ensures.value ∙ c.rounds.invariant.marked in
    let after = next_round fs k c.args.own.now c.args.all.now _ _ c.requires.own c.requires.all before c.in_ok-after.ensures in
    same_size fs k _ _ (c.deref-in-rounds.ensures.value ∙ c.rounds.invariant.marked) (c.deref-in-rounds-2.ensures.value ∙ after)

pub returns-then-is_empty : goal.returns-then-is_empty
returns-then-is_empty c =
    let fs = c.args.formulas.now in
    let k = length c.rounds.levels.items in
    let before = c.rounds.invariant.marked in
    let after = next_round fs k c.args.own.now c.args.all.now _ _ c.requires.own c.requires.all (c.deref.ensures.value ∙ before) c.in_ok-after.ensures in
    let places = c.in_ok-places.ensures ∙ ap (λ bs. marked_anew 0 bs c.deref-in-rounds-2.result.now) (c.deref-in-rounds.ensures.value ∙ before)
    ∙ ap (marked_anew 0 (marks fs k)) (c.deref-in-rounds-2.ensures.value ∙ after) in
    let zero : length c.in_ok-places.places.items ≡ 0 = search rules in (
      c.rounds.invariant.found,
      ap (places_of fs) (length-map c.rounds.levels.items (λ (v : Vec ℕ Global). v.items)) ∙ sym places ∙ empty_list c.in_ok-places.places.items zero,
    )

pub rounds-smaller : goal.rounds-smaller
rounds-smaller c =
    let fs = c.args.formulas.now in
    let k = length c.rounds.levels.items in
    let before = c.rounds.invariant.marked in
    let after = next_round fs k c.args.own.now c.args.all.now _ _ c.requires.own c.requires.all (c.deref.ensures.value ∙ before) c.in_ok-after.ensures in
    let places = c.in_ok-places.ensures ∙ ap (λ bs. marked_anew 0 bs c.deref-in-rounds-2.result.now) (c.deref-in-rounds.ensures.value ∙ before)
    ∙ ap (marked_anew 0 (marks fs k)) (c.deref-in-rounds-2.ensures.value ∙ after) in
    let some : 0 < length c.in_ok-places.places.items = search rules in
    subst (λ m. unmarked m < unmarked c.rounds.before.items) (sym after)
    (subst (λ m. unmarked (marks fs (suc k)) < unmarked m) (sym before) (round_smaller fs k (subst (λ l. 0 < length l) places some)))

pub rounds-preserved : goal.rounds-preserved
rounds-preserved c =
    let fs = c.args.formulas.now in
    let k = length c.rounds.levels.items in
    let before = c.rounds.invariant.marked in
    let after = next_round fs k c.args.own.now c.args.all.now _ _ c.requires.own c.requires.all (c.deref.ensures.value ∙ before) c.in_ok-after.ensures in
    let places = c.in_ok-places.ensures ∙ ap (λ bs. marked_anew 0 bs c.deref-in-rounds-2.result.now) (c.deref-in-rounds.ensures.value ∙ before)
    ∙ ap (marked_anew 0 (marks fs k)) (c.deref-in-rounds-2.ensures.value ∙ after) in
    let items = λ (v : Vec ℕ Global). v.items in
    let pushed = c.in_ok-push.ensures.items in
    let size = length-append c.rounds.levels.items (c.in_ok-places.places ∷ []) in
    let long : suc k ≡ length c.push.new.self.items = omega (arith, ap length pushed, size) in
    let shape = ap (map items) pushed ∙ map-append items c.rounds.levels.items (c.in_ok-places.places ∷ []) in
    record {
      marked = after ∙ ap (marks fs) long;
      found = λ j ps e. snoc_all (λ n qs. qs ≡ places_of fs n) (map items c.rounds.levels.items) c.in_ok-places.places.items c.rounds.invariant.found
          (places ∙ ap (places_of fs) (sym (length-map c.rounds.levels.items items))) j ps (sym (ap (λ l. slice_get l j) shape) ∙ e);
    }
