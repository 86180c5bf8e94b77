use Rattle.std.proofs.Common.{rules, arith, refl, subst, suc, ◌≡◌, ◌<◌, ◌≤◌, ◌+◌, length, get_or}
use Rattle.recalc.specs.Kept.{held_in}
use Rattle.affected_values.proofs.TradedLemmas.{IsMidway, ahead_first, ahead_second, midway_same, midway_traded}
use Rattle.recalc.proofs.RowPlaces.{stands}
use Rattle.affected_values.proofs.relaying.trade_shared.Goals as goal

pub walking-preserved-then-row-other_row : goal.walking-preserved-then-row-other_row
walking-preserved-then-row-other_row c =
    let w = c.walking in
    let rows = c.args.rows.now in
    let others = c.args.other_rows.now in
    let in_rows : w.index < length rows = search rules in
    let in_others : w.other < length others = search rules in
    let lt : get_or rows w.index 0 < get_or others w.other 0 = search rules in
    let more : suc w.index ≡ w.index + 1 = omega arith in
    record {
      places = w.invariant.places;
      other_places = w.invariant.other_places;
      index = omega (arith, in_rows);
      other = w.invariant.other;
      midway = subst (λ n. IsMidway rows n others w.other (held_in rows c.args.values.now.items) (held_in others c.args.others.now.items) (held_in rows w.values.items) (held_in others w.others.items)) more
          (midway_same rows w.index (suc w.index) others w.other w.other _ _ _ _
          (ahead_first rows w.index others w.other (get_or rows w.index 0) (get_or others w.other 0) c.requires.ascending c.requires.other_ascending (stands rows w.index (get_or rows w.index 0) in_rows refl) (stands others w.other (get_or others w.other 0) in_others refl) lt)
          w.invariant.midway);
    }

pub walking-preserved-then-other_row-row : goal.walking-preserved-then-other_row-row
walking-preserved-then-other_row-row c =
    let w = c.walking in
    let rows = c.args.rows.now in
    let others = c.args.other_rows.now in
    let in_rows : w.index < length rows = search rules in
    let in_others : w.other < length others = search rules in
    let lt : get_or others w.other 0 < get_or rows w.index 0 = search rules in
    let more : suc w.other ≡ w.other + 1 = omega arith in
    record {
      places = w.invariant.places;
      other_places = w.invariant.other_places;
      index = w.invariant.index;
      other = omega (arith, in_others);
      midway = subst (λ n. IsMidway rows w.index others n (held_in rows c.args.values.now.items) (held_in others c.args.others.now.items) (held_in rows w.values.items) (held_in others w.others.items)) more
          (midway_same rows w.index w.index others w.other (suc w.other) _ _ _ _
          (ahead_second rows w.index others w.other (get_or rows w.index 0) (get_or others w.other 0) c.requires.ascending c.requires.other_ascending (stands rows w.index (get_or rows w.index 0) in_rows refl) (stands others w.other (get_or others w.other 0) in_others refl) lt)
          w.invariant.midway);
    }

pub walking-preserved : goal.walking-preserved
walking-preserved c =
    let w = c.walking in
    let rows = c.args.rows.now in
    let others = c.args.other_rows.now in
    let in_rows : w.index < length rows = search rules in
    let in_others : w.other < length others = search rules in
    let one : get_or others w.other 0 ≤ get_or rows w.index 0 = search rules in
    let two : get_or rows w.index 0 ≤ get_or others w.other 0 = search rules in
    let same : get_or rows w.index 0 ≡ get_or others w.other 0 = omega (arith, one, two) in
    let more : suc w.index ≡ w.index + 1 = omega arith in
    let other_more : suc w.other ≡ w.other + 1 = omega arith in
    let places : length c.trade.new.values.items ≡ length rows = search rules in
    let other_places : length c.trade.new.others.items ≡ length others = search rules in
    record {
      places = places;
      other_places = other_places;
      index = omega (arith, in_rows);
      other = omega (arith, in_others);
      midway = subst (λ n. IsMidway rows n others (w.other + 1) (held_in rows c.args.values.now.items) (held_in others c.args.others.now.items) (held_in rows c.trade.new.values.items) (held_in others c.trade.new.others.items)) more
          (subst (λ n. IsMidway rows (suc w.index) others n (held_in rows c.args.values.now.items) (held_in others c.args.others.now.items) (held_in rows c.trade.new.values.items) (held_in others c.trade.new.others.items)) other_more
          (midway_traded rows w.index others w.other (get_or rows w.index 0) (get_or others w.other 0) c.args.values.now.items c.args.others.now.items w.values.items w.others.items c.trade.new.values.items c.trade.new.others.items
          c.requires.ascending c.requires.other_ascending (stands rows w.index (get_or rows w.index 0) in_rows refl) (stands others w.other (get_or others w.other 0) in_others refl) same c.trade.ensures w.invariant.midway));
    }
