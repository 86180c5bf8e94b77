-- What the ends of lanes come to.
use Rattle.std.proofs.Common.{◌≡◌, ℕ, zero, suc, ◌+◌, ◌≤◌, ◌&&◌, Bool, true, false, List, [], ◌∷◌, length, map, slice_get, refl, sym, ap, ◌∙◌, subst, arith}
use Rattle.std.specs.List.{AllByRecursion, list_all, sum_by}
use Rattle.std.proofs.lemmas.List.Sums.{sum_by-cons}
use Rattle.io_edges.specs.Ports.{PortState, handed_bound}
use Rattle.grist_lanes.specs.declared.lanes.LaneEnd.{LaneEnd}
use Rattle.grist_lanes.specs.Handed.{EndedBy, all_handed, handed_by}
use Rattle.grist_lanes.specs.LaneEnds.{EndsLane}
use Rattle.grist_lanes.specs.Places.{AtEach}
use Rattle.grist_lanes.specs.Services.{StopsBy}

module _ {Lane Conn : Type 0} (port : Lane → PortState Conn) (end : Lane → LaneEnd) where
  abbrev connections : Lane → ℕ
  connections l = (end l).connections

  abbrev has_ended : Lane → Bool
  has_ended l = (end l).has_ended

  -- in each place the lane ended
  abbrev pub AllEnd : List Lane → List Lane → Type 0
  AllEnd lanes lanes' = AtEach (λ i l l'. EndsLane (end l') (port l) (port l')) lanes lanes'

  pub few_each : (lanes lanes' : List Lane) → length lanes' ≡ length lanes → AllEnd lanes lanes' → AllByRecursion (λ l. connections l ≤ handed_bound) lanes'
  few_each [] [] count ends = tt
  few_each [] (y ∷ ys) count ends = absurd (omega (arith, count))
  few_each (x ∷ xs) [] count ends = tt
  few_each (x ∷ xs) (y ∷ ys) count ends = ((ends 0 x y refl refl).few, few_each xs ys (omega (arith, count)) (λ i l l' at at'. ends (suc i) l l' at at'))

  pub handed_in_all : (lanes lanes' : List Lane) → length lanes' ≡ length lanes → AllEnd lanes lanes' → all_handed (map port lanes') ≡ all_handed (map port lanes) + sum_by connections lanes'
  handed_in_all [] [] count ends = refl
  handed_in_all [] (y ∷ ys) count ends = absurd (omega (arith, count))
  handed_in_all (x ∷ xs) [] count ends = absurd (omega (arith, count))
  handed_in_all (x ∷ xs) (y ∷ ys) count ends =
      let one = (ends 0 x y refl refl).handed in
      let rest = handed_in_all xs ys (omega (arith, count)) (λ i l l' at at'. ends (suc i) l l' at at') in
      omega (arith, one, rest, sum_by-cons handed_by (port y) (map port ys), sum_by-cons handed_by (port x) (map port xs), sum_by-cons connections y ys)

  -- the port of the first lane ended, and the others by this
  behind : (x y : Lane) (xs ys : List Lane) (b : Bool) → StopsBy true (port x) (port y) → EndedBy b (map port xs) (map port ys) → EndedBy b (map port (x ∷ xs)) (map port (y ∷ ys))
  behind x y xs ys true first all = (first.0, all)
  behind x y xs ys false first f = record { place = suc f.place; before = f.before; after = f.after; stood = f.stood; stands = f.stands; rose = f.rose }

  first_by : (x y : Lane) (xs ys : List Lane) (b c : Bool) → StopsBy b (port x) (port y) → EndedBy c (map port xs) (map port ys) → EndedBy (b && c) (map port (x ∷ xs)) (map port (y ∷ ys))
  first_by x y xs ys true c stops rest = behind x y xs ys c stops rest
  first_by x y xs ys false c stops rest = record { place = 0; before = port x; after = port y; stood = refl; stands = refl; rose = stops }

  pub ended_in_all : (lanes lanes' : List Lane) → length lanes' ≡ length lanes → AllEnd lanes lanes' → EndedBy (list_all has_ended lanes') (map port lanes) (map port lanes')
  ended_in_all [] [] count ends = tt
  ended_in_all [] (y ∷ ys) count ends = absurd (omega (arith, count))
  ended_in_all (x ∷ xs) [] count ends = absurd (omega (arith, count))
  ended_in_all (x ∷ xs) (y ∷ ys) count ends =
      first_by x y xs ys (has_ended y) (list_all has_ended ys) (ends 0 x y refl refl).stops (ended_in_all xs ys (omega (arith, count)) (λ i l l' at at'. ends (suc i) l l' at at'))
