-- What is seen after changes of places, and the steps of walks over cells.
use Rattle.std.proofs.Common.{◌≡◌, ◌∙◌, ℕ, ◌+◌, ◌<◌, ◌≤◌, suc, Bool, true, false, cond, ◌||◌, List, [], ◌∷◌, ◌++◌, take, drop, length, get_or, Option, Some, None, IsSome, refl, sym, ap, subst, arith, add-one, drop-cons, append_assoc, append-nil, length-append, drop_of_length-le}
use Rattle.std.proofs.Math.Seq.{drop-append_seam}
use Rattle.std.proofs.lemmas.List.{take_all, take_more}
use Rattle.std.proofs.lemmas.List.Elements.{All-more, All-weaker}
use Rattle.std.specs.List.{All, list_any}
use Rattle.std.specs.Option.{unwrap_or}
use mathlib.Core.Path.{fun_ext}
use Rattle.cell_types.specs.declared.cell.CellId.{CellId}
use Rattle.cell_types.specs.declared.value.CellValue.{CellValue}
use Rattle.cell_types.specs.declared.value.CellValue.TheVariants.{Null}
use Rattle.shot_cells.specs.Places.{ByCell, HasPlace, MakesRoom, Places, RoomFor, is_cell, place_at, seen_at, with_all, with_each, with_one}
use Rattle.shot_cells.proofs.PlaceLemmas.{room_same}

-- ---- room

-- room that is made changes nothing that is seen
pub seen_room : (old new : Places) → MakesRoom (place_at old) (place_at new) → seen_at new ≡ seen_at old
seen_room old new room = fun_ext (λ t. fun_ext (λ k. fun_ext (λ r. by (place_at old t k r) (place_at new t k r) (room t k r))))
  where
    by : (o p : Option CellValue) → RoomFor o p → unwrap_or p Null ≡ unwrap_or o Null
    by None p is = is
    by (Some v) p is = ap (λ q. unwrap_or q Null) is

room_trans : (o p q : Option CellValue) → RoomFor o p → RoomFor p q → RoomFor o q
room_trans None None q a b = b
room_trans None (Some v) q a b = ap (λ x. unwrap_or x Null) b ∙ a
room_trans (Some v) p q a b = subst (λ x. RoomFor x q) a b

room_keeps : (o p : Option CellValue) → RoomFor o p → IsSome o → IsSome p
room_keeps None p is some = absurd (cc)
room_keeps (Some v) p is some = subst IsSome (sym is) refl

-- places as those of some cells are being made
pub record IsMaking (old : Places) (cells : List CellId) (i : ℕ) (now : Places) : Type 0 where
  pub room : MakesRoom (place_at old) (place_at now)
  pub placed : All (HasPlace now) (take i cells)

pub making_next : (old : Places) (cells : List CellId) (i : ℕ) (mid new : Places) (c : CellId) → IsMaking old cells i mid → i < length cells → c ≡ get_or cells i c
    → MakesRoom (place_at mid) (place_at new) → HasPlace new c → IsMaking old cells (i + 1) new
making_next old cells i mid new c so_far lt is room there = record {
  room = λ t k r. room_trans (place_at old t k r) (place_at mid t k r) (place_at new t k r) (so_far.room t k r) (room t k r);
  placed =
      All-more (HasPlace new) cells i c lt
      (All-weaker (HasPlace mid) (HasPlace new) (λ d. room_keeps (place_at mid d.table d.column d.row) (place_at new d.table d.column d.row) (room d.table d.column d.row)) (take i cells) so_far.placed)
      (subst (HasPlace new) is there);
}

-- ---- values

-- a value that is set is seen
pub seen_one : (old new : Places) (c : CellId) (v : CellValue) → place_at new ≡ with_one c (Some v) (place_at old) → seen_at new ≡ with_one c v (seen_at old)
seen_one old new c v is = fun_ext (λ t. fun_ext (λ k. fun_ext (λ r. ap (λ (f : ByCell (Option CellValue)). unwrap_or (f t k r) Null) is ∙ by (is_cell c t k r) (place_at old t k r))))
  where
    by : (b : Bool) (o : Option CellValue) → unwrap_or (cond b (Some v) o) Null ≡ cond b v (unwrap_or o Null)
    by true o = refl
    by false o = refl

-- and no place is lost
one_keeps : (old new : Places) (c : CellId) (v : CellValue) → place_at new ≡ with_one c (Some v) (place_at old) → (d : CellId) → HasPlace old d → HasPlace new d
one_keeps old new c v is d h = subst (λ (f : ByCell (Option CellValue)). IsSome (f d.table d.column d.row)) (sym is) (by (is_cell c d.table d.column d.row) (place_at old d.table d.column d.row) h)
  where
    by : (b : Bool) (o : Option CellValue) → IsSome o → IsSome (cond b (Some v) o)
    by true o h = refl
    by false o h = h

-- values as they are being set, from the last one on
pub record IsSetting (old : Places) (cells : List CellId) (values : List CellValue) (left : List CellValue) (now : Places) : Type 0 where
  pub fits : length left ≤ length cells
  pub front : values ≡ left ++ drop (length left) values
  pub seen : seen_at now ≡ with_all (drop (length left) cells) (drop (length left) values) (seen_at old)
  pub keeps : (d : CellId) → HasPlace old d → HasPlace now d

pub setting_starts : (old : Places) (cells : List CellId) (values : List CellValue) → length values ≡ length cells → IsSetting old cells values values old
setting_starts old cells values even = record {
  fits = omega arith;
  front = sym (ap (λ l. values ++ l) (drop_of_length-le values (omega arith)) ∙ append-nil values);
  seen = sym (ap (λ cs. with_all cs (drop (length values) values) (seen_at old)) (drop_of_length-le cells {i = length values} (omega arith)));
  keeps = λ d h. h;
}

module _ (old : Places) (cells : List CellId) (values left less : List CellValue) (value : CellValue) (mid : Places) (c : CellId)
    (so_far : IsSetting old cells values left mid) (taken : left ≡ less ++ value ∷ []) (at : length less < length cells → c ≡ get_or cells (length less) c) where
  longer : length left ≡ length less + 1
  longer = ap length taken ∙ length-append less (value ∷ [])

  setting_fits : length less < length cells
  setting_fits = omega (arith, longer, so_far.fits)

  split : values ≡ less ++ (value ∷ drop (length left) values)
  split = so_far.front ∙ ap (λ l. l ++ drop (length left) values) taken ∙ append_assoc less (value ∷ []) (drop (length left) values)

  behind : drop (length less) values ≡ value ∷ drop (length left) values
  behind = ap (drop (length less)) split ∙ drop-append_seam less (value ∷ drop (length left) values)

  behind_cell : drop (length less) cells ≡ c ∷ drop (length left) cells
  behind_cell =
      drop-cons cells (length less) c setting_fits ∙ ap (λ x. x ∷ drop (suc (length less)) cells) (sym (at setting_fits))
      ∙ ap (λ n. c ∷ drop n cells) (sym (longer ∙ add-one (length less)))

  pub setting_next : (new : Places) → place_at new ≡ with_one c (Some value) (place_at mid) → IsSetting old cells values less new
  setting_next new is = record {
    fits = omega (arith, setting_fits);
    front = split ∙ ap (λ l. less ++ l) (sym behind);
    seen =
        seen_one mid new c value is ∙ ap (with_one c value) so_far.seen
        ∙ ap (λ cs. with_all cs (value ∷ drop (length left) values) (seen_at old)) (sym behind_cell)
        ∙ ap (λ vs. with_all (drop (length less) cells) vs (seen_at old)) (sym behind);
    keeps = λ d h. one_keeps mid new c value is d (so_far.keeps d h);
  }

-- ---- places taken away

-- what is seen after places are taken away
pub seen_each : (old new : Places) (cells : List CellId) → place_at new ≡ with_each cells None (place_at old) → seen_at new ≡ with_each cells Null (seen_at old)
seen_each old new cells is = fun_ext (λ t. fun_ext (λ k. fun_ext (λ r. ap (λ (f : ByCell (Option CellValue)). unwrap_or (f t k r) Null) is ∙ by (list_any (λ c. is_cell c t k r) cells) (place_at old t k r))))
  where
    by : (b : Bool) (o : Option CellValue) → unwrap_or (cond b None o) Null ≡ cond b Null (unwrap_or o Null)
    by true o = refl
    by false o = refl

each_more : {X : Type 0} (cells : List CellId) (c : CellId) (x : X) (f : ByCell X) → with_one c x (with_each cells x f) ≡ with_each (cells ++ c ∷ []) x f
each_more {X} cells c x f = fun_ext (λ t. fun_ext (λ k. fun_ext (λ r. by t k r cells)))
  where
    both : (b : Bool) → cond b x x ≡ x
    both true = refl
    both false = refl

    last : (b : Bool) (y : X) → cond b x y ≡ cond (b || false) x y
    last true y = refl
    last false y = refl

    by : (t k : List ℕ) (r : ℕ) (ds : List CellId)
        → cond (is_cell c t k r) x (cond (list_any (λ d. is_cell d t k r) ds) x (f t k r)) ≡ cond (list_any (λ d. is_cell d t k r) (ds ++ c ∷ [])) x (f t k r)
    by t k r [] = last (is_cell c t k r) (f t k r)
    by t k r (d ∷ ds) =
        elim (is_cell d t k r) as (λ b. cond (is_cell c t k r) x (cond (b || list_any (λ d. is_cell d t k r) ds) x (f t k r)) ≡ cond (b || list_any (λ d. is_cell d t k r) (ds ++ c ∷ [])) x (f t k r)) [
          | true ↦ both (is_cell c t k r)
          | false ↦ by t k r ds
        ]

pub taking_next : (old : Places) (cells : List CellId) (i : ℕ) (mid new : Places) (c : CellId) → place_at mid ≡ with_each (take i cells) None (place_at old) → i < length cells → c ≡ get_or cells i c
    → place_at new ≡ with_one c None (place_at mid) → place_at new ≡ with_each (take (i + 1) cells) None (place_at old)
taking_next old cells i mid new c so_far lt at is =
    is ∙ ap (with_one c None) so_far ∙ each_more (take i cells) c None (place_at old)
    ∙ ap (λ ds. with_each ds None (place_at old)) (sym (take_more cells i c lt ∙ ap (λ d. take i cells ++ d ∷ []) (sym at)))

-- ---- where walks start and end

pub making_starts : (old : Places) (cells : List CellId) → IsMaking old cells 0 old
making_starts old cells = record {
  room = λ t k r. room_same (place_at old t k r);
  placed = λ k d lt. absurd (omega (arith, lt));
}

pub making_ends : (old : Places) (cells : List CellId) (i : ℕ) (now : Places) → IsMaking old cells i now → length cells ≤ i → All (HasPlace now) cells
making_ends old cells i now so_far le = subst (All (HasPlace now)) (take_all i cells le) so_far.placed

-- where the next cell gets none
pub making_stops : (old : Places) (cells : List CellId) (i : ℕ) (mid new : Places) → IsMaking old cells i mid → MakesRoom (place_at mid) (place_at new) → MakesRoom (place_at old) (place_at new)
making_stops old cells i mid new so_far room = λ t k r. room_trans (place_at old t k r) (place_at mid t k r) (place_at new t k r) (so_far.room t k r) (room t k r)
