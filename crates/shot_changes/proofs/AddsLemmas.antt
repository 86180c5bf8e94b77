-- Cells noted one after another.
use Rattle.std.proofs.Common.{◌≡◌, ◌∙◌, ℕ, zero, suc, ◌+◌, ◌<◌, ◌≤◌, Bool, not, List, [], ◌∷◌, ◌++◌, map, filter, take, length, get_or, slice_get, Some, None, sym, ap, subst, arith}
use Rattle.std.proofs.lemmas.Grind.{flat_map-append}
use Rattle.std.proofs.lemmas.List.{append-nil, append_assoc, map-append, take_all, take_more}
use Rattle.std.proofs.lemmas.List.Elements.{filter-append}
use Rattle.std.proofs.lemmas.Option.{get_or_from_slice_get, slice_get_within}
use Rattle.std.specs.List.{flat_map}
use Rattle.cell_types.specs.declared.cell.CellId.{CellId}
use Rattle.doc_model.specs.Document.{Document}
use Rattle.shot_cells.specs.declared.changes.CellChanges.{CellChanges}
use Rattle.shot_changes.specs.NotedCells.{Adds, AreChanges, is_there, value_in}

module _ (d : Document) where
  joined : {X : Type 0} (old mid new xs ys zs : List X) → mid ≡ old ++ xs → new ≡ mid ++ ys → xs ++ ys ≡ zs → new ≡ old ++ zs
  joined old mid new xs ys zs a b e = b ∙ ap (λ l. l ++ ys) a ∙ append_assoc old xs ys ∙ ap (λ l. old ++ l) e

  -- cells, and then more
  pub adds_more : (xs ys : List CellId) (old mid new : CellChanges) → Adds d xs old mid → Adds d ys mid new → Adds d (xs ++ ys) old new
  adds_more xs ys old mid new a b =
      let there : filter (is_there d) xs ++ filter (is_there d) ys ≡ filter (is_there d) (xs ++ ys) = sym (filter-append (is_there d) xs ys) in
      record {
        anew = b.anew ∙ a.anew;
        cells = joined old.cells.items mid.cells.items new.cells.items _ _ _ a.cells b.cells there;
        values = joined old.values.items mid.values.items new.values.items _ _ _ a.values b.values (sym (map-append (value_in d) (filter (is_there d) xs) (filter (is_there d) ys)) ∙ ap (map (value_in d)) there);
        gone = joined old.gone.items mid.gone.items new.gone.items _ _ _ a.gone b.gone (sym (filter-append (λ c. not (is_there d c)) xs ys));
      }

  -- one more of a list of things that tell of cells
  module _ {X : Type 0} (f : X → List CellId) (xs : List X) (old : CellChanges) where
    pub adds_next : (i : ℕ) (x : X) (mid new : CellChanges) → i < length xs → x ≡ get_or xs i x → Adds d (flat_map f (take i xs)) old mid → Adds d (f x) mid new → Adds d (flat_map f (take (i + 1) xs)) old new
    adds_next i x mid new lt is so_far one =
        let more : flat_map f (take i xs) ++ f x ≡ flat_map f (take (i + 1) xs)
        = ap (λ l. flat_map f (take i xs) ++ l) (sym (append-nil (f x))) ∙ sym (flat_map-append f (take i xs) (x ∷ []))
        ∙ ap (flat_map f) (sym (take_more xs i x lt ∙ ap (λ y. take i xs ++ y ∷ []) (sym is))) in
        subst (λ l. Adds d l old new) more (adds_more (flat_map f (take i xs)) (f x) old mid new so_far one)

    pub adds_end : (i : ℕ) (new : CellChanges) → length xs ≤ i → Adds d (flat_map f (take i xs)) old new → Adds d (flat_map f xs) old new
    adds_end i new le so_far = subst (λ l. Adds d (flat_map f l) old new) (take_all i xs le) so_far

    -- the same by look-ups
    pub adds_found : (i : ℕ) (x : X) (mid new : CellChanges) → slice_get xs i ≡ Some x → Adds d (flat_map f (take i xs)) old mid → Adds d (f x) mid new → Adds d (flat_map f (take (i + 1) xs)) old new
    adds_found i x mid new at so_far one = adds_next i x mid new (slice_get_within xs i x at) (sym (get_or_from_slice_get xs i x x at)) so_far one

    pub adds_past : (i : ℕ) (new : CellChanges) → slice_get xs i ≡ None → Adds d (flat_map f (take i xs)) old new → Adds d (flat_map f xs) old new
    adds_past i new past so_far = adds_end i new (behind xs i past) so_far
      where
        behind : (ys : List X) (j : ℕ) → slice_get ys j ≡ None → length ys ≤ j
        behind [] j e = omega arith
        behind (y ∷ ys) zero e = absurd (cc)
        behind (y ∷ ys) (suc j) e = let rest : length ys ≤ j = behind ys j e in omega (arith, rest)

  -- changes of no cell with these cells at their end
  pub adds_alone : (anew : Bool) (told : List CellId) (old new : CellChanges) → old.anew ≡ anew → old.cells.items ≡ [] → old.values.items ≡ [] → old.gone.items ≡ [] → Adds d told old new → AreChanges anew d told new
  adds_alone anew told old new is cells values gone a = record {
    anew = a.anew ∙ is;
    cells = a.cells ∙ ap (λ l. l ++ filter (is_there d) told) cells;
    values = a.values ∙ ap (λ l. l ++ map (value_in d) (filter (is_there d) told)) values;
    gone = a.gone ∙ ap (λ l. l ++ filter (λ c. not (is_there d c)) told) gone;
  }
