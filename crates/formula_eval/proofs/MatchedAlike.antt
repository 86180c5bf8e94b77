-- Which rows meet keys, over two readers.
use Rattle.std.proofs.Common.{ℕ, pos, Bool, true, false, ◌&&◌, ◌||◌, cond, List, [], ◌∷◌, ◌≡◌, inl, inr, refl, ap, subst, Option, Some, None}
use Rattle.std.specs.List.{AllByRecursion, list_all}
use Rattle.std.specs.Option.{is_some}
use Rattle.cell_types.specs.declared.cell.CellId.{CellId}
use Rattle.cell_types.specs.declared.cell.KeyItem.{KeyItem}
use Rattle.cell_types.specs.declared.cell.Read.TheVariants.{Key}
use Rattle.cell_types.specs.declared.column_type.ColType.{ColType}
use Rattle.cell_types.specs.declared.value.CellValue.TheVariants as value
use Rattle.cell_types.specs.declared.value.ErrKind.TheVariants as err
use Rattle.formula_parse.specs.Lexemes.{is_id}
use Rattle.formula_eval.specs.Reader.{Told, Reader, cell_at}
use Rattle.formula_eval.specs.Run.{Stop, Out, gives, raises, stops}
use Rattle.formula_eval.specs.Reading.{told_out}
use Rattle.formula_eval.specs.Lookup.{meets, told_meets, met_by, key_met, row_met, kept_row, scan, is_key_column, matched_in, matched}
use Rattle.formula_eval.specs.Likeness.{IsJoined, IsAlikeOut, IsAlikeRead}
use Rattle.formula_eval.proofs.BothAlike.{both_alike}

module _ (L : Stop → Type 0) (R : Type 0) (joined : IsJoined L) (x y : Reader) where
  -- each key's column is told alike, and so is each cell of it
  abbrev pub AreAlikeKeys : List ℕ → List KeyItem → Type 0
  AreAlikeKeys t ks = AllByRecursion (λ k. IsAlikeRead L R x y (Key t k.column)) ks

  met_alike : (k : KeyItem) (ty : Option ColType) (o p : Out Told) → IsAlikeOut L R o p → IsAlikeOut L R (met_by k ty o) (met_by k ty p)
  met_alike k v (gives o) (gives p) (inl e) = inl (ap (λ q. told_meets k v q) e)
  met_alike k v (gives o) (raises p) (inl e) = absurd e
  met_alike k v (gives o) (stops p) (inl e) = absurd e
  met_alike k v (raises o) (gives p) (inl e) = absurd e
  met_alike k v (raises o) (raises p) (inl e) = inl e
  met_alike k v (raises o) (stops p) (inl e) = absurd e
  met_alike k v (stops o) (gives p) (inl e) = absurd e
  met_alike k v (stops o) (raises p) (inl e) = absurd e
  met_alike k v (stops o) (stops p) (inl e) = inl tt
  met_alike k v (gives o) p (inr (inl h)) = absurd h
  met_alike k v (raises o) p (inr (inl h)) = absurd h
  met_alike k v (stops o) p (inr (inl h)) = inr (inl h)
  met_alike k v o (gives p) (inr (inr h)) = absurd h
  met_alike k v o (raises p) (inr (inr h)) = absurd h
  met_alike k v o (stops p) (inr (inr h)) = inr (inr h)

  key_alike : (t : List ℕ) (r : ℕ) (k : KeyItem) → IsAlikeRead L R x y (Key t k.column) → IsAlikeOut L R (key_met x t r k) (key_met y t r k)
  key_alike t r k h =
      let c : CellId = cell_at t k.column r in
      elim (is_id k.column) as (λ b. IsAlikeOut L R (cond b (gives (meets k (value.Int (pos r)))) (met_by k (x.kind t k.column) (told_out c (x.cell c)))) (cond b (gives (meets k (value.Int (pos r)))) (met_by k (y.kind t k.column) (told_out c (y.cell c))))) [
        | true ↦ inl refl
        | false ↦ subst (λ ty. IsAlikeOut L R (met_by k (x.kind t k.column) (told_out c (x.cell c))) (met_by k ty (told_out c (y.cell c)))) h.0 (met_alike k (x.kind t k.column) (told_out c (x.cell c)) (told_out c (y.cell c)) (h.1 r))
      ]

  row_alike : (t : List ℕ) (r : ℕ) (ks : List KeyItem) → AreAlikeKeys t ks → IsAlikeOut L R (row_met x t r ks) (row_met y t r ks)
  row_alike t r [] h = inl refl
  row_alike t r (k ∷ ks) h =
      both_alike L R joined ◌&&◌ (key_met x t r k) (key_met y t r k) (row_met x t r ks) (row_met y t r ks) (key_alike t r k h.0) (row_alike t r ks h.1)

  scan_alike : (t : List ℕ) (ks : List KeyItem) (rows : List ℕ) → AreAlikeKeys t ks → IsAlikeOut L R (scan x t ks rows) (scan y t ks rows)
  scan_alike t ks [] h = inl refl
  scan_alike t ks (r ∷ rows) h =
      both_alike L R joined (kept_row r) (row_met x t r ks) (row_met y t r ks) (scan x t ks rows) (scan y t ks rows) (row_alike t r ks h) (scan_alike t ks rows h)

  keys_same : (t : List ℕ) (ks : List KeyItem) → AreAlikeKeys t ks → list_all (λ k. is_key_column x t k.column) ks ≡ list_all (λ k. is_key_column y t k.column) ks
  keys_same t [] h = refl
  keys_same t (k ∷ ks) h = λ i. (is_id k.column || is_some (h.0.0 i)) && keys_same t ks h.1 i

  in_alike : (t : List ℕ) (ks : List KeyItem) (o : Option (List ℕ)) → AreAlikeKeys t ks → IsAlikeOut L R (matched_in x t ks o) (matched_in y t ks o)
  in_alike t ks None h = inl refl
  in_alike t ks (Some rs) h =
      let b : Bool = list_all (λ k. is_key_column x t k.column) ks in
      subst (λ c. IsAlikeOut L R (cond b (scan x t ks rs) (raises err.Key)) (cond c (scan y t ks rs) (raises err.Key))) (keys_same t ks h)
      (elim b as (λ c. IsAlikeOut L R (cond c (scan x t ks rs) (raises err.Key)) (cond c (scan y t ks rs) (raises err.Key)))
      [ true ↦ scan_alike t ks rs h | false ↦ inl refl ])

  -- where the rows and all cells of the keys' columns are told alike, the same rows meet the keys
  pub matched_alike : (t : List ℕ) (ks : List KeyItem) → x.rows t ≡ y.rows t → AreAlikeKeys t ks → IsAlikeOut L R (matched x t ks) (matched y t ks)
  matched_alike t ks rows h = subst (λ o. IsAlikeOut L R (matched x t ks) (matched_in y t ks o)) rows (in_alike t ks (x.rows t) h)
