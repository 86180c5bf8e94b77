-- Numbers drawn one after the other, and what is left of a script.
use Rattle.std.proofs.Common.{◌≡◌, ℕ, suc, true, false, ◌&&◌, nat_eq, length, codes, append_assoc, ◌+◌, ◌<◌, ◌≤◌, ◌-◌, ◌*◌, ◌%◌, List, [], ◌∷◌, ◌++◌, map, pos, sym, ap, refl, ◌∙◌, arith, rules}
use Rattle.std.specs.List.{range_with_len}
use Rattle.std.proofs.lemmas.List.FromFn.{length-map-range_with_len, map-range_with_len_more}
use Rattle.cell_types.specs.declared.value.CellValue.{CellValue}
use Rattle.cell_types.specs.declared.value.CellValue.TheVariants as value
use Rattle.run_generator.specs.Draws.{drawn, drawn_after}
use Rattle.doc_model.specs.WellFormed.{asks_well_formed}
use Rattle.doc_model.specs.declared.user_action.UserAction.TheVariants.{Add}
use Rattle.run_generator.specs.Left.{adds_from, updates_from}
use Rattle.run_generator.specs.Script.{adds_rows, all_adds, all_updates, asks_of_rows, bundle, bundles_of, column, first_asks, k_of, last_asks, n_from, n_of, pause_after, rows_in, second_asks, updated_rows, updates_row, work}
use Rattle.run_generator.specs.Stages.{AreValues, drawn_before}

pub no_values : (n done x : ℕ) → x ≡ drawn n (2 * done) → AreValues n done 0 [] [] x
no_values n done x h = let e : 2 * done ≡ 2 * (done + 0) = omega arith in record { k = refl; n_values = refl; last = h ∙ ap (drawn n) e }

module _ (n done count x : ℕ) (ks ns : List CellValue) (before : AreValues n done count ks ns x) where
  first_is : (first : ℕ) → first ≡ drawn_after x → first ≡ drawn n (2 * (done + 1 + count) - 1)
  first_is first h =
      let e : suc (2 * (done + count)) ≡ 2 * (done + 1 + count) - 1 = omega arith in
      h ∙ ap drawn_after before.last ∙ ap (drawn n) e

  second_is : (first second : ℕ) → first ≡ drawn_after x → second ≡ drawn_after first → second ≡ drawn n (2 * (done + 1 + count))
  second_is first second h k =
      let e : suc (suc (2 * (done + count))) ≡ 2 * (done + 1 + count) = omega arith in
      k ∙ ap drawn_after (h ∙ ap drawn_after before.last) ∙ ap (drawn n) e

  module _ (first second : ℕ) (h : first ≡ drawn_after x) (k : second ≡ drawn_after first) where
    -- the values of one row more
    pub more_values : (ks' ns' : List CellValue) → ks' ≡ ks ++ value.Int (pos (second % 100)) ∷ [] → ns' ≡ ns ++ n_from first ∷ [] → AreValues n done (count + 1) ks' ns' second
    more_values ks' ns' a b =
        let e : 2 * (done + 1 + count) ≡ 2 * (done + (count + 1)) = omega arith in
        record {
          k = a ∙ ap (λ l. l ++ value.Int (pos (second % 100)) ∷ []) before.k
              ∙ ap (λ y. map (k_of n) (range_with_len (done + 1) count) ++ value.Int (pos (y % 100)) ∷ []) (second_is first second h k)
              ∙ sym (map-range_with_len_more (k_of n) (done + 1) count (done + 1 + count) refl);
          n_values = b ∙ ap (λ l. l ++ n_from first ∷ []) before.n_values
              ∙ ap (λ y. map (n_of n) (range_with_len (done + 1) count) ++ n_from y ∷ []) (first_is first h)
              ∙ sym (map-range_with_len_more (n_of n) (done + 1) count (done + 1 + count) refl);
          last = second_is first second h k ∙ ap (drawn n) e;
        }

-- the numbers that a bundle takes
pub bundle_draws : (rows bundle : ℕ) → bundle < bundles_of rows → 2 * (500 * bundle + rows_in rows bundle) ≡ drawn_before rows (bundle + 1)
bundle_draws rows bundle h = omega arith

pub draws_before_bundle : (rows bundle : ℕ) → bundle < bundles_of rows → drawn_before rows bundle ≡ 2 * (500 * bundle)
draws_before_bundle rows bundle h = omega arith

-- the action of a bundle
pub adds_rows_is : (rows bundle count x : ℕ) (ks ns : List CellValue) → AreValues rows (500 * bundle) count ks ns x → count ≡ rows_in rows bundle → Add work false count false (column (codes "K") ks ∷ column (codes "N") ns ∷ []) ≡ adds_rows rows bundle
adds_rows_is rows bundle count x ks ns made e =
    ap (λ l. Add work false count false (column (codes "K") l ∷ column (codes "N") ns ∷ [])) made.k
    ∙ ap (λ l. Add work false count false (column (codes "K") (map (k_of rows) (range_with_len (500 * bundle + 1) count)) ∷ column (codes "N") l ∷ [])) made.n_values
    ∙ ap (λ c. Add work false c false (column (codes "K") (map (k_of rows) (range_with_len (500 * bundle + 1) c)) ∷ column (codes "N") (map (n_of rows) (range_with_len (500 * bundle + 1) c)) ∷ [])) e

module _ (n : ℕ) where
  pub left_adds : (number : ℕ) → number < bundles_of n → adds_from n number ≡ first_asks (bundle (adds_rows n number)) ∷ pause_after number ++ adds_from n (number + 1)
  left_adds number h =
      let e : bundles_of n - number ≡ suc (bundles_of n - (number + 1)) = omega arith in
      ap (λ k. all_adds n number k ++ updates_from n 1) e
      ∙ ap (λ l. first_asks (bundle (adds_rows n number)) ∷ l) (append_assoc (pause_after number) (all_adds n (number + 1) (bundles_of n - (number + 1))) (updates_from n 1))

  pub left_adds_end : (number : ℕ) → bundles_of n ≤ number → adds_from n number ≡ updates_from n 1
  left_adds_end number h =
      let e : bundles_of n - number ≡ 0 = omega arith in
      ap (λ k. all_adds n number k ++ updates_from n 1) e

  pub left_updates : (row : ℕ) → row ≤ updated_rows n → updates_from n row ≡ second_asks (bundle (updates_row n row)) ∷ updates_from n (row + 1)
  left_updates row h =
      let e : updated_rows n + 1 - row ≡ suc (updated_rows n + 1 - (row + 1)) = omega arith in
      ap (λ k. all_updates n row k ++ last_asks) e

  pub left_updates_end : (row : ℕ) → updated_rows n ≤ row → updates_from n (row + 1) ≡ last_asks
  left_updates_end row h =
      let e : updated_rows n + 1 - (row + 1) ≡ 0 = omega arith in
      ap (λ k. all_updates n (row + 1) k ++ last_asks) e

  pub left_rows : asks_of_rows n ≡ adds_from n 0
  left_rows =
      let e : bundles_of n ≡ bundles_of n - 0 = omega arith in
      let u : updated_rows n ≡ updated_rows n + 1 - 1 = omega arith in
      ap (λ k. all_adds n 0 k ++ all_updates n 1 (updated_rows n) ++ last_asks) e
      ∙ ap (λ k. all_adds n 0 (bundles_of n - 0) ++ all_updates n 1 k ++ last_asks) u
      ∙ append_assoc (all_adds n 0 (bundles_of n - 0)) (all_updates n 1 (updated_rows n + 1 - 1)) last_asks

  -- behind the last bundle all numbers of rows are drawn
  pub all_drawn : (number : ℕ) → bundles_of n ≤ number → drawn_before n number ≡ 2 * n + 1 - 1
  all_drawn number h = omega arith

-- the request of a bundle is well formed: each row has a value in both columns
well_formed_rows : (count : ℕ) (ks ns : List CellValue) → nat_eq (length ks) count ≡ true → nat_eq (length ns) count ≡ true → asks_well_formed (bundle (Add work false count false (column (codes "K") ks ∷ column (codes "N") ns ∷ []))) ≡ true
well_formed_rows count ks ns a b =
    ap (λ x. (x && (nat_eq (length ns) count && true)) && true) a ∙ ap (λ x. (x && true) && true) b

same_nat : (count : ℕ) → nat_eq count count ≡ true
same_nat count = search rules

same_length : (f : ℕ → CellValue) (from count : ℕ) → nat_eq (length (map f (range_with_len from count))) count ≡ true
same_length f from count = ap (λ k. nat_eq k count) (length-map-range_with_len f from count) ∙ same_nat count

pub adds_well_formed : (rows number : ℕ) → asks_well_formed (bundle (adds_rows rows number)) ≡ true
adds_well_formed rows number =
    well_formed_rows (rows_in rows number) (map (k_of rows) (range_with_len (500 * number + 1) (rows_in rows number))) (map (n_of rows) (range_with_len (500 * number + 1) (rows_in rows number)))
    (same_length (k_of rows) (500 * number + 1) (rows_in rows number)) (same_length (n_of rows) (500 * number + 1) (rows_in rows number))
