-- Columns by id, and with a value for each row.
use Rattle.std.proofs.Common.{◌≡◌, ℕ, suc, zero, ◌+◌, ◌<◌, ◌≤◌, List, [], ◌∷◌, Bool, true, ◌&&◌, nat_eq, length, map, drop, get_or, refl, sym, ap, ◌∙◌, arith, add-one}
use Rattle.std.specs.List.{list_all}
use Rattle.doc_model.specs.declared.column.CellColumn.{CellColumn}
use Rattle.doc_model.specs.ByIds.{precedes}
use Rattle.doc_model.specs.WellFormed.{are_by_id, have_values}
use Rattle.record_lines.specs.Columns.{unnamed}

pub have_as : (count : ℕ) (cs : List CellColumn) → have_values count (map unnamed cs) ≡ list_all (λ (c : CellColumn). nat_eq (length c.values) count) cs
have_as count [] = refl
have_as count (c ∷ cs) = ap (λ b. nat_eq (length c.values) count && b) (have_as count cs)

ahead : (cs : List CellColumn) (i : ℕ) (c d : CellColumn) → suc i < length cs → c ≡ get_or cs i c → d ≡ get_or cs (suc i) d
    → are_by_id (map unnamed (drop i cs)) ≡ (precedes c.id d.id && are_by_id (map unnamed (drop (suc i) cs)))
ahead [] i c d lt is_c is_d = absurd (omega (arith, lt))
ahead (x ∷ []) i c d lt is_c is_d = absurd (omega (arith, lt))
ahead (x ∷ y ∷ cs) zero c d lt is_c is_d =
    ap (λ (z : CellColumn). precedes z.id y.id && are_by_id (map unnamed (y ∷ cs))) (sym is_c)
    ∙ ap (λ (z : CellColumn). precedes c.id z.id && are_by_id (map unnamed (y ∷ cs))) (sym is_d)
ahead (x ∷ y ∷ cs) (suc i) c d lt is_c is_d = ahead (y ∷ cs) i c d (omega (arith, lt)) is_c is_d

-- two columns ahead
pub by_id_ahead : (cs : List CellColumn) (i : ℕ) (c d : CellColumn) → i + 1 < length cs → c ≡ get_or cs i c → d ≡ get_or cs (i + 1) d
    → are_by_id (map unnamed (drop i cs)) ≡ (precedes c.id d.id && are_by_id (map unnamed (drop (i + 1) cs)))
by_id_ahead cs i c d lt is_c is_d =
    let e : i + 1 ≡ suc i = add-one i in
    ahead cs i c d (rw e at lt) is_c (is_d ∙ ap (λ n. get_or cs n d) e) ∙ ap (λ n. precedes c.id d.id && are_by_id (map unnamed (drop n cs))) (sym e)

at_end : (cs : List CellColumn) (i : ℕ) → length cs ≤ suc i → are_by_id (map unnamed (drop i cs)) ≡ true
at_end [] zero le = refl
at_end [] (suc i) le = refl
at_end (x ∷ []) zero le = refl
at_end (x ∷ y ∷ cs) zero le = absurd (omega (arith, le))
at_end (x ∷ cs) (suc i) le = at_end cs i (omega (arith, le))

-- at the last column, or where there is none
pub by_id_end : (cs : List CellColumn) (i : ℕ) → length cs ≤ i + 1 → are_by_id (map unnamed (drop i cs)) ≡ true
by_id_end cs i le = at_end cs i (omega (arith, le))
