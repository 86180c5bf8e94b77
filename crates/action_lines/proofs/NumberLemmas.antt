-- Whole numbers are read exactly from the JSON that they are.
use Rattle.std.proofs.Common.{◌≡◌, ◌^◌, ℕ, ℤ, pos, negsuc, true, nat_lt, Option, Some, None, option_map, refl, ap, ◌∙◌, subst}
use Rattle.serde_json.specs.Data.{Num, unsigned, negative, float, Data, null, boolean, number, string, array, object}
use Rattle.action_lines.specs.Numbers.{int_data, is_int, int_from, is_id, id_from, int_of_num, id_of_num, IsInt, is_row, row_of_num, row_from, IsRow, new_row_from, IsNewRow}
use Rattle.action_lines.proofs.StepLemmas.{guard_some, map_some, some_same}

int_num_takes : (n : Num) (z : ℤ) → int_of_num n ≡ Some z → (is_int z ≡ true) × (number n ≡ int_data z)
int_num_takes (unsigned n) z e =
    let g = guard_some (nat_lt n (2 ^ 63)) (pos n) z e in
    subst (λ (y : ℤ). (is_int y ≡ true) × (number (unsigned n) ≡ int_data y)) g.1 (g.0, refl)
int_num_takes (negative (pos n)) z e = absurd (cc)
int_num_takes (negative (negsuc n)) z e = subst (λ (y : ℤ). (is_int y ≡ true) × (number (negative (negsuc n)) ≡ int_data y)) (some_same (negsuc n) z e) (refl, refl)
int_num_takes (float x) z e = absurd (cc)

pub int_takes : (d : Data) (z : ℤ) → int_from d ≡ Some z → (is_int z ≡ true) × (d ≡ int_data z)
int_takes null z e = absurd (cc)
int_takes (boolean b) z e = absurd (cc)
int_takes (number n) z e = int_num_takes n z e
int_takes (string s) z e = absurd (cc)
int_takes (array ds) z e = absurd (cc)
int_takes (object ms) z e = absurd (cc)

pub int_again : (z : ℤ) → is_int z ≡ true → int_from (int_data z) ≡ Some z
int_again (pos n) h = rw h refl
int_again (negsuc n) h = refl

id_num_takes : (n : Num) (z : ℤ) → id_of_num n ≡ Some z → (is_id z ≡ true) × (number n ≡ int_data z)
id_num_takes (unsigned n) z e =
    let g = guard_some (nat_lt n (2 ^ 63)) (pos n) z e in
    subst (λ (y : ℤ). (is_id y ≡ true) × (number (unsigned n) ≡ int_data y)) g.1 (g.0, refl)
id_num_takes (negative z) y e = absurd (cc)
id_num_takes (float x) z e = absurd (cc)

pub id_takes : (d : Data) (z : ℤ) → id_from d ≡ Some z → (is_id z ≡ true) × (d ≡ int_data z)
id_takes null z e = absurd (cc)
id_takes (boolean b) z e = absurd (cc)
id_takes (number n) z e = id_num_takes n z e
id_takes (string s) z e = absurd (cc)
id_takes (array ds) z e = absurd (cc)
id_takes (object ms) z e = absurd (cc)

pub id_again : (z : ℤ) → is_id z ≡ true → id_from (int_data z) ≡ Some z
id_again (pos n) h = rw h refl
id_again (negsuc n) h = absurd (cc)

-- the JSON of a number is read as it
pub int_read : (z : ℤ) (d : Data) → IsInt z d → int_from d ≡ Some z
int_read z d h = ap int_from h.1 ∙ int_again z h.0

row_num_takes : (n : Num) (m : ℕ) → row_of_num n ≡ Some m → IsRow m (number n)
row_num_takes (unsigned n) m e =
    let g = guard_some (is_row n) n m e in
    subst (λ (k : ℕ). IsRow k (number (unsigned n))) g.1 (g.0, refl)
row_num_takes (negative z) m e = absurd (cc)
row_num_takes (float x) m e = absurd (cc)

pub row_takes : (d : Data) (m : ℕ) → row_from d ≡ Some m → IsRow m d
row_takes null m e = absurd (cc)
row_takes (boolean b) m e = absurd (cc)
row_takes (number n) m e = row_num_takes n m e
row_takes (string s) m e = absurd (cc)
row_takes (array ds) m e = absurd (cc)
row_takes (object ms) m e = absurd (cc)

pub row_read : (m : ℕ) (d : Data) → IsRow m d → row_from d ≡ Some m
row_read m d h = ap row_from h.1 ∙ rw h.0 refl

pub new_row_takes : (d : Data) (z : Option ℤ) → new_row_from d ≡ Some z → IsNewRow z d
new_row_takes null z e = subst (λ (y : Option ℤ). IsNewRow y null) (some_same None z e) refl
new_row_takes (boolean b) z e = absurd (cc)
new_row_takes (number n) z e =
    let m = map_some Some (int_of_num n) z e in
    subst (λ (y : Option ℤ). IsNewRow y (number n)) m.2 (int_num_takes n m.0 m.1)
new_row_takes (string s) z e = absurd (cc)
new_row_takes (array ds) z e = absurd (cc)
new_row_takes (object ms) z e = absurd (cc)

pub new_row_read : (z : Option ℤ) (d : Data) → IsNewRow z d → new_row_from d ≡ Some z
new_row_read None d h = ap new_row_from h
new_row_read (Some z) d h = ap new_row_from h.1 ∙ ap (option_map Some) (int_again z h.0)
