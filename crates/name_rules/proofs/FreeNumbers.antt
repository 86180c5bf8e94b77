-- A number that makes a text free is always found.
use Rattle.std.proofs.Common.{◌≡◌, ℕ, zero, suc, ◌+◌, ◌-◌, ◌*◌, ◌/◌, ◌^◌, ◌<◌, ◌≤◌, Bool, true, false, ◌||◌, List, [], ◌∷◌, ◌++◌, length, take, refl, ap, sym, subst, ◌∙◌, ◌⊎◌, inl, inr, ⊎_elim, arith, length-append, cond}
use Rattle.std.specs.Str.{chars, encode_utf8_all, bytes_eq}
use Rattle.std.specs.List.{list_any, AllByRecursion, IsDistinct}
use Rattle.std.specs.Fmt.{decimal}
use Rattle.std.specs.Cmp.Lexicographic.{nat_list_eq_equiv}
use Rattle.std.proofs.lemmas.Bool.{cases_lt, false_from_ne_true, false≢true}
use Rattle.std.proofs.lemmas.Fmt.{decimal_digit, decimal_step, decimal_injective}
use Rattle.std.proofs.lemmas.List.{append_cancel_left}
use Rattle.std.proofs.lemmas.Map.Made.{length-le_from_is_member}
use Rattle.std.proofs.lemmas.Map.Steps.{list_any_congr}
use Rattle.std.proofs.lemmas.Slice.Eq.{bytes_eq-Decides}
use Rattle.name_rules.specs.FreeName.{is_taken, numbered, least_free, free_name}

-- a power of ten above a count, and not far above it
record PowerOver (n : ℕ) : Type 0 where
  exponent : ℕ
  over : n < 10 ^ exponent
  near : 10 ^ exponent ≤ 10 * n + 1

power_after : (n : ℕ) → (p : PowerOver n) → (suc n < 10 ^ p.exponent) ⊎ (10 ^ p.exponent ≤ suc n) → PowerOver (suc n)
power_after n p (inl under) = record { exponent = p.exponent; over = under; near = omega (arith, p.near) }
power_after n p (inr reached) = record {
  exponent = suc p.exponent;
  over = omega (arith, p.over);
  near = omega (arith, p.near, p.over);
}

power_over : (n : ℕ) → PowerOver n
power_over zero = record { exponent = 0; over = omega arith; near = omega arith }
power_over (suc n) = let p = power_over n in power_after n p (cases_lt (suc n) (10 ^ p.exponent))

-- numbers between two powers of ten have one number of digits
length-decimal : (e k : ℕ) → 10 ^ e ≤ k → k < 10 ^ suc e → k < 2 ^ 64 → length (decimal k) ≡ suc e
length-decimal zero k low high small = ap length (decimal_digit k (omega arith))
length-decimal (suc e) k low high small =
    let shorter : length (decimal (k / 10)) ≡ suc e = length-decimal e (k / 10) (omega arith) (omega arith) (omega arith) in
    ap length (decimal_step k (omega arith) small) ∙ length-append (decimal (k / 10)) _ ∙ omega arith

-- with one number of digits the text is cut alike, so the numbers are told apart
numbered_injective : (text : List ℕ) (j k : ℕ) → j < 2 ^ 64 → k < 2 ^ 64 → length (decimal j) ≡ length (decimal k) → numbered text j ≡ numbered text k → j ≡ k
unfolding numbered
numbered_injective text j k below_j below_k same equal =
    let front = λ (n : ℕ). encode_utf8_all (take (64 - n) (chars text)) in
    let alike : front (length (decimal j)) ++ decimal j ≡ front (length (decimal j)) ++ decimal k =
    subst (λ (n : ℕ). front (length (decimal j)) ++ decimal j ≡ front n ++ decimal k) (sym same) equal in
    decimal_injective j k below_j below_k (append_cancel_left _ _ _ alike)

-- the text with each of so many numbers from one on
abbrev candidates : List ℕ → ℕ → ℕ → List (List ℕ)
candidates text k zero = []
candidates text k (suc count) = numbered text k ∷ candidates text (suc k) count

length-candidates : (text : List ℕ) (k count : ℕ) → length (candidates text k count) ≡ count
length-candidates text k zero = refl
length-candidates text k (suc count) = ap suc (length-candidates text (suc k) count)

-- where numbers have the digits of a power of ten
record IsWithin (e k : ℕ) : Type 0 where
  low : 10 ^ e ≤ k
  high : k < 10 ^ suc e
  small : k < 2 ^ 64

differ : (text : List ℕ) (e j k : ℕ) → IsWithin e j → IsWithin e k → j < k → bytes_eq (numbered text j) (numbered text k) ≡ false
differ text e j k at_j at_k before = false_from_ne_true _ (λ same.
    let equal : j ≡ k = numbered_injective text j k at_j.small at_k.small
    (length-decimal e j at_j.low at_j.high at_j.small ∙ sym (length-decimal e k at_k.low at_k.high at_k.small))
    ((bytes_eq-Decides (numbered text j) (numbered text k)).0 same) in
    omega arith)

differ_all : (text : List ℕ) (e j k count : ℕ) → 10 ^ e ≤ j → j < k → k + count ≤ 10 ^ suc e → k + count ≤ 2 ^ 64 → AllByRecursion (λ y. bytes_eq (numbered text j) y ≡ false) (candidates text k count)
differ_all text e j k zero low before high small = tt
differ_all text e j k (suc count) low before high small = (
  differ text e j k (record { low = low; high = omega arith; small = omega arith }) (record { low = omega arith; high = omega arith; small = omega arith }) before,
  differ_all text e j (suc k) count low (omega arith) (omega arith) (omega arith),
)

distinct : (text : List ℕ) (e k count : ℕ) → 10 ^ e ≤ k → k + count ≤ 10 ^ suc e → k + count ≤ 2 ^ 64 → IsDistinct bytes_eq (candidates text k count)
unfolding IsDistinct
distinct text e k zero low high small = tt
distinct text e k (suc count) low high small =
    (differ_all text e k (suc k) count low (omega arith) (omega arith) (omega arith), distinct text e (suc k) count (omega arith) (omega arith) (omega arith))

by_either : (first rest all : Bool) → (first ≡ true → all ≡ true) → (rest ≡ true → all ≡ true) → (first || rest) ≡ true → all ≡ true
by_either true rest all here later found = here refl
by_either false rest all here later found = later found

among_taken : (taken : List (List ℕ)) (text : List ℕ) (k count : ℕ) → ((j : ℕ) → k ≤ j → j < k + count → is_taken taken (numbered text j) ≡ true) → (q : List ℕ) → list_any (bytes_eq q) (candidates text k count) ≡ true → list_any (bytes_eq q) taken ≡ true
among_taken taken text k zero all q found = absurd (false≢true found)
among_taken taken text k (suc count) all q found =
    by_either (bytes_eq q (numbered text k)) (list_any (bytes_eq q) (candidates text (suc k) count)) (list_any (bytes_eq q) taken)
    (λ same. list_any_congr nat_list_eq_equiv q (numbered text k) taken same ∙ all k (omega arith) (omega arith))
    (among_taken taken text (suc k) count (λ j from to. all j (omega arith) (omega arith)) q)
    found

-- as many texts that differ as names are taken and one more are not all taken
pub not_all_taken : (taken : List (List ℕ)) (text : List ℕ) → 12 * length taken + 102 ≤ 2 ^ 64 → ((j : ℕ) → 2 ≤ j → j < 12 * length taken + 102 → is_taken taken (numbered text j) ≡ true) → ⊥
not_all_taken taken text small all =
    let p = power_over (10 + length taken) in
    let n = length taken in
    let k = 10 ^ p.exponent in
    let few : length (candidates text k (suc n)) ≤ n =
    length-le_from_is_member nat_list_eq_equiv (candidates text k (suc n)) taken
    (distinct text p.exponent k (suc n) (omega arith) (omega (arith, p.over, p.near)) (omega (arith, p.over, p.near)))
    (among_taken taken text k (suc n) (λ j from to. all j (omega (arith, p.over)) (omega (arith, p.near)))) in
    omega (arith, few, length-candidates text k (suc n))

-- the least number is found where it is reached
least_free_is : (taken : List (List ℕ)) (text : List ℕ) (number start count : ℕ) → start ≤ number → number < start + count → ((j : ℕ) → start ≤ j → j < number → is_taken taken (numbered text j) ≡ true) → is_taken taken (numbered text number) ≡ false → least_free taken text start count ≡ number
unfolding least_free
least_free_is taken text number start zero from to before free = absurd (omega arith)
least_free_is taken text number start (suc count) from to before free =
    ⊎_elim
    (λ later. ap (λ b. cond b (least_free taken text (suc start) count) start) (before start (omega arith) later)
    ∙ least_free_is taken text number (suc start) count (omega arith) (omega arith) (λ j after under. before j (omega arith) under) free)
    (λ here. let same : start ≡ number = omega arith in
    ap (λ b. cond b (least_free taken text (suc start) count) start) (ap (λ k. is_taken taken (numbered text k)) same ∙ free) ∙ same)
    (cases_lt start number)

pub free_name_is : (taken : List (List ℕ)) (text : List ℕ) (number : ℕ) → is_taken taken text ≡ true → 2 ≤ number → number < 12 * length taken + 102 → ((j : ℕ) → 2 ≤ j → j < number → is_taken taken (numbered text j) ≡ true) → is_taken taken (numbered text number) ≡ false → numbered text number ≡ free_name taken text
unfolding free_name
free_name_is taken text number not_free from to before free =
    sym (ap (λ b. cond b (numbered text (least_free taken text 2 (12 * length taken + 100))) text) not_free
    ∙ ap (λ k. numbered text k) (least_free_is taken text number 2 (12 * length taken + 100) from (omega arith) before free))
