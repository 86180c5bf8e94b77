-- Names of sessions: how long they are, and that they tell their lanes and connections.
use Rattle.std.proofs.Common.{◌≡◌, ℕ, ◌+◌, ◌^◌, ◌<◌, ◌≤◌, List, [], ◌∷◌, ◌++◌, length, refl, sym, ap, subst, arith, rules}
use Rattle.std.specs.Fmt.{decimal}
use Rattle.std.specs.Str.{chars}
use Rattle.std.specs.Str.Parse.{AllDigits}
use Rattle.std.specs.Str.{IsAscii}
use Rattle.std.proofs.Common.{length-append}
use Rattle.std.proofs.lemmas.Fmt.{IsAscii-decimal, decimal_injective, decimal_is_IsNumeral, length-decimal-le}
use Rattle.std.proofs.lemmas.Str.{IsAscii-append, chars-IsAscii}
use Rattle.cell_types.specs.NameLength.{HasNameLength}
use Rattle.std.proofs.lemmas.Str.Parse.{digit_from_value}
use Rattle.grist_lanes.specs.SessionNames.{session_name}

record Parts (xs ys p q : List ℕ) : Type 0 where
  front : xs ≡ ys
  back : p ≡ q

-- no digit is a c
not_c : (cs : List ℕ) → AllDigits 10 (99 ∷ cs) → ⊥
not_c cs d = omega (arith, digit_from_value 99 d.0)

-- what stands before the c and what stands behind it are told apart
parted : (xs ys p q : List ℕ) → AllDigits 10 xs → AllDigits 10 ys → xs ++ 99 ∷ p ≡ ys ++ 99 ∷ q → Parts xs ys p q
parted [] [] p q dx dy e = record { front = refl; back = cc }
parted [] (y ∷ ys) p q dx dy e = let is : 99 ≡ y = cc in absurd (not_c ys (subst (λ c. AllDigits 10 (c ∷ ys)) (sym is) dy))
parted (x ∷ xs) [] p q dx dy e = let is : x ≡ 99 = cc in absurd (not_c xs (subst (λ c. AllDigits 10 (c ∷ xs)) is dx))
parted (x ∷ xs) (y ∷ ys) p q dx dy e =
    let rest : xs ++ 99 ∷ p ≡ ys ++ 99 ∷ q = cc in
    let same : x ≡ y = cc in
    let more = parted xs ys p q dx.1 dy.1 rest in
    let front : xs ≡ ys = more.front in
    record { front = cc; back = more.back }

digits : (n : ℕ) → n < 2 ^ 64 → AllDigits 10 (decimal n)
digits n small = (decimal_is_IsNumeral n small).0.1

pub names_apart : (lane connection lane' connection' : ℕ) → lane < 2 ^ 64 → connection < 2 ^ 64 → lane' < 2 ^ 64 → connection' < 2 ^ 64
    → session_name lane connection ≡ session_name lane' connection' → (lane ≡ lane') × (connection ≡ connection')
names_apart lane connection lane' connection' small few small' few' e =
    let behind : decimal lane ++ 99 ∷ decimal connection ≡ decimal lane' ++ 99 ∷ decimal connection' = cc in
    let parts = parted (decimal lane) (decimal lane') (decimal connection) (decimal connection') (digits lane small) (digits lane' small') behind in (
      decimal_injective lane lane' small small' parts.front,
      decimal_injective connection connection' few few' parts.back,
    )

-- ---- how long they are

short : (n : ℕ) → n < 2 ^ 64 → length (decimal n) ≤ 20
short n small = length-decimal-le 20 n (omega arith) (omega (arith, small)) small

letter : (c : ℕ) → c < 128 → IsAscii (c ∷ [])
letter c small = search rules

ascii : (lane connection : ℕ) → lane < 2 ^ 64 → connection < 2 ^ 64 → IsAscii (session_name lane connection)
ascii lane connection small few =
    IsAscii-append (108 ∷ []) (decimal lane ++ 99 ∷ decimal connection) (letter 108 (omega arith))
    (IsAscii-append (decimal lane) (99 ∷ decimal connection) (IsAscii-decimal lane small)
    (IsAscii-append (99 ∷ []) (decimal connection) (letter 99 (omega arith)) (IsAscii-decimal connection few)))

pub name_length : (lane connection : ℕ) → lane < 2 ^ 64 → connection < 2 ^ 64 → HasNameLength (session_name lane connection)
name_length lane connection small few =
    let own : length (chars (session_name lane connection)) ≡ length (session_name lane connection) = ap length (chars-IsAscii (session_name lane connection) (ascii lane connection small few)) in
    let both : length (decimal lane ++ 99 ∷ decimal connection) ≡ length (decimal lane) + length (99 ∷ decimal connection) = length-append (decimal lane) (99 ∷ decimal connection) in
    record { some = omega (arith, own); few = omega (arith, own, both, short lane small, short connection few) }
