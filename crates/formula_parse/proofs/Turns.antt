-- The machine over the tokens from a place on.
use Rattle.std.specs.Prelude.{ℕ, zero, suc, ◌+◌, ◌≤◌, ◌<◌, ◌≡◌, List, [], ◌∷◌, length, drop, get_or, Option, Some, refl}
use Rattle.std.proofs.Common.{arith, ap, sym, ◌∙◌, drop-cons, add-one}
use Rattle.formula_lex.specs.declared.token.Token.{Token}
use Rattle.formula_lex.specs.Places.{IsInOrder}
use Rattle.formula_parse.specs.declared.operator.Dialect.{Dialect}
use Rattle.formula_parse.specs.declared.frame.Frame.{Frame}
use Rattle.formula_parse.specs.declared.frame.Mode.{Mode}
use Rattle.formula_parse.specs.declared.fault.ParseFault.{ParseFault}
use Rattle.formula_parse.specs.declared.fault.ParseFault.TheVariants.{Syntax, NoMemory}
use Rattle.formula_parse.specs.Tree.{Tree}
use Rattle.formula_parse.specs.Machine.{State, ◌>>=◌}
use Rattle.formula_parse.specs.Runs.{token_step, read, finish}
use Rattle.formula_parse.specs.Parsed.{StopsWithin}

in_order_end : (ts : List Token) (at end : ℕ) → IsInOrder at ts end → at ≤ end
in_order_end [] at end o = o
in_order_end (t ∷ ts) at end o = let b : t.to ≤ end = in_order_end ts t.to end o.2 in let p : at ≤ t.from = o.0 in let q : t.from < t.to = o.1 in omega arith

-- each token begins in the text
from_within : (ts : List Token) (i at end : ℕ) (t : Token) → i < length ts → t ≡ get_or ts i t → IsInOrder at ts end → t.from ≤ end
from_within [] i at end t h e o = absurd (omega arith)
from_within (x ∷ xs) zero at end t h e o =
    let b : x.to ≤ end = in_order_end xs x.to end o.2 in
    let q : x.from < x.to = o.1 in
    let p : t.from ≡ x.from = ap (λ (y : Token). y.from) e in
    omega arith
from_within (x ∷ xs) (suc i) at end t h e o = from_within xs i x.to end t (omega arith) e o.2

module _ (d : Dialect) where
  module _ (ks : List Token) (i : ℕ) (k : Token) (fs : List Frame) (m : Mode) (h : i < length ks) (e : k ≡ get_or ks i k) where
    read_at : read d (drop i ks) fs m ≡ (token_step d k fs m >>= λ s. read d (drop (i + 1) ks) s.0 s.1)
    unfolding read
    read_at = rw (drop-cons ks i k h, ← e, add-one) refl

    pub read_next : (gs : List Frame) (n : Mode) → token_step d k fs m ≡ Some (gs, n) → read d (drop i ks) fs m ≡ read d (drop (i + 1) ks) gs n
    read_next gs n p = read_at ∙ ap (λ (o : Option State). o >>= λ s. read d (drop (i + 1) ks) s.0 s.1) p

    pub read_stops : (s : ParseFault) (end : ℕ) (all : Option Tree) → IsInOrder 0 ks end → read d (drop i ks) fs m ≡ all → StopsWithin k.from s (token_step d k fs m) → StopsWithin end s all
    read_stops (Syntax at) end all o q p =
        let w : k.from ≤ end = from_within ks i 0 end k h e o in
        (omega arith, sym q ∙ read_at ∙ ap (λ (o : Option State). o >>= λ s. read d (drop (i + 1) ks) s.0 s.1) p.1)
    read_stops NoMemory end all o q p = tt

  pub read_ends : (ks : List Token) (i : ℕ) (fs : List Frame) (m : Mode) → length ks ≤ i → read d (drop i ks) fs m ≡ finish fs m
  unfolding read
  read_ends [] zero fs m h = refl
  read_ends [] (suc i) fs m h = refl
  read_ends (k ∷ ks) zero fs m h = absurd (omega arith)
  read_ends (k ∷ ks) (suc i) fs m h = read_ends ks i fs m (omega arith)
