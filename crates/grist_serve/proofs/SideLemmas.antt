-- The two sides of a link: what a read leaves, and what a write leaves.
use Rattle.std.proofs.Common.{◌≡◌, ℕ, List, Option, ap, sym, ◌∙◌}
use Rattle.io_edges.specs.Sides.{Incoming, Outgoing}

abbrev goes : Option (List ℕ) → ℕ → Outgoing
goes written faults = record { written = written; faults = faults }

abbrev comes : Option (List ℕ) → ℕ → Incoming
comes left faults = record { left = left; faults = faults }

module _ {x y : Outgoing} {a b : Option (List ℕ)} {f g : ℕ} (p : x ≡ goes a f) (q : y ≡ goes b g) (same : x ≡ y) where
  pub same_written : a ≡ b
  same_written = ap (λ (z : Outgoing). z.written) (sym p ∙ same ∙ q)

  pub same_write_faults : f ≡ g
  same_write_faults = ap (λ (z : Outgoing). z.faults) (sym p ∙ same ∙ q)

module _ {x y : Incoming} {a b : Option (List ℕ)} {f g : ℕ} (p : x ≡ comes a f) (q : y ≡ comes b g) (same : x ≡ y) where
  pub same_left : a ≡ b
  same_left = ap (λ (z : Incoming). z.left) (sym p ∙ same ∙ q)

  pub same_read_faults : f ≡ g
  same_read_faults = ap (λ (z : Incoming). z.faults) (sym p ∙ same ∙ q)
