-- Of two outcomes that are both looked at, which cell may be named.
use Rattle.std.proofs.Common.{ℕ, Bool, List, [], ◌∷◌, ◌++◌, ◌≡◌, inl, inr, refl, sym, ap, ◌∙◌, subst, cond, Some}
use Rattle.cell_types.specs.declared.cell.CellId.{CellId}
use Rattle.std.specs.List.{list_all}
use Rattle.cell_types.specs.declared.cell.KeyItem.{KeyItem}
use Rattle.cell_types.specs.declared.value.ErrKind.TheVariants as err
use Rattle.formula_eval.specs.Lookup.{is_key_column, scan, matched_in, matched}
use Rattle.formula_eval.specs.Reader.{Reader}
use Rattle.formula_eval.specs.Run.{circular, need, Out, gives, raises, stops, both, IsAmong, MayName}

among_left : (d : CellId) (cs ds : List CellId) → IsAmong d cs → IsAmong d (cs ++ ds)
among_left d [] ds h = absurd h
among_left d (c ∷ cs) ds (inl e) = inl e
among_left d (c ∷ cs) ds (inr h) = inr (among_left d cs ds h)

among_right : (d : CellId) (cs ds : List CellId) → IsAmong d ds → IsAmong d (cs ++ ds)
among_right d [] ds h = h
among_right d (c ∷ cs) ds h = inr (among_right d cs ds h)

-- it is no circular cell
abbrev NotCircular : {A : Type 0} → Out A → Type 0
NotCircular (stops circular) = ⊥
NotCircular o = Unit {0}

module _ {A B C : Type 0} (f : A → B → C) where
  pub circular_left : (o : Out A) (p : Out B) → o ≡ stops circular → both f o p ≡ stops circular
  circular_left o p e = ap (λ (q : Out A). both f q p) e

  pub circular_right : (o : Out A) → both f o (stops circular) ≡ stops circular
  circular_right (gives a) = refl
  circular_right (raises e) = refl
  circular_right (stops circular) = refl
  circular_right (stops (need cs)) = refl

  pub need_left : (d : CellId) (o : Out A) (p : Out B) → MayName d o → NotCircular p → MayName d (both f o p)
  need_left d (gives a) p h n = absurd h
  need_left d (raises e) p h n = absurd h
  need_left d (stops circular) p h n = absurd h
  need_left d (stops (need cs)) (gives b) h n = h
  need_left d (stops (need cs)) (raises e) h n = h
  need_left d (stops (need cs)) (stops circular) h n = absurd n
  need_left d (stops (need cs)) (stops (need ds)) h n = among_left d cs ds h

  pub need_right : (d : CellId) (o : Out A) (p : Out B) → NotCircular o → MayName d p → MayName d (both f o p)
  need_right d o (gives b) n h = absurd h
  need_right d o (raises e) n h = absurd h
  need_right d o (stops circular) n h = absurd h
  need_right d (gives a) (stops (need ds)) n h = h
  need_right d (raises e) (stops (need ds)) n h = h
  need_right d (stops circular) (stops (need ds)) n h = absurd n
  need_right d (stops (need cs)) (stops (need ds)) n h = among_right d cs ds h

-- what may name a cell is not circular
pub named_not : {A : Type 0} (d : CellId) (o : Out A) → MayName d o → NotCircular o
named_not d (gives a) h = tt
named_not d (raises e) h = tt
named_not d (stops circular) h = absurd h
named_not d (stops (need cs)) h = tt

pub given_not : {A : Type 0} (o : Out A) (v : A) → o ≡ gives v → NotCircular o
given_not {A} o v e = subst (λ (q : Out A). NotCircular q) (sym e) tt

-- the rows that meet keys, where the table is there
pub matched_is : (rd : Reader) (t : List ℕ) (ks : List KeyItem) (rs : List ℕ) (b : Bool) → rd.rows t ≡ Some rs → list_all (λ k. is_key_column rd t k.column) ks ≡ b
    → matched rd t ks ≡ cond b (scan rd t ks rs) (raises err.Key)
matched_is rd t ks rs b e f = ap (matched_in rd t ks) e ∙ ap (λ (c : Bool). cond c (scan rd t ks rs) (raises err.Key)) f
