-- A table that stands where it was guessed.
use Rattle.std.proofs.Common.{ℕ, zero, suc, Bool, true, false, cond, List, [], ◌∷◌, ◌≡◌, refl, sym, ap, subst, ◌∙◌, Some, None, slice_get}
use Rattle.std.proofs.lemmas.Slice.Eq.{bytes_eq-Decides}
use Rattle.std.specs.List.{AllByRecursion}
use Rattle.std.specs.Str.{bytes_eq}
use Rattle.doc_model.specs.ByIds.{AreDistinct, find_id}
use Rattle.doc_model.specs.Document.{Table, table_id}
use Rattle.doc_model.proofs.Choices.{cond_false, cond_true}

each_there : (P : Table → Type 0) (s : List Table) (i : ℕ) (t : Table) → AllByRecursion P s → slice_get s i ≡ Some t → P t
each_there P [] i t h e = absurd (cc)
each_there P (u ∷ s) zero t h e = let same : u ≡ t = cc in subst P same h.0
each_there P (u ∷ s) (suc i) t h e = each_there P s i t h.1 e

-- no table before it has its id
pub guessed : (c : List ℕ) (s : List Table) (i : ℕ) (t : Table) → AreDistinct table_id s → slice_get s i ≡ Some t → bytes_eq t.id c ≡ true → slice_get s i ≡ find_id table_id c s
guessed c [] i t d e is = absurd (cc)
guessed c (u ∷ s) zero t d e is =
    let same : t ≡ u = cc in
    sym (cond_true (bytes_eq u.id c) (Some u) (find_id table_id c s) (ap (λ (v : Table). bytes_eq v.id c) (sym same) ∙ is))
guessed c (u ∷ s) (suc i) t d e is =
    let named : c ≡ t.id = sym ((bytes_eq-Decides t.id c).0 is) in
    let apart : bytes_eq u.id c ≡ false = ap (bytes_eq u.id) named ∙ each_there (λ v. bytes_eq u.id v.id ≡ false) s i t d.0 e in
    guessed c s i t d.1 e is ∙ sym (cond_false (bytes_eq u.id c) (Some u) (find_id table_id c s) apart)
