-- The atoms of rules as trees of numbers, and back.
use Rattle.std.specs.Prelude.{ℕ, ◌≡◌, refl, nat_eq, cond}
use Rattle.std.proofs.Common.{ap}
use base.Stored.{Gv, gnil, gnum, gcons, num}
use Rattle.formula_parse.specs.declared.rule.RuleAtom.{RuleAtom}
use Rattle.formula_parse.specs.declared.rule.RuleAtom.TheVariants as rule
use Rattle.formula_parse.specs.NameCode.{name_code, name_in, name_back, left_of, right_of}

-- the code of an atom
abbrev pub atom_code : RuleAtom → Gv
atom_code rule.Owner = gcons (gnum 0) gnil
atom_code rule.Editor = gcons (gnum 1) gnil
atom_code rule.Viewer = gcons (gnum 2) gnil
atom_code (rule.User n) = gcons (gnum 3) (name_code n)
atom_code (rule.UserAttribute n m) = gcons (gnum 4) (gcons (name_code n) (name_code m))
atom_code (rule.Rec n) = gcons (gnum 5) (name_code n)
atom_code (rule.NewRec n) = gcons (gnum 6) (name_code n)

-- the atom with that tag
abbrev pub atom_at : ℕ → Gv → RuleAtom
atom_at tag g =
    cond (nat_eq tag 0) rule.Owner
    (cond (nat_eq tag 1) rule.Editor
    (cond (nat_eq tag 2) rule.Viewer
    (cond (nat_eq tag 3) (rule.User (name_in g))
    (cond (nat_eq tag 4) (rule.UserAttribute (name_in (left_of g)) (name_in (right_of g)))
    (cond (nat_eq tag 5) (rule.Rec (name_in g)) (rule.NewRec (name_in g)))))))

-- the atom of a code
abbrev pub atom_in : Gv → RuleAtom
atom_in g = atom_at (num (left_of g)) (right_of g)

-- which is the one that has it
pub atom_back : (a : RuleAtom) → atom_in (atom_code a) ≡ a
atom_back rule.Owner = refl
atom_back rule.Editor = refl
atom_back rule.Viewer = refl
atom_back (rule.User n) = ap (λ x. rule.User x) (name_back n)
atom_back (rule.UserAttribute n m) = λ i. rule.UserAttribute (name_back n i) (name_back m i)
atom_back (rule.Rec n) = ap (λ x. rule.Rec x) (name_back n)
atom_back (rule.NewRec n) = ap (λ x. rule.NewRec x) (name_back n)
