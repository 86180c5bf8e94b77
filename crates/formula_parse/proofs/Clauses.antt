-- What the clauses of `read_tree` and `parse` say.
use Rattle.std.specs.Prelude.{ℕ, ◌≡◌, ◌≤◌, ◌<◌, List, [], length, Option, Some, None, refl}
use Rattle.std.proofs.Common.{arith, sym, ◌∙◌, subst, ap, inl, inr}
use Rattle.std.proofs.lemmas.Option.{none-some, same_Some}
use Rattle.formula_lex.specs.declared.token.Token.{Token}
use Rattle.formula_lex.specs.Spelling.{SpellsText}
use Rattle.formula_parse.specs.declared.fault.ParseFault.{ParseFault}
use Rattle.formula_parse.specs.declared.fault.ParseFault.TheVariants as fault
use Rattle.formula_parse.specs.declared.operator.Constant.TheVariants as con
use Rattle.formula_parse.specs.declared.operator.Dialect.{Dialect}
use Rattle.formula_parse.specs.declared.operator.Dialect.TheVariants as dialect
use Rattle.formula_parse.specs.Tree.{Tree, constant}
use Rattle.formula_parse.specs.Spelling.{SpellsSome, SpellsIn, SpellsFormula, max_bytes, FitsFault}
use Rattle.formula_parse.specs.Runs.{read, finish, tree_from}
use Rattle.formula_parse.specs.Parsed.{StopsWithin}
use Rattle.formula_parse.proofs.WordLemmas.{tree_spelled, spelled_tree}

-- no tree has no tokens
pub nothing_read : (d : Dialect) → tree_from d [] ≡ None
unfolding tree_from read finish
nothing_read d = refl

pub too_long : (d : Dialect) (text : List ℕ) → 4096 < length text → (o : Option Tree) × SpellsIn d text o → ⊥
unfolding max_bytes
too_long d text h s = let low : length text ≤ 4096 = s.1.short in absurd (omega arith)

pub is_short : (text : List ℕ) → length text ≤ 4096 → length text ≤ max_bytes
unfolding max_bytes
is_short text h = h

module _ (d : Dialect) (text : List ℕ) (list : List Token) (spells : SpellsText text list) (only : (other : List Token) → SpellsText text other → other ≡ list) where
  -- a spelling is by these tokens
  same_tokens : (o : Option Tree) → SpellsIn d text o → SpellsSome d o list
  same_tokens o s = subst (SpellsSome d o) (only s.tokens s.spelled) s.tree

  pub none_spelled : length text ≤ max_bytes → list ≡ [] → SpellsIn d text None
  none_spelled h e = record { short = h; tokens = list; spelled = spells; tree = e }

  pub none_only : list ≡ [] → (o : Option Tree) → SpellsIn d text o → o ≡ None
  none_only e None s = refl
  none_only e (Some t) s =
      absurd (none-some t (sym (nothing_read d) ∙ ap (tree_from d) (sym e) ∙ spelled_tree d list t (same_tokens (Some t) s)))

  pub some_spelled : length text ≤ max_bytes → (t : Tree) → tree_from d list ≡ Some t → SpellsIn d text (Some t)
  some_spelled h t e = record { short = h; tokens = list; spelled = spells; tree = tree_spelled d list t e }

  pub some_only : (t : Tree) → tree_from d list ≡ Some t → (o : Option Tree) → SpellsIn d text o → o ≡ Some t
  some_only t e None s = absurd (none-some t (sym (nothing_read d) ∙ ap (tree_from d) (sym (same_tokens None s)) ∙ e))
  some_only t e (Some u) s = sym (spelled_tree d list u (same_tokens (Some u) s)) ∙ e

  pub stops : (list ≡ [] → ⊥) → (e : ParseFault) → StopsWithin (length text) e (tree_from d list) → FitsFault text ((o : Option Tree) × SpellsIn d text o) e
  stops some (fault.Syntax at) s = (s.0, λ p. none_of p.0 p.1)
    where
      none_of : (o : Option Tree) → SpellsIn d text o → ⊥
      none_of None p = some (same_tokens None p)
      none_of (Some t) p = none-some t (sym s.1 ∙ spelled_tree d list t (same_tokens (Some t) p))
  stops some fault.NoMemory s = tt

-- the formula of a text
pub tree_only : (text : List ℕ) (o : Option Tree) → ((other : Option Tree) → SpellsIn dialect.Formula text other → other ≡ o) → (t : Tree) → o ≡ Some t → (other : Tree) → SpellsFormula text other → other ≡ t
tree_only text o only t e other s =
    elim s [
      | inl p ↦ same_Some _ _ (only (Some other) p ∙ e)
      | inr p ↦ absurd (none-some t (only None p.1 ∙ e))
    ]

pub nothing_only : (text : List ℕ) (o : Option Tree) → ((other : Option Tree) → SpellsIn dialect.Formula text other → other ≡ o) → o ≡ None → (t : Tree) → t ≡ constant con.None → (other : Tree) → SpellsFormula text other → other ≡ t
nothing_only text o only e t k other s =
    elim s [
      | inl p ↦ absurd (none-some other (sym (only (Some other) p ∙ e)))
      | inr p ↦ p.0 ∙ sym k
    ]
