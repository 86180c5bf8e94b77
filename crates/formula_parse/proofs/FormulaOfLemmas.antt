-- The formula of a text is the one that it spells.
use Rattle.std.specs.Prelude.{ℕ, ◌≤◌, true, false, nat_le, cond, List, [], ◌∷◌, ◌≡◌, length, Option, Some, None, refl}
use Rattle.std.proofs.Common.{sym, ◌∙◌, subst, ap, inl, inr}
use Rattle.std.proofs.lemmas.Bool.{le-leb, leb-true}
use Rattle.std.proofs.lemmas.Option.{none-some, same_Some}
use Rattle.std.specs.Str.{chars}
use Rattle.formula_lex.specs.declared.token.Token.{Token}
use Rattle.formula_lex.specs.Machine.{tokens_in}
use Rattle.formula_lex.specs.Spelling.{SpellsText}
use Rattle.formula_lex.proofs.Complete.{spelled_read}
use Rattle.formula_lex.proofs.Sound.{read_spelled}
use Rattle.formula_parse.specs.declared.fault.ParseFault.{ParseFault}
use Rattle.formula_parse.specs.declared.fault.ParseFault.TheVariants as fault
use Rattle.formula_parse.specs.declared.operator.Constant.TheVariants as con
use Rattle.formula_parse.specs.declared.operator.Dialect.TheVariants as dialect
use Rattle.formula_parse.specs.FormulaOf.{formula_in, formula_of, IsNoneAt}
use Rattle.formula_parse.specs.Runs.{tree_from}
use Rattle.formula_parse.specs.Spelling.{SpellsIn, SpellsFormula, FitsFault, max_bytes}
use Rattle.formula_parse.specs.Tree.{Tree, constant}
use Rattle.formula_parse.proofs.Clauses.{nothing_read}
use Rattle.formula_parse.proofs.WordLemmas.{tree_spelled, spelled_tree}

tokens_spelled : (text : List ℕ) (ks : List Token) → SpellsText text ks → tokens_in (chars text) ≡ Some ks
unfolding SpellsText
tokens_spelled text ks s = spelled_read (chars text) ks s

spelled_tokens : (text : List ℕ) (ks : List Token) → tokens_in (chars text) ≡ Some ks → SpellsText text ks
unfolding SpellsText
spelled_tokens text ks e = read_spelled (chars text) ks e

-- some tokens have the tree that they lead to
some_tokens : (ks : List Token) (t : Tree) → tree_from dialect.Formula ks ≡ Some t → formula_in (Some ks) ≡ Some t
some_tokens [] t e = absurd (none-some t (sym (nothing_read dialect.Formula) ∙ e))
some_tokens (k ∷ ks) t e = e

within : (text : List ℕ) → length text ≤ max_bytes → formula_of text ≡ formula_in (tokens_in (chars text))
unfolding formula_of
within text h = rw (le-leb (length text) max_bytes h) refl

-- the tree that a text spells is its formula
pub formula_spelled : (text : List ℕ) (t : Tree) → SpellsFormula text t → formula_of text ≡ Some t
formula_spelled text t (inl s) =
    within text s.short ∙ ap formula_in (tokens_spelled text s.tokens s.spelled)
    ∙ some_tokens s.tokens t (spelled_tree dialect.Formula s.tokens t s.tree)
formula_spelled text t (inr s) =
    within text s.1.short ∙ ap formula_in (tokens_spelled text s.1.tokens s.1.spelled ∙ ap Some s.1.tree) ∙ ap Some (sym s.0)

-- how tokens spell a formula
module _ (text : List ℕ) (short : length text ≤ max_bytes) where
  by_tokens : (o : Option (List Token)) → tokens_in (chars text) ≡ o → (t : Tree) → formula_in o ≡ Some t → SpellsFormula text t
  by_tokens None e t f = absurd (none-some t f)
  by_tokens (Some []) e t f =
      inr (sym (same_Some _ _ f), record { short = short; tokens = []; spelled = spelled_tokens text [] e; tree = refl })
  by_tokens (Some (k ∷ ks)) e t f =
      inl (record { short = short; tokens = k ∷ ks; spelled = spelled_tokens text (k ∷ ks) e; tree = tree_spelled dialect.Formula (k ∷ ks) t f })

-- and a text spells its formula
pub spelled_formula : (text : List ℕ) (t : Tree) → formula_of text ≡ Some t → SpellsFormula text t
unfolding formula_of
spelled_formula text t e =
    elim (nat_le (length text) max_bytes) as (λ b. nat_le (length text) max_bytes ≡ b → cond b (formula_in (tokens_in (chars text))) None ≡ Some t → SpellsFormula text t) [
      | true ↦ λ s f. by_tokens text (leb-true (length text) max_bytes s) (tokens_in (chars text)) refl t f
      | false ↦ λ s f. absurd (none-some t f)
    ] refl e

-- a text that spells none has none
pub formula_none : (text : List ℕ) (e : ParseFault) → FitsFault text ((o : Option Tree) × SpellsIn dialect.Formula text o) e → IsNoneAt e (formula_of text)
formula_none text (fault.Syntax at) h =
    elim (formula_of text) as (λ o. formula_of text ≡ o → o ≡ None) [
      | None ↦ λ e. refl
      | Some t ↦ λ e. absurd (elim (spelled_formula text t e) [ inl s ↦ h.1 (Some t, s) | inr s ↦ h.1 (None, s.1) ])
    ] refl
formula_none text fault.NoMemory h = tt

-- what was read is the formula
pub formula_read : (text : List ℕ) (o : Option Tree) → SpellsIn dialect.Formula text o → (t : Tree) → o ≡ Some t → formula_of text ≡ Some t
formula_read text o s t e = formula_spelled text t (inl (subst (SpellsIn dialect.Formula text) e s))

-- and so is `None` where there was nothing to read
pub formula_empty : (text : List ℕ) (o : Option Tree) → SpellsIn dialect.Formula text o → o ≡ None → (t : Tree) → t ≡ constant con.None → formula_of text ≡ Some t
formula_empty text o s e t k = formula_spelled text t (inr (k, subst (SpellsIn dialect.Formula text) e s))
