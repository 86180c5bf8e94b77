-- A tree in which no name is replaced stays.
use Rattle.std.proofs.Common.{◌≡◌, ◌∙◌, ap, refl, subst, sym, ℕ, ◌≤◌, Bool, false, ⊎_elim, List, [], ◌∷◌, map, Some}
use Rattle.std.specs.List.{list_any}
use Rattle.std.proofs.lemmas.Bool.{or_parts}
use Rattle.formula_parse.specs.declared.lexeme.Lexeme.{Lexeme}
use Rattle.formula_parse.specs.declared.operator.Dialect.TheVariants as dialect
use Rattle.formula_parse.specs.FormulaOf.{formula_of}
use Rattle.formula_parse.specs.Grammar.{lexemes_of}
use Rattle.formula_parse.specs.Lexemes.{AllAllowed, kind_of}
use Rattle.formula_parse.specs.Spelling.{SpellsIn}
use Rattle.formula_parse.specs.Standing.{max_height}
use Rattle.formula_parse.specs.Tree.{Tree}
use Rattle.formula_parse.proofs.FormulaOfLemmas.{formula_read, spelled_formula}
use Rattle.rename_texts.specs.Laws.{HeightLaw, IsFree, LexemeLaw, StandsLaw, WrittenLaw}
use Rattle.rename_texts.specs.Marked.{marked, marks, rewritten}
use Rattle.rename_texts.specs.Renamed.{Rename, renamed}

-- lexemes without marks are written as they are
unmarked : (new : List ℕ) (ks : List (Lexeme × Bool)) → list_any (λ b. b) (map (λ (k : Lexeme × Bool). k.1) ks) ≡ false → map (rewritten new) ks ≡ map (λ (k : Lexeme × Bool). k.0) ks
unmarked new [] h = refl
unmarked new (k ∷ ks) h =
    let p = or_parts k.1 (list_any (λ b. b) (map (λ (k : Lexeme × Bool). k.1) ks)) h in
    ap (λ b. rewritten new (k.0, b) ∷ map (rewritten new) ks) p.0 ∙ ap (λ ls. k.0 ∷ ls) (unmarked new ks p.1)

same_some : (a b : Tree) → Some a ≡ Some b → a ≡ b
same_some a b e = cc

module _ (written : WrittenLaw) (lexemes : LexemeLaw) (height : HeightLaw) (stands : StandsLaw) (x : Rename) (text : List ℕ) (t : Tree) (free : IsFree x t) (h : list_any (λ b. b) (marks x t) ≡ false) where
  same_lexemes : lexemes_of (renamed x t) ≡ lexemes_of t
  same_lexemes = sym (lexemes x t) ∙ unmarked x.new (marked x t) h ∙ written x t

  renamed_spelled : SpellsIn dialect.Formula text (Some t) → formula_of text ≡ Some (renamed x t)
  renamed_spelled s = formula_read text (Some (renamed x t)) (record {
    short = s.short;
    tokens = s.tokens;
    spelled = s.spelled;
    tree = record {
      written = s.tree.written ∙ ap (map (λ k. kind_of k)) (sym same_lexemes);
      allowed = subst AllAllowed (sym same_lexemes) s.tree.allowed;
      stands = stands x dialect.Formula t free s.tree.stands;
      low = subst (λ (n : ℕ). n ≤ max_height) (sym (height x t)) s.tree.low;
    };
  }) (renamed x t) refl

  pub stays : formula_of text ≡ Some t → t ≡ renamed x t
  stays e = ⊎_elim (λ s. same_some t (renamed x t) (sym e ∙ renamed_spelled s)) (λ s. s.0 ∙ ap (renamed x) (sym s.0)) (spelled_formula text t e)
