-- The tree that the text of a rule spells is the one that the function of the text gives.
use Rattle.std.proofs.Common.{◌≡◌, ◌∙◌, ap, refl, sym, subst, ℕ, ◌≤◌, Bool, true, false, cond, nat_le, List, [], ◌∷◌, length, Option, Some, None, option_map}
use Rattle.std.specs.Str.{chars}
use Rattle.std.proofs.lemmas.Bool.{le-leb, leb-true}
use Rattle.std.proofs.lemmas.Option.{none-some, same_Some}
use Rattle.formula_lex.specs.declared.token.Token.{Token}
use Rattle.formula_lex.specs.Machine.{tokens_in}
use Rattle.formula_lex.specs.Spelling.{SpellsText}
use Rattle.formula_lex.proofs.Sound.{read_spelled}
use Rattle.formula_parse.specs.declared.operator.Dialect.TheVariants as dialect
use Rattle.formula_parse.specs.Runs.{tree_from}
use Rattle.formula_parse.specs.Spelling.{SpellsIn, SpellsSome, max_bytes}
use Rattle.formula_parse.specs.Tree.{Tree}
use Rattle.formula_parse.proofs.Clauses.{nothing_read}
use Rattle.formula_parse.proofs.WordLemmas.{spelled_tree, tree_spelled}
use Rattle.acl_formula.specs.FormulaText.{formula_of, tree_of_tokens}
use Rattle.rename_texts.specs.Marked.{marks}
use Rattle.rename_texts.specs.Renamed.{renamed}
use Rattle.rename_texts.specs.Rewriting.{rewritten_text}
use Rattle.rename_texts.proofs.RewriteLemmas.{tokens_spelled}
use Rattle.rename_texts.proofs.RewrittenLemmas.{rewritten_spells}
use Rattle.rename_flow.specs.RuleTextLaw.{RewrittenRuleLaw}
use Rattle.rename_flow.specs.Changes.{rule_tree}

abbrev or_nothing : Option (Option Tree) → Option Tree
or_nothing None = None
or_nothing (Some o) = o

of_tokens : (ts : List Token) (o : Option Tree) → SpellsSome dialect.Rule o ts → or_nothing (tree_of_tokens (Some ts)) ≡ o
of_tokens [] None e = refl
of_tokens [] (Some t) s = absurd (none-some t (sym (nothing_read dialect.Rule) ∙ spelled_tree dialect.Rule [] t s))
of_tokens (k ∷ ks) None e = absurd (cc)
of_tokens (k ∷ ks) (Some t) s = ap (λ (o : Option Tree). or_nothing (option_map Some o)) (spelled_tree dialect.Rule (k ∷ ks) t s)

pub spelled_rule : (text : List ℕ) (o : Option Tree) → SpellsIn dialect.Rule text o → rule_tree text ≡ o
spelled_rule text o s =
    ap (λ (b : Bool). or_nothing (cond b (tree_of_tokens (tokens_in (chars text))) None)) (le-leb (length text) max_bytes s.short)
    ∙ ap (λ (m : Option (List Token)). or_nothing (tree_of_tokens m)) (tokens_spelled text s.tokens s.spelled)
    ∙ of_tokens s.tokens o s.tree

reads : (text : List ℕ) (ts : List Token) → tokens_in (chars text) ≡ Some ts → SpellsText text ts
unfolding SpellsText
reads text ts e = read_spelled (chars text) ts e

module _ (text : List ℕ) (lacks : (o : Option Tree) × SpellsIn dialect.Rule text o → ⊥) where
  no_tree : length text ≤ max_bytes → (k : Token) (ks : List Token) → SpellsText text (k ∷ ks) → (q : Option Tree) → tree_from dialect.Rule (k ∷ ks) ≡ q → or_nothing (option_map Some q) ≡ None
  no_tree h k ks s None e = refl
  no_tree h k ks s (Some t) e = absurd (lacks (Some t, record { short = h; tokens = k ∷ ks; spelled = s; tree = tree_spelled dialect.Rule (k ∷ ks) t e }))

  no_rule : (b : Bool) → nat_le (length text) max_bytes ≡ b → (m : Option (List Token)) → tokens_in (chars text) ≡ m → or_nothing (cond b (tree_of_tokens m) None) ≡ None
  no_rule false e m f = refl
  no_rule true e None f = refl
  no_rule true e (Some []) f = absurd (lacks (None, record { short = leb-true (length text) max_bytes e; tokens = []; spelled = reads text [] f; tree = refl }))
  no_rule true e (Some (k ∷ ks)) f = no_tree (leb-true (length text) max_bytes e) k ks (reads text (k ∷ ks) f) (tree_from dialect.Rule (k ∷ ks)) refl

  pub rule_lacks : rule_tree text ≡ None
  rule_lacks = no_rule (nat_le (length text) max_bytes) refl (tokens_in (chars text)) refl

-- ---- and what the function gives is spelled

module _ (text : List ℕ) (t : Tree) where
  tree_is_spelled : length text ≤ max_bytes → (k : Token) (ks : List Token) → SpellsText text (k ∷ ks) → (q : Option Tree) → tree_from dialect.Rule (k ∷ ks) ≡ q → option_map Some q ≡ Some (Some t) → SpellsIn dialect.Rule text (Some t)
  tree_is_spelled h k ks s None e f = absurd (none-some (Some t) f)
  tree_is_spelled h k ks s (Some u) e f =
      subst (λ (o : Option Tree). SpellsIn dialect.Rule text o) (same_Some (Some u) (Some t) f)
      (record { short = h; tokens = k ∷ ks; spelled = s; tree = tree_spelled dialect.Rule (k ∷ ks) u e })

  rule_is_spelled : (b : Bool) → nat_le (length text) max_bytes ≡ b → (m : Option (List Token)) → tokens_in (chars text) ≡ m → cond b (tree_of_tokens m) None ≡ Some (Some t) → SpellsIn dialect.Rule text (Some t)
  rule_is_spelled false e m f g = absurd (none-some (Some t) g)
  rule_is_spelled true e None f g = absurd (none-some (Some t) g)
  rule_is_spelled true e (Some []) f g = absurd (none-some t (same_Some None (Some t) g))
  rule_is_spelled true e (Some (k ∷ ks)) f g = tree_is_spelled (leb-true (length text) max_bytes e) k ks (reads text (k ∷ ks) f) (tree_from dialect.Rule (k ∷ ks)) refl g

tokens_whole : (ts : List Token) (t : Tree) → SpellsSome dialect.Rule (Some t) ts → tree_of_tokens (Some ts) ≡ Some (Some t)
tokens_whole [] t s = absurd (none-some t (sym (nothing_read dialect.Rule) ∙ spelled_tree dialect.Rule [] t s))
tokens_whole (k ∷ ks) t s = ap (λ (o : Option Tree). option_map Some o) (spelled_tree dialect.Rule (k ∷ ks) t s)

whole_rule : (text : List ℕ) (t : Tree) → SpellsIn dialect.Rule text (Some t) → formula_of text ≡ Some (Some t)
whole_rule text t s =
    ap (λ (b : Bool). cond b (tree_of_tokens (tokens_in (chars text))) None) (le-leb (length text) max_bytes s.short)
    ∙ ap (λ (m : Option (List Token)). tree_of_tokens m) (tokens_spelled text s.tokens s.spelled)
    ∙ tokens_whole s.tokens t s.tree

pub rule_rewritten : RewrittenRuleLaw
rule_rewritten x text t g e =
    whole_rule (rewritten_text text (marks x t) x.new) (renamed x t)
    (rewritten_spells x dialect.Rule text t g (rule_is_spelled text t (nat_le (length text) max_bytes) refl (tokens_in (chars text)) refl e))
