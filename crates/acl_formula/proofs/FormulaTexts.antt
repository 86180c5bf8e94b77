-- What a text spells is what the function of the text gives.
use Rattle.std.proofs.Common.{◌≡◌, ◌≤◌, ◌∙◌, ap, sym, subst, refl, ℕ, Bool, true, false, cond, List, [], ◌∷◌, length, nat_le, Option, Some, None, option_map}
use Rattle.std.specs.Str.{chars}
use Rattle.std.proofs.lemmas.Bool.{le-leb, leb-true}
use Rattle.std.proofs.lemmas.Option.{none-some, same_Some}
use Rattle.formula_lex.specs.declared.token.Token.{Token}
use Rattle.formula_lex.specs.Machine.{tokens_in}
use Rattle.formula_lex.specs.Spelling.{SpellsText}
use Rattle.formula_lex.proofs.Complete.{spelled_read}
use Rattle.formula_lex.proofs.Sound.{read_spelled}
use Rattle.formula_parse.specs.declared.operator.Dialect.TheVariants as dialect
use Rattle.formula_parse.specs.declared.fault.ParseFault.{ParseFault}
use Rattle.formula_parse.specs.declared.fault.ParseFault.TheVariants as fault
use Rattle.formula_parse.specs.Runs.{tree_from, read, finish}
use Rattle.formula_parse.specs.Spelling.{SpellsIn, SpellsSome, FitsFault, max_bytes}
use Rattle.formula_parse.specs.Tree.{Tree}
use Rattle.formula_parse.proofs.WordLemmas.{tree_spelled, spelled_tree}
use Rattle.acl_formula.specs.FormulaText.{tree_of_tokens, formula_of, LacksFormula}

nothing_read : tree_from dialect.Rule [] ≡ None
unfolding tree_from read finish
nothing_read = refl

text_read : (text : List ℕ) (ts : List Token) → SpellsText text ts → tokens_in (chars text) ≡ Some ts
unfolding SpellsText
text_read text ts s = spelled_read (chars text) ts s

text_spelled : (text : List ℕ) (ts : List Token) → tokens_in (chars text) ≡ Some ts → SpellsText text ts
unfolding SpellsText
text_spelled text ts e = read_spelled (chars text) ts e

tokens_some : (o : Option Tree) (ts : List Token) → SpellsSome dialect.Rule o ts → tree_of_tokens (Some ts) ≡ Some o
tokens_some None ts e = ap (λ (l : List Token). tree_of_tokens (Some l)) e
tokens_some (Some t) [] s = let bad : ⊥ = none-some t (sym nothing_read ∙ spelled_tree dialect.Rule [] t s) in elim bad [ ]
tokens_some (Some t) (k ∷ ks) s = ap (λ (o : Option Tree). option_map Some o) (spelled_tree dialect.Rule (k ∷ ks) t s)

pub spelled_formula : (text : List ℕ) (o : Option Tree) → SpellsIn dialect.Rule text o → formula_of text ≡ Some o
spelled_formula text o s =
    ap (λ b. cond b (tree_of_tokens (tokens_in (chars text))) None) (le-leb (length text) max_bytes s.short)
    ∙ ap (λ (m : Option (List Token)). tree_of_tokens m) (text_read text s.tokens s.spelled)
    ∙ tokens_some o s.tokens s.tree

with_tree : (text : List ℕ) (o : Option Tree) → length text ≤ max_bytes → (ts : List Token) → SpellsText text ts → (m : Option Tree) → tree_from dialect.Rule ts ≡ m → option_map Some m ≡ Some o → SpellsIn dialect.Rule text o
with_tree text o h ts s None e f = let bad : ⊥ = none-some o f in elim bad [ ]
with_tree text o h ts s (Some t) e f =
    subst (SpellsIn dialect.Rule text) (same_Some _ _ f) (record { short = h; tokens = ts; spelled = s; tree = tree_spelled dialect.Rule ts t e })

with_tokens : (text : List ℕ) (o : Option Tree) → length text ≤ max_bytes → (m : Option (List Token)) → tokens_in (chars text) ≡ m → tree_of_tokens m ≡ Some o → SpellsIn dialect.Rule text o
with_tokens text o h None e f = let bad : ⊥ = none-some o f in elim bad [ ]
with_tokens text o h (Some []) e f =
    subst (SpellsIn dialect.Rule text) (same_Some _ _ f) (record { short = h; tokens = []; spelled = text_spelled text [] e; tree = refl })
with_tokens text o h (Some (k ∷ ks)) e f = with_tree text o h (k ∷ ks) (text_spelled text (k ∷ ks) e) (tree_from dialect.Rule (k ∷ ks)) refl f

short_or_none : (text : List ℕ) (o : Option Tree) (b : Bool) → nat_le (length text) max_bytes ≡ b → cond b (tree_of_tokens (tokens_in (chars text))) None ≡ Some o → SpellsIn dialect.Rule text o
short_or_none text o true h f = with_tokens text o (leb-true (length text) max_bytes h) (tokens_in (chars text)) refl f
short_or_none text o false h f = let bad : ⊥ = none-some o f in elim bad [ ]

pub formula_spelled : (text : List ℕ) (o : Option Tree) → formula_of text ≡ Some o → SpellsIn dialect.Rule text o
formula_spelled text o e = short_or_none text o (nat_le (length text) max_bytes) refl e

-- where nothing is spelled there is no formula
none_by : (text : List ℕ) → ((o : Option Tree) × SpellsIn dialect.Rule text o → ⊥) → (m : Option (Option Tree)) → formula_of text ≡ m → m ≡ None
none_by text lacks None e = refl
none_by text lacks (Some o) e = let bad : ⊥ = lacks (o, formula_spelled text o e) in elim bad [ ]

pub none_spelled : (text : List ℕ) → ((o : Option Tree) × SpellsIn dialect.Rule text o → ⊥) → formula_of text ≡ None
none_spelled text lacks = none_by text lacks (formula_of text) refl

pub lacks_formula : (text : List ℕ) (e : ParseFault) → FitsFault text ((o : Option Tree) × SpellsIn dialect.Rule text o) e → LacksFormula text e
lacks_formula text (fault.Syntax at) f = none_spelled text f.1
lacks_formula text fault.NoMemory f = tt
