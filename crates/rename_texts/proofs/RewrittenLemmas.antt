-- Rewritten texts spell renamed trees.
use Rattle.std.proofs.Common.{◌≡◌, ◌∙◌, ap, refl, sym, subst, ℕ, ◌≤◌, Bool, true, false, not, ◌&&◌, nat_le, nat_lt, List, [], ◌∷◌, length, Some, arith, inl, inr}
use Rattle.std.specs.List.{list_all}
use Rattle.std.specs.Str.{chars}
use Rattle.std.proofs.lemmas.Bool.{and_from, and_parts, lt-ltb}
use Rattle.std.proofs.lemmas.Str.{encodes-chars}
use Rattle.unicode_ident.specs.Ident.{is_xid_start, is_xid_continue}
use Rattle.cell_types.specs.NameRule.{has_name_characters, is_name, is_reserved}
use Rattle.formula_lex.specs.declared.token.Token.{Token}
use Rattle.formula_lex.specs.Spelling.{AllContinue, IsWord, SpellsText}
use Rattle.formula_parse.specs.declared.operator.Dialect.{Dialect}
use Rattle.formula_parse.specs.FormulaOf.{formula_of}
use Rattle.formula_parse.specs.Lexemes.{is_field, is_id, is_short}
use Rattle.formula_parse.specs.Spelling.{SpellsIn, SpellsTree, max_bytes}
use Rattle.formula_parse.specs.Tree.{Tree}
use Rattle.formula_parse.proofs.FormulaOfLemmas.{formula_spelled, spelled_formula}
use Rattle.rename_texts.specs.Marked.{marks}
use Rattle.rename_texts.specs.Renamed.{Rename, renamed}
use Rattle.rename_texts.specs.Rewriting.{replaced, rewritten_text}
use Rattle.rename_texts.specs.Texts.{IsRewritable, RewrittenFormulaLaw, RewrittenLaw}
use Rattle.rename_texts.proofs.RewriteLemmas.{replaced_chars, rewritten_some}
use Rattle.rename_texts.proofs.TextLemmas.{text_renamed}

-- ---- a name is a word that is allowed

all_continue : (cs : List ℕ) → list_all (λ d. is_xid_continue d) cs ≡ true → AllContinue cs
all_continue [] h = tt
all_continue (c ∷ cs) h = let parts = and_parts (is_xid_continue c) (list_all (λ d. is_xid_continue d) cs) h in (parts.0, all_continue cs parts.1)

is_word : (cs : List ℕ) → has_name_characters cs ≡ true → IsWord cs
is_word [] h = absurd (cc)
is_word (c ∷ cs) h = let parts = and_parts (is_xid_start c) (list_all (λ d. is_xid_continue d) cs) h in (parts.0, all_continue cs parts.1)

some_characters : (cs : List ℕ) → has_name_characters cs ≡ true → nat_lt 0 (length cs) ≡ true
some_characters [] h = absurd (cc)
some_characters (c ∷ cs) h = lt-ltb 0 (length (c ∷ cs)) (omega arith)

free_word : (r i : Bool) → not r ≡ true → not (r && i) ≡ true
free_word true i h = absurd (cc)
free_word false i h = refl

name_word : (n : List ℕ) → is_name n ≡ true → IsWord (chars n)
unfolding is_name
name_word n h = is_word (chars n) (and_parts (has_name_characters (chars n)) _ h).0

name_field : (n : List ℕ) → is_name n ≡ true → is_field n ≡ true
unfolding is_name
name_field n h =
    let whole = and_parts (has_name_characters (chars n)) (nat_le (length (chars n)) 64 && not (is_reserved n)) h in
    let behind = and_parts (nat_le (length (chars n)) 64) (not (is_reserved n)) whole.1 in
    and_from (not (is_reserved n && not (is_id n))) (is_short n)
    (free_word (is_reserved n) (not (is_id n)) behind.1)
    (and_from (nat_lt 0 (length (chars n))) (nat_le (length (chars n)) 64) (some_characters (chars n) whole.0) behind.0)

-- ---- texts

by_tokens : (x : Rename) (d : Dialect) (text : List ℕ) (t : Tree) (ts : List Token) → IsRewritable x text t → SpellsText text ts → SpellsTree d t ts
    → rewritten_text text (marks x t) x.new ≡ replaced text x.new 0 ts (marks x t) → SpellsIn d (replaced text x.new 0 ts (marks x t)) (Some (renamed x t))
unfolding SpellsText
by_tokens x d text t ts g s tree e =
    text_renamed x d (chars x.new) text (replaced text x.new 0 ts (marks x t)) ts t s tree
    (name_word x.new g.named) (encodes-chars x.new g.new_is_utf8) (name_field x.new g.named) g.free
    (replaced_chars text x.new g.text_is_utf8 g.new_is_utf8 ts (marks x t) s)
    (subst (λ (other : List ℕ). length other ≤ max_bytes) e g.short)

pub rewritten_spells : RewrittenLaw
rewritten_spells x d text t g s =
    let e = rewritten_some text x.new s.tokens (marks x t) s.spelled in
    subst (λ (other : List ℕ). SpellsIn d other (Some (renamed x t))) (sym e) (by_tokens x d text t s.tokens g s.spelled s.tree e)

pub rewritten_formula : RewrittenFormulaLaw
rewritten_formula x text t g e =
    elim (spelled_formula text t e) [
      | inl s ↦ formula_spelled (rewritten_text text (marks x t) x.new) (renamed x t) (inl (rewritten_spells x _ text t g s))
      | inr s ↦
          let empty : SpellsText text [] = subst (λ (ts : List Token). SpellsText text ts) s.1.tree s.1.spelled in
          let stays : rewritten_text text (marks x t) x.new ≡ text = rewritten_some text x.new [] (marks x t) empty in
          ap formula_of stays ∙ e ∙ ap Some (s.0 ∙ sym (ap (renamed x) s.0))
    ]
