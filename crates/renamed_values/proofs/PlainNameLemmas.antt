-- The tables that formulas of texts name are no metadata tables, as names begin with letters.
use Rattle.std.proofs.Common.{◌≡◌, ◌∙◌, ap, refl, subst, sym, ℕ, ◌+◌, ◌/◌, arith, Bool, true, false, cond, List, [], ◌∷◌, ◌++◌, Some, ⊎_elim, map, bytes_eq}
use Rattle.std.specs.Prelude.{nat_lt}
use Rattle.std.specs.Bool.{⊤}
use Rattle.std.specs.Char.{encode_utf8}
use Rattle.std.specs.Str.{chars, encode_utf8_all}
use Rattle.std.proofs.lemmas.Bool.{or_cases}
use Rattle.std.proofs.lemmas.Slice.Eq.{bytes_eq-Decides}
use Rattle.unicode_ident.specs.Ident.{is_xid_start}
use Rattle.unicode_ident.proofs.IdentLemmas.{is_xid_start-ascii}
use Rattle.doc_model.specs.MetadataIds.{columns_id, is_acl_id, is_metadata_id, is_schema_id, resources_id, rules_id, tables_id}
use Rattle.formula_lex.specs.declared.token.Token.{Token}
use Rattle.formula_lex.specs.declared.token.TokenKind.{TokenKind}
use Rattle.formula_lex.specs.declared.token.TokenKind.TheVariants as kind
use Rattle.formula_lex.specs.Spelling.{IsWord, SpelledFrom, SpellsText, Writes}
use Rattle.formula_parse.specs.declared.lexeme.Lexeme.{Lexeme}
use Rattle.formula_parse.specs.declared.operator.Dialect.TheVariants as dialect
use Rattle.formula_parse.specs.FormulaOf.{formula_of}
use Rattle.formula_parse.specs.Grammar.{items_of, keys_in, lexemes_of, lookup_lexemes, more_keys, more_of, op_lexemes}
use Rattle.formula_parse.specs.Lexemes.{kind_of}
use Rattle.formula_parse.specs.Spelling.{SpellsIn}
use Rattle.formula_parse.specs.Tree.{Tree, number, text, constant, dollar, binary, prefix, conditional, parentheses, list, call, attribute, every, lookup, atom, Trees, no_trees, one_more, Keys, no_keys, one_key}
use Rattle.formula_parse.proofs.FormulaOfLemmas.{spelled_formula}
use Rattle.renamed_values.specs.HeldRecords.{IsPlain}
use Rattle.renamed_values.specs.PlainNames.{AllNamePlain, KeysNamePlain, NamesPlain}

-- the first byte, or else 0
abbrev front : List ℕ → ℕ
front [] = 0
front (b ∷ bs) = b

two_great : (n : ℕ) → 192 + n ≡ 95 → ⊥
two_great n e = omega arith

three_great : (n : ℕ) → 224 + n ≡ 95 → ⊥
three_great n e = omega arith

four_great : (n : ℕ) → 240 + n ≡ 95 → ⊥
four_great n e = omega arith

char_front : (c : ℕ) (rest : List ℕ) → front (encode_utf8 c ++ rest) ≡ 95 → c ≡ 95
unfolding encode_utf8
char_front c rest e = by (nat_lt c 128) (nat_lt c 2048) (nat_lt c 65536) _ _ _ e
  where
    by : (x y z : Bool) (a b d : List ℕ)
        → front (cond x (c ∷ []) (cond y ((192 + c / 64) ∷ a) (cond z ((224 + c / 4096) ∷ b) ((240 + c / 262144) ∷ d))) ++ rest) ≡ 95 → c ≡ 95
    by true y z a b d f = f
    by false true z a b d f = absurd (two_great (c / 64) f)
    by false false true a b d f = absurd (three_great (c / 4096) f)
    by false false false a b d f = absurd (four_great (c / 262144) f)

-- a text that a word of a formula may be
abbrev IsWordText : List ℕ → Type 0
IsWordText n = (w : List ℕ) × IsWord w × (encode_utf8_all w ≡ n)

no_start : is_xid_start 95 ≡ true → ⊥
no_start e = let never : is_xid_start 95 ≡ false = is_xid_start-ascii 95 (omega arith) in absurd (cc)

word_front : (w : List ℕ) → IsWord w → front (encode_utf8_all w) ≡ 95 → ⊥
word_front [] h e = absurd h
word_front (c ∷ cs) h e = no_start (ap is_xid_start (sym (char_front c (encode_utf8_all cs) e)) ∙ h.0)

id_front : (m n : List ℕ) → front m ≡ 95 → bytes_eq m n ≡ true → front n ≡ 95
id_front m n f e = ap front (sym ((bytes_eq-Decides m n).0 e)) ∙ f

metadata_front : (n : List ℕ) → is_metadata_id n ≡ true → front n ≡ 95
unfolding tables_id columns_id resources_id rules_id
metadata_front n e =
    ⊎_elim
    (λ f. ⊎_elim (id_front tables_id n refl) (id_front columns_id n refl) (or_cases (bytes_eq tables_id n) (bytes_eq columns_id n) f))
    (λ f. ⊎_elim (id_front resources_id n refl) (id_front rules_id n refl) (or_cases (bytes_eq resources_id n) (bytes_eq rules_id n) f))
    (or_cases (is_schema_id n) (is_acl_id n) e)

word_plain : (n : List ℕ) → IsWordText n → IsPlain n
word_plain n h = by (is_metadata_id n) refl
  where
    by : (b : Bool) → is_metadata_id n ≡ b → is_metadata_id n ≡ false
    by true e = absurd (word_front h.0 h.1 (ap front h.2 ∙ metadata_front n e))
    by false e = e

-- the names among kinds of tokens are words
abbrev KindOfWord : TokenKind → Type 0
KindOfWord (kind.Name n) = IsWordText n
KindOfWord k = ⊤

abbrev KindsOfWords : List TokenKind → Type 0
KindsOfWords [] = ⊤
KindsOfWords (k ∷ ks) = KindOfWord k × KindsOfWords ks

written_word : (k : TokenKind) (w : List ℕ) → Writes k w → KindOfWord k
written_word (kind.Number n) w h = tt
written_word (kind.Text s) w h = tt
written_word (kind.Name s) w h = (w, h.0, h.1)
written_word (kind.Dollar s) w h = tt
written_word (kind.Sign k) w h = tt

spelled_words : (at : ℕ) (cs : List ℕ) (ts : List Token) → SpelledFrom at cs ts → KindsOfWords (map (λ (t : Token). t.kind) ts)
spelled_words at cs [] h = tt
spelled_words at cs (t ∷ ts) h = (written_word t.kind h.1.word h.1.writes, spelled_words t.to h.0 ts h.2)

-- the names among lexemes are words
abbrev OfWords : List Lexeme → Type 0
OfWords ks = KindsOfWords (map (λ k. kind_of k) ks)

front_words : (ks ls : List Lexeme) → OfWords (ks ++ ls) → OfWords ks
front_words [] ls h = tt
front_words (k ∷ ks) ls h = (h.0, front_words ks ls h.1)

back_words : (ks ls : List Lexeme) → OfWords (ks ++ ls) → OfWords ls
back_words [] ls h = h
back_words (k ∷ ks) ls h = back_words ks ls h.1

mutual
  tree_plain : (t : Tree) → OfWords (lexemes_of t) → NamesPlain t
  tree_plain (number n) h = tt
  tree_plain (text s) h = tt
  tree_plain (constant c) h = tt
  tree_plain (dollar n) h = tt
  tree_plain (binary o a b) h = (tree_plain a (front_words (lexemes_of a) _ h), tree_plain b (back_words (op_lexemes o) _ (back_words (lexemes_of a) _ h)))
  tree_plain (prefix o a) h = tree_plain a h.1
  tree_plain (conditional a c b) h =
      let behind = (back_words (lexemes_of a) _ h).1 in
      (tree_plain a (front_words (lexemes_of a) _ h), tree_plain c (front_words (lexemes_of c) _ behind), tree_plain b (back_words (lexemes_of c) _ behind).1)
  tree_plain (parentheses a) h = tree_plain a (front_words (lexemes_of a) _ h.1)
  tree_plain (list ts) h = items_plain ts (front_words (items_of ts) _ h.1)
  tree_plain (call n ts) h = items_plain ts (front_words (items_of ts) _ h.1.1)
  tree_plain (attribute a n) h = tree_plain a (front_words (lexemes_of a) _ h)
  tree_plain (every n) h = word_plain n h.0
  tree_plain (lookup k n ks) h = (word_plain n h.0, keys_plain ks (front_words (keys_in ks) _ (back_words (lookup_lexemes k n) _ h)))
  tree_plain (atom a) h = tt

  items_plain : (ts : Trees) → OfWords (items_of ts) → AllNamePlain ts
  items_plain no_trees h = tt
  items_plain (one_more t ts) h = (tree_plain t (front_words (lexemes_of t) _ h), more_plain ts (back_words (lexemes_of t) _ h))

  more_plain : (ts : Trees) → OfWords (more_of ts) → AllNamePlain ts
  more_plain no_trees h = tt
  more_plain (one_more t ts) h = (tree_plain t (front_words (lexemes_of t) _ h.1), more_plain ts (back_words (lexemes_of t) _ h.1))

  keys_plain : (ks : Keys) → OfWords (keys_in ks) → KeysNamePlain ks
  keys_plain no_keys h = tt
  keys_plain (one_key n t ks) h = (tree_plain t (front_words (lexemes_of t) _ h.1.1), more_keys_plain ks (back_words (lexemes_of t) _ h.1.1))

  more_keys_plain : (ks : Keys) → OfWords (more_keys ks) → KeysNamePlain ks
  more_keys_plain no_keys h = tt
  more_keys_plain (one_key n t ks) h = (tree_plain t (front_words (lexemes_of t) _ h.1.1.1), more_keys_plain ks (back_words (lexemes_of t) _ h.1.1.1))

spelled_plain : (f : List ℕ) (t : Tree) → SpellsIn dialect.Formula f (Some t) → NamesPlain t
unfolding SpellsText
spelled_plain f t h = tree_plain t (subst KindsOfWords h.tree.written (spelled_words 0 (chars f) h.tokens h.spelled))

pub formula_plain : (f : List ℕ) (t : Tree) → formula_of f ≡ Some t → NamesPlain t
formula_plain f t e = ⊎_elim (spelled_plain f t) (λ h. subst NamesPlain (sym h.0) tt) (spelled_formula f t e)
