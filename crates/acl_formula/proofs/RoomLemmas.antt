-- A rule's text is short enough for the desk.
use Rattle.std.proofs.Common.{◌≡◌, ◌≤◌, ◌+◌, ◌++◌, ◌∙◌, ap, sym, arith, zero-add, ℕ, List, [], ◌∷◌, length, Option, Some, None}
use Rattle.std.specs.Str.{chars, IsUtf8}
use Rattle.std.proofs.lemmas.List.{length-append, length-map}
use Rattle.formula_lex.specs.declared.token.TokenKind.{TokenKind}
use Rattle.formula_lex.proofs.Turns.{text_len-chars}
use Rattle.formula_lex.specs.declared.token.Token.{Token}
use Rattle.formula_lex.specs.Places.{IsInOrder}
use Rattle.formula_lex.specs.Spelling.{SpellsText, text_len}
use Rattle.formula_lex.proofs.PlaceLemmas.{spelled_in_order}
use Rattle.formula_lex.specs.declared.token.Sign.TheVariants as sign
use Rattle.formula_parse.specs.declared.lexeme.Lexeme.{Lexeme}
use Rattle.formula_parse.specs.declared.lexeme.Lexeme.TheVariants.{Sign as Mark}
use Rattle.formula_parse.specs.declared.operator.BinaryOp.{BinaryOp}
use Rattle.formula_parse.specs.declared.operator.BinaryOp.TheVariants as op
use Rattle.formula_parse.specs.declared.operator.Dialect.TheVariants as dialect
use Rattle.formula_parse.specs.declared.rule.RuleAtom.{RuleAtom}
use Rattle.formula_parse.specs.declared.rule.RuleAtom.TheVariants as rule
use Rattle.formula_parse.specs.Grammar.{op_lexemes, lexemes_of, items_of, more_of}
use Rattle.formula_parse.specs.Lexemes.{kind_of}
use Rattle.formula_parse.specs.RuleGrammar.{atom_lexemes}
use Rattle.formula_parse.specs.Spelling.{SpellsIn, SpellsTree, max_bytes}
use Rattle.formula_parse.specs.Tree.{Tree, number, text, constant, dollar, binary, prefix, conditional, parentheses, list, call, attribute, every, lookup, atom, Trees, no_trees, one_more}
use Rattle.acl_formula.specs.Room.{room, items_room, put_down, whole_room, most_room}

op_some : (o : BinaryOp) → put_down o + 1 ≤ length (op_lexemes o) + 2
op_some op.Or = omega arith
op_some op.And = omega arith
op_some op.Equal = omega arith
op_some op.NotEqual = omega arith
op_some op.Less = omega arith
op_some op.AtMost = omega arith
op_some op.More = omega arith
op_some op.AtLeast = omega arith
op_some op.In = omega arith
op_some op.NotIn = omega arith
op_some op.Is = omega arith
op_some op.IsNot = omega arith
op_some op.Add = omega arith
op_some op.Subtract = omega arith
op_some op.Multiply = omega arith
op_some op.Divide = omega arith
op_some op.Remainder = omega arith

atom_some : (a : RuleAtom) → 1 ≤ length (atom_lexemes a)
atom_some rule.Owner = omega arith
atom_some rule.Editor = omega arith
atom_some rule.Viewer = omega arith
atom_some (rule.User n) = omega arith
atom_some (rule.UserAttribute n m) = omega arith
atom_some (rule.Rec n) = omega arith
atom_some (rule.NewRec n) = omega arith

more_than : (n : ℕ) (xs ys : List Lexeme) → n + 1 ≤ length xs → n + 1 ≤ length (xs ++ ys)
more_than n xs ys h = omega (arith, h, length-append xs ys)

more : (xs ys : List Lexeme) → 1 ≤ length xs → 1 ≤ length (xs ++ ys)
more xs ys h = omega (arith, h, length-append xs ys)

-- each text that is put down stands between two lexemes, and each item before a comma or a bracket
mutual
  room_lexemes : (t : Tree) → room t + 1 ≤ length (lexemes_of t)
  room_lexemes (number n) = omega arith
  room_lexemes (text s) = omega arith
  room_lexemes (constant c) = omega arith
  room_lexemes (dollar n) = omega arith
  room_lexemes (binary o a b) =
      omega (arith, room_lexemes a, room_lexemes b, op_some o, length-append (lexemes_of a) (op_lexemes o ++ lexemes_of b), length-append (op_lexemes o) (lexemes_of b))
  room_lexemes (prefix o a) = omega (arith, room_lexemes a)
  room_lexemes (conditional a c b) = more (lexemes_of a) _ (omega (arith, room_lexemes a))
  room_lexemes (parentheses a) = let h : room a + 1 ≤ length (lexemes_of a ++ Mark sign.Close ∷ []) = more_than (room a) (lexemes_of a) (Mark sign.Close ∷ []) (room_lexemes a) in omega (arith, h)
  room_lexemes (list ts) = omega (arith, room_items ts, length-append (items_of ts) (Mark sign.CloseList ∷ []))
  room_lexemes (call n ts) = omega arith
  room_lexemes (attribute a n) = more (lexemes_of a) _ (omega (arith, room_lexemes a))
  room_lexemes (every n) = omega arith
  room_lexemes (lookup k n ks) = omega arith
  room_lexemes (atom a) = atom_some a

  room_items : (ts : Trees) → items_room ts ≤ length (items_of ts)
  room_items no_trees = omega arith
  room_items (one_more t ts) = omega (arith, room_lexemes t, room_more ts, length-append (lexemes_of t) (more_of ts))

  room_more : (ts : Trees) → items_room ts ≤ length (more_of ts)
  room_more no_trees = omega arith
  room_more (one_more t ts) = omega (arith, room_lexemes t, room_more ts, length-append (lexemes_of t) (more_of ts))

in_order_length : (ts : List Token) (at end : ℕ) → IsInOrder at ts end → at + length ts ≤ end
in_order_length [] at end s = omega (arith, s)
in_order_length (t ∷ ts) at end s = omega (arith, s.0, s.1, in_order_length ts t.to end s.2)

in_order : (bytes : List ℕ) (ts : List Token) → IsUtf8 bytes → SpellsText bytes ts → IsInOrder 0 ts (length bytes)
unfolding SpellsText
in_order bytes ts u s = spelled_in_order ts (chars bytes) 0 (length bytes) (sym (zero-add (text_len (chars bytes)) ∙ text_len-chars bytes u)) s

short : (bytes : List ℕ) → length bytes ≤ max_bytes → length bytes ≤ 4096
unfolding max_bytes
short bytes h = h

room_within : (bytes : List ℕ) → IsUtf8 bytes → (t : Tree) → SpellsIn dialect.Rule bytes (Some t) → room t ≤ most_room
room_within bytes u t s =
    let low : length bytes ≤ 4096 = short bytes s.short in
    let tree : SpellsTree dialect.Rule t s.tokens = s.tree in
    let many : length s.tokens ≡ length (lexemes_of t) =
    sym (length-map s.tokens (λ (token : Token). token.kind)) ∙ ap (λ (ks : List TokenKind). length ks) tree.written ∙ length-map (lexemes_of t) (λ (k : Lexeme). kind_of k) in
    omega (arith, low, many, room_lexemes t, in_order_length s.tokens 0 (length bytes) (in_order bytes s.tokens u s.spelled))

pub some_room : (bytes : List ℕ) → IsUtf8 bytes → (o : Option Tree) → SpellsIn dialect.Rule bytes o → whole_room o ≤ most_room
some_room bytes u None s = omega arith
some_room bytes u (Some t) s = room_within bytes u t s
