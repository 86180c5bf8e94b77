-- What the grammar spells the machine reads.
use Rattle.std.specs.Prelude.{ℕ, suc, ◌+◌, ◌≤◌, Bool, true, false, ◌&&◌, nat_le, cond, List, [], ◌∷◌, ◌++◌, ◌≡◌, Option, Some, None, refl, map}
use Rattle.std.proofs.Common.{arith, ap, sym, ◌∙◌, append_assoc, append-nil, subst}
use Rattle.std.proofs.lemmas.Bool.{le-leb}
use borrow.Author.Tests.{lt-leb}
use Rattle.formula_lex.specs.declared.token.Sign.TheVariants as sign
use Rattle.formula_parse.specs.declared.operator.BinaryOp.{BinaryOp}
use Rattle.formula_parse.specs.declared.operator.BinaryOp.TheVariants as op
use Rattle.formula_parse.specs.declared.operator.PrefixOp.{PrefixOp}
use Rattle.formula_parse.specs.declared.operator.PrefixOp.TheVariants as pre
use Rattle.formula_parse.specs.declared.operator.Constant.{Constant}
use Rattle.formula_parse.specs.declared.operator.Constant.TheVariants as con
use Rattle.formula_parse.specs.declared.operator.LookupKind.{LookupKind}
use Rattle.formula_parse.specs.declared.operator.LookupKind.TheVariants as look
use Rattle.formula_parse.specs.declared.operator.Dialect.{Dialect}
use Rattle.formula_parse.specs.declared.operator.Dialect.TheVariants as dialect
use Rattle.formula_parse.specs.declared.lexeme.Keyword.TheVariants as word
use Rattle.formula_parse.specs.declared.lexeme.Lexeme.{Lexeme}
use Rattle.formula_parse.specs.declared.lexeme.Lexeme.TheVariants.{Number, Text, Name, Dollar, Keyword as Word, Sign as Mark}
use Rattle.formula_parse.specs.declared.frame.Frame.{Frame}
use Rattle.formula_parse.specs.declared.frame.Frame.TheVariants.{Left, Prefix, Condition, Otherwise, Parentheses, Items, Arguments, Key}
use Rattle.formula_parse.specs.declared.frame.Mode.TheVariants.{Operand, FirstItem, Operator, AfterIs, AfterDot, AfterName, AfterLookup, FirstKey, NextKey, AfterSubject, UserPoint}
use Rattle.formula_parse.specs.declared.rule.RuleAtom.{RuleAtom}
use Rattle.formula_parse.specs.declared.rule.RuleAtom.TheVariants as rule
use Rattle.formula_parse.specs.declared.rule.Subject.TheVariants as subject
use Rattle.formula_parse.specs.RuleGrammar.{owner_word, editor_word, viewer_word, user_word, new_rec_word, atom_lexemes}
use Rattle.formula_parse.specs.Levels.{Group, or_group, and_group, comparison, sum_group, term_group, group_level, group_left, group_right}
use Rattle.formula_parse.specs.Lexemes.{is_id}
use Rattle.formula_parse.specs.Grammar.{group_of, prefix_level, prefix_lexeme, constant_lexeme, op_lexemes, all_word, lookup_word, lookup_lexemes, lexemes_of, items_of, more_of, keys_in, more_keys}
use Rattle.formula_parse.specs.Standing.{OnlyFormula, OnlyRule, HasConstant, has_op, level_of, is_among, Stands, AllStand, AllKeysStand, max_height, IsWritten, has_key}
use Rattle.formula_parse.specs.Tree.{Tree, number, text, constant, dollar, binary, prefix, conditional, parentheses, list, call, attribute, every, lookup, atom, Trees, no_trees, one_more, Keys, no_keys, one_key, from_list, to_list, keys_from, keys_to, height_of, heights, key_heights}
use Rattle.formula_parse.specs.Machine.{State, ◌>>=◌, is_last, open_left, open_condition, else_step, close_step, close_list_step, comma_step, kept, room, room_in, filled, reduce, after, infix_step}
use Rattle.formula_parse.specs.Operands.{rec_step, if_step, point_step, dollar_step, name_operand, operand_step}
use Rattle.formula_parse.specs.Steps.{table_step}
use Rattle.formula_parse.specs.Runs.{step, finish, run, whole}

-- the frames that a tree leaves open, and the tree in the innermost one
abbrev pub opened : Tree → List Frame → List Frame
opened (binary o a b) fs = opened b (Left a o ∷ fs)
opened (prefix o a) fs = opened a (Prefix o ∷ fs)
opened (conditional a c b) fs = opened b (Otherwise a c ∷ fs)
opened _ fs = fs

abbrev pub last_of : Tree → Tree
last_of (binary o a b) = last_of b
last_of (prefix o a) = last_of a
last_of (conditional a c b) = last_of b
last_of t = t

-- a list in brackets
data Bracket : Type 0 where
  in_list : Bracket
  in_call : List ℕ → Bracket

-- what each dialect has
rec_is : (d : Dialect) → OnlyFormula d → (fs : List Frame) → rec_step d fs ≡ after fs (constant con.Rec)
rec_is dialect.Formula o fs = refl
rec_is dialect.Rule o fs = absurd o

if_is : (d : Dialect) → OnlyFormula d → (fs : List Frame) (t : Tree) → if_step d fs t ≡ (reduce 1 fs t >>= open_condition)
if_is dialect.Formula o fs t = refl
if_is dialect.Rule o fs t = absurd o

point_is : (d : Dialect) → OnlyFormula d → (fs : List Frame) (t : Tree) → point_step d fs t ≡ Some (fs, AfterDot t)
point_is dialect.Formula o fs t = refl
point_is dialect.Rule o fs t = absurd o

dollar_is : (d : Dialect) → OnlyFormula d → (n : List ℕ) (fs : List Frame) → dollar_step d n fs ≡ after fs (dollar n)
dollar_is dialect.Formula o n fs = refl
dollar_is dialect.Rule o n fs = absurd o

name_is : (d : Dialect) → OnlyFormula d → (n : List ℕ) → is_id n ≡ false → (fs : List Frame) → name_operand d n fs ≡ Some (fs, AfterName n)
name_is dialect.Formula o n i fs = rw i refl
name_is dialect.Rule o n i fs = absurd o

all_is : (fs : List Frame) (n : List ℕ) → table_step all_word fs n ≡ after fs (every n)
unfolding all_word
all_is fs n = refl

lookup_is : (k : LookupKind) (fs : List Frame) (n : List ℕ) → table_step (lookup_word k) fs n ≡ Some (fs, AfterLookup k n)
unfolding all_word lookup_word
lookup_is look.Records fs n = refl
lookup_is look.One fs n = refl

-- the words of rules
owner_is : (d : Dialect) → OnlyRule d → (fs : List Frame) → name_operand d owner_word fs ≡ after fs (atom rule.Owner)
unfolding owner_word editor_word viewer_word user_word new_rec_word
owner_is dialect.Formula o fs = absurd o
owner_is dialect.Rule o fs = refl

editor_is : (d : Dialect) → OnlyRule d → (fs : List Frame) → name_operand d editor_word fs ≡ after fs (atom rule.Editor)
unfolding owner_word editor_word viewer_word user_word new_rec_word
editor_is dialect.Formula o fs = absurd o
editor_is dialect.Rule o fs = refl

viewer_is : (d : Dialect) → OnlyRule d → (fs : List Frame) → name_operand d viewer_word fs ≡ after fs (atom rule.Viewer)
unfolding owner_word editor_word viewer_word user_word new_rec_word
viewer_is dialect.Formula o fs = absurd o
viewer_is dialect.Rule o fs = refl

user_is : (d : Dialect) → OnlyRule d → (fs : List Frame) → name_operand d user_word fs ≡ Some (fs, AfterSubject subject.User)
unfolding owner_word editor_word viewer_word user_word new_rec_word
user_is dialect.Formula o fs = absurd o
user_is dialect.Rule o fs = refl

new_rec_is : (d : Dialect) → OnlyRule d → (fs : List Frame) → name_operand d new_rec_word fs ≡ Some (fs, AfterSubject subject.NewRec)
unfolding owner_word editor_word viewer_word user_word new_rec_word
new_rec_is dialect.Formula o fs = absurd o
new_rec_is dialect.Rule o fs = refl

rule_rec_is : (d : Dialect) → OnlyRule d → (fs : List Frame) → rec_step d fs ≡ Some (fs, AfterSubject subject.Rec)
rule_rec_is dialect.Formula o fs = absurd o
rule_rec_is dialect.Rule o fs = refl

user_point_is : (d : Dialect) → OnlyRule d → (n : List ℕ) (fs : List Frame) → point_step d fs (atom (rule.User n)) ≡ Some (fs, UserPoint n)
user_point_is dialect.Formula o n fs = absurd o
user_point_is dialect.Rule o n fs = refl

-- the names of keys
names_push : (ks : List (List ℕ × Tree)) (m : List ℕ) (t : Tree) → map (λ k. k.0) (ks ++ (m, t) ∷ []) ≡ map (λ k. k.0) ks ++ m ∷ []
names_push [] m t = refl
names_push (k ∷ ks) m t = ap (λ (xs : List (List ℕ)). k.0 ∷ xs) (names_push ks m t)

module _ (d : Dialect) where
  -- each frame that it leaves open takes trees of level n
  abbrev Yields : ℕ → Tree → Type 0
  Yields n (binary o a b) = (n ≤ group_right (group_of o)) × Yields n b
  Yields n (prefix o a) = (n ≤ prefix_level o) × Yields n a
  Yields n (conditional a c b) = (n ≤ 0) × Yields n b
  Yields n _ = Unit {0}

  IsLow : Tree → Type 0
  IsLow t = height_of t ≤ max_height

  pub kept_low : (t : Tree) → height_of t ≤ max_height → kept t ≡ Some t
  unfolding kept
  kept_low t h = rw (le-leb _ _ h) refl

  closing : (n : ℕ) (f : Frame) (fs : List Frame) (t : Tree) → n ≤ room_in f → (b : Bool) → b ≡ true → kept (filled f t) ≡ Some (filled f t)
      → cond (b && nat_le n (room_in f)) (kept (filled f t) >>= λ u. reduce n fs u) (Some (f ∷ fs, t)) ≡ reduce n fs (filled f t)
  closing n f fs t h b e k = rw (e, le-leb n (room_in f) h, k) refl

  pub reduce_opened : (n : ℕ) (t : Tree) → height_of t ≤ max_height → Yields n t → (fs : List Frame) → reduce n (opened t fs) (last_of t) ≡ reduce n fs t
  reduce_opened n (binary o a b) h y fs =
      reduce_opened n b (omega arith) y.1 (Left a o ∷ fs) ∙ closing n (Left a o) fs b y.0 true refl (kept_low _ h)
  reduce_opened n (prefix o a) h y fs =
      reduce_opened n a (omega arith) y.1 (Prefix o ∷ fs) ∙ closing n (Prefix o) fs a y.0 true refl (kept_low _ h)
  reduce_opened n (conditional a c b) h y fs =
      reduce_opened n b (omega arith) y.1 (Otherwise a c ∷ fs) ∙ closing n (Otherwise a c) fs b y.0 true refl (kept_low _ h)
  reduce_opened n (number m) h y fs = refl
  reduce_opened n (text s) h y fs = refl
  reduce_opened n (constant c) h y fs = refl
  reduce_opened n (dollar m) h y fs = refl
  reduce_opened n (parentheses a) h y fs = refl
  reduce_opened n (list ts) h y fs = refl
  reduce_opened n (call m ts) h y fs = refl
  reduce_opened n (attribute a m) h y fs = refl
  reduce_opened n (every m) h y fs = refl
  reduce_opened n (lookup k m ks) h y fs = refl
  reduce_opened n (atom a) h y fs = refl

  level_right : (g : Group) → group_level g ≤ group_right g
  level_right or_group = omega arith
  level_right and_group = omega arith
  level_right comparison = omega arith
  level_right sum_group = omega arith
  level_right term_group = omega arith

  -- a tree's open frames take trees of its level
  yields_level : (n : ℕ) (t : Tree) → Stands d t → n ≤ level_of t → Yields n t
  yields_level n (binary o a b) s h = (omega (arith, level_right (group_of o)), yields_level n b s.4 (omega (arith, level_right (group_of o))))
  yields_level n (prefix o a) s h = (h, yields_level n a s.1 (omega arith))
  yields_level n (conditional a c b) s h = (h, yields_level n b s.5 (omega arith))
  yields_level n (number m) s h = tt
  yields_level n (text m) s h = tt
  yields_level n (constant c) s h = tt
  yields_level n (dollar m) s h = tt
  yields_level n (parentheses a) s h = tt
  yields_level n (list ts) s h = tt
  yields_level n (call m ts) s h = tt
  yields_level n (attribute a m) s h = tt
  yields_level n (every m) s h = tt
  yields_level n (lookup k m ks) s h = tt
  yields_level n (atom a) s h = tt

  next_right : (g h : Group) → group_left g ≤ group_level h → group_level g + 1 ≤ group_right h
  next_right or_group or_group e = omega arith
  next_right or_group and_group e = omega arith
  next_right or_group comparison e = omega arith
  next_right or_group sum_group e = omega arith
  next_right or_group term_group e = omega arith
  next_right and_group or_group e = omega arith
  next_right and_group and_group e = omega arith
  next_right and_group comparison e = omega arith
  next_right and_group sum_group e = omega arith
  next_right and_group term_group e = omega arith
  next_right comparison or_group e = omega arith
  next_right comparison and_group e = omega arith
  next_right comparison comparison e = omega arith
  next_right comparison sum_group e = omega arith
  next_right comparison term_group e = omega arith
  next_right sum_group or_group e = omega arith
  next_right sum_group and_group e = omega arith
  next_right sum_group comparison e = omega arith
  next_right sum_group sum_group e = omega arith
  next_right sum_group term_group e = omega arith
  next_right term_group or_group e = omega arith
  next_right term_group and_group e = omega arith
  next_right term_group comparison e = omega arith
  next_right term_group sum_group e = omega arith
  next_right term_group term_group e = omega arith

  next_prefix : (g : Group) (o : PrefixOp) → group_left g ≤ prefix_level o → group_level g + 1 ≤ prefix_level o
  next_prefix or_group pre.Not e = omega arith
  next_prefix or_group pre.Negate e = omega arith
  next_prefix and_group pre.Not e = omega arith
  next_prefix and_group pre.Negate e = omega arith
  next_prefix comparison pre.Not e = omega arith
  next_prefix comparison pre.Negate e = omega arith
  next_prefix sum_group pre.Not e = omega arith
  next_prefix sum_group pre.Negate e = omega arith
  next_prefix term_group pre.Not e = omega arith
  next_prefix term_group pre.Negate e = omega arith

  left_some : (g : Group) → 1 ≤ group_left g
  left_some or_group = omega arith
  left_some and_group = omega arith
  left_some comparison = omega arith
  left_some sum_group = omega arith
  left_some term_group = omega arith

  -- what stands at the left of an operator is closed by it
  yields_left : (g : Group) (t : Tree) → Stands d t → group_left g ≤ level_of t → Yields (group_level g + 1) t
  yields_left g (binary o a b) s h = (next_right g (group_of o) h, yields_level _ b s.4 (omega (arith, next_right g (group_of o) h)))
  yields_left g (prefix o a) s h = (next_prefix g o h, yields_level _ a s.1 (omega (arith, next_prefix g o h)))
  yields_left g (conditional a c b) s h = absurd (omega (arith, left_some g))
  yields_left g (number m) s h = tt
  yields_left g (text m) s h = tt
  yields_left g (constant c) s h = tt
  yields_left g (dollar m) s h = tt
  yields_left g (parentheses a) s h = tt
  yields_left g (list ts) s h = tt
  yields_left g (call m ts) s h = tt
  yields_left g (attribute a m) s h = tt
  yields_left g (every m) s h = tt
  yields_left g (lookup k m ks) s h = tt
  yields_left g (atom a) s h = tt

  and_false : (b : Bool) → (b && false) ≡ false
  and_false true = refl
  and_false false = refl

  -- an outer frame isn't closed
  reduce_stays : (n : ℕ) (fs : List Frame) (t : Tree) → suc (room fs) ≤ n → reduce n fs t ≡ Some (fs, t)
  reduce_stays n [] t h = refl
  reduce_stays n (f ∷ fs) t h = rw (lt-leb n (room_in f) h, and_false (is_last f)) refl

  bound : {B C : Type 0} (o : Option State) (f : State → Option B) (g : B → Option C) → ((o >>= f) >>= g) ≡ (o >>= λ s. f s >>= g)
  bound None f g = refl
  bound (Some x) f g = refl

  abbrev framed : Bracket → List Tree → Frame
  framed in_list ts = Items ts
  framed (in_call n) ts = Arguments n ts

  abbrev closer : Bracket → Lexeme
  closer in_list = Mark sign.CloseList
  closer (in_call n) = Mark sign.Close

  abbrev closed : Bracket → List Tree → Tree
  closed in_list ts = list (from_list ts)
  closed (in_call n) ts = call n (from_list ts)

  Then : List Lexeme → Option State → Option Tree
  Then ks o = o >>= λ s. run d ks s.0 s.1

  module _ (ks : List Lexeme) (fs gs : List Frame) (t : Tree) where
    single : (o : BinaryOp) → infix_step d o fs t ≡ Some (gs, Operand) → (infix_step d o fs t >>= λ s. run d ks s.0 s.1) ≡ run d ks gs Operand
    single o e = ap (λ (r : Option State). r >>= λ s. run d ks s.0 s.1) e

  abbrev placed : List Frame → Tree → Option State
  placed fs u = Some (fs, Operator u)

  after_runs : (t : Tree) → height_of t ≤ max_height → (fs : List Frame) (rest : List Lexeme) → (after fs t >>= λ s. run d rest s.0 s.1) ≡ run d rest fs (Operator t)
  after_runs t h fs rest = ap (λ (o : Option Tree). (o >>= placed fs) >>= λ s. run d rest s.0 s.1) (kept_low t h)

  infix_done : (o : BinaryOp) (a : Tree) (fs : List Frame) → has_op d o ≡ true → Stands d a → height_of a ≤ max_height → group_left (group_of o) ≤ level_of a → room fs ≤ group_level (group_of o)
      → infix_step d o (opened a fs) (last_of a) ≡ Some (Left a o ∷ fs, Operand)
  infix_done o a fs b s h l r =
      ap (λ (x : Option (List Frame × Tree)). x >>= open_left d o) (reduce_opened _ a h (yields_left (group_of o) a s l) fs ∙ reduce_stays _ fs a (omega arith))
      ∙ rw (b, le-leb _ _ r, le-leb _ _ l) refl

  left_high : (g : Group) → 5 ≤ group_level g → 5 ≤ group_left g
  left_high or_group h = omega arith
  left_high and_group h = omega arith
  left_high comparison h = omega arith
  left_high sum_group h = omega arith
  left_high term_group h = omega arith

  abbrev IsAfter : List Lexeme → List Frame → Tree → Type 0
  IsAfter ks fs t = run d ks fs (AfterIs t) ≡ (infix_step d op.Is fs t >>= λ s. run d ks s.0 Operand)

  is_token : (k : Lexeme) (ks : List Lexeme) (fs : List Frame) (t : Tree)
      → ((infix_step d op.Is fs t >>= λ s. operand_step d k s.0) >>= λ s. run d ks s.0 s.1) ≡ (infix_step d op.Is fs t >>= λ s. operand_step d k s.0 >>= λ r. run d ks r.0 r.1)
  is_token k ks fs t = bound (infix_step d op.Is fs t) (λ s. operand_step d k s.0) (λ s. run d ks s.0 s.1)

  -- what may follow `is` doesn't begin with `not`
  is_first : (b : Tree) → Stands d b → 5 ≤ level_of b → (rest : List Lexeme) (fs : List Frame) (t : Tree) → IsAfter (lexemes_of b ++ rest) fs t
  unfolding run step
  is_first (binary o a b) s h rest fs t =
      subst (λ ks. IsAfter ks fs t) (sym (append_assoc (lexemes_of a) (op_lexemes o ++ lexemes_of b) rest)) (is_first a s.2 (omega (arith, left_high (group_of o))) ((op_lexemes o ++ lexemes_of b) ++ rest) fs t)
  is_first (prefix pre.Not a) s h rest fs t = absurd (omega arith)
  is_first (prefix pre.Negate a) s h rest fs t = is_token (Mark sign.Minus) (lexemes_of a ++ rest) fs t
  is_first (conditional a c b) s h rest fs t = absurd (omega arith)
  is_first (number m) s h rest fs t = is_token (Number m) rest fs t
  is_first (text m) s h rest fs t = is_token (Text m) rest fs t
  is_first (constant con.True) s h rest fs t = is_token (Word word.True) rest fs t
  is_first (constant con.False) s h rest fs t = is_token (Word word.False) rest fs t
  is_first (constant con.None) s h rest fs t = is_token (Word word.None) rest fs t
  is_first (constant con.Rec) s h rest fs t = is_token (Word word.Rec) rest fs t
  is_first (dollar m) s h rest fs t = is_token (Dollar m) rest fs t
  is_first (parentheses a) s h rest fs t = is_token (Mark sign.Open) ((lexemes_of a ++ Mark sign.Close ∷ []) ++ rest) fs t
  is_first (list ts) s h rest fs t = is_token (Mark sign.OpenList) ((items_of ts ++ Mark sign.CloseList ∷ []) ++ rest) fs t
  is_first (call m ts) s h rest fs t = is_token (Name m) ((Mark sign.Open ∷ (items_of ts ++ Mark sign.Close ∷ [])) ++ rest) fs t
  is_first (every m) s h rest fs t = is_token (Name m) ((Mark sign.Point ∷ (Name all_word ∷ [])) ++ rest) fs t
  is_first (lookup k m ks) s h rest fs t = is_token (Name m) ((Mark sign.Point ∷ (Name (lookup_word k) ∷ (Mark sign.Open ∷ (keys_in ks ++ Mark sign.Close ∷ [])))) ++ rest) fs t
  is_first (atom rule.Owner) s h rest fs t = is_token (Name owner_word) rest fs t
  is_first (atom rule.Editor) s h rest fs t = is_token (Name editor_word) rest fs t
  is_first (atom rule.Viewer) s h rest fs t = is_token (Name viewer_word) rest fs t
  is_first (atom (rule.User m)) s h rest fs t = is_token (Name user_word) ((Mark sign.Point ∷ (Name m ∷ [])) ++ rest) fs t
  is_first (atom (rule.UserAttribute m p)) s h rest fs t = is_token (Name user_word) ((Mark sign.Point ∷ (Name m ∷ (Mark sign.Point ∷ (Name p ∷ [])))) ++ rest) fs t
  is_first (atom (rule.Rec m)) s h rest fs t = is_token (Word word.Rec) ((Mark sign.Point ∷ (Name m ∷ [])) ++ rest) fs t
  is_first (atom (rule.NewRec m)) s h rest fs t = is_token (Name new_rec_word) ((Mark sign.Point ∷ (Name m ∷ [])) ++ rest) fs t
  is_first (attribute a m) s h rest fs t =
      subst (λ ks. IsAfter ks fs t) (sym (append_assoc (lexemes_of a) (Mark sign.Point ∷ (Name m ∷ [])) rest)) (is_first a s.2 (omega arith) _ fs t)

  abbrev SameFirst : List Lexeme → List Frame → Type 0
  SameFirst ks fs = run d ks fs FirstItem ≡ run d ks fs Operand

  -- a tree doesn't begin with the end of a list
  first_same : (b : Tree) (rest : List Lexeme) (fs : List Frame) → SameFirst (lexemes_of b ++ rest) fs
  unfolding run step
  first_same (binary o a b) rest fs = subst (λ ks. SameFirst ks fs) (sym (append_assoc (lexemes_of a) (op_lexemes o ++ lexemes_of b) rest)) (first_same a _ fs)
  first_same (prefix pre.Not a) rest fs = refl
  first_same (prefix pre.Negate a) rest fs = refl
  first_same (conditional a c b) rest fs = subst (λ ks. SameFirst ks fs) (sym (append_assoc (lexemes_of a) _ rest)) (first_same a _ fs)
  first_same (number m) rest fs = refl
  first_same (text m) rest fs = refl
  first_same (constant con.True) rest fs = refl
  first_same (constant con.False) rest fs = refl
  first_same (constant con.None) rest fs = refl
  first_same (constant con.Rec) rest fs = refl
  first_same (dollar m) rest fs = refl
  first_same (parentheses a) rest fs = refl
  first_same (list ts) rest fs = refl
  first_same (call m ts) rest fs = refl
  first_same (every m) rest fs = refl
  first_same (lookup k m ks) rest fs = refl
  first_same (atom rule.Owner) rest fs = refl
  first_same (atom rule.Editor) rest fs = refl
  first_same (atom rule.Viewer) rest fs = refl
  first_same (atom (rule.User m)) rest fs = refl
  first_same (atom (rule.UserAttribute m p)) rest fs = refl
  first_same (atom (rule.Rec m)) rest fs = refl
  first_same (atom (rule.NewRec m)) rest fs = refl
  first_same (attribute a m) rest fs = subst (λ ks. SameFirst ks fs) (sym (append_assoc (lexemes_of a) _ rest)) (first_same a _ fs)

  op_runs : (o : BinaryOp) (b : Tree) → Stands d b → group_right (group_of o) ≤ level_of b → (rest : List Lexeme) (fs gs : List Frame) (t : Tree) → infix_step d o fs t ≡ Some (gs, Operand)
      → run d (op_lexemes o ++ (lexemes_of b ++ rest)) fs (Operator t) ≡ run d (lexemes_of b ++ rest) gs Operand
  unfolding run step
  op_runs op.Or b s h rest fs gs t e = single _ fs gs t op.Or e
  op_runs op.And b s h rest fs gs t e = single _ fs gs t op.And e
  op_runs op.Equal b s h rest fs gs t e = single _ fs gs t op.Equal e
  op_runs op.NotEqual b s h rest fs gs t e = single _ fs gs t op.NotEqual e
  op_runs op.Less b s h rest fs gs t e = single _ fs gs t op.Less e
  op_runs op.AtMost b s h rest fs gs t e = single _ fs gs t op.AtMost e
  op_runs op.More b s h rest fs gs t e = single _ fs gs t op.More e
  op_runs op.AtLeast b s h rest fs gs t e = single _ fs gs t op.AtLeast e
  op_runs op.In b s h rest fs gs t e = single _ fs gs t op.In e
  op_runs op.Add b s h rest fs gs t e = single _ fs gs t op.Add e
  op_runs op.Subtract b s h rest fs gs t e = single _ fs gs t op.Subtract e
  op_runs op.Multiply b s h rest fs gs t e = single _ fs gs t op.Multiply e
  op_runs op.Divide b s h rest fs gs t e = single _ fs gs t op.Divide e
  op_runs op.Remainder b s h rest fs gs t e = single _ fs gs t op.Remainder e
  op_runs op.NotIn b s h rest fs gs t e = single _ fs gs t op.NotIn e
  op_runs op.IsNot b s h rest fs gs t e = single _ fs gs t op.IsNot e
  op_runs op.Is b s h rest fs gs t e = is_first b s h rest fs t ∙ ap (λ (r : Option State). r >>= λ s. run d (lexemes_of b ++ rest) s.0 Operand) e

  group_low : (g : Group) → group_level g ≤ 6
  group_low or_group = omega arith
  group_low and_group = omega arith
  group_low comparison = omega arith
  group_low sum_group = omega arith
  group_low term_group = omega arith

  high_opened : (a : Tree) → 8 ≤ level_of a → (fs : List Frame) → opened a fs ≡ fs
  high_opened (binary o a b) h fs = absurd (omega (arith, group_low (group_of o)))
  high_opened (prefix pre.Not a) h fs = absurd (omega arith)
  high_opened (prefix pre.Negate a) h fs = absurd (omega arith)
  high_opened (conditional a c b) h fs = absurd (omega arith)
  high_opened (number m) h fs = refl
  high_opened (text m) h fs = refl
  high_opened (constant c) h fs = refl
  high_opened (dollar m) h fs = refl
  high_opened (parentheses a) h fs = refl
  high_opened (list ts) h fs = refl
  high_opened (call m ts) h fs = refl
  high_opened (attribute a m) h fs = refl
  high_opened (every m) h fs = refl
  high_opened (lookup k m ks) h fs = refl
  high_opened (atom a) h fs = refl

  high_last : (a : Tree) → 8 ≤ level_of a → last_of a ≡ a
  high_last (binary o a b) h = absurd (omega (arith, group_low (group_of o)))
  high_last (prefix pre.Not a) h = absurd (omega arith)
  high_last (prefix pre.Negate a) h = absurd (omega arith)
  high_last (conditional a c b) h = absurd (omega arith)
  high_last (number m) h = refl
  high_last (text m) h = refl
  high_last (constant c) h = refl
  high_last (dollar m) h = refl
  high_last (parentheses a) h = refl
  high_last (list ts) h = refl
  high_last (call m ts) h = refl
  high_last (attribute a m) h = refl
  high_last (every m) h = refl
  high_last (lookup k m ks) h = refl
  high_last (atom a) h = refl

  from_to : (ts : Trees) → from_list (to_list ts) ≡ ts
  from_to no_trees = refl
  from_to (one_more t ts) = ap (one_more t) (from_to ts)

  closed_to : (ts : Trees) (b : Bracket) → Tree
  closed_to ts b = closed b (to_list ts)

  -- the last item of a list, and the end
  end_item : (b : Bracket) (ts : List Tree) (t : Tree) → Stands d t → height_of t ≤ max_height → (fs : List Frame) (rest : List Lexeme)
      → run d (closer b ∷ rest) (opened t (framed b ts ∷ fs)) (Operator (last_of t)) ≡ (after fs (closed b (ts ++ t ∷ [])) >>= λ s. run d rest s.0 s.1)
  unfolding run step
  end_item in_list ts t s h fs rest = ap (λ (x : Option (List Frame × Tree)). (x >>= λ r. close_list_step r.0 r.1) >>= λ s. run d rest s.0 s.1) (reduce_opened 0 t h (yields_level 0 t s (omega arith)) (Items ts ∷ fs))
  end_item (in_call n) ts t s h fs rest = ap (λ (x : Option (List Frame × Tree)). (x >>= λ r. close_step r.0 r.1) >>= λ s. run d rest s.0 s.1) (reduce_opened 0 t h (yields_level 0 t s (omega arith)) (Arguments n ts ∷ fs))

  -- an item and a comma
  next_item : (b : Bracket) (ts : List Tree) (t : Tree) → Stands d t → height_of t ≤ max_height → (fs : List Frame) (rest : List Lexeme)
      → run d (Mark sign.Comma ∷ rest) (opened t (framed b ts ∷ fs)) (Operator (last_of t)) ≡ run d rest (framed b (ts ++ t ∷ []) ∷ fs) Operand
  unfolding run step
  next_item in_list ts t s h fs rest = ap (λ (x : Option (List Frame × Tree)). (x >>= λ r. comma_step r.0 r.1) >>= λ s. run d rest s.0 s.1) (reduce_opened 0 t h (yields_level 0 t s (omega arith)) (Items ts ∷ fs))
  next_item (in_call n) ts t s h fs rest = ap (λ (x : Option (List Frame × Tree)). (x >>= λ r. comma_step r.0 r.1) >>= λ s. run d rest s.0 s.1) (reduce_opened 0 t h (yields_level 0 t s (omega arith)) (Arguments n ts ∷ fs))

  no_items : (b : Bracket) (fs : List Frame) (rest : List Lexeme) → run d (closer b ∷ rest) (framed b [] ∷ fs) FirstItem ≡ (after fs (closed b []) >>= λ s. run d rest s.0 s.1)
  unfolding run step
  no_items in_list fs rest = refl
  no_items (in_call n) fs rest = refl

  framed_room : (b : Bracket) (ts : List Tree) → room_in (framed b ts) ≡ 0
  framed_room in_list ts = refl
  framed_room (in_call n) ts = refl

  prefix_runs : (o : PrefixOp) (fs : List Frame) (rest : List Lexeme) → room fs ≤ prefix_level o → run d (prefix_lexeme o ∷ rest) fs Operand ≡ run d rest (Prefix o ∷ fs) Operand
  unfolding run step
  prefix_runs pre.Not fs rest r = rw (le-leb _ _ r) refl
  prefix_runs pre.Negate fs rest r = rw (le-leb _ _ r) refl

  constant_runs : (c : Constant) → HasConstant d c → height_of (constant c) ≤ max_height → (fs : List Frame) (rest : List Lexeme) → run d (constant_lexeme c ∷ rest) fs Operand ≡ run d rest fs (Operator (constant c))
  unfolding run step
  constant_runs con.True o h fs rest = after_runs (constant con.True) h fs rest
  constant_runs con.False o h fs rest = after_runs (constant con.False) h fs rest
  constant_runs con.None o h fs rest = after_runs (constant con.None) h fs rest
  constant_runs con.Rec o h fs rest = ap (λ (x : Option State). x >>= λ s. run d rest s.0 s.1) (rec_is d o fs) ∙ after_runs (constant con.Rec) h fs rest

  if_runs : OnlyFormula d → (a : Tree) → Stands d a → height_of a ≤ max_height → 1 ≤ level_of a → (fs : List Frame) → room fs ≤ 0 → (rest : List Lexeme)
      → run d (Word word.If ∷ rest) (opened a fs) (Operator (last_of a)) ≡ run d rest (Condition a ∷ fs) Operand
  unfolding run step
  if_runs o a s h l fs r rest =
      ap (λ (x : Option State). x >>= λ s. run d rest s.0 s.1) (if_is d o (opened a fs) (last_of a)) ∙
      ap (λ (x : Option (List Frame × Tree)). (x >>= open_condition) >>= λ s. run d rest s.0 s.1) (reduce_opened 1 a h (yields_level 1 a s l) fs ∙ reduce_stays 1 fs a (omega arith))
      ∙ rw (le-leb _ _ r, le-leb _ _ l) refl

  else_runs : (a c : Tree) → Stands d c → height_of c ≤ max_height → 1 ≤ level_of c → (fs : List Frame) (rest : List Lexeme)
      → run d (Word word.Else ∷ rest) (opened c (Condition a ∷ fs)) (Operator (last_of c)) ≡ run d rest (Otherwise a c ∷ fs) Operand
  unfolding run step
  else_runs a c s h l fs rest =
      ap (λ (x : Option (List Frame × Tree)). (x >>= λ r. else_step r.0 r.1) >>= λ s. run d rest s.0 s.1) (reduce_opened 0 c h (yields_level 0 c s (omega arith)) (Condition a ∷ fs))
      ∙ rw (le-leb _ _ l) refl

  close_runs : (a : Tree) → Stands d a → height_of a + 1 ≤ max_height → (fs : List Frame) (rest : List Lexeme)
      → run d (Mark sign.Close ∷ rest) (opened a (Parentheses ∷ fs)) (Operator (last_of a)) ≡ run d rest fs (Operator (parentheses a))
  unfolding run step
  close_runs a s h fs rest =
      ap (λ (x : Option (List Frame × Tree)). (x >>= λ r. close_step r.0 r.1) >>= λ s. run d rest s.0 s.1) (reduce_opened 0 a (omega arith) (yields_level 0 a s (omega arith)) (Parentheses ∷ fs))
      ∙ after_runs (parentheses a) h fs rest

  dot_runs : OnlyFormula d → (a : Tree) (n : List ℕ) → height_of a + 1 ≤ max_height → 8 ≤ level_of a → (fs : List Frame) (rest : List Lexeme)
      → run d (Mark sign.Point ∷ (Name n ∷ rest)) (opened a fs) (Operator (last_of a)) ≡ run d rest fs (Operator (attribute a n))
  unfolding run step
  dot_runs o a n h l fs rest =
      rw (high_opened a l fs, high_last a l) (ap (λ (x : Option State). x >>= λ s. run d (Name n ∷ rest) s.0 s.1) (point_is d o fs a) ∙ after_runs (attribute a n) h fs rest)

  level_left : (g : Group) → group_level g ≤ group_left g
  level_left or_group = omega arith
  level_left and_group = omega arith
  level_left comparison = omega arith
  level_left sum_group = omega arith
  level_left term_group = omega arith

  number_runs : (n : ℕ) → 1 ≤ max_height → (fs : List Frame) (rest : List Lexeme) → run d (Number n ∷ rest) fs Operand ≡ run d rest fs (Operator (number n))
  unfolding run step
  number_runs n h fs rest = after_runs (number n) h fs rest

  text_runs : (n : List ℕ) → 1 ≤ max_height → (fs : List Frame) (rest : List Lexeme) → run d (Text n ∷ rest) fs Operand ≡ run d rest fs (Operator (text n))
  unfolding run step
  text_runs n h fs rest = after_runs (text n) h fs rest

  dollar_runs : OnlyFormula d → (n : List ℕ) → 1 ≤ max_height → (fs : List Frame) (rest : List Lexeme) → run d (Dollar n ∷ rest) fs Operand ≡ run d rest fs (Operator (dollar n))
  unfolding run step
  dollar_runs o n h fs rest = ap (λ (x : Option State). x >>= λ s. run d rest s.0 s.1) (dollar_is d o n fs) ∙ after_runs (dollar n) h fs rest

  open_runs : (fs : List Frame) (rest : List Lexeme) → run d (Mark sign.Open ∷ rest) fs Operand ≡ run d rest (Parentheses ∷ fs) Operand
  unfolding run step
  open_runs fs rest = refl

  open_list_runs : (fs : List Frame) (rest : List Lexeme) → run d (Mark sign.OpenList ∷ rest) fs Operand ≡ run d rest (Items [] ∷ fs) FirstItem
  unfolding run step
  open_list_runs fs rest = refl

  call_runs : OnlyFormula d → (n : List ℕ) → is_id n ≡ false → (fs : List Frame) (rest : List Lexeme) → run d (Name n ∷ (Mark sign.Open ∷ rest)) fs Operand ≡ run d rest (Arguments n [] ∷ fs) FirstItem
  unfolding run step
  call_runs o n i fs rest = ap (λ (x : Option State). x >>= λ s. run d (Mark sign.Open ∷ rest) s.0 s.1) (name_is d o n i fs)

  every_runs : OnlyFormula d → (n : List ℕ) → is_id n ≡ false → 1 ≤ max_height → (fs : List Frame) (rest : List Lexeme)
      → run d (Name n ∷ (Mark sign.Point ∷ (Name all_word ∷ rest))) fs Operand ≡ run d rest fs (Operator (every n))
  unfolding run step
  every_runs o n i h fs rest =
      ap (λ (x : Option State). x >>= λ s. run d (Mark sign.Point ∷ (Name all_word ∷ rest)) s.0 s.1) (name_is d o n i fs)
      ∙ ap (λ (x : Option State). x >>= λ s. run d rest s.0 s.1) (all_is fs n)
      ∙ after_runs (every n) h fs rest

  lookup_runs : OnlyFormula d → (k : LookupKind) (n : List ℕ) → is_id n ≡ false → (fs : List Frame) (rest : List Lexeme)
      → run d (lookup_lexemes k n ++ rest) fs Operand ≡ run d rest fs (FirstKey k n)
  unfolding run step
  lookup_runs o k n i fs rest =
      ap (λ (x : Option State). x >>= λ s. run d (Mark sign.Point ∷ (Name (lookup_word k) ∷ (Mark sign.Open ∷ rest))) s.0 s.1) (name_is d o n i fs)
      ∙ ap (λ (x : Option State). x >>= λ s. run d (Mark sign.Open ∷ rest) s.0 s.1) (lookup_is k fs n)

  -- the keys of a lookup
  keys_from_to : (ks : Keys) → keys_from (keys_to ks) ≡ ks
  keys_from_to no_keys = refl
  keys_from_to (one_key n t ks) = ap (one_key n t) (keys_from_to ks)

  no_keys_run : (k : LookupKind) (n : List ℕ) (fs : List Frame) (rest : List Lexeme) → run d (Mark sign.Close ∷ rest) fs (FirstKey k n) ≡ (after fs (lookup k n no_keys) >>= λ s. run d rest s.0 s.1)
  unfolding run step
  no_keys_run k n fs rest = refl

  first_key_opens : (k : LookupKind) (n m : List ℕ) (fs : List Frame) (rest : List Lexeme)
      → run d (Name m ∷ (Mark sign.Assign ∷ rest)) fs (FirstKey k n) ≡ run d rest (Key k n [] m ∷ fs) Operand
  unfolding run step
  first_key_opens k n m fs rest = refl

  next_key_opens : (k : LookupKind) (n m : List ℕ) (ks : List (List ℕ × Tree)) → has_key m ks ≡ false → (fs : List Frame) (rest : List Lexeme)
      → run d (Name m ∷ (Mark sign.Assign ∷ rest)) fs (NextKey k n ks) ≡ run d rest (Key k n ks m ∷ fs) Operand
  unfolding run step
  next_key_opens k n m ks h fs rest = rw h refl

  -- the last key, and the end
  end_key : (k : LookupKind) (n : List ℕ) (ks : List (List ℕ × Tree)) (m : List ℕ) (t : Tree) → Stands d t → height_of t ≤ max_height → (fs : List Frame) (rest : List Lexeme)
      → run d (Mark sign.Close ∷ rest) (opened t (Key k n ks m ∷ fs)) (Operator (last_of t)) ≡ (after fs (lookup k n (keys_from (ks ++ (m, t) ∷ []))) >>= λ s. run d rest s.0 s.1)
  unfolding run step
  end_key k n ks m t s h fs rest = ap (λ (x : Option (List Frame × Tree)). (x >>= λ r. close_step r.0 r.1) >>= λ s. run d rest s.0 s.1) (reduce_opened 0 t h (yields_level 0 t s (omega arith)) (Key k n ks m ∷ fs))

  -- a key and a comma
  key_comma : (k : LookupKind) (n : List ℕ) (ks : List (List ℕ × Tree)) (m : List ℕ) (t : Tree) → Stands d t → height_of t ≤ max_height → (fs : List Frame) (rest : List Lexeme)
      → run d (Mark sign.Comma ∷ rest) (opened t (Key k n ks m ∷ fs)) (Operator (last_of t)) ≡ run d rest fs (NextKey k n (ks ++ (m, t) ∷ []))
  unfolding run step
  key_comma k n ks m t s h fs rest = ap (λ (x : Option (List Frame × Tree)). (x >>= λ r. comma_step r.0 r.1) >>= λ s. run d rest s.0 s.1) (reduce_opened 0 t h (yields_level 0 t s (omega arith)) (Key k n ks m ∷ fs))

  -- the names of the keys so far, where one more key is among them
  abbrev names_of : List (List ℕ × Tree) → List ℕ → List (List ℕ)
  names_of ks m = map (λ k. k.0) ks ++ m ∷ []

  not_key : (ks : List (List ℕ × Tree)) (m : List ℕ) (t : Tree) (n : List ℕ) → is_among n (names_of ks m) ≡ false → has_key n (ks ++ (m, t) ∷ []) ≡ false
  not_key ks m t n h = ap (λ (xs : List (List ℕ)). is_among n xs) (names_push ks m t) ∙ h

  -- the atoms of rules
  asked_runs : OnlyRule d → (n : List ℕ) → 1 ≤ max_height → (fs : List Frame) (rest : List Lexeme)
      → run d (Name user_word ∷ (Mark sign.Point ∷ (Name n ∷ rest))) fs Operand ≡ run d rest fs (Operator (atom (rule.User n)))
  unfolding run step
  asked_runs o n h fs rest =
      ap (λ (x : Option State). x >>= λ s. run d (Mark sign.Point ∷ (Name n ∷ rest)) s.0 s.1) (user_is d o fs) ∙ after_runs (atom (rule.User n)) h fs rest

  atom_runs : OnlyRule d → (a : RuleAtom) → 1 ≤ max_height → (fs : List Frame) (rest : List Lexeme) → run d (atom_lexemes a ++ rest) fs Operand ≡ run d rest fs (Operator (atom a))
  unfolding run step
  atom_runs o rule.Owner h fs rest = ap (λ (x : Option State). x >>= λ s. run d rest s.0 s.1) (owner_is d o fs) ∙ after_runs (atom rule.Owner) h fs rest
  atom_runs o rule.Editor h fs rest = ap (λ (x : Option State). x >>= λ s. run d rest s.0 s.1) (editor_is d o fs) ∙ after_runs (atom rule.Editor) h fs rest
  atom_runs o rule.Viewer h fs rest = ap (λ (x : Option State). x >>= λ s. run d rest s.0 s.1) (viewer_is d o fs) ∙ after_runs (atom rule.Viewer) h fs rest
  atom_runs o (rule.User n) h fs rest = asked_runs o n h fs rest
  atom_runs o (rule.UserAttribute n m) h fs rest =
      asked_runs o n h fs (Mark sign.Point ∷ (Name m ∷ rest))
      ∙ ap (λ (x : Option State). x >>= λ s. run d (Name m ∷ rest) s.0 s.1) (user_point_is d o n fs) ∙ after_runs (atom (rule.UserAttribute n m)) h fs rest
  atom_runs o (rule.Rec n) h fs rest =
      ap (λ (x : Option State). x >>= λ s. run d (Mark sign.Point ∷ (Name n ∷ rest)) s.0 s.1) (rule_rec_is d o fs) ∙ after_runs (atom (rule.Rec n)) h fs rest
  atom_runs o (rule.NewRec n) h fs rest =
      ap (λ (x : Option State). x >>= λ s. run d (Mark sign.Point ∷ (Name n ∷ rest)) s.0 s.1) (new_rec_is d o fs) ∙ after_runs (atom (rule.NewRec n)) h fs rest

  abbrev Reads : Tree → List Frame → List Lexeme → Type 0
  Reads t fs rest = run d (lexemes_of t ++ rest) fs Operand ≡ run d rest (opened t fs) (Operator (last_of t))

  mutual
    pub runs : (t : Tree) → Stands d t → height_of t ≤ max_height → (fs : List Frame) → room fs ≤ level_of t → (rest : List Lexeme) → Reads t fs rest
    runs (number n) s h fs r rest = number_runs n h fs rest
    runs (text n) s h fs r rest = text_runs n h fs rest
    runs (constant c) s h fs r rest = constant_runs c s h fs rest
    runs (dollar n) s h fs r rest = dollar_runs s n h fs rest
    runs (binary o a b) s h fs r rest =
        ap (λ ks. run d ks fs Operand) (append_assoc (lexemes_of a) (op_lexemes o ++ lexemes_of b) rest ∙ ap (λ ks. lexemes_of a ++ ks) (append_assoc (op_lexemes o) (lexemes_of b) rest))
        ∙ runs a s.2 (omega arith) fs (omega (arith, level_left (group_of o))) (op_lexemes o ++ (lexemes_of b ++ rest))
        ∙ op_runs o b s.4 s.3 rest (opened a fs) (Left a o ∷ fs) (last_of a) (infix_done o a fs s.0 s.2 (omega arith) s.1 r)
        ∙ runs b s.4 (omega arith) (Left a o ∷ fs) s.3 rest
    runs (prefix o a) s h fs r rest = prefix_runs o fs (lexemes_of a ++ rest) r ∙ runs a s.1 (omega arith) (Prefix o ∷ fs) s.0 rest
    runs (conditional a c b) s h fs r rest =
        ap (λ ks. run d ks fs Operand) (simp append_assoc)
        ∙ runs a s.2 (omega arith) fs (omega arith) (Word word.If ∷ (lexemes_of c ++ (Word word.Else ∷ (lexemes_of b ++ rest))))
        ∙ if_runs s.0 a s.2 (omega arith) s.1 fs r _
        ∙ runs c s.4 (omega arith) (Condition a ∷ fs) s.3 (Word word.Else ∷ (lexemes_of b ++ rest))
        ∙ else_runs a c s.4 (omega arith) s.3 fs _
        ∙ runs b s.5 (omega arith) (Otherwise a c ∷ fs) (omega arith) rest
    runs (parentheses a) s h fs r rest =
        open_runs fs ((lexemes_of a ++ Mark sign.Close ∷ []) ++ rest)
        ∙ ap (λ ks. run d ks (Parentheses ∷ fs) Operand) (append_assoc (lexemes_of a) (Mark sign.Close ∷ []) rest)
        ∙ runs a s (omega arith) (Parentheses ∷ fs) (omega arith) (Mark sign.Close ∷ rest)
        ∙ close_runs a s h fs rest
    runs (list ts) s h fs r rest =
        open_list_runs fs ((items_of ts ++ Mark sign.CloseList ∷ []) ++ rest)
        ∙ ap (λ ks. run d ks (Items [] ∷ fs) FirstItem) (append_assoc (items_of ts) (Mark sign.CloseList ∷ []) rest)
        ∙ items_run ts in_list s (omega arith) fs rest
        ∙ ap (λ (us : Trees). after fs (list us) >>= λ s. run d rest s.0 s.1) (from_to ts)
        ∙ after_runs (list ts) h fs rest
    runs (call n ts) s h fs r rest =
        call_runs s.0 n s.2 fs ((items_of ts ++ Mark sign.Close ∷ []) ++ rest)
        ∙ ap (λ ks. run d ks (Arguments n [] ∷ fs) FirstItem) (append_assoc (items_of ts) (Mark sign.Close ∷ []) rest)
        ∙ items_run ts (in_call n) s.1 (omega arith) fs rest
        ∙ ap (λ (us : Trees). after fs (call n us) >>= λ s. run d rest s.0 s.1) (from_to ts)
        ∙ after_runs (call n ts) h fs rest
    runs (attribute a n) s h fs r rest =
        ap (λ ks. run d ks fs Operand) (append_assoc (lexemes_of a) (Mark sign.Point ∷ (Name n ∷ [])) rest)
        ∙ runs a s.2 (omega arith) fs (omega arith) (Mark sign.Point ∷ (Name n ∷ rest))
        ∙ dot_runs s.0 a n h s.1 fs rest
    runs (every n) s h fs r rest = every_runs s.0 n s.1 h fs rest
    runs (lookup k n ks) s h fs r rest =
        lookup_runs s.0 k n s.2 fs ((keys_in ks ++ Mark sign.Close ∷ []) ++ rest)
        ∙ ap (λ (xs : List Lexeme). run d xs fs (FirstKey k n)) (append_assoc (keys_in ks) (Mark sign.Close ∷ []) rest)
        ∙ keys_run ks k n s.1 (omega arith) fs rest
        ∙ ap (λ (xs : Keys). after fs (lookup k n xs) >>= λ s. run d rest s.0 s.1) (keys_from_to ks)
        ∙ after_runs (lookup k n ks) h fs rest
    runs (atom a) s h fs r rest = atom_runs s a h fs rest

    keys_run : (ks : Keys) (k : LookupKind) (n : List ℕ) → AllKeysStand d [] ks → key_heights ks ≤ max_height → (fs : List Frame) (rest : List Lexeme)
        → run d (keys_in ks ++ Mark sign.Close ∷ rest) fs (FirstKey k n) ≡ (after fs (lookup k n (keys_from (keys_to ks))) >>= λ s. run d rest s.0 s.1)
    keys_run no_keys k n a h fs rest = no_keys_run k n fs rest
    keys_run (one_key m t us) k n a h fs rest =
        first_key_opens k n m fs ((lexemes_of t ++ more_keys us) ++ Mark sign.Close ∷ rest)
        ∙ ap (λ (xs : List Lexeme). run d xs (Key k n [] m ∷ fs) Operand) (append_assoc (lexemes_of t) (more_keys us) (Mark sign.Close ∷ rest))
        ∙ runs t a.1 (omega arith) (Key k n [] m ∷ fs) (omega arith) (more_keys us ++ Mark sign.Close ∷ rest)
        ∙ more_keys_run us k n [] m t a.1 (omega arith) a.2 (omega arith) fs rest

    more_keys_run : (us : Keys) (k : LookupKind) (n : List ℕ) (ks : List (List ℕ × Tree)) (m : List ℕ) (t : Tree) → Stands d t → height_of t ≤ max_height
        → AllKeysStand d (names_of ks m) us → key_heights us ≤ max_height → (fs : List Frame) (rest : List Lexeme)
        → run d (more_keys us ++ Mark sign.Close ∷ rest) (opened t (Key k n ks m ∷ fs)) (Operator (last_of t)) ≡ (after fs (lookup k n (keys_from (ks ++ (m, t) ∷ keys_to us))) >>= λ s. run d rest s.0 s.1)
    more_keys_run no_keys k n ks m t s h a l fs rest = end_key k n ks m t s h fs rest
    more_keys_run (one_key p u us) k n ks m t s h a l fs rest =
        key_comma k n ks m t s h fs ((Name p ∷ (Mark sign.Assign ∷ (lexemes_of u ++ more_keys us))) ++ Mark sign.Close ∷ rest)
        ∙ next_key_opens k n p (ks ++ (m, t) ∷ []) (not_key ks m t p a.0) fs ((lexemes_of u ++ more_keys us) ++ Mark sign.Close ∷ rest)
        ∙ ap (λ (xs : List Lexeme). run d xs (Key k n (ks ++ (m, t) ∷ []) p ∷ fs) Operand) (append_assoc (lexemes_of u) (more_keys us) (Mark sign.Close ∷ rest))
        ∙ runs u a.1 (omega arith) (Key k n (ks ++ (m, t) ∷ []) p ∷ fs) (omega arith) (more_keys us ++ Mark sign.Close ∷ rest)
        ∙ more_keys_run us k n (ks ++ (m, t) ∷ []) p u a.1 (omega arith) (subst (λ (xs : List (List ℕ)). AllKeysStand d (xs ++ p ∷ []) us) (sym (names_push ks m t)) a.2) (omega arith) fs rest
        ∙ ap (λ (xs : List (List ℕ × Tree)). after fs (lookup k n (keys_from xs)) >>= λ s. run d rest s.0 s.1) (append_assoc ks ((m, t) ∷ []) ((p, u) ∷ keys_to us))

    items_run : (ts : Trees) (b : Bracket) → AllStand d ts → heights ts ≤ max_height → (fs : List Frame) (rest : List Lexeme)
        → run d (items_of ts ++ closer b ∷ rest) (framed b [] ∷ fs) FirstItem ≡ (after fs (closed b (to_list ts)) >>= λ s. run d rest s.0 s.1)
    items_run no_trees b s h fs rest = no_items b fs rest
    items_run (one_more t us) b s h fs rest =
        ap (λ ks. run d ks (framed b [] ∷ fs) FirstItem) (append_assoc (lexemes_of t) (more_of us) (closer b ∷ rest))
        ∙ first_same t (more_of us ++ closer b ∷ rest) (framed b [] ∷ fs)
        ∙ runs t s.0 (omega arith) (framed b [] ∷ fs) (omega (arith, framed_room b [])) (more_of us ++ closer b ∷ rest)
        ∙ more_run us b [] t s.0 (omega arith) s.1 (omega arith) fs rest

    more_run : (us : Trees) (b : Bracket) (ts : List Tree) (t : Tree) → Stands d t → height_of t ≤ max_height → AllStand d us → heights us ≤ max_height → (fs : List Frame) (rest : List Lexeme)
        → run d (more_of us ++ closer b ∷ rest) (opened t (framed b ts ∷ fs)) (Operator (last_of t)) ≡ (after fs (closed b (ts ++ t ∷ to_list us)) >>= λ s. run d rest s.0 s.1)
    more_run no_trees b ts t s h a l fs rest = end_item b ts t s h fs rest
    more_run (one_more u us) b ts t s h a l fs rest =
        next_item b ts t s h fs ((lexemes_of u ++ more_of us) ++ closer b ∷ rest)
        ∙ ap (λ ks. run d ks (framed b (ts ++ t ∷ []) ∷ fs) Operand) (append_assoc (lexemes_of u) (more_of us) (closer b ∷ rest))
        ∙ runs u a.0 (omega arith) (framed b (ts ++ t ∷ []) ∷ fs) (omega (arith, framed_room b (ts ++ t ∷ []))) (more_of us ++ closer b ∷ rest)
        ∙ more_run us b (ts ++ t ∷ []) u a.0 (omega arith) a.1 (omega arith) fs rest
        ∙ ap (λ (xs : List Tree). after fs (closed b xs) >>= λ s. run d rest s.0 s.1) (append_assoc ts (t ∷ []) (u ∷ to_list us))

  -- what a tree is written as is read as that tree
  pub read_again : (t : Tree) (ks : List Lexeme) → IsWritten d t ks → run d ks [] Operand ≡ Some t
  unfolding run finish
  read_again t ks s =
      ap (λ (xs : List Lexeme). run d xs [] Operand) (s.written ∙ sym (append-nil (lexemes_of t)))
      ∙ runs t s.stands s.low [] (omega arith) []
      ∙ ap (λ (x : Option (List Frame × Tree)). x >>= whole) (reduce_opened 0 t s.low (yields_level 0 t s.stands (omega arith)) [])
