-- What the machine reads is written as the tree.
use Rattle.std.specs.Prelude.{ℕ, ◌+◌, ◌≤◌, Bool, true, false, ◌&&◌, nat_le, cond, List, [], ◌∷◌, ◌++◌, ◌≡◌, Option, Some, None, ◌⊎◌, refl, map, bytes_eq}
use Rattle.std.proofs.Common.{arith, ap, sym, ◌∙◌, append_assoc, append-nil, subst, inl, inr}
use Rattle.std.proofs.lemmas.Bool.{leb-true}
use Rattle.std.proofs.lemmas.Option.{cond_some, none-some, same_Some}
use Rattle.std.specs.Cmp.Lexicographic.{bytes_decides}
use Rattle.formula_lex.specs.declared.token.Sign.{Sign}
use Rattle.formula_lex.specs.declared.token.Sign.TheVariants as sign
use Rattle.formula_parse.specs.declared.operator.BinaryOp.{BinaryOp}
use Rattle.formula_parse.specs.declared.operator.BinaryOp.TheVariants as op
use Rattle.formula_parse.specs.declared.operator.PrefixOp.{PrefixOp}
use Rattle.formula_parse.specs.declared.operator.PrefixOp.TheVariants as pre
use Rattle.formula_parse.specs.declared.operator.Constant.TheVariants as con
use Rattle.formula_parse.specs.declared.operator.LookupKind.{LookupKind}
use Rattle.formula_parse.specs.declared.operator.LookupKind.TheVariants as look
use Rattle.formula_parse.specs.declared.operator.Dialect.{Dialect}
use Rattle.formula_parse.specs.declared.operator.Dialect.TheVariants as dialect
use Rattle.formula_parse.specs.declared.lexeme.Keyword.{Keyword}
use Rattle.formula_parse.specs.declared.lexeme.Keyword.TheVariants as word
use Rattle.formula_parse.specs.declared.lexeme.Lexeme.{Lexeme}
use Rattle.formula_parse.specs.declared.lexeme.Lexeme.TheVariants.{Number, Text, Name, Dollar, Keyword as Word, Sign as Mark}
use Rattle.formula_parse.specs.declared.frame.Frame.{Frame}
use Rattle.formula_parse.specs.declared.frame.Frame.TheVariants.{Left, Prefix, Condition, Otherwise, Parentheses, Items, Arguments, Key}
use Rattle.formula_parse.specs.declared.frame.Mode.{Mode}
use Rattle.formula_parse.specs.declared.frame.Mode.TheVariants.{Operand, FirstItem, Operator, AfterNot, AfterIs, AfterDot, AfterName, AfterPoint, AfterLookup, FirstKey, NextKey, AfterKey, AfterSubject, SubjectPoint, UserPoint}
use Rattle.formula_parse.specs.declared.rule.RuleAtom.TheVariants as rule
use Rattle.formula_parse.specs.declared.rule.Subject.{Subject}
use Rattle.formula_parse.specs.declared.rule.Subject.TheVariants as subject
use Rattle.formula_parse.specs.RuleGrammar.{owner_word, editor_word, viewer_word, user_word, new_rec_word, subject_lexeme, asked}
use Rattle.formula_parse.specs.Levels.{Group, or_group, and_group, comparison, sum_group, term_group, group_level, group_left, group_right}
use Rattle.formula_parse.specs.Lexemes.{is_id}
use Rattle.formula_parse.specs.Grammar.{group_of, prefix_level, prefix_lexeme, op_lexemes, all_word, lookup_word, lookup_lexemes, lexemes_of, items_of, more_of, keys_in, more_keys}
use Rattle.formula_parse.specs.Standing.{OnlyFormula, OnlyRule, has_op, level_of, is_among, Stands, AllStand, AllKeysStand, max_height, IsWritten, has_key}
use Rattle.formula_parse.specs.Tree.{Tree, number, text, constant, dollar, binary, prefix, conditional, parentheses, list, call, attribute, every, lookup, atom, no_trees, no_keys, from_list, keys_from, height_of}
use Rattle.formula_parse.specs.Machine.{State, ◌>>=◌, open_left, open_condition, else_step, close_step, close_list_step, comma_step, prefix_step, kept, room, filled, reduce, after, infix_step}
use Rattle.formula_parse.specs.Operands.{rec_step, if_step, point_step, dollar_step, name_operand, close_empty, close_empty_list, first_step, word_operand, sign_operand, operand_step}
use Rattle.formula_parse.specs.Steps.{subject_step, subject_point_step, user_point_step, word_after, sign_after, after_step, not_step, is_step, dot_step, name_step, name_point_step, lookup_step, first_key_step, next_key_step, key_step}
use Rattle.formula_parse.specs.Runs.{step, finish, run, whole}

module _ (dia : Dialect) where
  -- the items so far, each with its comma
  abbrev begun : List Tree → List Lexeme
  begun [] = []
  begun (t ∷ ts) = lexemes_of t ++ Mark sign.Comma ∷ begun ts

  -- the keys so far, each with its comma
  abbrev begun_keys : List (List ℕ × Tree) → List Lexeme
  begun_keys [] = []
  begun_keys (k ∷ ks) = Name k.0 ∷ (Mark sign.Assign ∷ (lexemes_of k.1 ++ Mark sign.Comma ∷ begun_keys ks))

  abbrev frame_tokens : Frame → List Lexeme
  frame_tokens (Left a o) = lexemes_of a ++ op_lexemes o
  frame_tokens (Prefix o) = prefix_lexeme o ∷ []
  frame_tokens (Condition a) = lexemes_of a ++ Word word.If ∷ []
  frame_tokens (Otherwise a c) = lexemes_of a ++ Word word.If ∷ (lexemes_of c ++ Word word.Else ∷ [])
  frame_tokens Parentheses = Mark sign.Open ∷ []
  frame_tokens (Items ts) = Mark sign.OpenList ∷ begun ts
  frame_tokens (Arguments n ts) = Name n ∷ (Mark sign.Open ∷ begun ts)
  frame_tokens (Key k n ks m) = lookup_lexemes k n ++ (begun_keys ks ++ (Name m ∷ (Mark sign.Assign ∷ [])))

  -- the tokens that the frames have taken
  abbrev before : List Frame → List Lexeme
  before [] = []
  before (f ∷ fs) = before fs ++ frame_tokens f

  abbrev shown : List Frame → Mode → List Lexeme
  shown fs Operand = before fs
  shown fs FirstItem = before fs
  shown fs (Operator t) = before fs ++ lexemes_of t
  shown fs (AfterNot t) = (before fs ++ lexemes_of t) ++ Word word.Not ∷ []
  shown fs (AfterIs t) = (before fs ++ lexemes_of t) ++ Word word.Is ∷ []
  shown fs (AfterDot t) = (before fs ++ lexemes_of t) ++ Mark sign.Point ∷ []
  shown fs (AfterName n) = before fs ++ Name n ∷ []
  shown fs (AfterPoint n) = (before fs ++ Name n ∷ []) ++ Mark sign.Point ∷ []
  shown fs (AfterLookup k n) = ((before fs ++ Name n ∷ []) ++ Mark sign.Point ∷ []) ++ Name (lookup_word k) ∷ []
  shown fs (FirstKey k n) = before fs ++ lookup_lexemes k n
  shown fs (NextKey k n ks) = before fs ++ (lookup_lexemes k n ++ begun_keys ks)
  shown fs (AfterKey k n ks m) = (before fs ++ (lookup_lexemes k n ++ begun_keys ks)) ++ Name m ∷ []
  shown fs (AfterSubject s) = before fs ++ subject_lexeme s ∷ []
  shown fs (SubjectPoint s) = (before fs ++ subject_lexeme s ∷ []) ++ Mark sign.Point ∷ []
  shown fs (UserPoint n) = (before fs ++ lexemes_of (atom (rule.User n))) ++ Mark sign.Point ∷ []

  -- a tree that may stand in a place of level r
  record Fits (r : ℕ) (t : Tree) : Type 0 where
    stands : Stands dia t
    low : height_of t ≤ max_height
    level : r ≤ level_of t

  -- the keys so far, of a table that is not `id`
  record GoodKeys (n : List ℕ) (ks : List (List ℕ × Tree)) : Type 0 where
    formula : OnlyFormula dia
    table : is_id n ≡ false
    stand : AllKeysStand dia [] (keys_from ks)

  abbrev GoodFrame : Frame → ℕ → Type 0
  GoodFrame (Left a o) r = Fits (group_left (group_of o)) a × (r ≤ group_level (group_of o)) × (has_op dia o ≡ true)
  GoodFrame (Prefix o) r = r ≤ prefix_level o
  GoodFrame (Condition a) r = Fits 1 a × (r ≤ 0) × OnlyFormula dia
  GoodFrame (Otherwise a c) r = Fits 1 a × Fits 1 c × (r ≤ 0) × OnlyFormula dia
  GoodFrame Parentheses r = Unit {0}
  GoodFrame (Items ts) r = AllStand dia (from_list ts)
  GoodFrame (Arguments n ts) r = AllStand dia (from_list ts) × OnlyFormula dia × (is_id n ≡ false)
  GoodFrame (Key k n ks m) r = GoodKeys n ks × (has_key m ks ≡ false)

  abbrev Good : List Frame → Type 0
  Good [] = Unit {0}
  Good (f ∷ fs) = GoodFrame f (room fs) × Good fs

  abbrev GoodMode : Mode → Type 0
  GoodMode (Operator t) = Fits 8 t
  GoodMode (AfterNot t) = Fits 8 t
  GoodMode (AfterIs t) = Fits 8 t
  GoodMode (AfterDot t) = Fits 8 t × OnlyFormula dia
  GoodMode (AfterName n) = OnlyFormula dia × (is_id n ≡ false)
  GoodMode (AfterPoint n) = OnlyFormula dia × (is_id n ≡ false)
  GoodMode (AfterLookup k n) = OnlyFormula dia × (is_id n ≡ false)
  GoodMode (FirstKey k n) = OnlyFormula dia × (is_id n ≡ false)
  GoodMode (NextKey k n ks) = GoodKeys n ks
  GoodMode (AfterKey k n ks m) = GoodKeys n ks × (has_key m ks ≡ false)
  GoodMode (AfterSubject s) = OnlyRule dia
  GoodMode (SubjectPoint s) = OnlyRule dia
  GoodMode (UserPoint n) = OnlyRule dia
  GoodMode _ = Unit {0}

  -- where the machine stands after these tokens
  record Holds (done : List Lexeme) (s : State) : Type 0 where
    tokens : done ≡ shown s.0 s.1
    frames : Good s.0
    mode : GoodMode s.1

  bind_some : {A B : Type 0} (o : Option A) (f : A → Option B) (y : B) → (o >>= f) ≡ Some y → (x : A) × (o ≡ Some x) × (f x ≡ Some y)
  bind_some None f y e = absurd (none-some y e)
  bind_some (Some x) f y e = (x, refl, e)

  either : {A : Type 0} (b : Bool) (x y z : A) → cond b x y ≡ z → (x ≡ z) ⊎ (y ≡ z)
  either true x y z e = inl e
  either false x y z e = inr e

  and_both : (a b : Bool) → (a && b) ≡ true → (a ≡ true) × (b ≡ true)
  and_both true b e = (refl, e)
  and_both false b e = absurd (cc)

  kept_some : (t u : Tree) → kept t ≡ Some u → (t ≡ u) × (height_of t ≤ max_height)
  unfolding kept
  kept_some t u e = let p = cond_some _ _ _ e in (p.1, leb-true _ _ p.0)

  room_low : (fs : List Frame) → room fs ≤ 7
  room_low [] = omega arith
  room_low (Left a o ∷ fs) = right_low (group_of o)
    where
      right_low : (g : Group) → group_right g ≤ 7
      right_low or_group = omega arith
      right_low and_group = omega arith
      right_low comparison = omega arith
      right_low sum_group = omega arith
      right_low term_group = omega arith
  room_low (Prefix pre.Not ∷ fs) = omega arith
  room_low (Prefix pre.Negate ∷ fs) = omega arith
  room_low (Condition a ∷ fs) = omega arith
  room_low (Otherwise a c ∷ fs) = omega arith
  room_low (Parentheses ∷ fs) = omega arith
  room_low (Items ts ∷ fs) = omega arith
  room_low (Arguments n ts ∷ fs) = omega arith
  room_low (Key k n ks m ∷ fs) = omega arith

  -- what reduce leaves
  record Reduced (fs : List Frame) (t : Tree) (r : List Frame × Tree) : Type 0 where
    same : before fs ++ lexemes_of t ≡ before r.0 ++ lexemes_of r.1
    good : Good r.0
    fits : Fits (room r.0) r.1

  stays : (fs : List Frame) (t : Tree) (r : List Frame × Tree) → Good fs → Fits (room fs) t → ◌≡◌ {A = Option (List Frame × Tree)} (Some (fs, t)) (Some r) → Reduced fs t r
  stays fs t r g h e = subst (λ x. Reduced fs t x) (same_Some _ _ e) (record { same = refl; good = g; fits = h })

  fills : (n : ℕ) (f : Frame) (fs : List Frame) (t u : Tree) (r : List Frame × Tree) → u ≡ filled f t → frame_tokens f ++ lexemes_of t ≡ lexemes_of u → Stands dia u → room fs ≤ level_of u
      → Good fs → ((u' : Tree) → Fits (room fs) u' → reduce n fs u' ≡ Some r → Reduced fs u' r)
      → (kept u >>= λ v. reduce n fs v) ≡ Some r → Reduced (f ∷ fs) t r
  fills n f fs t u r e p s l g next h =
      let b = bind_some (kept u) (λ v. reduce n fs v) r h in
      let k = kept_some u b.0 b.1 in
      let low : height_of b.0 ≤ max_height = subst (λ v. height_of v ≤ max_height) k.0 k.1 in
      let below : Reduced fs b.0 r = next b.0 (record { stands = subst (Stands dia) k.0 s; low = low; level = subst (λ v. room fs ≤ level_of v) k.0 l }) b.2 in
      record {
        same = append_assoc (before fs) (frame_tokens f) (lexemes_of t) ∙ ap (λ x. before fs ++ x) (p ∙ ap lexemes_of k.0) ∙ below.same;
        good = below.good;
        fits = below.fits;
      }

  reduce_sound : (n : ℕ) (fs : List Frame) (t : Tree) (r : List Frame × Tree) → Good fs → Fits (room fs) t → reduce n fs t ≡ Some r → Reduced fs t r
  reduce_sound n [] t r g h e = stays [] t r g h e
  reduce_sound n (Left a o ∷ fs) t r g h e =
      elim (either (nat_le n (group_right (group_of o))) _ _ _ e) [
        | inl p ↦ fills n (Left a o) fs t (binary o a t) r refl (append_assoc (lexemes_of a) (op_lexemes o) (lexemes_of t)) (g.0.2, g.0.0.level, g.0.0.stands, h.level, h.stands) g.0.1 g.1 (λ u k q. reduce_sound n fs u r g.1 k q) p
        | inr p ↦ stays (Left a o ∷ fs) t r g h p
      ]
  reduce_sound n (Prefix o ∷ fs) t r g h e =
      elim (either (nat_le n (prefix_level o)) _ _ _ e) [
        | inl p ↦ fills n (Prefix o) fs t (prefix o t) r refl refl (h.level, h.stands) g.0 g.1 (λ u k q. reduce_sound n fs u r g.1 k q) p
        | inr p ↦ stays (Prefix o ∷ fs) t r g h p
      ]
  reduce_sound n (Otherwise a c ∷ fs) t r g h e =
      elim (either (nat_le n 0) _ _ _ e) [
        | inl p ↦ fills n (Otherwise a c) fs t (conditional a c t) r refl (simp append_assoc) (g.0.3, g.0.0.level, g.0.0.stands, g.0.1.level, g.0.1.stands, h.stands) g.0.2 g.1 (λ u k q. reduce_sound n fs u r g.1 k q) p
        | inr p ↦ stays (Otherwise a c ∷ fs) t r g h p
      ]
  reduce_sound n (Condition a ∷ fs) t r g h e = stays (Condition a ∷ fs) t r g h e
  reduce_sound n (Parentheses ∷ fs) t r g h e = stays (Parentheses ∷ fs) t r g h e
  reduce_sound n (Items ts ∷ fs) t r g h e = stays (Items ts ∷ fs) t r g h e
  reduce_sound n (Arguments m ts ∷ fs) t r g h e = stays (Arguments m ts ∷ fs) t r g h e
  reduce_sound n (Key k m ks p ∷ fs) t r g h e = stays (Key k m ks p ∷ fs) t r g h e

  none_is : {A B : Type 0} (x : A) → None ≡ Some x → B
  none_is x e = absurd (none-some x e)

  -- after a tree of the highest level
  after_sound : (done : List Lexeme) (fs : List Frame) (t : Tree) (s : State) → done ≡ before fs ++ lexemes_of t → Good fs → Stands dia t → 8 ≤ level_of t → after fs t ≡ Some s → Holds done s
  after_sound done fs t s d g st l e =
      let b = bind_some (kept t) (λ u. let x : Option State = Some (fs, Operator u) in x) s e in
      let k = kept_some t b.0 b.1 in
      subst (λ x. Holds done x) (same_Some _ _ b.2)
      (record { tokens = d ∙ ap (λ u. before fs ++ lexemes_of u) k.0; frames = g; mode = record { stands = subst (Stands dia) k.0 st; low = subst (λ v. height_of v ≤ max_height) k.0 k.1; level = subst (λ v. 8 ≤ level_of v) k.0 l } })

  some_sound : (done : List Lexeme) (s r : State) → ◌≡◌ {A = Option State} (Some s) (Some r) → Holds done s → Holds done r
  some_sound done s r e h = subst (λ x. Holds done x) (same_Some _ _ e) h

  high : (fs : List Frame) (t : Tree) → Fits 8 t → Fits (room fs) t
  high fs t h = record { stands = h.stands; low = h.low; level = omega (arith, room_low fs, h.level) }

  infix_sound : (o : BinaryOp) (done : List Lexeme) (fs : List Frame) (t : Tree) (s : State) → done ≡ before fs ++ lexemes_of t → Good fs → Fits 8 t → infix_step dia o fs t ≡ Some s
      → Holds (done ++ op_lexemes o) s × (s.1 ≡ Operand)
  infix_sound o done fs t s d g h e =
      let b = bind_some (reduce (group_level (group_of o) + 1) fs t) (open_left dia o) s e in
      let r : Reduced fs t b.0 = reduce_sound _ fs t b.0 g (high fs t h) b.1 in
      let c = cond_some _ _ _ b.2 in
      let p = and_both _ _ c.0 in
      let p2 = and_both _ _ p.1 in
      let hold : Holds (done ++ op_lexemes o) (Left b.0.1 o ∷ b.0.0, Operand) = record {
        tokens = ap (λ x. x ++ op_lexemes o) (d ∙ r.same) ∙ append_assoc (before b.0.0) (lexemes_of b.0.1) (op_lexemes o);
        frames = ((record { stands = r.fits.stands; low = r.fits.low; level = leb-true _ _ p2.1 }, leb-true _ _ p2.0, p.0), r.good);
        mode = tt;
      } in
      (subst (λ x. Holds (done ++ op_lexemes o) x) c.1 hold, ap (λ (x : State). x.1) (sym c.1))

  prefix_sound : (o : PrefixOp) (done : List Lexeme) (fs : List Frame) (s : State) → done ≡ before fs → Good fs → prefix_step o fs ≡ Some s → Holds (done ++ prefix_lexeme o ∷ []) s
  prefix_sound o done fs s d g e =
      let c = cond_some _ _ _ e in
      let hold : Holds (done ++ prefix_lexeme o ∷ []) (Prefix o ∷ fs, Operand) = record { tokens = ap (λ x. x ++ prefix_lexeme o ∷ []) d; frames = (leb-true _ _ c.0, g); mode = tt } in
      subst (λ x. Holds (done ++ prefix_lexeme o ∷ []) x) c.1 hold

  formula_is : (k : Dialect) → k ≡ dia → OnlyFormula k → OnlyFormula dia
  formula_is k e o = subst OnlyFormula e o

  rule_is : (k : Dialect) → k ≡ dia → OnlyRule k → OnlyRule dia
  rule_is k e o = subst OnlyRule e o

  rec_sound : (k : Dialect) → k ≡ dia → (done : List Lexeme) (fs : List Frame) (s : State) → done ≡ before fs → Good fs → rec_step k fs ≡ Some s → Holds (done ++ Word word.Rec ∷ []) s
  rec_sound dialect.Formula k done fs s d g e = after_sound _ fs (constant con.Rec) s (ap (λ x. x ++ Word word.Rec ∷ []) d) g (formula_is dialect.Formula k tt) (omega arith) e
  rec_sound dialect.Rule k done fs s d g e = some_sound _ (fs, AfterSubject subject.Rec) s e (record { tokens = ap (λ x. x ++ Word word.Rec ∷ []) d; frames = g; mode = rule_is dialect.Rule k tt })

  dollar_sound : (k : Dialect) → k ≡ dia → (n : List ℕ) (done : List Lexeme) (fs : List Frame) (s : State) → done ≡ before fs → Good fs → dollar_step k n fs ≡ Some s → Holds (done ++ Dollar n ∷ []) s
  dollar_sound dialect.Formula k n done fs s d g e = after_sound _ fs (dollar n) s (ap (λ x. x ++ Dollar n ∷ []) d) g (formula_is dialect.Formula k tt) (omega arith) e
  dollar_sound dialect.Rule k n done fs s d g e = none_is s e

  -- a keyword, a sign or a name where an operand is wanted
  word_operand_sound : (k : Keyword) (done : List Lexeme) (fs : List Frame) (s : State) → done ≡ before fs → Good fs → word_operand dia k fs ≡ Some s → Holds (done ++ Word k ∷ []) s
  word_operand_sound word.Not done fs s d g e = prefix_sound pre.Not done fs s d g e
  word_operand_sound word.True done fs s d g e = after_sound _ fs (constant con.True) s (ap (λ x. x ++ Word word.True ∷ []) d) g tt (omega arith) e
  word_operand_sound word.False done fs s d g e = after_sound _ fs (constant con.False) s (ap (λ x. x ++ Word word.False ∷ []) d) g tt (omega arith) e
  word_operand_sound word.None done fs s d g e = after_sound _ fs (constant con.None) s (ap (λ x. x ++ Word word.None ∷ []) d) g tt (omega arith) e
  word_operand_sound word.Rec done fs s d g e = rec_sound dia refl done fs s d g e
  word_operand_sound _ done fs s d g e = none_is s e

  sign_operand_sound : (k : Sign) (done : List Lexeme) (fs : List Frame) (s : State) → done ≡ before fs → Good fs → sign_operand k fs ≡ Some s → Holds (done ++ Mark k ∷ []) s
  sign_operand_sound sign.Minus done fs s d g e = prefix_sound pre.Negate done fs s d g e
  sign_operand_sound sign.Open done fs s d g e =
      some_sound _ (Parentheses ∷ fs, Operand) s e (record { tokens = ap (λ x. x ++ Mark sign.Open ∷ []) d; frames = (tt, g); mode = tt })
  sign_operand_sound sign.OpenList done fs s d g e =
      some_sound _ (Items [] ∷ fs, FirstItem) s e (record { tokens = ap (λ x. x ++ Mark sign.OpenList ∷ []) d; frames = (tt, g); mode = tt })
  sign_operand_sound _ done fs s d g e = none_is s e

  cond_none : {A : Type 0} (b : Bool) (x y : A) → cond b None (Some x) ≡ Some y → (b ≡ false) × (x ≡ y)
  cond_none true x y e = none_is y e
  cond_none false x y e = (refl, same_Some _ _ e)

  -- a word of rules where an operand is wanted
  rule_by : OnlyRule dia → (n : List ℕ) (done : List Lexeme) (fs : List Frame) (s : State) → done ≡ before fs → Good fs
      → (a b c u w : Bool) → bytes_eq n owner_word ≡ a → bytes_eq n editor_word ≡ b → bytes_eq n viewer_word ≡ c → bytes_eq n user_word ≡ u → bytes_eq n new_rec_word ≡ w
      → cond a (after fs (atom rule.Owner)) (cond b (after fs (atom rule.Editor)) (cond c (after fs (atom rule.Viewer))
      (cond u (Some (fs, AfterSubject subject.User)) (cond w (Some (fs, AfterSubject subject.NewRec)) None)))) ≡ Some s
      → Holds (done ++ Name n ∷ []) s
  rule_by o n done fs s d g true b c u w h1 h2 h3 h4 h5 e =
      after_sound _ fs (atom rule.Owner) s (ap (λ (v : List ℕ). done ++ Name v ∷ []) ((bytes_decides n owner_word).0 h1) ∙ ap (λ x. x ++ Name owner_word ∷ []) d) g o (omega arith) e
  rule_by o n done fs s d g false true c u w h1 h2 h3 h4 h5 e =
      after_sound _ fs (atom rule.Editor) s (ap (λ (v : List ℕ). done ++ Name v ∷ []) ((bytes_decides n editor_word).0 h2) ∙ ap (λ x. x ++ Name editor_word ∷ []) d) g o (omega arith) e
  rule_by o n done fs s d g false false true u w h1 h2 h3 h4 h5 e =
      after_sound _ fs (atom rule.Viewer) s (ap (λ (v : List ℕ). done ++ Name v ∷ []) ((bytes_decides n viewer_word).0 h3) ∙ ap (λ x. x ++ Name viewer_word ∷ []) d) g o (omega arith) e
  rule_by o n done fs s d g false false false true w h1 h2 h3 h4 h5 e =
      some_sound _ (fs, AfterSubject subject.User) s e (record { tokens = ap (λ (v : List ℕ). done ++ Name v ∷ []) ((bytes_decides n user_word).0 h4) ∙ ap (λ x. x ++ Name user_word ∷ []) d; frames = g; mode = o })
  rule_by o n done fs s d g false false false false true h1 h2 h3 h4 h5 e =
      some_sound _ (fs, AfterSubject subject.NewRec) s e (record { tokens = ap (λ (v : List ℕ). done ++ Name v ∷ []) ((bytes_decides n new_rec_word).0 h5) ∙ ap (λ x. x ++ Name new_rec_word ∷ []) d; frames = g; mode = o })
  rule_by o n done fs s d g false false false false false h1 h2 h3 h4 h5 e = none_is s e

  name_operand_sound : (k : Dialect) → k ≡ dia → (n : List ℕ) (done : List Lexeme) (fs : List Frame) (s : State) → done ≡ before fs → Good fs → name_operand k n fs ≡ Some s → Holds (done ++ Name n ∷ []) s
  name_operand_sound dialect.Formula k n done fs s d g e =
      let c = cond_none (is_id n) (let x : State = (fs, AfterName n) in x) s e in
      let hold : Holds (done ++ Name n ∷ []) (fs, AfterName n) = record { tokens = ap (λ x. x ++ Name n ∷ []) d; frames = g; mode = (formula_is dialect.Formula k tt, c.0) } in
      subst (λ x. Holds (done ++ Name n ∷ []) x) c.1 hold
  name_operand_sound dialect.Rule k n done fs s d g e =
      rule_by (rule_is dialect.Rule k tt) n done fs s d g (bytes_eq n owner_word) (bytes_eq n editor_word) (bytes_eq n viewer_word) (bytes_eq n user_word) (bytes_eq n new_rec_word) refl refl refl refl refl e

  operand_sound : (k : Lexeme) (done : List Lexeme) (fs : List Frame) (s : State) → done ≡ before fs → Good fs → operand_step dia k fs ≡ Some s → Holds (done ++ k ∷ []) s
  operand_sound (Number n) done fs s d g e = after_sound _ fs (number n) s (ap (λ x. x ++ Number n ∷ []) d) g tt (omega arith) e
  operand_sound (Text n) done fs s d g e = after_sound _ fs (text n) s (ap (λ x. x ++ Text n ∷ []) d) g tt (omega arith) e
  operand_sound (Dollar n) done fs s d g e = dollar_sound dia refl n done fs s d g e
  operand_sound (Name n) done fs s d g e = name_operand_sound dia refl n done fs s d g e
  operand_sound (Word k) done fs s d g e = word_operand_sound k done fs s d g e
  operand_sound (Mark k) done fs s d g e = sign_operand_sound k done fs s d g e

  -- lists
  more_push : (ts : List Tree) (u : Tree) → more_of (from_list (ts ++ u ∷ [])) ≡ Mark sign.Comma ∷ (begun ts ++ lexemes_of u)
  more_push [] u = ap (λ x. Mark sign.Comma ∷ x) (append-nil (lexemes_of u))
  more_push (t ∷ ts) u = ap (λ x. Mark sign.Comma ∷ (lexemes_of t ++ x)) (more_push ts u) ∙ ap (λ x. Mark sign.Comma ∷ x) (sym (append_assoc (lexemes_of t) (Mark sign.Comma ∷ begun ts) (lexemes_of u)))

  items_push : (ts : List Tree) (u : Tree) → items_of (from_list (ts ++ u ∷ [])) ≡ begun ts ++ lexemes_of u
  items_push [] u = append-nil (lexemes_of u)
  items_push (t ∷ ts) u = ap (λ x. lexemes_of t ++ x) (more_push ts u) ∙ sym (append_assoc (lexemes_of t) (Mark sign.Comma ∷ begun ts) (lexemes_of u))

  begun_push : (ts : List Tree) (u : Tree) → begun (ts ++ u ∷ []) ≡ begun ts ++ (lexemes_of u ++ Mark sign.Comma ∷ [])
  begun_push [] u = refl
  begun_push (t ∷ ts) u = ap (λ x. lexemes_of t ++ Mark sign.Comma ∷ x) (begun_push ts u) ∙ sym (append_assoc (lexemes_of t) (Mark sign.Comma ∷ begun ts) (lexemes_of u ++ Mark sign.Comma ∷ []))

  all_push : (ts : List Tree) (u : Tree) → AllStand dia (from_list ts) → Stands dia u → AllStand dia (from_list (ts ++ u ∷ []))
  all_push [] u a s = (s, tt)
  all_push (t ∷ ts) u a s = (a.0, all_push ts u a.1 s)

  -- b before the bracket, o the bracket, i the items, t the last item, c what closes it
  bracket : (b o i t : List Lexeme) (c : Lexeme) → ((b ++ (o ++ i)) ++ t) ++ c ∷ [] ≡ b ++ (o ++ ((i ++ t) ++ c ∷ []))
  bracket b o i t c = simp append_assoc

  comma_bracket : (b o i t : List Lexeme) (c : Lexeme) → ((b ++ (o ++ i)) ++ t) ++ c ∷ [] ≡ b ++ (o ++ (i ++ (t ++ c ∷ [])))
  comma_bracket b o i t c = simp append_assoc

  -- keys
  more_keys_push : (ks : List (List ℕ × Tree)) (m : List ℕ) (u : Tree) → more_keys (keys_from (ks ++ (m, u) ∷ [])) ≡ Mark sign.Comma ∷ (begun_keys ks ++ (Name m ∷ (Mark sign.Assign ∷ lexemes_of u)))
  more_keys_push [] m u = ap (λ x. Mark sign.Comma ∷ (Name m ∷ (Mark sign.Assign ∷ x))) (append-nil (lexemes_of u))
  more_keys_push (k ∷ ks) m u =
      ap (λ x. Mark sign.Comma ∷ (Name k.0 ∷ (Mark sign.Assign ∷ (lexemes_of k.1 ++ x)))) (more_keys_push ks m u)
      ∙ ap (λ x. Mark sign.Comma ∷ (Name k.0 ∷ (Mark sign.Assign ∷ x))) (sym (append_assoc (lexemes_of k.1) (Mark sign.Comma ∷ begun_keys ks) (Name m ∷ (Mark sign.Assign ∷ lexemes_of u))))

  keys_push : (ks : List (List ℕ × Tree)) (m : List ℕ) (u : Tree) → keys_in (keys_from (ks ++ (m, u) ∷ [])) ≡ begun_keys ks ++ (Name m ∷ (Mark sign.Assign ∷ lexemes_of u))
  keys_push [] m u = ap (λ x. Name m ∷ (Mark sign.Assign ∷ x)) (append-nil (lexemes_of u))
  keys_push (k ∷ ks) m u =
      ap (λ x. Name k.0 ∷ (Mark sign.Assign ∷ (lexemes_of k.1 ++ x))) (more_keys_push ks m u)
      ∙ ap (λ x. Name k.0 ∷ (Mark sign.Assign ∷ x)) (sym (append_assoc (lexemes_of k.1) (Mark sign.Comma ∷ begun_keys ks) (Name m ∷ (Mark sign.Assign ∷ lexemes_of u))))

  begun_keys_push : (ks : List (List ℕ × Tree)) (m : List ℕ) (u : Tree) → begun_keys (ks ++ (m, u) ∷ []) ≡ begun_keys ks ++ (Name m ∷ (Mark sign.Assign ∷ (lexemes_of u ++ Mark sign.Comma ∷ [])))
  begun_keys_push [] m u = refl
  begun_keys_push (k ∷ ks) m u =
      ap (λ x. Name k.0 ∷ (Mark sign.Assign ∷ (lexemes_of k.1 ++ Mark sign.Comma ∷ x))) (begun_keys_push ks m u)
      ∙ ap (λ x. Name k.0 ∷ (Mark sign.Assign ∷ x)) (sym (append_assoc (lexemes_of k.1) (Mark sign.Comma ∷ begun_keys ks) (Name m ∷ (Mark sign.Assign ∷ (lexemes_of u ++ Mark sign.Comma ∷ [])))))

  keys_stand_push : (ks : List (List ℕ × Tree)) (names : List (List ℕ)) (m : List ℕ) (u : Tree) → AllKeysStand dia names (keys_from ks) → is_among m (names ++ map (λ k. k.0) ks) ≡ false → Stands dia u
      → AllKeysStand dia names (keys_from (ks ++ (m, u) ∷ []))
  keys_stand_push [] names m u a h s = (ap (λ (xs : List (List ℕ)). is_among m xs) (sym (append-nil names)) ∙ h, s, tt)
  keys_stand_push (k ∷ ks) names m u a h s =
      (a.0, a.1, keys_stand_push ks (names ++ k.0 ∷ []) m u a.2 (ap (λ (xs : List (List ℕ)). is_among m xs) (append_assoc names (k.0 ∷ []) (map (λ k. k.0) ks)) ∙ h) s)

  keys_more : (n : List ℕ) (ks : List (List ℕ × Tree)) (m : List ℕ) (u : Tree) → GoodKeys n ks → has_key m ks ≡ false → Stands dia u → GoodKeys n (ks ++ (m, u) ∷ [])
  keys_more n ks m u g h s = record { formula = g.formula; table = g.table; stand = keys_stand_push ks [] m u g.stand h s }

  -- b before the lookup, l its beginning, k the keys, a a name with its sign, t the value, c what comes
  key_bracket : (b l k a t : List Lexeme) (c : Lexeme) → ((b ++ (l ++ (k ++ a))) ++ t) ++ c ∷ [] ≡ b ++ (l ++ ((k ++ (a ++ t)) ++ c ∷ []))
  key_bracket b l k a t c = simp append_assoc

  key_comma_bracket : (b l k a t : List Lexeme) (c : Lexeme) → ((b ++ (l ++ (k ++ a))) ++ t) ++ c ∷ [] ≡ b ++ (l ++ (k ++ (a ++ (t ++ c ∷ []))))
  key_comma_bracket b l k a t c = simp append_assoc

  -- what stands where the innermost frame is f
  abbrev Before : List Lexeme → List Frame → Tree → Type 0
  Before done gs u = (done ≡ before gs ++ lexemes_of u) × Good gs × Fits (room gs) u

  close_sound : (gs : List Frame) (u : Tree) (done : List Lexeme) (s : State) → Before done gs u → close_step gs u ≡ Some s → Holds (done ++ Mark sign.Close ∷ []) s
  close_sound [] u done s h e = none_is s e
  close_sound (Parentheses ∷ fs) u done s h e =
      after_sound _ fs (parentheses u) s (ap (λ x. x ++ Mark sign.Close ∷ []) h.0 ∙ bracket (before fs) (Mark sign.Open ∷ []) [] (lexemes_of u) (Mark sign.Close)) h.1.1 h.2.stands (omega arith) e
  close_sound (Arguments n ts ∷ fs) u done s h e =
      after_sound _ fs (call n (from_list (ts ++ u ∷ []))) s
      (ap (λ x. x ++ Mark sign.Close ∷ []) h.0 ∙ bracket (before fs) (Name n ∷ (Mark sign.Open ∷ [])) (begun ts) (lexemes_of u) (Mark sign.Close)
      ∙ ap (λ x. before fs ++ (Name n ∷ (Mark sign.Open ∷ (x ++ Mark sign.Close ∷ [])))) (sym (items_push ts u)))
      h.1.1 (h.1.0.1, all_push ts u h.1.0.0 h.2.stands, h.1.0.2) (omega arith) e
  close_sound (Key k n ks m ∷ fs) u done s h e =
      let g : GoodKeys n (ks ++ (m, u) ∷ []) = keys_more n ks m u h.1.0.0 h.1.0.1 h.2.stands in
      after_sound _ fs (lookup k n (keys_from (ks ++ (m, u) ∷ []))) s
      (ap (λ x. x ++ Mark sign.Close ∷ []) h.0 ∙ key_bracket (before fs) (lookup_lexemes k n) (begun_keys ks) (Name m ∷ (Mark sign.Assign ∷ [])) (lexemes_of u) (Mark sign.Close)
      ∙ ap (λ (x : List Lexeme). before fs ++ (lookup_lexemes k n ++ (x ++ Mark sign.Close ∷ []))) (sym (keys_push ks m u)))
      h.1.1 (g.formula, g.stand, g.table) (omega arith) e
  close_sound (Left a o ∷ fs) u done s h e = none_is s e
  close_sound (Prefix o ∷ fs) u done s h e = none_is s e
  close_sound (Condition a ∷ fs) u done s h e = none_is s e
  close_sound (Otherwise a c ∷ fs) u done s h e = none_is s e
  close_sound (Items ts ∷ fs) u done s h e = none_is s e

  close_list_sound : (gs : List Frame) (u : Tree) (done : List Lexeme) (s : State) → Before done gs u → close_list_step gs u ≡ Some s → Holds (done ++ Mark sign.CloseList ∷ []) s
  close_list_sound [] u done s h e = none_is s e
  close_list_sound (Items ts ∷ fs) u done s h e =
      after_sound _ fs (list (from_list (ts ++ u ∷ []))) s
      (ap (λ x. x ++ Mark sign.CloseList ∷ []) h.0 ∙ bracket (before fs) (Mark sign.OpenList ∷ []) (begun ts) (lexemes_of u) (Mark sign.CloseList)
      ∙ ap (λ x. before fs ++ (Mark sign.OpenList ∷ (x ++ Mark sign.CloseList ∷ []))) (sym (items_push ts u)))
      h.1.1 (all_push ts u h.1.0 h.2.stands) (omega arith) e
  close_list_sound (Left a o ∷ fs) u done s h e = none_is s e
  close_list_sound (Prefix o ∷ fs) u done s h e = none_is s e
  close_list_sound (Condition a ∷ fs) u done s h e = none_is s e
  close_list_sound (Otherwise a c ∷ fs) u done s h e = none_is s e
  close_list_sound (Parentheses ∷ fs) u done s h e = none_is s e
  close_list_sound (Arguments n ts ∷ fs) u done s h e = none_is s e
  close_list_sound (Key k n ks m ∷ fs) u done s h e = none_is s e

  comma_sound : (gs : List Frame) (u : Tree) (done : List Lexeme) (s : State) → Before done gs u → comma_step gs u ≡ Some s → Holds (done ++ Mark sign.Comma ∷ []) s
  comma_sound [] u done s h e = none_is s e
  comma_sound (Items ts ∷ fs) u done s h e =
      some_sound _ (Items (ts ++ u ∷ []) ∷ fs, Operand) s e (record {
        tokens = ap (λ x. x ++ Mark sign.Comma ∷ []) h.0 ∙ comma_bracket (before fs) (Mark sign.OpenList ∷ []) (begun ts) (lexemes_of u) (Mark sign.Comma)
            ∙ ap (λ x. before fs ++ (Mark sign.OpenList ∷ x)) (sym (begun_push ts u));
        frames = (all_push ts u h.1.0 h.2.stands, h.1.1);
        mode = tt;
      })
  comma_sound (Arguments n ts ∷ fs) u done s h e =
      some_sound _ (Arguments n (ts ++ u ∷ []) ∷ fs, Operand) s e (record {
        tokens = ap (λ x. x ++ Mark sign.Comma ∷ []) h.0 ∙ comma_bracket (before fs) (Name n ∷ (Mark sign.Open ∷ [])) (begun ts) (lexemes_of u) (Mark sign.Comma)
            ∙ ap (λ x. before fs ++ (Name n ∷ (Mark sign.Open ∷ x))) (sym (begun_push ts u));
        frames = ((all_push ts u h.1.0.0 h.2.stands, h.1.0.1, h.1.0.2), h.1.1);
        mode = tt;
      })
  comma_sound (Key k n ks m ∷ fs) u done s h e =
      some_sound _ (fs, NextKey k n (ks ++ (m, u) ∷ [])) s e (record {
        tokens = ap (λ x. x ++ Mark sign.Comma ∷ []) h.0 ∙ key_comma_bracket (before fs) (lookup_lexemes k n) (begun_keys ks) (Name m ∷ (Mark sign.Assign ∷ [])) (lexemes_of u) (Mark sign.Comma)
            ∙ ap (λ (x : List Lexeme). before fs ++ (lookup_lexemes k n ++ x)) (sym (begun_keys_push ks m u));
        frames = h.1.1;
        mode = keys_more n ks m u h.1.0.0 h.1.0.1 h.2.stands;
      })
  comma_sound (Left a o ∷ fs) u done s h e = none_is s e
  comma_sound (Prefix o ∷ fs) u done s h e = none_is s e
  comma_sound (Condition a ∷ fs) u done s h e = none_is s e
  comma_sound (Otherwise a c ∷ fs) u done s h e = none_is s e
  comma_sound (Parentheses ∷ fs) u done s h e = none_is s e

  else_sound : (gs : List Frame) (u : Tree) (done : List Lexeme) (s : State) → Before done gs u → else_step gs u ≡ Some s → Holds (done ++ Word word.Else ∷ []) s
  else_sound [] u done s h e = none_is s e
  else_sound (Condition a ∷ fs) u done s h e =
      let c = cond_some _ _ _ e in
      let hold : Holds (done ++ Word word.Else ∷ []) (Otherwise a u ∷ fs, Operand) = record {
        tokens = ap (λ x. x ++ Word word.Else ∷ []) h.0 ∙ simp append_assoc;
        frames = ((h.1.0.0, record { stands = h.2.stands; low = h.2.low; level = leb-true _ _ c.0 }, h.1.0.1, h.1.0.2), h.1.1);
        mode = tt;
      } in
      subst (λ x. Holds (done ++ Word word.Else ∷ []) x) c.1 hold
  else_sound (Left a o ∷ fs) u done s h e = none_is s e
  else_sound (Prefix o ∷ fs) u done s h e = none_is s e
  else_sound (Otherwise a c ∷ fs) u done s h e = none_is s e
  else_sound (Parentheses ∷ fs) u done s h e = none_is s e
  else_sound (Items ts ∷ fs) u done s h e = none_is s e
  else_sound (Arguments n ts ∷ fs) u done s h e = none_is s e
  else_sound (Key k n ks m ∷ fs) u done s h e = none_is s e

  -- what a sign does once the frames above its place are closed
  reduced_sound : (n : ℕ) (k : Lexeme) (act : List Frame × Tree → Option State)
      → ((gs : List Frame) (u : Tree) (done : List Lexeme) (s : State) → Before done gs u → act (gs, u) ≡ Some s → Holds (done ++ k ∷ []) s)
      → (done : List Lexeme) (fs : List Frame) (t : Tree) (s : State) → done ≡ before fs ++ lexemes_of t → Good fs → Fits 8 t → (reduce n fs t >>= act) ≡ Some s → Holds (done ++ k ∷ []) s
  reduced_sound n k act law done fs t s d g h e =
      let b = bind_some (reduce n fs t) act s e in
      let r : Reduced fs t b.0 = reduce_sound n fs t b.0 g (high fs t h) b.1 in
      law b.0.0 b.0.1 done s (d ∙ r.same, r.good, r.fits) b.2

  if_sound : OnlyFormula dia → (gs : List Frame) (u : Tree) (done : List Lexeme) (s : State) → Before done gs u → open_condition (gs, u) ≡ Some s → Holds (done ++ Word word.If ∷ []) s
  if_sound o gs u done s h e =
      let c = cond_some _ _ _ e in
      let p = and_both _ _ c.0 in
      let hold : Holds (done ++ Word word.If ∷ []) (Condition u ∷ gs, Operand) = record {
        tokens = ap (λ x. x ++ Word word.If ∷ []) h.0 ∙ append_assoc (before gs) (lexemes_of u) (Word word.If ∷ []);
        frames = ((record { stands = h.2.stands; low = h.2.low; level = leb-true _ _ p.1 }, leb-true _ _ p.0, o), h.1);
        mode = tt;
      } in
      subst (λ x. Holds (done ++ Word word.If ∷ []) x) c.1 hold

  if_by : (k : Dialect) → k ≡ dia → (done : List Lexeme) (fs : List Frame) (t : Tree) (s : State) → done ≡ before fs ++ lexemes_of t → Good fs → Fits 8 t → if_step k fs t ≡ Some s → Holds (done ++ Word word.If ∷ []) s
  if_by dialect.Formula k done fs t s d g h e = reduced_sound 1 (Word word.If) open_condition (if_sound (formula_is dialect.Formula k tt)) done fs t s d g h e
  if_by dialect.Rule k done fs t s d g h e = none_is s e

  point_sound : (k : Dialect) → k ≡ dia → (t : Tree) (done : List Lexeme) (fs : List Frame) (s : State) → done ≡ before fs ++ lexemes_of t → Good fs → Fits 8 t → point_step k fs t ≡ Some s → Holds (done ++ Mark sign.Point ∷ []) s
  point_sound dialect.Formula k t done fs s d g h e = some_sound _ (fs, AfterDot t) s e (record { tokens = ap (λ x. x ++ Mark sign.Point ∷ []) d; frames = g; mode = (h, formula_is dialect.Formula k tt) })
  point_sound dialect.Rule k (atom (rule.User n)) done fs s d g h e = some_sound _ (fs, UserPoint n) s e (record { tokens = ap (λ x. x ++ Mark sign.Point ∷ []) d; frames = g; mode = rule_is dialect.Rule k tt })
  point_sound dialect.Rule k _ done fs s d g h e = none_is s e

  -- a token after a tree
  word_after_sound : (k : Keyword) (done : List Lexeme) (fs : List Frame) (t : Tree) (s : State) → done ≡ before fs ++ lexemes_of t → Good fs → Fits 8 t → word_after dia k fs t ≡ Some s
      → Holds (done ++ Word k ∷ []) s
  word_after_sound word.Or done fs t s d g h e = (infix_sound op.Or done fs t s d g h e).0
  word_after_sound word.And done fs t s d g h e = (infix_sound op.And done fs t s d g h e).0
  word_after_sound word.In done fs t s d g h e = (infix_sound op.In done fs t s d g h e).0
  word_after_sound word.Not done fs t s d g h e = some_sound _ (fs, AfterNot t) s e (record { tokens = ap (λ x. x ++ Word word.Not ∷ []) d; frames = g; mode = h })
  word_after_sound word.Is done fs t s d g h e = some_sound _ (fs, AfterIs t) s e (record { tokens = ap (λ x. x ++ Word word.Is ∷ []) d; frames = g; mode = h })
  word_after_sound word.If done fs t s d g h e = if_by dia refl done fs t s d g h e
  word_after_sound word.Else done fs t s d g h e = reduced_sound 0 (Word word.Else) (λ r. else_step r.0 r.1) else_sound done fs t s d g h e
  word_after_sound _ done fs t s d g h e = none_is s e

  sign_after_sound : (k : Sign) (done : List Lexeme) (fs : List Frame) (t : Tree) (s : State) → done ≡ before fs ++ lexemes_of t → Good fs → Fits 8 t → sign_after dia k fs t ≡ Some s
      → Holds (done ++ Mark k ∷ []) s
  sign_after_sound sign.Equal done fs t s d g h e = (infix_sound op.Equal done fs t s d g h e).0
  sign_after_sound sign.NotEqual done fs t s d g h e = (infix_sound op.NotEqual done fs t s d g h e).0
  sign_after_sound sign.Less done fs t s d g h e = (infix_sound op.Less done fs t s d g h e).0
  sign_after_sound sign.AtMost done fs t s d g h e = (infix_sound op.AtMost done fs t s d g h e).0
  sign_after_sound sign.More done fs t s d g h e = (infix_sound op.More done fs t s d g h e).0
  sign_after_sound sign.AtLeast done fs t s d g h e = (infix_sound op.AtLeast done fs t s d g h e).0
  sign_after_sound sign.Plus done fs t s d g h e = (infix_sound op.Add done fs t s d g h e).0
  sign_after_sound sign.Minus done fs t s d g h e = (infix_sound op.Subtract done fs t s d g h e).0
  sign_after_sound sign.Star done fs t s d g h e = (infix_sound op.Multiply done fs t s d g h e).0
  sign_after_sound sign.DoubleSlash done fs t s d g h e = (infix_sound op.Divide done fs t s d g h e).0
  sign_after_sound sign.Percent done fs t s d g h e = (infix_sound op.Remainder done fs t s d g h e).0
  sign_after_sound sign.Point done fs t s d g h e = point_sound dia refl t done fs s d g h e
  sign_after_sound sign.Close done fs t s d g h e = reduced_sound 0 (Mark sign.Close) (λ r. close_step r.0 r.1) close_sound done fs t s d g h e
  sign_after_sound sign.CloseList done fs t s d g h e = reduced_sound 0 (Mark sign.CloseList) (λ r. close_list_step r.0 r.1) close_list_sound done fs t s d g h e
  sign_after_sound sign.Comma done fs t s d g h e = reduced_sound 0 (Mark sign.Comma) (λ r. comma_step r.0 r.1) comma_sound done fs t s d g h e
  sign_after_sound _ done fs t s d g h e = none_is s e

  empty_sound : (fs : List Frame) (done : List Lexeme) (s : State) → done ≡ before fs → Good fs → close_empty fs ≡ Some s → Holds (done ++ Mark sign.Close ∷ []) s
  empty_sound (Arguments n [] ∷ fs) done s d g e =
      after_sound _ fs (call n no_trees) s (ap (λ x. x ++ Mark sign.Close ∷ []) d ∙ append_assoc (before fs) (Name n ∷ (Mark sign.Open ∷ [])) (Mark sign.Close ∷ [])) g.1 (g.0.1, tt, g.0.2) (omega arith) e
  empty_sound _ done s d g e = none_is s e

  empty_list_sound : (fs : List Frame) (done : List Lexeme) (s : State) → done ≡ before fs → Good fs → close_empty_list fs ≡ Some s → Holds (done ++ Mark sign.CloseList ∷ []) s
  empty_list_sound (Items [] ∷ fs) done s d g e =
      after_sound _ fs (list no_trees) s (ap (λ x. x ++ Mark sign.CloseList ∷ []) d ∙ append_assoc (before fs) (Mark sign.OpenList ∷ []) (Mark sign.CloseList ∷ [])) g.1 tt (omega arith) e
  empty_list_sound _ done s d g e = none_is s e

  first_sound : (k : Lexeme) (done : List Lexeme) (fs : List Frame) (s : State) → done ≡ before fs → Good fs → first_step dia k fs ≡ Some s → Holds (done ++ k ∷ []) s
  first_sound (Mark sign.Close) done fs s d g e = empty_sound fs done s d g e
  first_sound (Mark sign.CloseList) done fs s d g e = empty_list_sound fs done s d g e
  first_sound k done fs s d g e = operand_sound k done fs s d g e

  after_step_sound : (k : Lexeme) (done : List Lexeme) (fs : List Frame) (t : Tree) (s : State) → done ≡ before fs ++ lexemes_of t → Good fs → Fits 8 t → after_step dia k fs t ≡ Some s → Holds (done ++ k ∷ []) s
  after_step_sound (Word k) done fs t s d g h e = word_after_sound k done fs t s d g h e
  after_step_sound (Mark k) done fs t s d g h e = sign_after_sound k done fs t s d g h e
  after_step_sound (Number n) done fs t s d g h e = none_is s e
  after_step_sound (Text n) done fs t s d g h e = none_is s e
  after_step_sound (Name n) done fs t s d g h e = none_is s e
  after_step_sound (Dollar n) done fs t s d g h e = none_is s e

  not_sound : (k : Lexeme) (done : List Lexeme) (fs : List Frame) (t : Tree) (s : State) → done ≡ before fs ++ lexemes_of t → Good fs → Fits 8 t → not_step dia k fs t ≡ Some s
      → Holds ((done ++ Word word.Not ∷ []) ++ k ∷ []) s
  not_sound (Word word.In) done fs t s d g h e = subst (λ x. Holds x s) (sym (append_assoc done (Word word.Not ∷ []) (Word word.In ∷ []))) (infix_sound op.NotIn done fs t s d g h e).0
  not_sound _ done fs t s d g h e = none_is s e

  is_other : (k : Lexeme) (done : List Lexeme) (fs : List Frame) (t : Tree) (s : State) → done ≡ before fs ++ lexemes_of t → Good fs → Fits 8 t → (infix_step dia op.Is fs t >>= λ r. operand_step dia k r.0) ≡ Some s
      → Holds ((done ++ Word word.Is ∷ []) ++ k ∷ []) s
  is_other k done fs t s d g h e =
      let b = bind_some (infix_step dia op.Is fs t) (λ r. operand_step dia k r.0) s e in
      let i = infix_sound op.Is done fs t b.0 d g h b.1 in
      operand_sound k (done ++ Word word.Is ∷ []) b.0.0 s (i.0.tokens ∙ ap (λ m. shown b.0.0 m) i.1) i.0.frames b.2

  is_sound : (k : Lexeme) (done : List Lexeme) (fs : List Frame) (t : Tree) (s : State) → done ≡ before fs ++ lexemes_of t → Good fs → Fits 8 t → is_step dia k fs t ≡ Some s
      → Holds ((done ++ Word word.Is ∷ []) ++ k ∷ []) s
  is_sound (Word word.Not) done fs t s d g h e = subst (λ x. Holds x s) (sym (append_assoc done (Word word.Is ∷ []) (Word word.Not ∷ []))) (infix_sound op.IsNot done fs t s d g h e).0
  is_sound k done fs t s d g h e = is_other k done fs t s d g h e

  dot_sound : OnlyFormula dia → (k : Lexeme) (done : List Lexeme) (fs : List Frame) (t : Tree) (s : State) → done ≡ before fs ++ lexemes_of t → Good fs → Fits 8 t → dot_step k fs t ≡ Some s
      → Holds ((done ++ Mark sign.Point ∷ []) ++ k ∷ []) s
  dot_sound o (Name n) done fs t s d g h e =
      after_sound _ fs (attribute t n) s (ap (λ x. (x ++ Mark sign.Point ∷ []) ++ Name n ∷ []) d ∙ simp append_assoc) g (o, h.level, h.stands) (omega arith) e
  dot_sound o _ done fs t s d g h e = none_is s e

  name_sound : OnlyFormula dia → (n : List ℕ) → is_id n ≡ false → (k : Lexeme) (done : List Lexeme) (fs : List Frame) (s : State) → done ≡ before fs → Good fs → name_step k fs n ≡ Some s → Holds ((done ++ Name n ∷ []) ++ k ∷ []) s
  name_sound o n i (Mark sign.Open) done fs s d g e =
      some_sound _ (Arguments n [] ∷ fs, FirstItem) s e (record { tokens = ap (λ x. (x ++ Name n ∷ []) ++ Mark sign.Open ∷ []) d ∙ append_assoc (before fs) (Name n ∷ []) (Mark sign.Open ∷ []); frames = ((tt, o, i), g); mode = tt })
  name_sound o n i (Mark sign.Point) done fs s d g e =
      some_sound _ (fs, AfterPoint n) s e (record { tokens = ap (λ x. (x ++ Name n ∷ []) ++ Mark sign.Point ∷ []) d; frames = g; mode = (o, i) })
  name_sound o n i _ done fs s d g e = none_is s e

  -- the lexemes of a table's name and a point
  abbrev pointed : List Lexeme → List ℕ → List Lexeme
  pointed done n = (done ++ Name n ∷ []) ++ Mark sign.Point ∷ []

  table_sound : OnlyFormula dia → (n : List ℕ) → is_id n ≡ false → (m : List ℕ) (done : List Lexeme) (fs : List Frame) (s : State) → done ≡ before fs → Good fs
      → (a b c : Bool) → bytes_eq m all_word ≡ a → bytes_eq m (lookup_word look.Records) ≡ b → bytes_eq m (lookup_word look.One) ≡ c
      → cond a (after fs (every n)) (cond b (Some (fs, AfterLookup look.Records n)) (cond c (Some (fs, AfterLookup look.One n)) None)) ≡ Some s
      → Holds (pointed done n ++ Name m ∷ []) s
  table_sound o n i m done fs s d g true b c x y z e =
      after_sound _ fs (every n) s
      (ap (λ (v : List ℕ). pointed done n ++ Name v ∷ []) ((bytes_decides m all_word).0 x) ∙ ap (λ v. pointed v n ++ Name all_word ∷ []) d ∙ simp append_assoc) g (o, i) (omega arith) e
  table_sound o n i m done fs s d g false true c x y z e =
      some_sound _ (fs, AfterLookup look.Records n) s e (record {
        tokens = ap (λ (v : List ℕ). pointed done n ++ Name v ∷ []) ((bytes_decides m (lookup_word look.Records)).0 y) ∙ ap (λ v. pointed v n ++ Name (lookup_word look.Records) ∷ []) d;
        frames = g;
        mode = (o, i);
      })
  table_sound o n i m done fs s d g false false true x y z e =
      some_sound _ (fs, AfterLookup look.One n) s e (record {
        tokens = ap (λ (v : List ℕ). pointed done n ++ Name v ∷ []) ((bytes_decides m (lookup_word look.One)).0 z) ∙ ap (λ v. pointed v n ++ Name (lookup_word look.One) ∷ []) d;
        frames = g;
        mode = (o, i);
      })
  table_sound o n i m done fs s d g false false false x y z e = none_is s e

  name_point_sound : OnlyFormula dia → (n : List ℕ) → is_id n ≡ false → (k : Lexeme) (done : List Lexeme) (fs : List Frame) (s : State) → done ≡ before fs → Good fs → name_point_step k fs n ≡ Some s → Holds (pointed done n ++ k ∷ []) s
  name_point_sound o n i (Name m) done fs s d g e = table_sound o n i m done fs s d g (bytes_eq m all_word) (bytes_eq m (lookup_word look.Records)) (bytes_eq m (lookup_word look.One)) refl refl refl e
  name_point_sound o n i _ done fs s d g e = none_is s e

  lookup_sound : OnlyFormula dia → (l : LookupKind) (n : List ℕ) → is_id n ≡ false → (k : Lexeme) (done : List Lexeme) (fs : List Frame) (s : State) → done ≡ before fs → Good fs → lookup_step k fs l n ≡ Some s
      → Holds ((pointed done n ++ Name (lookup_word l) ∷ []) ++ k ∷ []) s
  lookup_sound o l n i (Mark sign.Open) done fs s d g e =
      some_sound _ (fs, FirstKey l n) s e (record { tokens = ap (λ x. (pointed x n ++ Name (lookup_word l) ∷ []) ++ Mark sign.Open ∷ []) d ∙ simp append_assoc; frames = g; mode = (o, i) })
  lookup_sound o l n i _ done fs s d g e = none_is s e

  no_key : (n : List ℕ) → OnlyFormula dia → is_id n ≡ false → GoodKeys n []
  no_key n o i = record { formula = o; table = i; stand = tt }

  first_key_sound : OnlyFormula dia → (l : LookupKind) (n : List ℕ) → is_id n ≡ false → (k : Lexeme) (done : List Lexeme) (fs : List Frame) (s : State) → done ≡ before fs → Good fs → first_key_step k fs l n ≡ Some s
      → Holds ((done ++ lookup_lexemes l n) ++ k ∷ []) s
  first_key_sound o l n i (Mark sign.Close) done fs s d g e =
      after_sound _ fs (lookup l n no_keys) s (ap (λ x. (x ++ lookup_lexemes l n) ++ Mark sign.Close ∷ []) d ∙ append_assoc (before fs) (lookup_lexemes l n) (Mark sign.Close ∷ [])) g (o, tt, i) (omega arith) e
  first_key_sound o l n i (Name m) done fs s d g e =
      some_sound _ (fs, AfterKey l n [] m) s e (record { tokens = ap (λ x. (x ++ lookup_lexemes l n) ++ Name m ∷ []) d; frames = g; mode = (no_key n o i, refl) })
  first_key_sound o l n i _ done fs s d g e = none_is s e

  next_key_sound : (l : LookupKind) (n : List ℕ) (ks : List (List ℕ × Tree)) → GoodKeys n ks → (k : Lexeme) (done : List Lexeme) (fs : List Frame) (s : State) → done ≡ before fs → Good fs → next_key_step k fs l n ks ≡ Some s
      → Holds ((done ++ (lookup_lexemes l n ++ begun_keys ks)) ++ k ∷ []) s
  next_key_sound l n ks h (Name m) done fs s d g e =
      let c = cond_none (has_key m ks) (let x : State = (fs, AfterKey l n ks m) in x) s e in
      let hold : Holds ((done ++ (lookup_lexemes l n ++ begun_keys ks)) ++ Name m ∷ []) (fs, AfterKey l n ks m) = record {
        tokens = ap (λ (x : List Lexeme). (x ++ (lookup_lexemes l n ++ begun_keys ks)) ++ Name m ∷ []) d;
        frames = g;
        mode = (h, c.0);
      } in
      subst (λ x. Holds ((done ++ (lookup_lexemes l n ++ begun_keys ks)) ++ Name m ∷ []) x) c.1 hold
  next_key_sound l n ks h _ done fs s d g e = none_is s e

  key_sound : (l : LookupKind) (n : List ℕ) (ks : List (List ℕ × Tree)) (m : List ℕ) → GoodKeys n ks → has_key m ks ≡ false → (k : Lexeme) (done : List Lexeme) (fs : List Frame) (s : State) → done ≡ before fs → Good fs → key_step k fs l n ks m ≡ Some s
      → Holds (((done ++ (lookup_lexemes l n ++ begun_keys ks)) ++ Name m ∷ []) ++ k ∷ []) s
  key_sound l n ks m h i (Mark sign.Assign) done fs s d g e =
      some_sound _ (Key l n ks m ∷ fs, Operand) s e (record {
        tokens = ap (λ (x : List Lexeme). ((x ++ (lookup_lexemes l n ++ begun_keys ks)) ++ Name m ∷ []) ++ Mark sign.Assign ∷ []) d ∙ key_open (before fs) (lookup_lexemes l n) (begun_keys ks) (Name m) (Mark sign.Assign);
        frames = ((h, i), g);
        mode = tt;
      })
    where
      key_open : (b p q : List Lexeme) (x y : Lexeme) → ((b ++ (p ++ q)) ++ x ∷ []) ++ y ∷ [] ≡ b ++ (p ++ (q ++ (x ∷ (y ∷ []))))
      key_open b p q x y = simp append_assoc
  key_sound l n ks m h i _ done fs s d g e = none_is s e

  subject_sound : OnlyRule dia → (y : Subject) (k : Lexeme) (done : List Lexeme) (fs : List Frame) (s : State) → done ≡ before fs → Good fs → subject_step k fs y ≡ Some s → Holds ((done ++ subject_lexeme y ∷ []) ++ k ∷ []) s
  subject_sound o y (Mark sign.Point) done fs s d g e =
      some_sound _ (fs, SubjectPoint y) s e (record { tokens = ap (λ x. (x ++ subject_lexeme y ∷ []) ++ Mark sign.Point ∷ []) d; frames = g; mode = o })
  subject_sound o y _ done fs s d g e = none_is s e

  asked_written : (b : List Lexeme) (y : Subject) (n : List ℕ) → ((b ++ subject_lexeme y ∷ []) ++ Mark sign.Point ∷ []) ++ Name n ∷ [] ≡ b ++ lexemes_of (atom (asked y n))
  asked_written b subject.User n = simp append_assoc
  asked_written b subject.Rec n = simp append_assoc
  asked_written b subject.NewRec n = simp append_assoc

  subject_point_sound : OnlyRule dia → (y : Subject) (k : Lexeme) (done : List Lexeme) (fs : List Frame) (s : State) → done ≡ before fs → Good fs → subject_point_step k fs y ≡ Some s
      → Holds (((done ++ subject_lexeme y ∷ []) ++ Mark sign.Point ∷ []) ++ k ∷ []) s
  subject_point_sound o y (Name n) done fs s d g e =
      after_sound _ fs (atom (asked y n)) s (ap (λ x. ((x ++ subject_lexeme y ∷ []) ++ Mark sign.Point ∷ []) ++ Name n ∷ []) d ∙ asked_written (before fs) y n) g o (omega arith) e
  subject_point_sound o y _ done fs s d g e = none_is s e

  user_point_sound : OnlyRule dia → (n : List ℕ) (k : Lexeme) (done : List Lexeme) (fs : List Frame) (s : State) → done ≡ before fs ++ lexemes_of (atom (rule.User n)) → Good fs → user_point_step k fs n ≡ Some s
      → Holds ((done ++ Mark sign.Point ∷ []) ++ k ∷ []) s
  user_point_sound o n (Name m) done fs s d g e =
      after_sound _ fs (atom (rule.UserAttribute n m)) s (ap (λ x. (x ++ Mark sign.Point ∷ []) ++ Name m ∷ []) d ∙ simp append_assoc) g o (omega arith) e
  user_point_sound o n _ done fs s d g e = none_is s e

  step_sound : (k : Lexeme) (fs : List Frame) (m : Mode) (s : State) → Good fs → GoodMode m → step dia k fs m ≡ Some s → Holds (shown fs m ++ k ∷ []) s
  unfolding step
  step_sound k fs Operand s g h e = operand_sound k (before fs) fs s refl g e
  step_sound k fs FirstItem s g h e = first_sound k (before fs) fs s refl g e
  step_sound k fs (Operator t) s g h e = after_step_sound k (before fs ++ lexemes_of t) fs t s refl g h e
  step_sound k fs (AfterNot t) s g h e = not_sound k (before fs ++ lexemes_of t) fs t s refl g h e
  step_sound k fs (AfterIs t) s g h e = is_sound k (before fs ++ lexemes_of t) fs t s refl g h e
  step_sound k fs (AfterDot t) s g h e = dot_sound h.1 k (before fs ++ lexemes_of t) fs t s refl g h.0 e
  step_sound k fs (AfterName n) s g h e = name_sound h.0 n h.1 k (before fs) fs s refl g e
  step_sound k fs (AfterPoint n) s g h e = name_point_sound h.0 n h.1 k (before fs) fs s refl g e
  step_sound k fs (AfterLookup l n) s g h e = lookup_sound h.0 l n h.1 k (before fs) fs s refl g e
  step_sound k fs (FirstKey l n) s g h e = first_key_sound h.0 l n h.1 k (before fs) fs s refl g e
  step_sound k fs (NextKey l n ks) s g h e = next_key_sound l n ks h k (before fs) fs s refl g e
  step_sound k fs (AfterKey l n ks m) s g h e = key_sound l n ks m h.0 h.1 k (before fs) fs s refl g e
  step_sound k fs (AfterSubject y) s g h e = subject_sound h y k (before fs) fs s refl g e
  step_sound k fs (SubjectPoint y) s g h e = subject_point_sound h y k (before fs) fs s refl g e
  step_sound k fs (UserPoint n) s g h e = user_point_sound h n k (before fs ++ lexemes_of (atom (rule.User n))) fs s refl g e

  -- the end
  record Ends (ks : List Lexeme) (t : Tree) : Type 0 where
    all : ks ≡ lexemes_of t
    fits : Fits 0 t

  whole_sound : (r : List Frame × Tree) (done : List Lexeme) (t : Tree) → done ≡ before r.0 ++ lexemes_of r.1 → Fits (room r.0) r.1 → whole r ≡ Some t → Ends done t
  whole_sound ([], u) done t d h e = subst (λ x. Ends done x) (same_Some _ _ e) (record { all = d; fits = h })
  whole_sound (f ∷ fs, u) done t d h e = none_is t e

  finish_sound : (fs : List Frame) (m : Mode) (t : Tree) → Good fs → GoodMode m → finish fs m ≡ Some t → Ends (shown fs m) t
  unfolding finish
  finish_sound fs (Operator u) t g h e =
      let b = bind_some (reduce 0 fs u) whole t e in
      let r : Reduced fs u b.0 = reduce_sound 0 fs u b.0 g (high fs u h) b.1 in
      whole_sound b.0 _ t r.same r.fits b.2
  finish_sound fs _ t g h e = none_is t e

  run_sound : (ks : List Lexeme) (fs : List Frame) (m : Mode) (t : Tree) → Good fs → GoodMode m → run dia ks fs m ≡ Some t → Ends (shown fs m ++ ks) t
  unfolding run
  run_sound [] fs m t g h e = subst (λ x. Ends x t) (sym (append-nil (shown fs m))) (finish_sound fs m t g h e)
  run_sound (k ∷ ks) fs m t g h e =
      let b = bind_some (step dia k fs m) (λ s. run dia ks s.0 s.1) t e in
      let r : Holds (shown fs m ++ k ∷ []) b.0 = step_sound k fs m b.0 g h b.1 in
      subst (λ x. Ends x t) (ap (λ x. x ++ ks) (sym r.tokens) ∙ append_assoc (shown fs m) (k ∷ []) ks) (run_sound ks b.0.0 b.0.1 t r.frames r.mode b.2)

  -- what is read is written as the tree
  pub read_written : (t : Tree) (ks : List Lexeme) → run dia ks [] Operand ≡ Some t → IsWritten dia t ks
  read_written t ks e =
      let r : Ends ks t = run_sound ks [] Operand t tt tt e in
      record { written = r.all; stands = r.fits.stands; low = r.fits.low }
