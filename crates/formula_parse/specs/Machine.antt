-- The parser as a machine: what is open, innermost first, and what operators and closers make of
-- it.
use Rattle.std.specs.Prelude.{ℕ, ◌+◌, Bool, true, false, ◌&&◌, nat_le, cond, List, [], ◌∷◌, ◌++◌, Option, Some, None}
use Rattle.formula_parse.specs.declared.operator.BinaryOp.{BinaryOp}
use Rattle.formula_parse.specs.declared.operator.PrefixOp.{PrefixOp}
use Rattle.formula_parse.specs.declared.operator.Dialect.{Dialect}
use Rattle.formula_parse.specs.declared.frame.Frame.{Frame}
use Rattle.formula_parse.specs.declared.frame.Frame.TheVariants.{Left, Prefix, Condition, Otherwise, Parentheses, Items, Arguments, Key}
use Rattle.formula_parse.specs.declared.frame.Mode.{Mode}
use Rattle.formula_parse.specs.declared.frame.Mode.TheVariants.{Operand, Operator, NextKey}
use Rattle.formula_parse.specs.Levels.{group_level, group_left, group_right}
use Rattle.formula_parse.specs.Grammar.{group_of, prefix_level}
use Rattle.formula_parse.specs.Standing.{has_op, level_of, max_height}
use Rattle.formula_parse.specs.Tree.{Tree, binary, prefix, conditional, parentheses, list, call, lookup, from_list, keys_from, height_of}

-- the next step, where there is one
infixl 10 ◌>>=◌
abbrev pub ◌>>=◌ : {A B : Type 0} → Option A → (A → Option B) → Option B
None >>= f = None
(Some x) >>= f = f x

-- what is open, innermost first, and what may come next
abbrev pub State : Type 0
State = List Frame × Mode

-- a tree that is not too high
unfoldable pub kept : Tree → Option Tree
kept t = cond (nat_le (height_of t) max_height) (Some t) None

-- the least level of a tree that may stand in a frame
abbrev pub room_in : Frame → ℕ
room_in (Left a o) = group_right (group_of o)
room_in (Prefix o) = prefix_level o
room_in (Condition a) = 1
room_in _ = 0

-- the least level of a tree that may stand in the innermost frame
abbrev pub room : List Frame → ℕ
room [] = 0
room (f ∷ fs) = room_in f

-- whether a frame ends with the tree in it
abbrev pub is_last : Frame → Bool
is_last (Left a o) = true
is_last (Prefix o) = true
is_last (Otherwise a c) = true
is_last _ = false

-- the frame with the tree in it, where it ends so
abbrev pub filled : Frame → Tree → Tree
filled (Left a o) t = binary o a t
filled (Prefix o) t = prefix o t
filled (Otherwise a c) t = conditional a c t
filled _ t = t

-- closes each frame that ends with its tree and whose level is from n on
abbrev pub reduce : ℕ → List Frame → Tree → Option (List Frame × Tree)
reduce n [] t = Some ([], t)
reduce n (f ∷ fs) t =
    cond (is_last f && nat_le n (room_in f))
    (kept (filled f t) >>= λ u. reduce n fs u) (Some (f ∷ fs, t))

-- an operand is there
abbrev pub after : List Frame → Tree → Option State
after fs t = kept t >>= λ u. Some (fs, Operator u)

-- the tree behind which an operator may come
abbrev pub formula_of : Mode → Option Tree
formula_of (Operator t) = Some t
formula_of _ = None

-- whether nothing is open
abbrev pub no_frames : List Frame → Bool
no_frames [] = true
no_frames (f ∷ fs) = false

-- a frame is opened, in which an operand is wanted
abbrev pub opened : Frame → List Frame → Option State
opened f fs = Some (f ∷ fs, Operand)

-- an operator comes after the tree
abbrev pub open_left : Dialect → BinaryOp → List Frame × Tree → Option State
open_left d o r =
    cond (has_op d o && (nat_le (room r.0) (group_level (group_of o))
    && nat_le (group_left (group_of o)) (level_of r.1)))
    (Some (Left r.1 o ∷ r.0, Operand)) None

-- the same, once what binds closer is closed
abbrev pub infix_step : Dialect → BinaryOp → List Frame → Tree → Option State
infix_step d o fs t = reduce (group_level (group_of o) + 1) fs t >>= open_left d o

-- `if` comes after the tree
abbrev pub open_condition : List Frame × Tree → Option State
open_condition r =
    cond (nat_le (room r.0) 0 && nat_le 1 (level_of r.1)) (Some (Condition r.1 ∷ r.0, Operand)) None

-- `else` comes after the tree
abbrev pub else_step : List Frame → Tree → Option State
else_step [] t = None
else_step (Condition a ∷ fs) t =
    cond (nat_le 1 (level_of t)) (Some (Otherwise a t ∷ fs, Operand)) None
else_step (_ ∷ fs) t = None

-- `)` comes after the tree
abbrev pub close_step : List Frame → Tree → Option State
close_step (Parentheses ∷ fs) t = after fs (parentheses t)
close_step (Arguments n ts ∷ fs) t = after fs (call n (from_list (ts ++ t ∷ [])))
close_step (Key k n ks m ∷ fs) t = after fs (lookup k n (keys_from (ks ++ (m, t) ∷ [])))
close_step _ t = None

-- `]` comes after the tree
abbrev pub close_list_step : List Frame → Tree → Option State
close_list_step (Items ts ∷ fs) t = after fs (list (from_list (ts ++ t ∷ [])))
close_list_step _ t = None

-- `,` comes after the tree
abbrev pub comma_step : List Frame → Tree → Option State
comma_step (Items ts ∷ fs) t = Some (Items (ts ++ t ∷ []) ∷ fs, Operand)
comma_step (Arguments n ts ∷ fs) t = Some (Arguments n (ts ++ t ∷ []) ∷ fs, Operand)
comma_step (Key k n ks m ∷ fs) t = Some (fs, NextKey k n (ks ++ (m, t) ∷ []))
comma_step _ t = None

-- an operator in front of an operand
abbrev pub prefix_step : PrefixOp → List Frame → Option State
prefix_step o fs = cond (nat_le (room fs) (prefix_level o)) (Some (Prefix o ∷ fs, Operand)) None
