-- The value of a rule's formula, or nothing where it fails: whatever a part that is evaluated
-- raises, and whatever it asks that is not there, fails the whole.
use Rattle.std.specs.Prelude.{pos, Bool, true, false, not, cond, codes, List, [], ◌∷◌, ◌++◌, Option, Some, None, Result, Ok, Err}
use Rattle.cell_types.specs.declared.value.CellItem.{CellItem}
use Rattle.cell_types.specs.declared.value.CellItem.TheVariants as item
use Rattle.cell_types.specs.declared.value.CellValue.{CellValue}
use Rattle.cell_types.specs.declared.value.CellValue.TheVariants as value
use Rattle.cell_types.specs.declared.value.ErrKind.{ErrKind}
use Rattle.formula_parse.specs.declared.operator.BinaryOp.{BinaryOp}
use Rattle.formula_parse.specs.declared.operator.BinaryOp.TheVariants as op
use Rattle.formula_parse.specs.declared.operator.Constant.{Constant}
use Rattle.formula_parse.specs.declared.operator.Constant.TheVariants as con
use Rattle.formula_parse.specs.declared.operator.PrefixOp.{PrefixOp}
use Rattle.formula_parse.specs.declared.operator.PrefixOp.TheVariants as pre
use Rattle.formula_parse.specs.declared.rule.RuleAtom.{RuleAtom}
use Rattle.formula_parse.specs.declared.rule.RuleAtom.TheVariants as rule
use Rattle.formula_parse.specs.Tree.{Tree, number, text, constant, binary, prefix, parentheses, list, atom, Trees, no_trees, one_more}
use Rattle.value_ops.specs.Containment.{contains_of}
use Rattle.value_ops.specs.Equality.{is_equal}
use Rattle.value_ops.specs.Joined.{sum_of}
use Rattle.value_ops.specs.Kind.{is_same}
use Rattle.value_ops.specs.Numbers.{in_64_bits, difference_of, product_of, remainder_of, negation_of}
use Rattle.value_ops.specs.Order.{less_of}
use Rattle.value_ops.specs.Truth.{truth_of}
use Rattle.acl_formula.specs.Asked.{Asked}
use Rattle.acl_formula.specs.RuleFields.{own_field, user_field, field_of}

-- the next part, where this one has a value
infixl 10 ◌>>=◌
abbrev pub ◌>>=◌ : {A B : Type 0} → Option A → (A → Option B) → Option B
None >>= f = None
(Some x) >>= f = f x

-- what an operation gives; each error fails
abbrev pub kept : {A : Type 0} → Result A ErrKind → Option A
kept (Ok v) = Some v
kept (Err e) = None

-- a truth value, where there is one
abbrev pub said : Option Bool → Option CellValue
said None = None
said (Some b) = Some (value.Bool b)

-- the contrary
abbrev pub denied : Option Bool → Option Bool
denied None = None
denied (Some b) = Some (not b)

-- left < right
abbrev pub less : CellValue → CellValue → Option Bool
less v w = kept (less_of v w)

-- left in right
abbrev pub within : CellValue → CellValue → Option Bool
within v w = kept (contains_of v w)

-- an operator on two values; `or` and `and` have no more to do
abbrev pub operated : BinaryOp → CellValue → CellValue → Option CellValue
operated op.Equal v w = Some (value.Bool (is_equal v w))
operated op.NotEqual v w = Some (value.Bool (not (is_equal v w)))
operated op.Less v w = said (less v w)
operated op.AtMost v w = said (denied (less w v))
operated op.More v w = said (less w v)
operated op.AtLeast v w = said (denied (less v w))
operated op.In v w = said (within v w)
operated op.NotIn v w = said (denied (within v w))
operated op.Is v w = Some (value.Bool (is_same v w))
operated op.IsNot v w = Some (value.Bool (not (is_same v w)))
operated op.Add v w = kept (sum_of v w)
operated op.Subtract v w = kept (difference_of v w)
operated op.Multiply v w = kept (product_of v w)
operated op.Remainder v w = kept (remainder_of v w)
operated _ v w = None

-- an operator between two parts: `or` and `and` give one of them, and leave the second out where
-- the first decides
abbrev pub combined : BinaryOp → Option CellValue → Option CellValue → Option CellValue
combined op.Or a b = a >>= λ v. cond (truth_of v) (Some v) b
combined op.And a b = a >>= λ v. cond (truth_of v) b (Some v)
combined o a b = a >>= λ v. b >>= λ w. operated o v w

-- an operator in front of a value
abbrev pub negated : PrefixOp → CellValue → Option CellValue
negated pre.Not v = Some (value.Bool (not (truth_of v)))
negated pre.Negate v = kept (negation_of v)

-- the same in front of a part
abbrev pub turned : PrefixOp → Option CellValue → Option CellValue
turned o a = a >>= λ v. negated o v

-- a word of its own
abbrev pub constant_value : Constant → Option CellValue
constant_value con.True = Some (value.Bool true)
constant_value con.False = Some (value.Bool false)
constant_value con.None = Some value.Null
constant_value con.Rec = None

-- what a rule asks for
abbrev pub atom_value : Asked → RuleAtom → Option CellValue
atom_value x rule.Owner = Some (value.Text (codes "owners"))
atom_value x rule.Editor = Some (value.Text (codes "editors"))
atom_value x rule.Viewer = Some (value.Text (codes "viewers"))
atom_value x (rule.User n) = own_field x.user.user n
atom_value x (rule.UserAttribute n m) = user_field x.user n m
atom_value x (rule.Rec n) = field_of x.before n
atom_value x (rule.NewRec n) = field_of x.after n

-- a value as an item of a list, where it may be one
abbrev pub item_of : CellValue → Option CellItem
item_of value.Null = Some item.Null
item_of (value.Int n) = Some (item.Int n)
item_of (value.Bool b) = Some (item.Bool b)
item_of (value.Text t) = Some (item.Text t)
item_of (value.Date n) = Some (item.Date n)
item_of (value.Rec r) = Some (item.Rec r)
item_of _ = None

-- a part's value as the only item of a list
abbrev pub item_list : Option CellValue → Option (List CellItem)
item_list v = v >>= λ v. item_of v >>= λ i. Some (i ∷ [])

-- one list after the other
abbrev pub followed : Option (List CellItem) → Option (List CellItem) → Option (List CellItem)
followed is js = is >>= λ is. js >>= λ js. Some (is ++ js)

-- a list as a value
abbrev pub as_value : Option (List CellItem) → Option CellValue
as_value is = is >>= λ is. Some (value.List is)

abbrev mutual
  -- the value of a part
  pub value_of : Asked → Tree → Option CellValue
  value_of x (number n) = kept (in_64_bits (pos n))
  value_of x (text t) = Some (value.Text t)
  value_of x (constant c) = constant_value c
  value_of x (binary o a b) = combined o (value_of x a) (value_of x b)
  value_of x (prefix o a) = turned o (value_of x a)
  value_of x (parentheses a) = value_of x a
  value_of x (list ts) = as_value (items_of x ts)
  value_of x (atom a) = atom_value x a
  value_of x _ = None

  -- the values of items
  pub items_of : Asked → Trees → Option (List CellItem)
  items_of x no_trees = Some []
  items_of x (one_more t ts) = followed (item_list (value_of x t)) (items_of x ts)
