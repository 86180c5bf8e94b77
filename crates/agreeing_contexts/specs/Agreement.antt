-- When two contexts agree: one book, and what its rules ask for is the same of both users.
use Rattle.std.specs.Prelude.{◌≡◌, List}
use Rattle.std.specs.List.{AllByRecursion}
use Rattle.acl_formula.specs.RuleFields.{user_field}
use Rattle.acl_formula.specs.declared.user_info.UserInfo.{UserInfo}
use Rattle.acl_rules.specs.declared.decision.Ctx.{Ctx}
use Rattle.agreeing_contexts.specs.Fields.{mentioned_fields}
use Rattle.agreeing_contexts.specs.declared.field.UserField.{UserField}

-- a rule that asks for the field gets the same of both
abbrev pub IsSameIn : UserInfo → UserInfo → UserField → Type 0
IsSameIn u v f = user_field u f.attribute f.name ≡ user_field v f.attribute f.name

-- and so of each of these fields
abbrev pub AreSameIn : List UserField → UserInfo → UserInfo → Type 0
AreSameIn fields u v = AllByRecursion (IsSameIn u v) fields

-- one book, one user, and the same in all that the rules mention of the rows of attributes
pub record Agree (x y : Ctx) : Type 0 where
  pub book : x.book ≡ y.book
  pub user : x.user.user ≡ y.user.user
  pub fields : AreSameIn (mentioned_fields x.book) x.user y.user
