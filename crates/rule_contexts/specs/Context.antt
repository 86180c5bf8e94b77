-- What is in force for a user in a document, and what that lets the user see.
use Rattle.std.specs.Prelude.{List, [], ◌∷◌}
use Rattle.doc_model.specs.declared.action.DocAction.{DocAction}
use Rattle.doc_model.specs.declared.action.Step.{Step}
use Rattle.doc_model.specs.declared.user.User.{User}
use Rattle.doc_model.specs.declared.view.ViewTable.{ViewTable}
use Rattle.doc_model.specs.Document.{Document}
use Rattle.acl_rules.specs.declared.decision.Ctx.{Ctx}
use Rattle.acl_rules.specs.Carried.{carried}
use Rattle.acl_rules.specs.Loaded.{book_of}
use Rattle.user_attrs.specs.Attributes.{attributes_of}
use Rattle.user_attrs.specs.UserInfos.{user_info}
use Rattle.censored_view.specs.View.{view as shown_by}
use Rattle.acl_reading.specs.RulesLet.{rules_let}
use Rattle.recalc.specs.Evaluated.{filled}

-- the rules of a document, and what they know of a user by another one, which is to be the first
-- with its cells evaluated
abbrev pub context_over : User → Document → Document → Ctx
context_over user s t = record {
  book = book_of s;
  user = user_info (attributes_of s) user t;
}

-- the rules of a document, and what they know of a user by its evaluated cells
abbrev pub context : User → Document → Ctx
context user s = context_over user s (filled s)

-- what a context shows of a document, each formula cell with its value
abbrev pub view_in : Ctx → Document → List ViewTable
view_in x s = shown_by (rules_let x) (filled s)

-- what a user sees of a document
abbrev pub view : User → Document → List ViewTable
view user s = view_in (context user s) s

-- a context after an action, which may rename what the rules are about
abbrev pub carry : DocAction → Ctx → Ctx
carry a x = record { book = carried a x.book; user = x.user }

-- the same after steps
abbrev pub carry_all : List Step → Ctx → Ctx
carry_all [] x = x
carry_all (e ∷ steps) x = carry_all steps (carry e.action x)
