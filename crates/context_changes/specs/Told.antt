-- What each context is told of a bundle.
use Rattle.std.specs.Prelude.{List, map, zip}
use Rattle.doc_model.specs.declared.view.View.{View}
use Rattle.doc_model.specs.declared.view.ViewAction.{ViewAction}
use Rattle.doc_model.specs.declared.view.ViewTable.{ViewTable}
use Rattle.doc_model.specs.Changes.{IsView, changes}
use Rattle.doc_model.specs.Document.{Document}
use Rattle.acl_rules.specs.declared.decision.Ctx.{Ctx}
use Rattle.censored_view.specs.View.{view}
use Rattle.acl_reading.specs.RulesLet.{rules_let}

-- what a context shows of an evaluated document
abbrev pub seen_by : Document → Ctx → List ViewTable
seen_by s x = view (rules_let x) s

-- as a view that is kept
abbrev pub view_of : Document → Ctx → View
view_of s x = record { tables = seen_by s x }

abbrev pub IsSeen : View → Type 0
IsSeen v = IsView v.tables

-- what is told of a bundle to whom x is in force before it and y after it
abbrev pub told_of : Document → Document → Ctx → Ctx → List ViewAction
told_of before after x y = changes (seen_by before x) (seen_by after y)

-- place by place, what is told to whom a view was shown and y is in force now
abbrev pub told_since : Document → List View → List Ctx → List (List ViewAction)
told_since after views ys =
    map (λ (p : View × Ctx). changes p.0.tables (seen_by after p.1)) (zip views ys)
