-- What is let read of a table goes by how far the table is shown.
use Rattle.std.proofs.Common.{◌≡◌, ◌∙◌, ap, refl, subst, sym, ℕ, Bool, true, false, cond, List}
use Rattle.doc_model.specs.MetadataIds.{is_acl_id, is_schema_id}
use Rattle.acl_rules.specs.declared.decision.Ctx.{Ctx}
use Rattle.censored_view.specs.declared.row_tests.RowTests.{RowTests}
use Rattle.censored_view.specs.Readable.{Readable, hidden, whole}
use Rattle.censored_view.specs.Tested.{AreRowTests}
use Rattle.acl_reading.specs.RulesLet.{is_owner, reach_of, reached, rules_let, shown_of}
use Rattle.acl_reading.specs.declared.letting.Reach.{Reach}
use Rattle.acl_reading.specs.declared.letting.Reach.TheVariants as reach

by_reach : (schema acl owner : Bool) (ruled : Readable) → cond schema hidden (cond acl (cond owner whole hidden) ruled) ≡ reached (cond schema reach.Hidden (cond acl (cond owner reach.Whole reach.Hidden) reach.ByRules)) ruled
by_reach true acl owner ruled = refl
by_reach false true true ruled = refl
by_reach false true false ruled = refl
by_reach false false owner ruled = refl

pub let_by_reach : (x : Ctx) (table : List ℕ) → rules_let x table ≡ reached (reach_of x table) (shown_of x table)
let_by_reach x table = by_reach (is_schema_id table) (is_acl_id table) (is_owner x) (shown_of x table)

-- tests of what is let read of a table by how far it is shown
pub let_rows : (x : Ctx) (table : List ℕ) (t : RowTests) (far : Reach) → far ≡ reach_of x table → AreRowTests (reached far (shown_of x table)) t → AreRowTests (rules_let x table) t
let_rows x table t far is tests = subst (λ (r : Readable). AreRowTests r t) (sym (let_by_reach x table ∙ ap (λ (f : Reach). reached f (shown_of x table)) (sym is))) tests
