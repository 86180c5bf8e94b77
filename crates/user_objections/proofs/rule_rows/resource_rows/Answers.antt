use Rattle.std.proofs.Common.{◌≡◌, Some, codes, rules, subst, sym}
use Rattle.doc_model.specs.ByIds.{find_id}
use Rattle.doc_model.specs.Changes.{grid, shown_table_id}
use Rattle.doc_model.specs.Rows.{IsAscending}
use Rattle.doc_model.specs.ViewEdits.{IsShown}
use Rattle.doc_model.proofs.ByIdsLaws.{found_all}
use Rattle.user_objections.proofs.rule_rows.resource_rows.Goals as goal

pub returns-in-Some-clause-ascending : goal.returns-in-Some-clause-ascending
returns-in-Some-clause-ascending c =
    let found : find_id shown_table_id (codes "_grist_ACLResources") c.args.tables.now ≡ Some c.in-Some.table.now = search rules in
    subst IsAscending (sym c.as_slice.ensures)
    (found_all shown_table_id (λ t. IsShown (grid t)) (codes "_grist_ACLResources") c.args.tables.now c.in-Some.table.now c.requires found).is_grid.ascending
