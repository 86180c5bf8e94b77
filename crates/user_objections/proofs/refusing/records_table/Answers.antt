use Rattle.std.proofs.Common.{Some, ◌≡◌, rules}
use Rattle.doc_model.specs.ByIds.{find_id}
use Rattle.doc_model.specs.Changes.{grid, shown_table_id}
use Rattle.doc_model.specs.ViewEdits.{IsShown}
use Rattle.doc_model.proofs.ByIdsLaws.{found_all}
use Rattle.user_objections.proofs.refusing.records_table.Goals as goal

pub returns-in-Some-clause-shown : goal.returns-in-Some-clause-shown
returns-in-Some-clause-shown c =
    let found : find_id shown_table_id c.args.id.now c.args.tables.now ≡ Some c.in-Some.table.now = search rules in
    found_all shown_table_id (λ t. IsShown (grid t)) c.args.id.now c.args.tables.now c.in-Some.table.now c.requires found
