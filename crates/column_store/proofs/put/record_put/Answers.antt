use Rattle.std.proofs.Common.{sym, subst}
use Rattle.row_tables.proofs.ChangeLaws.{put_asks}
use Rattle.column_store.specs.Changes.{change_back, change_fits}
use Rattle.column_store.proofs.DocLaws.{record_makes}
use Rattle.doc_model.specs.ByIds.{AreDistinct}
use Rattle.doc_model.specs.Document.{table_id}
use Rattle.column_store.proofs.put.record_put.Goals as goal

pub put-requires-clause-fits : goal.put-requires-clause-fits
put-requires-clause-fits c =
    put_asks c.args.tables.now.items c.deref.result.now c.args.action.now c.in-Some.index c.table_named.result.now c.index_mut.result.now c.requires.whole c.requires.valid c.in-Some.ensures
    c.table_named.ensures c.deref.ensures.value c.index_mut.ensures.value

pub returns-clause-done : goal.returns-clause-done
returns-clause-done c =
    (record_makes c.args.tables.now.items c.deref.result.now c.args.action.now c.in-Some.index c.table_named.result.now c.index_mut.result.now c.requires.whole c.requires.valid c.in-Some.ensures
    c.table_named.ensures c.deref.ensures.value c.index_mut.ensures.value
    (change_back c.in_ok-change.change) (change_fits c.in_ok-change.change) c.put.new.self c.requires.record c.in_ok-change.ensures.ok c.in_ok-change.ensures.back c.in_ok-change.ensures.fit).0

pub returns-clause-fit : goal.returns-clause-fit
returns-clause-fit c =
    (record_makes c.args.tables.now.items c.deref.result.now c.args.action.now c.in-Some.index c.table_named.result.now c.index_mut.result.now c.requires.whole c.requires.valid c.in-Some.ensures
    c.table_named.ensures c.deref.ensures.value c.index_mut.ensures.value
    (change_back c.in_ok-change.change) (change_fits c.in_ok-change.change) c.put.new.self c.requires.record c.in_ok-change.ensures.ok c.in_ok-change.ensures.back c.in_ok-change.ensures.fit).1.1

pub returns-clause-back : goal.returns-clause-back
returns-clause-back c =
    (record_makes c.args.tables.now.items c.deref.result.now c.args.action.now c.in-Some.index c.table_named.result.now c.index_mut.result.now c.requires.whole c.requires.valid c.in-Some.ensures
    c.table_named.ensures c.deref.ensures.value c.index_mut.ensures.value
    (change_back c.in_ok-change.change) (change_fits c.in_ok-change.change) c.put.new.self c.requires.record c.in_ok-change.ensures.ok c.in_ok-change.ensures.back c.in_ok-change.ensures.fit).2

pub index_of_table-requires : goal.index_of_table-requires
index_of_table-requires c = subst (AreDistinct table_id) (sym c.deref.ensures.value) c.requires.whole.sound.distinct
