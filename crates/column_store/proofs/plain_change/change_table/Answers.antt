use Rattle.std.proofs.Common.{ℕ, List, Some, get_or, set, slice_get, length, ◌≡◌, ◌<◌, refl, sym, subst, ap, ◌∙◌}
use Rattle.std.proofs.lemmas.Option.{slice_get_read}
use Rattle.doc_model.specs.ByIds.{find_id, AreDistinct}
use Rattle.doc_model.specs.Document.{Document, Table, table_id}
use Rattle.row_tables.specs.Steps.{table_named, table_change}
use Rattle.row_tables.proofs.SchemaLaws.{changed_found}
use Rattle.column_store.specs.Reshaped.{back_fits, table_back}
use Rattle.column_store.proofs.DocLaws.{changed_back, changed_fits, reshape_asks}
use Rattle.column_store.proofs.plain_change.change_table.Goals as goal

-- the table of that id stands at the index
found_there : (s read : Document) (id named : List ℕ) (i : ℕ) (t : Table) → read ≡ s → id ≡ named → i < length read → slice_get read i ≡ find_id table_id id read → t ≡ get_or s i t
    → (find_id table_id named s ≡ Some t) × ((i < length s) × (slice_get read i ≡ find_id table_id named read))
found_there s read id named i t same name l found e =
    let within : i < length s = subst (λ z. i < length z) same l in
    let at : slice_get read i ≡ find_id table_id named read = subst (λ n. slice_get read i ≡ find_id table_id n read) name found in
    (sym (subst (λ z. slice_get z i ≡ find_id table_id named z) same at) ∙ slice_get_read s (length s) i t refl within e, (within, at))

pub reshape-requires-clause-asks : goal.reshape-requires-clause-asks
reshape-requires-clause-asks c =
    let at = found_there c.args.tables.now.items c.deref.result.now c.table_named.result.now (table_named c.args.action.now) c.found_index-index.result c.index_mut.result.now c.deref.ensures.value c.table_named.ensures c.found_index-index.ensures.within c.found_index-index.ensures.found c.index_mut.ensures.value in
    reshape_asks c.args.tables.now.items c.args.action.now c.index_mut.result.now c.requires.valid at.0

pub returns-clause-done : goal.returns-clause-done
returns-clause-done c =
    let at = found_there c.args.tables.now.items c.deref.result.now c.table_named.result.now (table_named c.args.action.now) c.found_index-index.result c.index_mut.result.now c.deref.ensures.value c.table_named.ensures c.found_index-index.ensures.within c.found_index-index.ensures.found c.index_mut.ensures.value in
    ap (set c.args.tables.now.items c.found_index-index.result) c.in_ok-back.ensures.ok
    ∙ changed_found c.args.tables.now.items c.deref.result.now (table_named c.args.action.now) c.found_index-index.result c.requires.whole.sound.distinct c.deref.ensures.value c.found_index-index.ensures.within at.1.1 (table_change c.args.action.now) c.index_mut.result.now c.index_mut.ensures.value

pub returns-clause-back : goal.returns-clause-back
returns-clause-back c =
    let within : c.found_index-index.result < length c.args.tables.now.items = subst (λ z. c.found_index-index.result < length z) c.deref.ensures.value c.found_index-index.ensures.within in
    changed_back c.args.tables.now.items c.found_index-index.result c.index_mut.result.now c.reshape.new.self within (table_back c.in_ok-back.back) c.index_mut.ensures.value c.in_ok-back.ensures.back

pub returns-clause-fit : goal.returns-clause-fit
returns-clause-fit c =
    let within : c.found_index-index.result < length c.args.tables.now.items = subst (λ z. c.found_index-index.result < length z) c.deref.ensures.value c.found_index-index.ensures.within in
    changed_fits c.args.tables.now.items c.found_index-index.result c.index_mut.result.now c.reshape.new.self within (back_fits c.in_ok-back.back) c.in_ok-back.ensures.fit

pub found_index-index-requires-clause-distinct : goal.found_index-index-requires-clause-distinct
found_index-index-requires-clause-distinct c = subst (AreDistinct table_id) (sym c.deref.ensures.value) c.requires.whole.sound.distinct
