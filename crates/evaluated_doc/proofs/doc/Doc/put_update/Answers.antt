use Rattle.std.proofs.Common.{◌≡◌, ◌+◌, ◌≤◌, true, filter, sym, ap, ◌∙◌, subst, Vec}
use Rattle.std.specs.Global.{Global}
use Rattle.std.specs.Option.{option_map}
use Rattle.doc_model.specs.Apply.{apply}
use Rattle.doc_model.specs.DocumentLaws.{IsWhole}
use Rattle.doc_model.specs.Valid.{valid}
use Rattle.recalc.specs.declared.kept.KeptTable.{KeptTable}
use Rattle.recalc.specs.Current.{IsCurrent}
use Rattle.recalc.specs.Evaluated.{filled, sheet_of}
use Rattle.recalc.specs.Indexes.{AreIndexes}
use Rattle.recalc.specs.Kept.{IsEvaluated}
use Rattle.recalc.specs.Lost.{all_cells, is_lost, lost}
use Rattle.affected_search.specs.Narrow.{is_narrow}
use Rattle.affected_cells.specs.Bound.{bound}
use Rattle.affected_values.specs.Indexing.{AreLeft}
use Rattle.known_reads.specs.Beside.{KnowsReads}
use Rattle.evaluated_doc.specs.Gone.{IsGone}
use Rattle.evaluated_doc.proofs.GoneLemmas.{is_gone}
use Rattle.evaluated_doc.specs.Update.{IsUpdating}
use Rattle.evaluated_doc.specs.WayBack.{HasBefore}
use Rattle.evaluated_doc.proofs.UpdateLemmas.{lost_narrow, of_records}
use Rattle.evaluated_doc.proofs.doc.Doc.put_update.Goals as goal

pub enter_indexes-indexes-requires : goal.enter_indexes-indexes-requires
enter_indexes-indexes-requires g c =
    let s = g.D.DocReader.document c.self.inside.tables in
    let a = c.args.action.now in
    let ok : valid s a ≡ true = subst (λ d. valid (g.D.DocReader.document d) a ≡ true) (sym c.self.view_is) c.requires.valid in
    let left = c.find_affected.new.indexes.items in
    subst (λ d. AreLeft d a left) (sym (c.in_ok-undo.ensures.done ∙ ap (λ d. apply d a) c.find_affected.ensures.same)) (c.left_over_law.ensures s a ok left c.in_ok-affected.ensures.left)

pub find_affected-requires-clause-valid : goal.find_affected-requires-clause-valid
find_affected-requires-clause-valid g c = subst (λ d. valid (g.D.DocReader.document d) c.args.action.now ≡ true) (sym c.self.view_is) c.requires.valid

pub find_affected-requires-clause-indexed : goal.find_affected-requires-clause-indexed
find_affected-requires-clause-indexed g c = c.take_indexes-indexes.ensures.taken (sheet_of (g.D.DocReader.document c.self.inside.tables)) c.self.invariant.3

pub invariant_of-self-3 : goal.invariant_of-self-3
invariant_of-self-3 g c =
    let s = g.D.DocReader.document c.self.inside.tables in
    let next = g.D.DocReader.document c.put.new.self in
    let a = c.args.action.now in
    let ok : valid s a ≡ true = subst (λ d. valid (g.D.DocReader.document d) a ≡ true) (sym c.self.view_is) c.requires.valid in (
      subst IsWhole (sym (c.in_ok-undo.ensures.done ∙ ap (λ d. apply d c.args.action.now) c.find_affected.ensures.same)) (c.kept_law.ensures s a c.self.invariant.0 ok),
      c.in-Ok.ensures.ok,
      c.in-Ok.ensures.reads,
      c.in-Ok.ensures.indexed,
    )

pub returns-clause-cells : goal.returns-clause-cells
returns-clause-cells g c =
    let s = g.D.DocReader.document c.self.inside.tables in
    let next = g.D.DocReader.document c.put.new.self in
    let a = c.args.action.now in
    let ok : valid s a ≡ true = subst (λ d. valid (g.D.DocReader.document d) a ≡ true) (sym c.self.view_is) c.requires.valid in
    let graph = c.put_owed.new.self.graph in
    let found = c.in_ok-affected.affected.found in
    subst (λ d. c.keep_lost.new.cells.items ≡ lost (g.D.DocReader.document d) next a) c.self.view_is
    (c.keep_lost.ensures ∙ ap (filter (is_lost (filled next) a)) (c.in_ok-cells.ensures ∙ ap (λ gr. filter (is_narrow gr found (filled (g.D.DocReader.document c.find_affected.new.tables)) a) (all_cells (filled (g.D.DocReader.document c.find_affected.new.tables)))) c.graph.ensures
    ∙ ap (λ d. filter (is_narrow graph found (filled d) a) (all_cells (filled d))) c.find_affected.ensures.same)
    ∙ lost_narrow c.narrow_law.ensures s next a ok (of_records a c.requires.update) (c.in_ok-undo.ensures.done ∙ ap (λ d. apply d c.args.action.now) c.find_affected.ensures.same) graph found c.self.invariant.0 c.in_ok-affected.ensures.found.found)

pub invariant_of-self : goal.invariant_of-self
invariant_of-self g c =
    (c.self.invariant.0, c.self.invariant.1, c.put_owed.ensures.known (g.D.DocReader.document c.self.inside.tables) c.self.invariant.2, c.self.invariant.3)

pub invariant_of-self-in_err-affected : goal.invariant_of-self-in_err-affected
invariant_of-self-in_err-affected g c =
    subst (λ d. IsWhole d × IsCurrent d (option_map (λ (v : Vec KeptTable Global). v.items) c.self.inside.kept) × KnowsReads d c.put_owed.new.self × AreIndexes (sheet_of d) c.take_indexes-indexes.new.indexes.items) (sym c.find_affected.ensures.same)
    (c.self.invariant.0, c.self.invariant.1, c.put_owed.ensures.known (g.D.DocReader.document c.self.inside.tables) c.self.invariant.2, c.take_indexes-indexes.ensures.left (sheet_of (g.D.DocReader.document c.self.inside.tables)))

pub invariant_of-self-2 : goal.invariant_of-self-2
invariant_of-self-2 g c =
    subst (λ d. IsWhole d × IsCurrent d (option_map (λ (v : Vec KeptTable Global). v.items) c.self.inside.kept) × KnowsReads d c.put_owed.new.self × AreIndexes (sheet_of d) c.take_indexes-indexes.new.indexes.items) (sym c.find_affected.ensures.same)
    (c.self.invariant.0, c.self.invariant.1, c.put_owed.ensures.known (g.D.DocReader.document c.self.inside.tables) c.self.invariant.2, c.take_indexes-indexes.ensures.left (sheet_of (g.D.DocReader.document c.self.inside.tables)))

pub invariant_of-self-in_err-cells : goal.invariant_of-self-in_err-cells
invariant_of-self-in_err-cells g c =
    subst (λ d. IsWhole d × IsCurrent d (option_map (λ (v : Vec KeptTable Global). v.items) c.self.inside.kept) × KnowsReads d c.put_owed.new.self × AreIndexes (sheet_of d) c.take_indexes-indexes.new.indexes.items) (sym c.find_affected.ensures.same)
    (c.self.invariant.0, c.self.invariant.1, c.put_owed.ensures.known (g.D.DocReader.document c.self.inside.tables) c.self.invariant.2, c.take_indexes-indexes.ensures.left (sheet_of (g.D.DocReader.document c.self.inside.tables)))

pub invariant_of-self-in_err-undo : goal.invariant_of-self-in_err-undo
invariant_of-self-in_err-undo g c =
    subst (λ d. IsWhole d × IsCurrent d (option_map (λ (v : Vec KeptTable Global). v.items) c.self.inside.kept) × KnowsReads d c.put_owed.new.self × AreIndexes (sheet_of d) c.take_indexes-indexes.new.indexes.items) (sym (c.in_err-undo.ensures.err ∙ c.find_affected.ensures.same))
    (c.self.invariant.0, c.self.invariant.1, c.put_owed.ensures.known (g.D.DocReader.document c.self.inside.tables) c.self.invariant.2, c.take_indexes-indexes.ensures.left (sheet_of (g.D.DocReader.document c.self.inside.tables)))

pub refresh_updated-done-requires-clause-updating : goal.refresh_updated-done-requires-clause-updating
refresh_updated-done-requires-clause-updating g c =
    let s = g.D.DocReader.document c.self.inside.tables in
    let next = g.D.DocReader.document c.put.new.self in
    let a = c.args.action.now in
    let ok : valid s a ≡ true = subst (λ d. valid (g.D.DocReader.document d) a ≡ true) (sym c.self.view_is) c.requires.valid in
    let done : next ≡ apply s a = c.in_ok-undo.ensures.done ∙ ap (λ d. apply d a) c.find_affected.ensures.same in
    let before : IsEvaluated s c.in-Some.kept.items = rw c.in-Some.is at c.self.invariant.1 in
    let updating : IsUpdating s next a c.in-Some.kept.items c.put_owed.new.self c.in_ok-affected.affected.cells.items = record {
      ok = ok;
      update = c.requires.update;
      done = done;
      found = c.in_ok-affected.ensures.found.cells;
      only = c.in_ok-affected.ensures.found.only;
      right = before;
      reads = c.in_ok-put_owed.ensures.exact s c.self.invariant.2;
    } in
    (s, a, updating)

pub invariant_of-self-in_default-done : goal.invariant_of-self-in_default-done
invariant_of-self-in_default-done g c =
    let s = g.D.DocReader.document c.self.inside.tables in
    let next = g.D.DocReader.document c.put.new.self in
    let a = c.args.action.now in
    let ok : valid s a ≡ true = subst (λ d. valid (g.D.DocReader.document d) a ≡ true) (sym c.self.view_is) c.requires.valid in
    let done : next ≡ apply s a = c.in_ok-undo.ensures.done ∙ ap (λ d. apply d a) c.find_affected.ensures.same in
    let before : IsEvaluated s c.in-Some.kept.items = rw c.in-Some.is at c.self.invariant.1 in
    let updating : IsUpdating s next a c.in-Some.kept.items c.put_owed.new.self c.in_ok-affected.affected.cells.items = record {
      ok = ok;
      update = c.requires.update;
      done = done;
      found = c.in_ok-affected.ensures.found.cells;
      only = c.in_ok-affected.ensures.found.only;
      right = before;
      reads = c.in_ok-put_owed.ensures.exact s c.self.invariant.2;
    } in
    let left = c.in_default-done.ensures.err s a updating in
    subst (λ d. IsWhole d × IsEvaluated d c.refresh_updated-done.new.kept.items × KnowsReads d c.refresh_updated-done.new.reads × AreIndexes (sheet_of d) c.take_indexes-indexes.new.indexes.items) (sym (c.take_back.ensures ∙ c.in_ok-undo.ensures.back ∙ c.find_affected.ensures.same))
    (c.self.invariant.0, left.0, left.1, c.take_indexes-indexes.ensures.left (sheet_of s))

pub returns-clause-way : goal.returns-clause-way
returns-clause-way g c =
    let s = g.D.DocReader.document c.self.inside.tables in
    let next = g.D.DocReader.document c.put.new.self in
    let a = c.args.action.now in
    let ok : valid s a ≡ true = subst (λ d. valid (g.D.DocReader.document d) a ≡ true) (sym c.self.view_is) c.requires.valid in
    let done : next ≡ apply s a = c.in_ok-undo.ensures.done ∙ ap (λ d. apply d a) c.find_affected.ensures.same in
    let before : IsEvaluated s c.in-Some.kept.items = rw c.in-Some.is at c.self.invariant.1 in
    let updating : IsUpdating s next a c.in-Some.kept.items c.put_owed.new.self c.in_ok-affected.affected.cells.items = record {
      ok = ok;
      update = c.requires.update;
      done = done;
      found = c.in_ok-affected.ensures.found.cells;
      only = c.in_ok-affected.ensures.found.only;
      right = before;
      reads = c.in_ok-put_owed.ensures.exact s c.self.invariant.2;
    } in
    record {
      fit = c.in_ok-undo.ensures.fit;
      whole = subst IsWhole (sym (c.in_ok-undo.ensures.back ∙ c.find_affected.ensures.same)) c.self.invariant.0;
      before = subst (λ d. HasBefore d next c.in-Ok.before) (sym (c.in_ok-undo.ensures.back ∙ c.find_affected.ensures.same)) (c.in-Ok.ensures.way s a updating);
      gone = subst (λ d. IsGone d next c.gone_rows.result) (sym (c.in_ok-undo.ensures.back ∙ c.find_affected.ensures.same)) (is_gone s next a c.gone_rows.result ok done c.gone_rows.ensures);
    }

pub returns-clause-spent : goal.returns-clause-spent
returns-clause-spent g c =
    let s = g.D.DocReader.document c.self.inside.tables in
    let next = g.D.DocReader.document c.put.new.self in
    let a = c.args.action.now in
    let ok : valid s a ≡ true = subst (λ d. valid (g.D.DocReader.document d) a ≡ true) (sym c.self.view_is) c.requires.valid in
    let done : next ≡ apply s a = c.in_ok-undo.ensures.done ∙ ap (λ d. apply d a) c.find_affected.ensures.same in
    let before : IsEvaluated s c.in-Some.kept.items = rw c.in-Some.is at c.self.invariant.1 in
    let updating : IsUpdating s next a c.in-Some.kept.items c.put_owed.new.self c.in_ok-affected.affected.cells.items = record {
      ok = ok;
      update = c.requires.update;
      done = done;
      found = c.in_ok-affected.ensures.found.cells;
      only = c.in_ok-affected.ensures.found.only;
      right = before;
      reads = c.in_ok-put_owed.ensures.exact s c.self.invariant.2;
    } in
    subst (λ d. c.refresh_updated-done.new.steps ≤ c.args.steps.now + bound (g.D.DocReader.document d) a) c.self.view_is (c.refresh_updated-done.ensures.spent s a updating)

pub returns-in_default-done-clause-spent : goal.returns-in_default-done-clause-spent
returns-in_default-done-clause-spent g c =
    let s = g.D.DocReader.document c.self.inside.tables in
    let next = g.D.DocReader.document c.put.new.self in
    let a = c.args.action.now in
    let ok : valid s a ≡ true = subst (λ d. valid (g.D.DocReader.document d) a ≡ true) (sym c.self.view_is) c.requires.valid in
    let done : next ≡ apply s a = c.in_ok-undo.ensures.done ∙ ap (λ d. apply d a) c.find_affected.ensures.same in
    let before : IsEvaluated s c.in-Some.kept.items = rw c.in-Some.is at c.self.invariant.1 in
    let updating : IsUpdating s next a c.in-Some.kept.items c.put_owed.new.self c.in_ok-affected.affected.cells.items = record {
      ok = ok;
      update = c.requires.update;
      done = done;
      found = c.in_ok-affected.ensures.found.cells;
      only = c.in_ok-affected.ensures.found.only;
      right = before;
      reads = c.in_ok-put_owed.ensures.exact s c.self.invariant.2;
    } in
    subst (λ d. c.refresh_updated-done.new.steps ≤ c.args.steps.now + bound (g.D.DocReader.document d) a) c.self.view_is (c.refresh_updated-done.ensures.spent s a updating)

pub find_affected-requires-clause-known : goal.find_affected-requires-clause-known
find_affected-requires-clause-known g c = c.in_ok-put_owed.ensures.exact (g.D.DocReader.document c.self.inside.tables) c.self.invariant.2

pub refresh_updated-done-requires-clause-whole : goal.refresh_updated-done-requires-clause-whole
refresh_updated-done-requires-clause-whole g c =
    let s = g.D.DocReader.document c.self.inside.tables in
    let a = c.args.action.now in
    let ok : valid s a ≡ true = subst (λ d. valid (g.D.DocReader.document d) a ≡ true) (sym c.self.view_is) c.requires.valid in
    subst IsWhole (sym (c.in_ok-undo.ensures.done ∙ ap (λ d. apply d a) c.find_affected.ensures.same)) (c.kept_law.ensures s a c.self.invariant.0 ok)

pub returns-clause-whole : goal.returns-clause-whole
returns-clause-whole g c =
    let s = g.D.DocReader.document c.self.inside.tables in
    let a = c.args.action.now in
    let ok : valid s a ≡ true = subst (λ d. valid (g.D.DocReader.document d) a ≡ true) (sym c.self.view_is) c.requires.valid in
    subst IsWhole (sym (c.in_ok-undo.ensures.done ∙ ap (λ d. apply d a) c.find_affected.ensures.same)) (c.kept_law.ensures s a c.self.invariant.0 ok)
