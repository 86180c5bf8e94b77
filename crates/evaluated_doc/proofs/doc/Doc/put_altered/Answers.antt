use Rattle.std.proofs.Common.{◌≡◌, ◌+◌, ◌≤◌, true, sym, ◌∙◌, subst, Vec}
use Rattle.std.specs.Global.{Global}
use Rattle.std.specs.Option.{option_map}
use Rattle.doc_model.specs.DocumentLaws.{IsWhole}
use Rattle.doc_model.specs.Valid.{valid}
use Rattle.recalc.specs.declared.indexes.ColumnIndex.{ColumnIndex}
use Rattle.recalc.specs.declared.kept.KeptTable.{KeptTable}
use Rattle.recalc.specs.Current.{IsCurrent}
use Rattle.recalc.specs.Evaluated.{sheet_of}
use Rattle.recalc.specs.Indexes.{AreIndexes}
use Rattle.recalc.specs.Kept.{IsEvaluated}
use Rattle.recalc.specs.Lost.{lost}
use Rattle.affected_cells.specs.Bound.{bound}
use Rattle.known_reads.specs.Beside.{KnowsReads}
use Rattle.evaluated_doc.specs.Altering.{IsAltering}
use Rattle.evaluated_doc.specs.WayBack.{HasBefore}
use Rattle.evaluated_doc.proofs.UpdateLemmas.{lost_watched}
use Rattle.evaluated_doc.proofs.doc.Doc.put_altered.Goals as goal

pub invariant_of-self-in_default-done : goal.invariant_of-self-in_default-done
invariant_of-self-in_default-done g c =
    let s = g.D.DocReader.document c.self.inside.tables in
    let next = g.D.DocReader.document c.put.new.self in
    let a = c.args.action.now in
    let ok : valid s a ≡ true = subst (λ d. valid (g.D.DocReader.document d) a ≡ true) (sym c.self.view_is) c.requires.valid in
    let before : IsEvaluated s c.in-Some.kept.items = rw c.in-Some.is at c.self.invariant.1 in
    let altering : IsAltering s next a c.in-Some.kept.items c.put_owed.new.self c.in_ok-altered.altered.items = record {
      altered = record { whole = c.self.invariant.0; schema = c.requires.schema; ok = ok; done = c.in_ok-undo.ensures.done };
      found = c.in_ok-altered.ensures.found;
      right = before;
      reads = c.in_ok-put_owed.ensures.exact s c.self.invariant.2;
    } in
    let left = c.in_default-done.ensures.err s altering in
    subst (λ d. IsWhole d × IsEvaluated d c.refresh_altered-done.new.kept.items × KnowsReads d c.refresh_altered-done.new.reads × AreIndexes (sheet_of d) c.refresh_altered-done.new.indexes.items) (sym (c.take_back.ensures ∙ c.in_ok-undo.ensures.back))
    (c.self.invariant.0, left.0, left.1, subst (λ (v : Vec ColumnIndex Global). AreIndexes (sheet_of s) v.items) (sym c.in_default-done.ensures.left) c.self.invariant.3)

pub returns-clause-cells : goal.returns-clause-cells
returns-clause-cells g c =
    let s = g.D.DocReader.document c.self.inside.tables in
    let next = g.D.DocReader.document c.put.new.self in
    let a = c.args.action.now in
    let ok : valid s a ≡ true = subst (λ d. valid (g.D.DocReader.document d) a ≡ true) (sym c.self.view_is) c.requires.valid in
    subst (λ d. c.keep_lost.new.cells.items ≡ lost (g.D.DocReader.document d) next a) c.self.view_is
    (lost_watched c.may_lose_law.ensures s next a ok c.in_ok-undo.ensures.done c.self.invariant.0 c.in_ok-cells.cells.items c.keep_lost.new.cells.items
    c.in_ok-cells.ensures c.keep_lost.ensures)

pub returns-clause-spent : goal.returns-clause-spent
returns-clause-spent g c =
    let s = g.D.DocReader.document c.self.inside.tables in
    let next = g.D.DocReader.document c.put.new.self in
    let a = c.args.action.now in
    let ok : valid s a ≡ true = subst (λ d. valid (g.D.DocReader.document d) a ≡ true) (sym c.self.view_is) c.requires.valid in
    let before : IsEvaluated s c.in-Some.kept.items = rw c.in-Some.is at c.self.invariant.1 in
    let altering : IsAltering s next a c.in-Some.kept.items c.put_owed.new.self c.in_ok-altered.altered.items = record {
      altered = record { whole = c.self.invariant.0; schema = c.requires.schema; ok = ok; done = c.in_ok-undo.ensures.done };
      found = c.in_ok-altered.ensures.found;
      right = before;
      reads = c.in_ok-put_owed.ensures.exact s c.self.invariant.2;
    } in
    subst (λ d. c.refresh_altered-done.new.steps ≤ c.args.steps.now + bound (g.D.DocReader.document d) a) c.self.view_is (c.refresh_altered-done.ensures.spent s altering)

pub returns-in_default-done-clause-spent : goal.returns-in_default-done-clause-spent
returns-in_default-done-clause-spent g c =
    let s = g.D.DocReader.document c.self.inside.tables in
    let next = g.D.DocReader.document c.put.new.self in
    let a = c.args.action.now in
    let ok : valid s a ≡ true = subst (λ d. valid (g.D.DocReader.document d) a ≡ true) (sym c.self.view_is) c.requires.valid in
    let before : IsEvaluated s c.in-Some.kept.items = rw c.in-Some.is at c.self.invariant.1 in
    let altering : IsAltering s next a c.in-Some.kept.items c.put_owed.new.self c.in_ok-altered.altered.items = record {
      altered = record { whole = c.self.invariant.0; schema = c.requires.schema; ok = ok; done = c.in_ok-undo.ensures.done };
      found = c.in_ok-altered.ensures.found;
      right = before;
      reads = c.in_ok-put_owed.ensures.exact s c.self.invariant.2;
    } in
    subst (λ d. c.refresh_altered-done.new.steps ≤ c.args.steps.now + bound (g.D.DocReader.document d) a) c.self.view_is (c.refresh_altered-done.ensures.spent s altering)

pub invariant_of-self : goal.invariant_of-self
invariant_of-self g c =
    (c.self.invariant.0, c.self.invariant.1, c.put_owed.ensures.known (g.D.DocReader.document c.self.inside.tables) c.self.invariant.2, c.self.invariant.3)

pub invariant_of-self-in_err-altered : goal.invariant_of-self-in_err-altered
invariant_of-self-in_err-altered g c =
    (c.self.invariant.0, c.self.invariant.1, c.put_owed.ensures.known (g.D.DocReader.document c.self.inside.tables) c.self.invariant.2, c.self.invariant.3)

pub invariant_of-self-2 : goal.invariant_of-self-2
invariant_of-self-2 g c =
    (c.self.invariant.0, c.self.invariant.1, c.put_owed.ensures.known (g.D.DocReader.document c.self.inside.tables) c.self.invariant.2, c.self.invariant.3)

pub invariant_of-self-in_err-cells : goal.invariant_of-self-in_err-cells
invariant_of-self-in_err-cells g c =
    (c.self.invariant.0, c.self.invariant.1, c.put_owed.ensures.known (g.D.DocReader.document c.self.inside.tables) c.self.invariant.2, c.self.invariant.3)

pub invariant_of-self-in_err-undo : goal.invariant_of-self-in_err-undo
invariant_of-self-in_err-undo g c =
    subst (λ d. IsWhole d × IsCurrent d (option_map (λ (v : Vec KeptTable Global). v.items) c.self.inside.kept) × KnowsReads d c.put_owed.new.self × AreIndexes (sheet_of d) c.self.inside.indexes.items) (sym c.in_err-undo.ensures.err)
    (c.self.invariant.0, c.self.invariant.1, c.put_owed.ensures.known (g.D.DocReader.document c.self.inside.tables) c.self.invariant.2, c.self.invariant.3)

pub find_altered-requires-clause-known : goal.find_altered-requires-clause-known
find_altered-requires-clause-known g c = c.in_ok-put_owed.ensures.exact (g.D.DocReader.document c.self.inside.tables) c.self.invariant.2

pub refresh_altered-done-requires-clause-altering : goal.refresh_altered-done-requires-clause-altering
refresh_altered-done-requires-clause-altering g c =
    let s = g.D.DocReader.document c.self.inside.tables in
    let next = g.D.DocReader.document c.put.new.self in
    let a = c.args.action.now in
    let ok : valid s a ≡ true = subst (λ d. valid (g.D.DocReader.document d) a ≡ true) (sym c.self.view_is) c.requires.valid in
    let before : IsEvaluated s c.in-Some.kept.items = rw c.in-Some.is at c.self.invariant.1 in
    let altering : IsAltering s next a c.in-Some.kept.items c.put_owed.new.self c.in_ok-altered.altered.items = record {
      altered = record { whole = c.self.invariant.0; schema = c.requires.schema; ok = ok; done = c.in_ok-undo.ensures.done };
      found = c.in_ok-altered.ensures.found;
      right = before;
      reads = c.in_ok-put_owed.ensures.exact s c.self.invariant.2;
    } in
    (s, altering)

pub returns-clause-way : goal.returns-clause-way
returns-clause-way g c =
    let s = g.D.DocReader.document c.self.inside.tables in
    let next = g.D.DocReader.document c.put.new.self in
    let a = c.args.action.now in
    let ok : valid s a ≡ true = subst (λ d. valid (g.D.DocReader.document d) a ≡ true) (sym c.self.view_is) c.requires.valid in
    let before : IsEvaluated s c.in-Some.kept.items = rw c.in-Some.is at c.self.invariant.1 in
    let altering : IsAltering s next a c.in-Some.kept.items c.put_owed.new.self c.in_ok-altered.altered.items = record {
      altered = record { whole = c.self.invariant.0; schema = c.requires.schema; ok = ok; done = c.in_ok-undo.ensures.done };
      found = c.in_ok-altered.ensures.found;
      right = before;
      reads = c.in_ok-put_owed.ensures.exact s c.self.invariant.2;
    } in
    record {
      fit = c.in_ok-undo.ensures.fit;
      whole = subst IsWhole (sym c.in_ok-undo.ensures.back) c.self.invariant.0;
      before = subst (λ d. HasBefore d next c.in-Ok.before) (sym c.in_ok-undo.ensures.back) (c.in-Ok.ensures.way s altering);
      gone = tt;
    }
