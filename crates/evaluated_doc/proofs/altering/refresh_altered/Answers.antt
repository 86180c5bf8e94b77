use Rattle.std.proofs.Common.{sym, ap, subst, Vec}
use Rattle.std.specs.Global.{Global}
use Rattle.std.specs.Option.{is_some}
use Rattle.recalc.specs.declared.kept.KeptTable.{KeptTable}
use Rattle.recalc.specs.Kept.{IsEvaluated, IsKeptOf}
use Rattle.affected_values.specs.Altered.{IsCarried}
use Rattle.known_reads.proofs.KnownLemmas.{at_err}
use Rattle.evaluated_doc.proofs.AlteredLemmas.{altered_more, formula_same, reads_but, right_but, with_more}
use Rattle.evaluated_doc.proofs.SpentLemmas.{altered_affected, spent_within}
use Rattle.evaluated_doc.proofs.altering.refresh_altered.Goals as goal

pub carry_values-requires-clause-altered : goal.carry_values-requires-clause-altered
carry_values-requires-clause-altered g c = let is = c.requires.altering.1 in (c.requires.altering.0, is.altered, subst (IsKeptOf c.requires.altering.0) (sym c.deref.ensures.value) is.right.of_document)

pub refresh_recording-requires-clause-of_document : goal.refresh_recording-requires-clause-of_document
refresh_recording-requires-clause-of_document g c =
    let is = c.requires.altering.1 in
    (c.in_ok-carried.ensures c.requires.altering.0 is.altered (subst (IsKeptOf c.requires.altering.0) (sym c.deref.ensures.value) is.right.of_document)).of_document

pub refresh_recording-requires-clause-others : goal.refresh_recording-requires-clause-others
refresh_recording-requires-clause-others g c =
    let s = c.requires.altering.0 in
    let is = c.requires.altering.1 in
    right_but c.altered_law.ensures s (g.D.DocReader.document c.args.tables.now) c.args.action.now c.args.kept.now.items c.args.reads.now c.args.cells.items is c.push_altered_cells.new.cells.items
    (with_more s c.args.reads.now c.args.action.now c.args.cells.items c.push_altered_cells.new.cells.items is.found.cells c.in_ok-push_altered_cells.ensures.stays) c.in_ok-push_altered_cells.ensures.pushed
    c.in_ok-carried.carried.items (subst (λ ks. IsCarried s (g.D.DocReader.document c.args.tables.now) c.args.action.now ks c.in_ok-carried.carried.items) c.deref.ensures.value (c.in_ok-carried.ensures s is.altered (subst (IsKeptOf s) (sym c.deref.ensures.value) is.right.of_document)))

pub refresh_recording-requires-clause-reads : goal.refresh_recording-requires-clause-reads
refresh_recording-requires-clause-reads g c =
    let s = c.requires.altering.0 in
    let is = c.requires.altering.1 in
    reads_but c.altered_law.ensures s (g.D.DocReader.document c.args.tables.now) c.args.action.now c.args.kept.now.items c.args.reads.now c.args.cells.items is c.push_altered_cells.new.cells.items
    (with_more s c.args.reads.now c.args.action.now c.args.cells.items c.push_altered_cells.new.cells.items is.found.cells c.in_ok-push_altered_cells.ensures.stays) c.in_ok-push_altered_cells.ensures.pushed

pub returns-clause-spent : goal.returns-clause-spent
returns-clause-spent g c = λ s is.
    spent_within s (g.D.DocReader.document c.args.tables.now) c.args.action.now c.push_altered_cells.new.cells.items c.args.steps.now c.refresh_recording.new.steps is.altered.ok is.altered.done
    (altered_affected c.altered_law.ensures s (g.D.DocReader.document c.args.tables.now) c.args.action.now c.args.cells.items c.push_altered_cells.new.cells.items is.altered is.found.only c.in_ok-push_altered_cells.ensures.only)
    c.refresh_recording.ensures.named

pub returns-in_err-done-clause-spent : goal.returns-in_err-done-clause-spent
returns-in_err-done-clause-spent g c = λ s is.
    spent_within s (g.D.DocReader.document c.args.tables.now) c.args.action.now c.push_altered_cells.new.cells.items c.args.steps.now c.refresh_recording.new.steps is.altered.ok is.altered.done
    (altered_affected c.altered_law.ensures s (g.D.DocReader.document c.args.tables.now) c.args.action.now c.args.cells.items c.push_altered_cells.new.cells.items is.altered is.found.only c.in_ok-push_altered_cells.ensures.only)
    c.refresh_recording.ensures.named

pub returns-clause-way : goal.returns-clause-way
returns-clause-way g c = λ s is.
    let now = g.D.DocReader.document c.args.tables.now in
    let a = c.args.action.now in
    let cells = c.push_altered_cells.new.cells.items in (
      subst (λ (v : Vec KeptTable Global). IsEvaluated s v.items) (sym c.replace-before.ensures.value) is.right,
      c.in_ok-done.ensures.before s is.reads.each (λ d other. ap is_some
          (formula_same c.altered_law.ensures s now a is.altered cells (altered_more s a c.args.cells.items cells is.found.cells.altered c.in_ok-push_altered_cells.ensures.stays) c.in_ok-push_altered_cells.ensures.pushed d other)),
    )

pub returns-in_err-done-clause-err : goal.returns-in_err-done-clause-err
returns-in_err-done-clause-err g c = at_err c.from_residual-in_err-done.result (λ s is. (is.right, c.in_err-done.ensures.laid s is.reads))
