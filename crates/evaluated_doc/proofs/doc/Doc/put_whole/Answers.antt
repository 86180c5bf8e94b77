use Rattle.std.proofs.Common.{◌≡◌, ◌+◌, ◌≤◌, true, false, filter, refl, sym, ◌∙◌, subst, List, None, Option, Vec}
use Rattle.std.specs.Global.{Global}
use Rattle.std.specs.Option.{option_map}
use Rattle.doc_model.specs.DocumentLaws.{IsWhole}
use Rattle.doc_model.specs.Valid.{valid}
use Rattle.recalc.specs.declared.kept.KeptTable.{KeptTable}
use Rattle.recalc.specs.Current.{IsCurrent, has_formulas}
use Rattle.recalc.specs.Evaluated.{filled, sheet_of}
use Rattle.recalc.specs.Indexes.{AreIndexes}
use Rattle.recalc.specs.Lost.{all_cells, lost}
use Rattle.recalc.specs.MayLose.{may_lose}
use Rattle.recalc.proofs.MayLoseCells.{plain_kept}
use Rattle.affected_cells.specs.Bound.{bound}
use Rattle.known_reads.specs.Beside.{KnowsReads}
use Rattle.evaluated_doc.proofs.StartLemmas.{whole_spent}
use Rattle.evaluated_doc.proofs.UpdateLemmas.{lost_watched}
use Rattle.evaluated_doc.proofs.doc.Doc.put_whole.Goals as goal

pub watched_cells-requires : goal.watched_cells-requires
watched_cells-requires g c = λ is.
    plain_kept {X = List KeptTable} (g.D.DocReader.document c.args.self.now) None (λ v. v) true c.requires.plain refl refl

pub invariant_of-self-in_default : goal.invariant_of-self-in_default
invariant_of-self-in_default g c =
    let s = g.D.DocReader.document c.self.inside.tables in
    subst (λ d. IsWhole d × IsCurrent d (option_map (λ (v : Vec KeptTable Global). v.items) c.self.inside.kept) × KnowsReads d c.self.inside.reads × AreIndexes (sheet_of d) c.self.inside.indexes.items)
    (sym (c.take_back.ensures ∙ c.in_ok-back.ensures.back)) (c.self.invariant.0, c.self.invariant.1, c.self.invariant.2, c.self.invariant.3)

pub invariant_of-self-2 : goal.invariant_of-self-2
invariant_of-self-2 g c =
    let s = g.D.DocReader.document c.self.inside.tables in
    let next = g.D.DocReader.document c.put.new.self in
    let a = c.args.action.now in
    let ok : valid s a ≡ true = subst (λ d. valid (g.D.DocReader.document d) a ≡ true) (sym c.self.view_is) c.requires.valid in (
      subst IsWhole (sym c.in_ok-back.ensures.done) (c.kept_law.ensures s a c.self.invariant.0 ok),
      subst (λ (o : Option (Vec KeptTable Global)). IsCurrent next (option_map (λ (v : Vec KeptTable Global). v.items) o)) (sym c.replace-kept.ensures.after) c.in-Ok.ensures.current,
      subst (KnowsReads next) (sym c.replace-reads.ensures.after) c.in-Ok.ensures.reads,
      c.in-Ok.ensures.indexed,
    )

pub returns-clause-cells : goal.returns-clause-cells
returns-clause-cells g c =
    let s = g.D.DocReader.document c.self.inside.tables in
    let a = c.args.action.now in
    let ok : valid s a ≡ true = subst (λ d. valid (g.D.DocReader.document d) a ≡ true) (sym c.self.view_is) c.requires.valid in
    subst (λ d. c.keep_lost.new.cells.items ≡ lost (g.D.DocReader.document d) (g.D.DocReader.document c.put.new.self) a) c.self.view_is
    (lost_watched c.may_lose_law.ensures s (g.D.DocReader.document c.put.new.self) a ok c.in_ok-back.ensures.done c.self.invariant.0 c.in_ok-cells.cells.items c.keep_lost.new.cells.items
    (subst (λ d. c.in_ok-cells.cells.items ≡ filter (may_lose (filled (g.D.DocReader.document d)) a) (all_cells (filled (g.D.DocReader.document d)))) (sym c.self.view_is) c.in_ok-cells.ensures) c.keep_lost.ensures)

pub returns-clause-spent : goal.returns-clause-spent
returns-clause-spent g c =
    let s = g.D.DocReader.document c.self.inside.tables in
    let a = c.args.action.now in
    let ok : valid s a ≡ true = subst (λ d. valid (g.D.DocReader.document d) a ≡ true) (sym c.self.view_is) c.requires.valid in
    let plain : has_formulas s ≡ false = subst (λ d. has_formulas (g.D.DocReader.document d) ≡ false) (sym c.self.view_is) c.requires.plain in
    subst (λ d. c.start_of.new.steps ≤ c.args.steps.now + bound (g.D.DocReader.document d) a) c.self.view_is
    (whole_spent s (g.D.DocReader.document c.put.new.self) a c.args.steps.now c.start_of.new.steps plain ok c.in_ok-back.ensures.done c.start_of.ensures.named)

pub returns-in_default-clause-spent : goal.returns-in_default-clause-spent
returns-in_default-clause-spent g c =
    let s = g.D.DocReader.document c.self.inside.tables in
    let a = c.args.action.now in
    let ok : valid s a ≡ true = subst (λ d. valid (g.D.DocReader.document d) a ≡ true) (sym c.self.view_is) c.requires.valid in
    let plain : has_formulas s ≡ false = subst (λ d. has_formulas (g.D.DocReader.document d) ≡ false) (sym c.self.view_is) c.requires.plain in
    subst (λ d. c.start_of.new.steps ≤ c.args.steps.now + bound (g.D.DocReader.document d) a) c.self.view_is
    (whole_spent s (g.D.DocReader.document c.put.new.self) a c.args.steps.now c.start_of.new.steps plain ok c.in_ok-back.ensures.done c.start_of.ensures.named)

pub returns-clause-whole : goal.returns-clause-whole
returns-clause-whole g c =
    let s = g.D.DocReader.document c.self.inside.tables in
    let a = c.args.action.now in
    let ok : valid s a ≡ true = subst (λ d. valid (g.D.DocReader.document d) a ≡ true) (sym c.self.view_is) c.requires.valid in
    subst IsWhole (sym c.in_ok-back.ensures.done) (c.kept_law.ensures s a c.self.invariant.0 ok)
