use Rattle.std.proofs.Common.{◌≡◌, List, map, sym, ap, subst, IfOk, ◌∙◌}
use Rattle.doc_model.specs.Apply.{all_valid}
use Rattle.doc_model.specs.Document.{Document}
use Rattle.doc_model.specs.DocumentLaws.{IsWhole}
use Rattle.user_actions.specs.StepLaws.{action_of}
use Rattle.evaluated_doc.specs.WayBack.{Changed}
use Rattle.context_changes.specs.Known.{AreKnown}
use Rattle.bundle_judge.specs.JudgedBundles.{after_steps}
use Rattle.bundle_judge.specs.Losses.{all_lost, cells_told}
use Rattle.bundle_judge.specs.Rollback.{gone_back}
use Rattle.bundle_core.specs.Followed.{AreRowsTold, IsToldOf}
use Rattle.bundle_core.proofs.telling.told_of_all.Goals as goal

pub told_of_touched-requires-clause-known : goal.told_of_touched-requires-clause-known
told_of_touched-requires-clause-known g c =
    let t = g.D.DocReader.document c.args.doc.now in
    let P : List (Changed g.row.D-Back.Denot) → Type 0 = λ l. AreKnown (gone_back g.D.DocTables.fits g.D.DocTables.undone l t) c.args.known.now in
    subst P (sym c.as_slice.ensures.value) c.requires.known

pub told_of_touched-requires-clause-whole : goal.told_of_touched-requires-clause-whole
told_of_touched-requires-clause-whole g c =
    let t = g.D.DocReader.document c.args.doc.now in
    let P : List (Changed g.row.D-Back.Denot) → Type 0 = λ l. IsWhole (gone_back g.D.DocTables.fits g.D.DocTables.undone l t) in
    subst P (sym c.as_slice.ensures.value) c.requires.whole

pub told_of_touched-requires-clause-valid : goal.told_of_touched-requires-clause-valid
told_of_touched-requires-clause-valid g c =
    let t = g.D.DocReader.document c.args.doc.now in
    ap (λ l. all_valid (gone_back g.D.DocTables.fits g.D.DocTables.undone l t) (map action_of c.args.steps.now)) c.as_slice.ensures.value ∙ c.requires.valid

pub told_of_touched-requires-clause-done : goal.told_of_touched-requires-clause-done
told_of_touched-requires-clause-done g c =
    let t = g.D.DocReader.document c.args.doc.now in
    c.requires.done ∙ ap (λ l. after_steps (gone_back g.D.DocTables.fits g.D.DocTables.undone l t) c.args.steps.now) (sym c.as_slice.ensures.value)

pub told_of_touched-requires-clause-cells : goal.told_of_touched-requires-clause-cells
told_of_touched-requires-clause-cells g c =
    let t = g.D.DocReader.document c.args.doc.now in
    let P : List (Changed g.row.D-Back.Denot) → Type 0 = λ l. cells_told l ≡ all_lost (gone_back g.D.DocTables.fits g.D.DocTables.undone l t) (map action_of c.args.steps.now) in
    subst P (sym c.as_slice.ensures.value) c.requires.cells

pub rows_told-requires-clause-known : goal.rows_told-requires-clause-known
rows_told-requires-clause-known g c =
    let t = g.D.DocReader.document c.args.doc.now in
    let P : List (Changed g.row.D-Back.Denot) → Type 0 = λ l. AreKnown (gone_back g.D.DocTables.fits g.D.DocTables.undone l t) c.args.known.now in
    subst P (sym c.as_slice-2.ensures.value) c.requires.known

pub rows_told-requires-clause-whole : goal.rows_told-requires-clause-whole
rows_told-requires-clause-whole g c =
    let t = g.D.DocReader.document c.args.doc.now in
    let P : List (Changed g.row.D-Back.Denot) → Type 0 = λ l. IsWhole (gone_back g.D.DocTables.fits g.D.DocTables.undone l t) in
    subst P (sym c.as_slice-2.ensures.value) c.requires.whole

pub rows_told-requires-clause-valid : goal.rows_told-requires-clause-valid
rows_told-requires-clause-valid g c =
    let t = g.D.DocReader.document c.args.doc.now in
    ap (λ l. all_valid (gone_back g.D.DocTables.fits g.D.DocTables.undone l t) (map action_of c.args.steps.now)) c.as_slice-2.ensures.value ∙ c.requires.valid

pub rows_told-requires-clause-done : goal.rows_told-requires-clause-done
rows_told-requires-clause-done g c =
    let t = g.D.DocReader.document c.args.doc.now in
    c.requires.done ∙ ap (λ l. after_steps (gone_back g.D.DocTables.fits g.D.DocTables.undone l t) c.args.steps.now) (sym c.as_slice-2.ensures.value)

pub rows_told-requires-clause-cells : goal.rows_told-requires-clause-cells
rows_told-requires-clause-cells g c =
    let t = g.D.DocReader.document c.args.doc.now in
    let P : List (Changed g.row.D-Back.Denot) → Type 0 = λ l. cells_told l ≡ all_lost (gone_back g.D.DocTables.fits g.D.DocTables.undone l t) (map action_of c.args.steps.now) in
    subst P (sym c.as_slice-2.ensures.value) c.requires.cells

pub told_of_users-requires-clause-rows : goal.told_of_users-requires-clause-rows
told_of_users-requires-clause-rows g c =
    let t = g.D.DocReader.document c.args.doc.now in
    let r = c.in-Some-2.rows in
    let P : List (Changed g.row.D-Back.Denot) → Type 0 = λ l. AreRowsTold (gone_back g.D.DocTables.fits g.D.DocTables.undone l t) t c.args.known.now.contexts.items r.told.items r.users.items in
    subst P c.as_slice-2.ensures.value (rw c.in-Some-2.is at c.in_ok-rows.ensures)

pub returns-in-Some-clause-told : goal.returns-in-Some-clause-told
returns-in-Some-clause-told g c =
    let t = g.D.DocReader.document c.args.doc.now in
    let P : List (Changed g.row.D-Back.Denot) → Type 0 = λ l. IsToldOf (gone_back g.D.DocTables.fits g.D.DocTables.undone l t) (map action_of c.args.steps.now) c.args.known.now.contexts.items c.in-Some.told.items in
    subst P c.as_slice.ensures.value (rw c.in-Some.is at c.in_ok-told.ensures.told)

pub returns-clause-told : goal.returns-clause-told
returns-clause-told g c =
    let t = g.D.DocReader.document c.args.doc.now in
    let s = gone_back g.D.DocTables.fits g.D.DocTables.undone c.args.traces.now.items t in
    let P : Document → Type 0 = λ u. IfOk c.done_and_seen.result (λ d. IsToldOf u (map action_of c.args.steps.now) c.args.known.now.contexts.items d.told.items) in
    let same : g.D.DocReader.document c.go_back_all.new.doc ≡ s = c.go_back_all.ensures ∙ ap (λ (v : List (Changed g.row.D-Back.Denot)). gone_back g.D.DocTables.fits g.D.DocTables.undone v t) (ap (λ v. v.items) c.replace.ensures.value) in
    subst P same c.done_and_seen.ensures.told
