use Rattle.std.proofs.Common.{◌∙◌, map, filter, refl, ap, rules}
use Rattle.doc_model.specs.Rows.{has}
use Rattle.doc_readers.specs.Parts.{grid_at}
use Rattle.censored_view.specs.Readable.{row_of}
use Rattle.action_censor.specs.Back.{grid_back}
use Rattle.action_censor.specs.Step.{step_of}
use Rattle.action_censor.proofs.TableLemmas.{made_table}
use Rattle.action_censor.proofs.touched_table.touched_table.Goals as goal

pub returns-clause-made : goal.returns-clause-made
returns-clause-made g c =
    let ks = map step_of c.args.steps.now in
    let s = g.D.DocReader.document c.args.tables.now in
    let id = c.args.id.now in
    let now = grid_at s id in
    let old = grid_back ks id now in
    made_table ks s c.requires.laid_out c.requires.records id c.in_ok-touched.touched.items c.in_ok-touched.ensures.ascending c.in_ok-touched.ensures.same
    c.requires.there c.requires.about
    c.in_ok-before.before.items (c.in_ok-before.ensures ∙ ap (λ l. map (row_of old) (filter (has old.rows) l)) c.as_slice.ensures.value)
    c.in_ok-after.after.items (c.in_ok-after.ensures ∙ ap (λ l. filter (has l) c.as_slice-2.result.now) c.rows_in.ensures.value ∙ ap (filter (has now.rows)) c.as_slice-2.ensures.value)
    _ (search rules) refl refl
