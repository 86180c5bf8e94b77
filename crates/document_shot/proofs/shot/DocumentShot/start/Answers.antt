use Rattle.std.proofs.Common.{◌≡◌, List, ◌∷◌, [], refl, sym, ap, subst, ◌∙◌}
use Rattle.shot_cells.specs.Changes.{seen_after}
use Rattle.shot_cells.specs.Places.{seen_at}
use Rattle.document_shot.specs.Shots.{Shows, shown_after}
use Rattle.document_shot.specs.Trails.{steps_of}
use Rattle.document_shot.specs.declared.trail.DocumentStep.{DocumentStep}
use Rattle.document_shot.specs.declared.trail.DocumentStep.TheVariants.{First}
use Rattle.document_shot.proofs.AnswerLemmas.{nothing_at}
use Rattle.document_shot.proofs.shot.DocumentShot.start.Goals as goal

pub invariant_of-result : goal.invariant_of-result
invariant_of-result c =
    let op = c.args.operation.now in
    let done = c.in_ok-take_in.ensures in
    let at : steps_of c.start-trail.result ≡ First c.args.tables op ∷ [] = c.start-trail.ensures in
    let P : List DocumentStep → Type 0 = λ ks. Shows c.take_in.new.document.tables (seen_at c.take_in.new.document.cells.tables) c.in_ok-sessions.sessions.items op.entries (shown_after ks) in (
      done.whole,
      subst P (sym at) (record {
        tables = done.tables;
        values = done.seen ∙ ap (seen_after op.changes.cells) (nothing_at c.new.result.tables c.new.ensures);
        open_sessions = c.in_ok-sessions.ensures ∙ c.as_slice.ensures.value;
        count = refl;
      }),
    )
