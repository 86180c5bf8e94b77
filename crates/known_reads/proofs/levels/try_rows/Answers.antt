use Rattle.recalc.specs.Kept.{held_at}
use Rattle.known_reads.proofs.ListedLemmas.{were_tried}
use Rattle.known_reads.proofs.RecordedLemmas.{if_ok}
use Rattle.known_reads.proofs.levels.try_rows.Goals as goal

pub returns : goal.returns
returns g c =
    let s = g.D.DocReader.document c.args.tables.now in
    if_ok c.attempt_rows.result
    (λ v h. were_tried s c.args.ty.now c.args.column.now c.requires.listed (held_at s c.args.kept.now) c.requires.settled.sound c.args.rows.now v.items h) c.attempt_rows.ensures
