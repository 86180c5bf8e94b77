use Rattle.std.proofs.Common.{◌∙◌, refl, sym, subst, arith}
use Rattle.recalc.specs.Evaluated.{sheet_of}
use Rattle.recalc.specs.Kept.{held_at}
use Rattle.recalc.specs.Stack.{IsOpen}
use Rattle.known_reads.proofs.ListedLemmas.{notes_tried, value_tried, walked_put}
use Rattle.known_reads.proofs.StartedLemmas.{walked_same}
use Rattle.known_reads.proofs.levels.keep_attempt.Goals as goal

pub returns : goal.returns
returns g c =
    let s = g.D.DocReader.document c.args.tables.now in
    let a = c.args.attempt in
    let opened : IsOpen (sheet_of s) (held_at s c.args.kept.now.items) a.cell = subst (λ l. IsOpen (sheet_of s) (held_at s l) a.cell) c.deref.ensures.value (c.if-not-is_open.ensures.opened refl) in
    let value = value_tried s c.args.ty.now a c.requires.tried opened.0.0 opened.0.1 c.in-Value.value c.in-Value.notes c.in-Value.is in
    let noted = notes_tried s c.args.ty.now a c.requires.tried opened.0.0 opened.0.1 c.in-Value.value c.in-Value.notes c.in-Value.is in
    record {
      walked =
          walked_same s c.args.kept.now.items c.put_value.new.kept.items c.args.reads.now c.keep_notes-done.new.self c.watch.new.self c.args.steps.now c.tick.new.self c.watch.ensures.graph c.watch.ensures.stale c.watch.ensures.owed
          (walked_put s c.args.kept.now.items c.put_value.new.kept.items c.requires.settled a.cell opened c.in_ok-value.value (value ∙ sym c.in_ok-value.ensures) c.put_value.ensures.of_document c.put_value.ensures.put
          c.args.reads.now c.keep_notes-done.new.self (c.in_ok-done.ensures.noted (sheet_of s) noted) c.keep_notes-done.ensures.list c.keep_notes-done.ensures.watched.owed c.args.steps.now c.tick.new.self (omega (arith, c.tick.ensures)));
    }
