use Rattle.std.proofs.Common.{ℕ, List, subst}
use Rattle.std.specs.List.{slice_range}
use Rattle.io_edges.specs.Reading.{TakesPart}
use Rattle.io_edges.proofs.LineLemmas.{drop-slice_range}
use Rattle.io_edges.proofs.line_reader.LineReader.take_ahead.Goals as goal

pub returns-clause-part : goal.returns-clause-part
returns-clause-part c =
    let r = c.self.inside in
    let s = c.args.self.now in
    let within = rw c.deref.ensures.value at c.in_ok-len.ensures.within in
    let part = rw c.deref.ensures.value at c.in_ok-len.ensures.part in
    rw (← c.self.view_is)
    (subst (λ (a : List ℕ). TakesPart (slice_range r.buffer.items r.start r.end) a r.line.items c.take_part.new.line.items c.in_ok-len.whole)
    (drop-slice_range r.buffer.items r.start r.end c.in_ok-len.len within)
    part)
