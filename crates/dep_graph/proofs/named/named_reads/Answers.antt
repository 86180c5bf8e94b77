use Rattle.std.proofs.Common.{◌++◌, ap, get_or, ◌∙◌}
use Rattle.std.proofs.lemmas.List.{get_or_default}
use Rattle.dep_graph.specs.Named.{source_told, told_or_none}
use Rattle.dep_graph.proofs.LinkLaws.{no_read}
use Rattle.dep_graph.proofs.NamedLaws.{told_more}
use Rattle.dep_graph.proofs.named.named_reads.Goals as goal

pub loop-read-preserved : goal.loop-read-preserved
loop-read-preserved c =
    let i = c.loop-read.read-index in
    let x = get_or c.args.reads.now i no_read in
    c.in_ok-push_told.ensures ∙ ap (λ l. l ++ told_or_none (source_told c.args.names.now x)) c.loop-read.invariant
    ∙ told_more c.args.names.now c.args.reads.now i x c.loop-read-test.true (get_or_default c.args.reads.now i no_read x c.loop-read-test.true)
