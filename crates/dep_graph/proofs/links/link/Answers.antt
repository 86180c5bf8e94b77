use Rattle.std.proofs.Common.{get_or, sym, ap, ◌∙◌, ◌&&◌, ◌||◌, not, take}
use Rattle.dep_graph.specs.Numbers.{is_cell}
use Rattle.dep_graph.specs.Records.{holds}
use Rattle.std.proofs.lemmas.List.{get_or_default}
use Rattle.dep_graph.proofs.LinkLaws.{no_read, joined_step, undone}
use Rattle.dep_graph.proofs.ReaderLaws.{from_ok, from_err}
use Rattle.dep_graph.proofs.links.link.Goals as goal

pub loop-index-preserved : goal.loop-index-preserved
loop-index-preserved c =
    let i = c.loop-index.index in
    let x = get_or c.args.reads.now i no_read in
    joined_step c.args.readers.now c.loop-index.readers c.add.new.self c.args.reads.now i x c.args.cell c.loop-index-test.true
    (get_or_default c.args.reads.now i no_read x c.loop-index-test.true) c.loop-index.invariant (from_ok c.add.result (sym c.is_err.ensures.value ∙ c.if-is_err.false) c.add.ensures.ok)

pub returns-then-is_err-clause-err : goal.returns-then-is_err-clause-err
returns-then-is_err-clause-err c q d =
    undone c.args.readers.now c.loop-index.readers c.take_back.new.readers (take c.loop-index.index c.args.reads.now) c.args.had.now c.args.cell c.requires c.loop-index.invariant
    (λ p e. c.take_back.ensures p e ∙ ap (λ b. (b && not (holds (take c.loop-index.index c.args.reads.now) p && is_cell c.args.cell e)) || (holds c.args.had.now p && is_cell c.args.cell e))
    (from_err c.add.result (sym c.is_err.ensures.value ∙ c.if-is_err.true) c.add.ensures.err p e)) q d
