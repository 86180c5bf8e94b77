use Rattle.std.proofs.Common.{ap, ◌∙◌, sym}
use Rattle.std.proofs.lemmas.Bool.{false≢true}
use Rattle.doc_model.specs.Rows.{has}
use Rattle.dep_graph.specs.Readers.{reading_of}
use Rattle.dep_graph.proofs.readers.Readers.new.Goals as goal

pub returns : goal.returns
returns c q d = ap (λ rows. has rows d.row) (c.new.ensures (reading_of q d))

pub invariant_of-result : goal.invariant_of-result
invariant_of-result c q d there = absurd (false≢true (sym (ap (λ rows. has rows d.row) (c.new.ensures (reading_of q d))) ∙ there))
