use Rattle.std.proofs.Common.{None, subst, ap, ◌∙◌, []}
use Rattle.dep_graph.specs.Readers.{items_of}
use Rattle.dep_graph.specs.Records.{holds, IsParted}
use Rattle.dep_graph.proofs.RecordLaws.{recorded_by, nothing_joined, recorded_inverse}
use Rattle.dep_graph.proofs.records.forget.Goals as goal

pub returns-clause-inverse : goal.returns-clause-inverse
returns-clause-inverse c =
    recorded_inverse c.args.reads.now.entries c.remove-before.new.self.entries c.args.readers.now c.args.readers.now c.unlink.new.readers [] c.new.result.keys c.args.cell
    c.requires (recorded_by c.args.reads.now.entries c.remove-before.new.self.entries c.args.cell None c.remove-before.ensures.updates.0)
    (λ q. ap (λ keys. holds keys q) c.new.ensures.empty) (nothing_joined c.args.readers.now c.args.cell)
    (subst (λ gone. IsParted c.args.readers.now c.unlink.new.readers gone c.new.result.keys c.args.cell) (c.items_of.ensures ∙ ap items_of c.remove-before.ensures.value) c.unlink.ensures.links)
