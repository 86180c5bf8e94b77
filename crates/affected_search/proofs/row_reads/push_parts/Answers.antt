use Rattle.std.proofs.Common.{ℕ, ◌+◌, ◌∷◌, [], map, sym, ◌∙◌, refl, arith}
use Rattle.dep_graph.specs.declared.numbers.ReadNumber.TheVariants as read
use Rattle.lookup_index.specs.Buckets.{part_buckets}
use Rattle.affected_search.specs.RowValues.{value_at}
use Rattle.affected_search.proofs.RowFlats.{flat_next}
use Rattle.affected_search.proofs.row_reads.push_parts.Goals as goal

pub loop-index-preserved : goal.loop-index-preserved
loop-index-preserved c = (
  flat_next (map (λ (b : ℕ). read.Part (value_at c.args.column b))) (λ b. read.Part (value_at c.args.column b) ∷ []) (λ b bs. refl)
      (part_buckets c.args.value.now) c.args.reads.now.items c.loop-index.reads.items c.loop-index.index c.loop-index.invariant.0
      c.in-Some.bucket (c.loop-index.index + 1) c.push.new.self.items (omega arith) (sym c.part_bucket.ensures ∙ c.in-Some.is) c.in_ok-push.ensures.items,
  c.loop-index.invariant.1,
)
