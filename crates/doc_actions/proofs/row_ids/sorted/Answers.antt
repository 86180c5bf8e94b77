use Rattle.std.proofs.lemmas.List.Sorted.{IsNonDecreasingBy-from_sort}
use Rattle.doc_actions.proofs.row_ids.sorted.Goals as goal

pub returns-clause-sorted : goal.returns-clause-sorted
returns-clause-sorted c =
    IsNonDecreasingBy-from_sort (λ q. q) c.sort_unstable.new.self.items c.sort_unstable.ensures.sorted
