use Rattle.std.proofs.Common.{eqb}
use Rattle.std.proofs.lemmas.List.Filters.{dedup_is}
use Rattle.censored_view.proofs.SortedRows.{once_ascends, once_has}
use Rattle.censored_view.proofs.row_lists.once_in_order.Goals as goal

pub returns-clause-ascending : goal.returns-clause-ascending
returns-clause-ascending c =
    once_ascends c.args.numbers.items c.sort.new.self.items c.dedup.new.self.items c.in_ok-sort.ensures.permutation
    (dedup_is eqb c.sort.new.self.items c.dedup.new.self.items c.dedup.ensures.filtered) c.in_ok-sort.ensures.sorted

pub returns-clause-same : goal.returns-clause-same
returns-clause-same c =
    once_has c.args.numbers.items c.sort.new.self.items c.dedup.new.self.items c.in_ok-sort.ensures.permutation
    (dedup_is eqb c.sort.new.self.items c.dedup.new.self.items c.dedup.ensures.filtered)
