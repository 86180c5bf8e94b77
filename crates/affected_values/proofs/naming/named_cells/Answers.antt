use Rattle.std.proofs.Common.{◌≤◌, inl, inr, length, refl, subst, arith}
use Rattle.recalc.proofs.Progress.{EachOf, each_more}
use Rattle.affected_values.proofs.NamedLemmas.{AreFound, IsNamed, all_named, among_at, found_number, still_found, still_named}
use Rattle.affected_values.proofs.naming.named_cells.Goals as goal

pub loop-number-preserved : goal.loop-number-preserved
loop-number-preserved c =
    let graph = c.args.graph.now in
    let cells = c.cells-cells.result.now in
    record {
      named = each_more (IsNamed graph.names c.loop-number.named.items) (IsNamed graph.names c.push_named.new.named.items) cells c.loop-number.number-index _ _
          (λ k was d is. c.in_ok-push_named.ensures.stays d (was d is)) refl c.in_ok-push_named.ensures.named c.loop-number.invariant.named;
      only = λ d h. elim (c.in_ok-push_named.ensures.only d h) [
        | inl was ↦ c.loop-number.invariant.only d was
        | inr is ↦ found_number graph cells d _ is (among_at cells c.loop-number.number-index _ _ c.loop-number-test.true refl)
      ];
    }

pub returns-clause-found : goal.returns-clause-found
returns-clause-found c =
    let named = c.loop-number.named.items in
    let i = c.loop-number.number-index in
    let all : length c.cells-cells.result.now ≤ i = omega arith in
    still_named c.args.graph.now c.args.found.now named c.reverse.new.self.items c.reverse.ensures.permutation
    (all_named c.args.graph.now c.args.found.now named i (subst (λ l. length l ≤ i) c.cells-cells.ensures.cells all)
    (subst (λ l. EachOf (IsNamed c.args.graph.now.names named) l i) c.cells-cells.ensures.cells c.loop-number.invariant.named))

pub returns-clause-only : goal.returns-clause-only
returns-clause-only c =
    still_found c.args.graph.now c.args.found.now c.loop-number.named.items c.reverse.new.self.items c.reverse.ensures.permutation
    (subst (λ l. AreFound c.args.graph.now l c.loop-number.named.items) c.cells-cells.ensures.cells c.loop-number.invariant.only)
