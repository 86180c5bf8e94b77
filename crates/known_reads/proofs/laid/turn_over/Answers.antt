use Rattle.std.proofs.Common.{◌≡◌, ◌∷◌, ◌++◌, length, sym, ap, ◌∙◌, arith}
use Rattle.dep_graph.proofs.NameLaws.{append_none}
use Rattle.known_reads.specs.Laid.{all_laid, all_turned}
use Rattle.known_reads.proofs.WereLemmas.{turned_one}
use Rattle.known_reads.proofs.laid.turn_over.Goals as goal

pub turning-preserved : goal.turning-preserved
turning-preserved c =
    let top = c.in-Some.top.were.items in
    let from : c.turning.from ≡ top ∷ c.take.new.self = c.in-Some.ensures in
    let to : c.lay.new.self ≡ top ∷ c.turning.to = c.lay.ensures in
    let first = ap length from in
    let last = ap length to in
    record {
      count = omega (arith, first, last, c.turning.invariant.count);
      turned = ap (λ t. all_turned t ++ all_laid c.take.new.self) to ∙ turned_one c.turning.to c.take.new.self top ∙ ap (λ f. all_turned c.turning.to ++ all_laid f) (sym from) ∙ c.turning.invariant.turned;
      laid = ap (λ t. all_turned c.take.new.self ++ all_laid t) to ∙ sym (turned_one c.take.new.self c.turning.to top) ∙ ap (λ f. all_turned f ++ all_laid c.turning.to) (sym from) ∙ c.turning.invariant.laid;
    }

pub turning-smaller : goal.turning-smaller
turning-smaller c = let from = ap length c.in-Some.ensures in omega (arith, from)

pub returns-clause-turned : goal.returns-clause-turned
returns-clause-turned c = sym (append_none (all_turned c.turning.to)) ∙ ap (λ f. all_turned c.turning.to ++ all_laid f) (sym c.in_default.ensures.0) ∙ c.turning.invariant.turned

pub returns-clause-laid : goal.returns-clause-laid
returns-clause-laid c = ap (λ f. all_turned f ++ all_laid c.turning.to) (sym c.in_default.ensures.0) ∙ c.turning.invariant.laid

pub returns-clause-count : goal.returns-clause-count
returns-clause-count c = let none = ap length c.in_default.ensures.0 in omega (arith, none, c.turning.invariant.count)
