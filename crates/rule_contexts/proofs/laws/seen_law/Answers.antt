use Rattle.acl_reading.specs.RulesLet.{rules_let}
use Rattle.recalc.specs.Evaluated.{filled}
use Rattle.rule_contexts.proofs.laws.seen_law.Goals as goal

pub returns : goal.returns
returns c = record {
  view = λ x s whole. c.censored_view_law.ensures (rules_let x) (filled s) (c.laid_out_law.ensures s whole);
  allowed = λ x s a whole none. c.allowed_view_law.ensures (rules_let x) s (filled s) a (c.same_parts_law.ensures s) (c.laid_out_law.ensures s whole) none;
}
