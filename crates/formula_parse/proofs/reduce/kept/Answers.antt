use Rattle.std.proofs.Common.{ap, sym, ◌∙◌, Some}
use Rattle.formula_parse.specs.Seen.{tree_of}
use Rattle.formula_parse.specs.Tree.{Tree}
use Rattle.formula_parse.proofs.KeptLemmas.{kept_none, kept_is}
use Rattle.formula_parse.proofs.reduce.kept.Goals as goal

pub returns-then-below-ge-MAX_HEIGHT : goal.returns-then-below-ge-MAX_HEIGHT
returns-then-below-ge-MAX_HEIGHT c = kept_none (tree_of c.args.node) c.args.below c.requires c.if-below-ge-MAX_HEIGHT.true

pub returns : goal.returns
returns c = kept_is (tree_of c.args.node) c.args.below c.requires c.if-below-ge-MAX_HEIGHT.false ∙ ap (λ (t : Tree). Some t) (sym c.in_ok-of.ensures)
