use Rattle.std.proofs.Common.{rules}
use Rattle.view_patch.specs.Sources.{source_of}
use Rattle.view_patch.proofs.rebuilding.sources_of.Goals as goal

pub returns : goal.returns
returns c = c.all_made.ensures (source_of c.args.before.now c.args.given.now) (λ x y r. search rules)
