use Rattle.std.proofs.Common.{◌≡◌, ◌++◌, ◌-◌, ◌∙◌, take, min, length, arith}
use Rattle.std.proofs.lemmas.Grind.{common_steps}
use Rattle.io_edges.proofs.LineLemmas.{kept_of-room}
use Rattle.io_edges.proofs.line_parts.keep.Goals as goal

pub returns-clause-ok : goal.returns-clause-ok
returns-clause-ok c =
    let line = c.args.line.now.items in
    let part = c.args.part.now in
    let added : c.extend_from_slice.new.self.items ≡ line ++ take (min (1048577 - length line) (length part)) part = grind (arith, common_steps) in
    added ∙ kept_of-room line part c.requires
