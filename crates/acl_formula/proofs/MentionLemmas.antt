-- Mentions gathered part by part.
use Rattle.std.proofs.Common.{◌≡◌, refl, List, [], ◌∷◌, ◌++◌}
use Rattle.acl_formula.specs.declared.mention.Mention.{Mention}
use Rattle.acl_formula.specs.Mentions.{gathered, with_mention}

pub gathered_append : (seen ms ns : List Mention) → gathered seen (ms ++ ns) ≡ gathered (gathered seen ms) ns
gathered_append seen [] ns = refl
gathered_append seen (m ∷ ms) ns = gathered_append (with_mention seen m) ms ns
