use Rattle.std.proofs.Common.{◌≡◌, drop}
use Rattle.rename_flow.specs.ShownRules.{about_at}
use Rattle.rename_flow.proofs.shown_rules.about_at.Given as goal

-- the rest decides
abbrev pub invariant-loop-about : goal.invariant-loop-about
invariant-loop-about l = about_at (drop l.about-index l.abouts) l.row ≡ about_at l.abouts l.row
