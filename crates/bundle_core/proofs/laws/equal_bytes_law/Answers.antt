use Rattle.std.proofs.Common.{ap, sym, ◌∙◌, None}
use Rattle.bundle_core.specs.State.{opening}
use Rattle.bundle_core.specs.Told.{told}
use Rattle.bundle_core.proofs.ToldLaws.{out-told}
use Rattle.bundle_core.proofs.laws.equal_bytes_law.Goals as goal

pub returns : goal.returns
returns c = λ users users' s s' history history' name same.
    out-told users (opening s) history name ∙ ap (told None) same ∙ sym (out-told users' (opening s') history' name)
