-- Document actions as the steps of user actions.
use Rattle.std.specs.Prelude.{true, false}
use Rattle.doc_model.specs.declared.action.DocAction.{DocAction}
use Rattle.doc_model.specs.declared.action.Step.{Step}

-- an action that the rules are asked about, and one that only follows from it
abbrev pub direct : DocAction → Step
direct a = record { action = a; direct = true }

abbrev pub indirect : DocAction → Step
indirect a = record { action = a; direct = false }
