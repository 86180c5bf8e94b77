-- What is told of a keeper from one record to the next.
use Rattle.std.specs.Prelude.{ℕ, ◌<◌, ◌≡◌, true, List, length, Option, IfSome}
use Rattle.std.specs.List.{list_all}
use Rattle.doc_keeper.specs.Keeping.{added_to}
use Rattle.doc_model.specs.declared.action.DocAction.{DocAction}
use Rattle.doc_model.specs.Document.{Document}
use Rattle.doc_opening.specs.Opening.{opened, opens}
use Rattle.record_lines.specs.Printed.{kept, record_text}
use Rattle.record_lines.specs.Records.{SpellsRecord}

-- the records of a keeper, where it tells them, how often it has failed, and how many records it
-- has
pub record Ledger : Type 0 where
  pub told : Option (List (List ℕ))
  pub faults : ℕ
  pub count : ℕ

-- the line is the record of these actions behind the told ones, and spells it
pub record IsNextRecord (told : Option (List (List ℕ))) (actions : List DocAction)
    (line : List ℕ) : Type 0 where
  pub text : IfSome told (λ rs. line ≡ record_text (length rs) actions)
  pub spells : IfSome told (λ rs. SpellsRecord (kept (length rs) actions) line)

-- the line is told behind the others, of which there are not too many
pub record AddsNext (old new : Option (List (List ℕ))) (line : List ℕ) : Type 0 where
  pub added : new ≡ added_to old line
  pub few : IfSome old (λ rs. length rs < 4294967295)

-- the records lead to this document, where they are told
abbrev pub OpensTo : Option (List (List ℕ)) → Document → Type 0
OpensTo told s = IfSome told (λ rs. opened rs ≡ opens s)
