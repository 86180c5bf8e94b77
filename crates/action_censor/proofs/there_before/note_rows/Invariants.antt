use Rattle.std.proofs.Common.{◌≡◌, ℕ, cond, nat_eq, take, None, Some}
use Rattle.std.specs.HashMap.{get}
use Rattle.doc_model.specs.Records.{or_else}
use Rattle.doc_model.specs.Rows.{has}
use Rattle.action_censor.proofs.there_before.note_rows.Given as goal

-- the rows so far are noted
abbrev pub invariant-loop-row : goal.invariant-loop-row
invariant-loop-row l = (r : ℕ) → get nat_eq l.noted r ≡ or_else (get nat_eq l.initial.noted r) (cond (has (take l.row-index l.rows) r) (Some l.there) None)
