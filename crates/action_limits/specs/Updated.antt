-- The sums after steps of which the updates of records alone move them.
use Rattle.std.specs.Prelude.{Bool, true, false, cond, not, ◌||◌, List, [], ◌∷◌}
use Rattle.doc_model.specs.declared.action.DocAction.{DocAction}
use Rattle.doc_model.specs.declared.action.DocAction.TheVariants.{BulkUpdate}
use Rattle.doc_model.specs.declared.action.Step.{Step}
use Rattle.doc_model.specs.Document.{Document}
use Rattle.action_limits.specs.declared.limits.Counted.{Counted}
use Rattle.action_limits.specs.Capped.{has_named, moved_by}

-- whether the action updates records
abbrev pub is_update : DocAction → Bool
is_update (BulkUpdate table rows ks) = true
is_update _ = false

-- the sums after a step; they are as before where it updates no records
abbrev pub updated_by : Document → Counted → Step → Counted
updated_by s m step = cond (is_update step.action) (moved_by s m step.action) m

-- and after steps, each taken at one document
abbrev pub all_updated_at : Document → Counted → List Step → Counted
all_updated_at s m [] = m
all_updated_at s m (step ∷ steps) = all_updated_at s (updated_by s m step) steps

-- whether the document has the table of the step, where it updates records
abbrev pub is_known : Document → Step → Bool
is_known s step = not (is_update step.action) || has_named s step.action
