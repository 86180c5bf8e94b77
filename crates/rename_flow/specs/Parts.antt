-- A plan, part by part.
use Rattle.std.specs.Prelude.{ℕ, ◌+◌, Bool, cond, List, [], ◌∷◌, ◌++◌}
use Rattle.doc_model.specs.declared.user_action.UserAction.{UserAction}
use Rattle.rename_marks.specs.Noted.{capped}
use Rattle.rename_flow.specs.declared.rename_plan.RenamePlan.{RenamePlan}

-- actions, and how many uses cannot be resolved
pub record Part : Type 0 where
  pub actions : List UserAction
  pub unresolved : ℕ

abbrev pub only_count : ℕ → Part
only_count n = record { actions = []; unresolved = n }

-- one where a test holds
abbrev pub count_where : Bool → Part
count_where b = only_count (cond b 1 0)

-- a plan with one part more, and with others
unfoldable pub with_part : RenamePlan → Part → RenamePlan
with_part p q =
    record { actions = p.actions ++ q.actions; unresolved = capped (p.unresolved + q.unresolved) }

abbrev pub with_parts : RenamePlan → List Part → RenamePlan
with_parts p [] = p
with_parts p (q ∷ qs) = with_parts (with_part p q) qs
