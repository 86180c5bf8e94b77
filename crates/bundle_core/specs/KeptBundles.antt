-- Which bundles of a history are kept, and the records of them.
use Rattle.std.specs.Prelude.{ℕ, ◌+◌, List, [], ◌∷◌, ◌++◌, map, length, Option, Some, None, option_map, if◌then◌else◌}
use Rattle.doc_model.specs.declared.action.DocAction.{DocAction}
use Rattle.doc_model.specs.declared.entry.Entry.{Entry}
use Rattle.doc_model.specs.declared.request.Request.{Request}
use Rattle.doc_model.specs.declared.request.Request.TheVariants.{Apply, Rename, Undo}
use Rattle.doc_model.specs.declared.user.User.{User}
use Rattle.doc_model.specs.Document.{Document}
use Rattle.record_lines.specs.Printed.{record_text}
use Rattle.undo_bundles.specs.BundleLog.{undo_of}
use Rattle.user_actions.specs.StepLaws.{action_of}
use Rattle.bundle_judge.specs.Judgement.{Judgement, accepted, refused, judge}
use Rattle.bundle_core.specs.State.{Holder, State, session_of, step, verdicts}
use Rattle.bundle_judge.specs.Undo.{judge_own_undo}
use Rattle.bundle_core.specs.Renaming.{judge_renaming}

-- the actions that a judgement accepts
abbrev pub actions_of : Judgement → List DocAction
actions_of (accepted s steps ms) = map action_of steps
actions_of (refused v) = []

-- those that are accepted of what an open session asks for: a bundle, an undo or a renaming
abbrev pub actions_asked : Holder → Document → Request → List DocAction
actions_asked h s (Apply actions) = actions_of (judge h.user s actions)
actions_asked h s (Undo number) = actions_of (judge_own_undo h.user (undo_of h.log number) s)
actions_asked h s (Rename table column new) =
    actions_of (judge_renaming h.user s table column new)
actions_asked h s _ = []

-- those of an entry
abbrev pub bundle_actions : State → Entry → List DocAction
bundle_actions st e =
    elim (session_of e.session st) [
      | None ↦ []
      | Some o ↦ actions_asked o.holder st.document e.request
    ]

-- the record of an entry with that number: there is one where its bundle is accepted and kept
abbrev pub record_at : List User → State → ℕ → Entry → List (List ℕ)
record_at users st n e =
    if (verdicts users st e).is_bundle then record_text n (bundle_actions st e) ∷ [] else []

-- told records, with that of an entry
abbrev pub with_record : List User → State → Entry → Option (List (List ℕ))
    → Option (List (List ℕ))
with_record users st e told = option_map (λ rs. rs ++ record_at users st (length rs) e) told

-- the records of a history, numbered from there on
abbrev pub records_of : List User → State → ℕ → List Entry → List (List ℕ)
records_of users st n [] = []
records_of users st n (e ∷ es) =
    record_at users st n e
    ++ records_of users (step users st e) (n + length (record_at users st n e)) es

-- how many entries the keeper failed at
abbrev pub not_kept : List Entry → ℕ
not_kept [] = 0
not_kept (e ∷ es) = if e.kept then not_kept es else not_kept es + 1
