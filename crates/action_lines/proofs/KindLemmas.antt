-- Kinds of user actions are read exactly from their words.
use Rattle.std.proofs.Common.{◌≡◌, ℕ, List, Some}
use Rattle.action_lines.specs.declared.kinds.ActionKind.{ActionKind}
use Rattle.action_lines.specs.declared.kinds.ActionKind.TheVariants as kind
use Rattle.action_lines.specs.Kinds.{kind_text, kind_from}
use Rattle.action_lines.proofs.StepLemmas.{name_step, name_end}

pub kind_takes : (t : List ℕ) (k : ActionKind) → kind_from t ≡ Some k → t ≡ kind_text k
kind_takes t =
    name_step kind_text t kind.AddRecord _ (name_step kind_text t kind.BulkAddRecord _ (name_step kind_text t kind.UpdateRecord _
    (name_step kind_text t kind.BulkUpdateRecord _ (name_step kind_text t kind.RemoveRecord _ (name_step kind_text t kind.BulkRemoveRecord _
    (name_step kind_text t kind.AddTable _ (name_step kind_text t kind.RemoveTable _ (name_step kind_text t kind.RenameTable _
    (name_step kind_text t kind.AddColumn _ (name_step kind_text t kind.RemoveColumn _ (name_step kind_text t kind.RenameColumn _
    (name_step kind_text t kind.ModifyColumn _ (name_end kind_text t)))))))))))))
