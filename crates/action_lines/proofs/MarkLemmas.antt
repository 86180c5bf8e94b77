-- Marks and names of errors are read exactly from their texts.
use Rattle.std.proofs.Common.{◌≡◌, ℕ, List, Some, refl}
use Rattle.cell_types.specs.declared.value.ErrKind.{ErrKind}
use Rattle.cell_types.specs.declared.value.ErrKind.TheVariants as kind
use Rattle.cell_types.specs.ValueText.{err_text}
use Rattle.action_lines.specs.declared.marks.Mark.{Mark}
use Rattle.action_lines.specs.declared.marks.Mark.TheVariants as mark
use Rattle.action_lines.specs.Marks.{mark_text, mark_from, error_from}
use Rattle.action_lines.proofs.StepLemmas.{name_step, name_end}

pub mark_takes : (t : List ℕ) (m : Mark) → mark_from t ≡ Some m → t ≡ mark_text m
mark_takes t =
    name_step mark_text t mark.List _ (name_step mark_text t mark.Date _ (name_step mark_text t mark.Rec _
    (name_step mark_text t mark.Rows _ (name_step mark_text t mark.Err _ (name_step mark_text t mark.Censored _ (name_end mark_text t))))))

pub error_takes : (t : List ℕ) (k : ErrKind) → error_from t ≡ Some k → t ≡ err_text k
error_takes t =
    name_step err_text t kind.Circular _ (name_step err_text t kind.ZeroDivision _ (name_step err_text t kind.WrongType _
    (name_step err_text t kind.Attribute _ (name_step err_text t kind.Key _ (name_step err_text t kind.Name _
    (name_step err_text t kind.Overflow _ (name_step err_text t kind.Syntax _ (name_end err_text t))))))))

pub error_again : (k : ErrKind) → error_from (err_text k) ≡ Some k
error_again kind.Circular = refl
error_again kind.ZeroDivision = refl
error_again kind.WrongType = refl
error_again kind.Attribute = refl
error_again kind.Key = refl
error_again kind.Name = refl
error_again kind.Overflow = refl
error_again kind.Syntax = refl
