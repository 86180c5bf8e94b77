-- Cells of an evaluated document evaluated anew.
use Rattle.std.proofs.Common.{[], List, refl, ap, ◌∙◌, Result, Ok, Err, OnOk, OnErr}
use Rattle.std.specs.Option.{is_some}
use Rattle.doc_model.specs.Document.{Document}
use Rattle.recalc.specs.declared.kept.KeptTable.{KeptTable}
use Rattle.recalc.specs.Kept.{IsEvaluated, IsKeptOf}
use Rattle.affected_values.specs.Taken.{LeadsBack}

-- values that are as they were
as_before : (s : Document) (new old : List KeptTable) → IsEvaluated s old → IsKeptOf s new → LeadsBack s [] new old → IsEvaluated s new
as_before s new old before kept back = record { of_document = kept; values = λ c f e. back c (ap is_some e) ∙ before.values c f e }

-- values that are right, or as they were
pub evaluated_still : {X E : Type 0} (s : Document) (new old : List KeptTable) (r : Result X E) → OnOk r (IsEvaluated s new) → OnErr r (LeadsBack s [] new old) → IsEvaluated s old → IsKeptOf s new → IsEvaluated s new
evaluated_still s new old (Ok x) ok err before kept = ok
evaluated_still s new old (Err e) ok err before kept = as_before s new old before kept err

-- values that nothing was done to
pub as_they_were : {X E : Type 0} (s : Document) (ks : List KeptTable) (r : Result X E) → OnErr r (LeadsBack s [] ks ks)
as_they_were s ks (Ok x) = tt
as_they_were s ks (Err e) = λ c there. refl
