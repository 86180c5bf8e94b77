-- Denials of steps of which one alone is checked.
use Rattle.std.proofs.Common.{◌≡◌, ◌∙◌, ap, refl, ℕ, Bool, false, cond, ◌||◌, List, [], ◌∷◌, Option, Some, None}
use Rattle.std.specs.List.{list_any}
use Rattle.std.proofs.lemmas.Bool.{or_parts}
use Rattle.std.proofs.lemmas.List.Folds.{list_any-append}
use Rattle.cell_types.specs.declared.value.CellValue.{CellValue}
use Rattle.doc_model.specs.declared.action.DocAction.{DocAction}
use Rattle.doc_model.specs.declared.action.DocAction.TheVariants.{BulkUpdate}
use Rattle.doc_model.specs.declared.action.Step.{Step}
use Rattle.doc_model.specs.declared.column.ColDef.{ColDef}
use Rattle.doc_model.specs.Apply.{apply}
use Rattle.doc_model.specs.Document.{Document}
use Rattle.doc_model.specs.Grid.{Grid}
use Rattle.doc_model.specs.ViewEdits.{if_any}
use Rattle.doc_readers.specs.Parts.{grid_at}
use Rattle.acl_rules.specs.declared.decision.Ctx.{Ctx}
use Rattle.acl_checks.specs.Checks.{checks_of}
use Rattle.acl_checks.specs.Denials.{first_denied}
use Rattle.recalc.specs.Evaluated.{filled}
use Rattle.user_actions.specs.declared.referrers.Referrer.{Referrer}
use Rattle.user_actions.specs.CellUpdates.{column_changed, rows_changed, update_changed}
use Rattle.user_actions.specs.Marked.{direct, indirect}
use Rattle.user_actions.specs.References.{cleared, clearings, rows_staying}
use Rattle.rule_contexts.specs.Context.{carry}
use Rattle.bundle_judge.specs.declared.bare_verdict.BareVerdict.{BareVerdict}
use Rattle.bundle_judge.specs.Denials.{denial_of, denied_by, or_else}

abbrev pub is_direct : Step → Bool
is_direct e = e.direct

-- ---- steps that only follow

-- they are not checked
pub unchecked_denial : (x : Ctx) (s : Document) (i : ℕ) (steps : List Step) → list_any is_direct steps ≡ false → denial_of x s i steps ≡ None
unchecked_denial x s i [] h = refl
unchecked_denial x s i (e ∷ steps) h =
    let parts = or_parts e.direct (list_any is_direct steps) h in
    ap (λ b. or_else (denied_by x i (cond b (first_denied x (checks_of (filled s) (filled (apply s e.action)) e.action)) None)) (denial_of (carry e.action x) (apply s e.action) i steps)) parts.0
    ∙ unchecked_denial (carry e.action x) (apply s e.action) i steps parts.1

or_none : (o : Option BareVerdict) → or_else o None ≡ o
or_none None = refl
or_none (Some v) = refl

-- an action, and steps that follow from it
pub first_denial : (x : Ctx) (s : Document) (i : ℕ) (a : DocAction) (steps : List Step) → list_any is_direct steps ≡ false
    → denial_of x s i (direct a ∷ steps) ≡ denied_by x i (first_denied x (checks_of (filled s) (filled (apply s a)) a))
first_denial x s i a steps h =
    let its : Option BareVerdict = denied_by x i (first_denied x (checks_of (filled s) (filled (apply s a)) a)) in
    ap (or_else its) (unchecked_denial (carry a x) (apply s a) i steps h) ∙ or_none its

-- ---- which steps follow

pub update_follows : (table : List ℕ) (g : Grid ColDef) (c : List ℕ) (f : CellValue → CellValue) (rows : List ℕ) → list_any is_direct (update_changed table g c f rows) ≡ false
update_follows table g c f rows = there (rows_changed g c f rows) (BulkUpdate table (rows_changed g c f rows) (column_changed g c f (rows_changed g c f rows) ∷ []))
  where
    there : (changed : List ℕ) (a : DocAction) → list_any is_direct (if_any changed (indirect a)) ≡ false
    there [] a = refl
    there (r ∷ changed) a = refl

pub clearings_follow : (s : Document) (table gone : List ℕ) (ks : List Referrer) → list_any is_direct (clearings s table gone ks) ≡ false
clearings_follow s table gone [] = refl
clearings_follow s table gone (k ∷ ks) =
    let g = grid_at s k.table in
    let f = cleared gone k.column.info.ty in
    let rows = rows_staying s table gone k.table in
    list_any-append is_direct (update_changed k.table g k.column.id f rows) (clearings s table gone ks)
    ∙ ap (λ b. b || list_any is_direct (clearings s table gone ks)) (update_follows k.table g k.column.id f rows)
    ∙ clearings_follow s table gone ks
