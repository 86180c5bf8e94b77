-- Operations lead from one shot to the next.
use Rattle.std.proofs.Common.{◌≡◌, List, [], ◌∷◌, ◌++◌, sym, ap, subst, ◌∙◌}
use Rattle.std.proofs.lemmas.List.Sums.{fold-append}
use Rattle.cell_types.specs.declared.value.CellValue.{CellValue}
use Rattle.doc_model.specs.Apply.{apply_all}
use Rattle.doc_model.specs.Document.{Document}
use Rattle.doc_model.specs.declared.entry.Entry.{Entry}
use Rattle.recalc.specs.Evaluated.{filled, filled_by}
use Rattle.shot_cells.specs.Changes.{seen_after}
use Rattle.shot_cells.specs.Places.{ByCell}
use Rattle.snap_reads.specs.Past.{Continues}
use Rattle.snap_reads.specs.declared.past.Past.{Past}
use Rattle.bundle_core.specs.KeptCore.{state_now}
use Rattle.document_shot.specs.Pasts.{past_of}
use Rattle.document_shot.specs.Shots.{Leads, Shown, Stands, applied, begun, shown_after, stepped}
use Rattle.document_shot.specs.declared.operation.DocumentOp.{DocumentOp}
use Rattle.document_shot.specs.declared.past.CoreStart.{CoreStart}
use Rattle.document_shot.specs.declared.trail.DocumentStep.{DocumentStep}
use Rattle.document_shot.specs.declared.trail.DocumentStep.TheVariants.{Then}

-- what is shown after one step more
pub shown_next : (steps : List DocumentStep) (op : DocumentOp)
    → shown_after (steps ++ Then op ∷ []) ≡ applied (shown_after steps) op
shown_next steps op = fold-append stepped (begun []) steps (Then op ∷ [])

leads_on : (v : Shown) (op : DocumentOp) → Stands v → Leads (past_of v.past) op
    → Stands (applied v op)
leads_on v op h l =
    let t : Document = (state_now op.past).document in
    let actions = op.changes.actions in
    let at : apply_all v.document actions ≡ t =
    ap (λ d. apply_all d actions) h.document ∙ sym l.document in
    let seen : ByCell CellValue = seen_after op.changes.cells v.seen in
    let V : Document → Type 0 = λ d. filled_by v.seen d ≡ filled d in
    let W : Document → Type 0 = λ d. filled_by seen d ≡ filled d in
    record {
      document = at;
      values = subst W (sym at) (l.values v.seen (subst V h.document h.values));
      sessions = l.sessions;
      entries = l.entries;
    }

pub moves : (steps : List DocumentStep) (op : DocumentOp)
    → past_of (shown_after (steps ++ Then op ∷ [])).past ≡ past_of op.past
moves steps op = ap (λ (v : Shown). past_of v.past) (shown_next steps op)

pub keeps : (steps : List DocumentStep) (op : DocumentOp) → Stands (shown_after steps)
    → Leads (past_of (shown_after steps).past) op → Stands (shown_after (steps ++ Then op ∷ []))
keeps steps op h l =
    let P : Shown → Type 0 = λ v. Stands v in
    subst P (sym (shown_next steps op)) (leads_on (shown_after steps) op h l)

pub continues : (p : Past CoreStart Entry) (op : DocumentOp) → Leads p op
    → Continues p (past_of op.past)
continues p op l = l.continues
