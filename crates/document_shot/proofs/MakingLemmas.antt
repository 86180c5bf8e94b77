-- What operations of a core's entries lead to.
use Rattle.std.proofs.Common.{◌≡◌, ℕ, Bool, true, false, List, [], ◌∷◌, ◌++◌, cond, map, length, refl, sym, ap, subst, ◌∙◌}
use mathlib.Core.Path.{fun_ext}
use Rattle.cell_types.specs.declared.value.CellValue.{CellValue}
use Rattle.doc_model.specs.Apply.{apply_all}
use Rattle.doc_model.specs.Document.{Document}
use Rattle.doc_model.specs.declared.action.DocAction.{DocAction}
use Rattle.recalc.specs.Evaluated.{filled, filled_by}
use Rattle.shot_cells.specs.Changes.{nothing_seen, seen_after}
use Rattle.shot_cells.specs.Places.{ByCell}
use Rattle.shot_cells.specs.declared.changes.CellChanges.{CellChanges}
use Rattle.shot_changes.specs.Leading.{LeadOn}
use Rattle.bundle_core.specs.Core.{CoreState}
use Rattle.bundle_core.specs.KeptCore.{state_now}
use Rattle.document_shot.specs.Shots.{Stands, shown_session}
use Rattle.document_shot.specs.declared.sessions.ShotSession.{ShotSession}

-- nothing that changes leads from a document to itself
pub nothing_leads : (s : Document) (c : CellChanges) → c.anew ≡ false → c.cells.items ≡ [] → c.gone.items ≡ [] → LeadOn s s c
nothing_leads s c same cells gone seen values =
    let after : seen_after c seen ≡ seen = search (same, cells, gone) in
    ap (λ f. filled_by f s) after ∙ values

-- all made anew, the values are seen whatever was seen before
pub anew_leads : (t : Document) (c : CellChanges) → LeadOn [] t c → filled_by (seen_after c nothing_seen) t ≡ filled t
anew_leads t c lead = lead nothing_seen refl

-- what is made of a core's document alone stands for the core's history
pub opening_stands : (core : CoreState) (actions : List DocAction) (cells : CellChanges) (sessions : List ShotSession) (entries : ℕ) (past : CoreState) → past ≡ core → actions ≡ []
    → filled_by (seen_after cells nothing_seen) (state_now core).document ≡ filled (state_now core).document → sessions ≡ map shown_session (state_now core).open_sessions → entries ≡ length core.history
    → Stands (record { document = apply_all (state_now core).document actions; seen = seen_after cells nothing_seen; sessions = sessions; entries = entries; past = past })
opening_stands core actions cells sessions entries past is none values open_sessions count =
    let t : Document = (state_now core).document in
    let at : apply_all t actions ≡ t = ap (apply_all t) none in
    let V : Document → Type 0 = λ d. filled_by (seen_after cells nothing_seen) d ≡ filled d in
    record {
      document = at ∙ ap (λ (c : CoreState). (state_now c).document) (sym is);
      values = subst V (sym at) values;
      sessions = open_sessions ∙ ap (λ (c : CoreState). map shown_session (state_now c).open_sessions) (sym is);
      entries = count ∙ ap (λ (c : CoreState). length c.history) (sym is);
    }
