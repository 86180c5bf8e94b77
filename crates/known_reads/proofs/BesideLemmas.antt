-- A graph beside the values of a document.
use Rattle.std.proofs.Common.{ℕ, Bool, true, false, cond, not, ◌||◌, List, [], ◌≡◌, refl, sym, ap, ◌∙◌, subst, Option, Some, None}
use Rattle.std.proofs.lemmas.Bool.{true≢false, false≢true}
use Rattle.std.specs.Option.{is_some}
use Rattle.cell_types.specs.declared.cell.CellId.{CellId}
use Rattle.doc_model.specs.declared.action.DocAction.TheVariants.{BulkUpdate}
use Rattle.doc_model.specs.Apply.{apply}
use Rattle.doc_model.specs.Document.{Document}
use Rattle.dep_graph.specs.Graph.{Graph}
use Rattle.recalc.specs.Evaluated.{formula_at, sheet_of}
use Rattle.recalc.specs.Stack.{on}
use Rattle.affected_cells.specs.Noted.{notes, notes_by}
use Rattle.affected_cells.proofs.Unaffected.{all_values}
use Rattle.affected_cells.proofs.UpdateTouches.{after, same_formula}
use Rattle.affected_search.specs.ExactNotes.{HasNotes, HasNotesOf}
use Rattle.affected_search.proofs.ExactNotes.{same_exact}
use Rattle.affected_search.specs.Sheets.{is_found}
use Rattle.known_reads.specs.Beside.{Beside, KnowsExact, KnowsOthers, KnowsReads, KnowsWith, ReadsSameLaw, is_stale}
use Rattle.known_reads.specs.Known.{AreRead, IsRead}
use Rattle.known_reads.specs.Laid.{all_laid}
use Rattle.known_reads.proofs.WereLemmas.{known_exact}

-- ---- what is known

pub exact_others : (s : Document) (known : Beside) → KnowsExact s known → KnowsOthers s known
exact_others s known exact c fresh = exact.each c

-- nothing is laid aside
pub exact_reads : (s : Document) (known : Beside) → known.stale ≡ [] → known.owed ≡ [] → HasNotes known.graph (sheet_of s) → KnowsReads s known
exact_reads s known none owed each = record { none = none; each = subst (λ l. KnowsWith s known.graph (all_laid l)) (sym owed) each }

pub reads_exact : (s : Document) (known : Beside) → known.owed ≡ [] → KnowsReads s known → KnowsExact s known
reads_exact s known owed knows = record { none = knows.none; owed = owed; each = known_exact s known.graph (all_laid known.owed) (ap all_laid owed) knows.each }

-- where the graph and what is laid aside stay
pub exact_stays : (s : Document) (old new : Beside) → new.graph ≡ old.graph → new.stale ≡ old.stale → new.owed ≡ old.owed → KnowsExact s old → KnowsExact s new
exact_stays s old new graph stale owed exact = record {
  none = stale ∙ exact.none;
  owed = owed ∙ exact.owed;
  each = subst (λ (g : Graph). HasNotes g (sheet_of s)) (sym graph) exact.each;
}

-- ---- all notes

-- what holds of each cell that is stale, and of each other one, holds of all
pub all_known : (s : Document) (graph : Graph) (stale : List CellId) → AreRead s graph stale → ((c : CellId) → on stale c ≡ false → IsRead s graph c) → HasNotes graph (sheet_of s)
all_known s graph stale read others c = by (on stale c) refl
  where
    by : (b : Bool) → on stale c ≡ b → HasNotesOf graph (sheet_of s) c
    by true here = read c here
    by false here = others c here

-- ---- over a change

-- notes that are the same where there is a formula, in both or in neither
pub same_notes : (s t : Document) (c : CellId) → is_some (formula_at s c) ≡ is_some (formula_at t c) → (is_some (formula_at t c) ≡ true → notes (sheet_of s) c ≡ notes (sheet_of t) c) → notes (sheet_of s) c ≡ notes (sheet_of t) c
same_notes s t c there same = by (formula_at s c) (formula_at t c) refl refl
  where
    by : (o p : Option (List ℕ)) → formula_at s c ≡ o → formula_at t c ≡ p → notes (sheet_of s) c ≡ notes (sheet_of t) c
    by o (Some f) e g = same (ap is_some g)
    by None None e g = ap (notes_by (sheet_of s) (all_values (sheet_of s)) c) e ∙ sym (ap (notes_by (sheet_of t) (all_values (sheet_of t)) c) g)
    by (Some f) None e g = absurd (true≢false (sym (ap is_some e) ∙ there ∙ ap is_some g))

pub read_same : (s t : Document) (graph : Graph) (c : CellId) → is_some (formula_at s c) ≡ is_some (formula_at t c) → (is_some (formula_at t c) ≡ true → notes (sheet_of s) c ≡ notes (sheet_of t) c) → IsRead s graph c → IsRead t graph c
read_same s t graph c there same read = same_exact graph (sheet_of s) (sheet_of t) c there (same_notes s t c there same) read

-- ---- over an update

pub reads_same : ReadsSameLaw
reads_same s t rows ks graph found cells ok keeps named = record {
  there = λ c. sym (ap is_some (formula_same c));
  same = λ c there other. by_formula c (formula_at s c) refl there other;
}
  where
    formula_same : (c : CellId) → formula_at (apply s (BulkUpdate t rows ks)) c ≡ formula_at s c
    formula_same c = ap (λ b. formula_at (cond b (after t rows ks s) s) c) ok ∙ same_formula t rows ks s c

    not_found : (c : CellId) → on cells c ≡ false → is_found graph found c ≡ false
    not_found c other = by (is_found graph found c) refl
      where
        by : (b : Bool) → is_found graph found c ≡ b → b ≡ false
        by true e = absurd (true≢false (sym (named c e) ∙ other))
        by false e = refl

    by_formula : (c : CellId) (o : Option (List ℕ)) → formula_at s c ≡ o → is_some o ≡ true → on cells c ≡ false → notes (sheet_of s) c ≡ notes (sheet_of (apply s (BulkUpdate t rows ks))) c
    by_formula c None e there other = absurd (false≢true there)
    by_formula c (Some f) e there other = sym (keeps ok c f (formula_same c ∙ e) (ap (λ o. not (is_some o) || false) e) (not_found c other)).1
