-- What a graph has of the notes of an evaluated document.
use mathlib.Core.Path.{fun_ext}
use Rattle.std.proofs.Common.{ℕ, ◌≤◌, Bool, true, false, ◌||◌, List, [], ◌∷◌, length, ◌≡◌, refl, sym, ap, ◌∙◌, subst, Option, Some, None, Result, Ok, Err, OnErr, OnOk, is_err}
use Rattle.std.proofs.lemmas.Bool.{false≢true, true≢false}
use Rattle.std.specs.List.{AllByRecursion}
use Rattle.std.specs.Option.{is_some}
use Rattle.cell_types.specs.declared.cell.CellId.{CellId}
use Rattle.doc_model.specs.Document.{Document}
use Rattle.formula_eval.specs.Reader.{known as told_value, needed}
use Rattle.dep_graph.specs.Graph.{Graph, IsDropped, IsKept}
use Rattle.cell_types.specs.declared.value.CellValue.{CellValue}
use Rattle.recalc.specs.declared.kept.KeptTable.{KeptTable}
use Rattle.recalc.specs.Cells.{same_cell}
use Rattle.recalc.specs.Evaluated.{base_at, formula_at, sheet_of, value_of}
use Rattle.recalc.specs.Kept.{IsEvaluated, held_at}
use Rattle.recalc.specs.Sheet.{Sheet, evaluated, over, told_by}
use Rattle.recalc.specs.Stack.{on}
use Rattle.recalc.proofs.Progress.{EachOf, each_all}
use Rattle.recalc.proofs.SheetLemmas.{is_sheet}
use Rattle.recalc.proofs.Turn.{same_true}
use Rattle.affected_search.specs.Recording.{NeedsNone}
use Rattle.affected_search.proofs.ExactNotes.{dropped_exact, kept_exact}
use Rattle.affected_search.specs.NotedUpkeep.{NotesRecordedOf}
use Rattle.known_reads.specs.Known.{IsRead, KeepsReads}

module _ (s : Document) (ks : List KeptTable) (known : IsEvaluated s ks) where
  value_known : (c : CellId) (f : List ℕ) → formula_at s c ≡ Some f → held_at s ks c ≡ Some (evaluated (sheet_of s) c)
  unfolding value_of
  value_known c f e = known.values c f e

  -- what is told of a cell, all values known
  told_known : (c : CellId) → told_by (formula_at s c) (base_at s c) (held_at s ks c) ≡ told_by (formula_at s c) (base_at s c) (Some (evaluated (sheet_of s) c))
  told_known c = by (formula_at s c) refl
    where
      by : (o : Option (List ℕ)) → formula_at s c ≡ o → told_by o (base_at s c) (held_at s ks c) ≡ told_by o (base_at s c) (Some (evaluated (sheet_of s) c))
      by None e = refl
      by (Some f) e = ap (told_by (Some f) (base_at s c)) (value_known c f e)

  pub over_known : over (sheet_of s) (held_at s ks) ≡ over (sheet_of s) (λ d. Some (evaluated (sheet_of s) d))
  over_known = λ i. record { kind = (sheet_of s).kind; rows = (sheet_of s).rows; cell = (fun_ext told_known) i }

  pub needs_none : NeedsNone (over (sheet_of s) (held_at s ks))
  needs_none c h = by (formula_at s c) (sym (told_known c) ∙ h)
    where
      never : {v : CellValue} → told_value v ≡ needed → ⊥
      never e = cc

      by : (o : Option (List ℕ)) → told_by o (base_at s c) (Some (evaluated (sheet_of s) c)) ≡ needed → ⊥
      by None e = (is_sheet s).told c e
      by (Some f) e = never e

pub reads_kept : (s : Sheet) (old new : Graph) → IsKept old new → KeepsReads s old new
reads_kept s old new kept = kept_exact s old new kept

-- what holds in any case
pub at_err : {A E P : Type 0} (r : Result A E) → P → OnErr r P
at_err (Ok x) p = tt
at_err (Err e) p = p

pub from_ok : {A E P : Type 0} (r : Result A E) → is_err r ≡ false → OnOk r P → P
from_ok (Ok x) h p = p
from_ok (Err e) h p = absurd (true≢false h)

pub kept_either : {A E : Type 0} (s : Sheet) (old new : Graph) (c : CellId) (r : Result A E) → OnOk r (NotesRecordedOf new old s c) → OnErr r (KeepsReads s old new) → KeepsReads s old new
kept_either s old new c (Ok x) ok err = ok.keeps
kept_either s old new c (Err e) ok err = err

-- ---- cells recorded one after the other

pub read_stays : (s : Document) (old new : Graph) → KeepsReads (sheet_of s) old new → (c : CellId) → IsRead s old c → IsRead s new c
read_stays s old new keeps c read = keeps c read

-- what holds of each cell of a list holds of those on it
among_each : (P : CellId → Type 0) (cells : List CellId) → AllByRecursion P cells → (c : CellId) → on cells c ≡ true → P c
among_each P [] all c h = absurd (false≢true h)
among_each P (d ∷ cells) all c h = by (among_each P cells all.1 c) (same_cell d c) refl h
  where
    by : (on cells c ≡ true → P c) → (b : Bool) → same_cell d c ≡ b → (b || on cells c) ≡ true → P c
    by later true same h = subst P (same_true d c same) all.0
    by later false same h = later h

pub all_read : (P : CellId → Type 0) (cells : List CellId) (n : ℕ) → length cells ≤ n → EachOf P cells n → (c : CellId) → on cells c ≡ true → P c
all_read P cells n le all = among_each P cells (each_all P cells n le all)

-- ---- cells without formulas

no_formula : (o : Option (List ℕ)) → is_some o ≡ false → o ≡ None
no_formula None h = refl
no_formula (Some f) h = absurd (true≢false h)

-- the graph has just what the cell notes, where it is no formula cell
abbrev pub IsReadPlain : Document → Graph → CellId → Type 0
IsReadPlain s graph c = formula_at s c ≡ None → IsRead s graph c

pub forgotten : (s : Document) (old new : Graph) (c : CellId) → IsDropped old new c → is_some (formula_at s c) ≡ false → IsRead s new c × KeepsReads (sheet_of s) old new
forgotten s old new c dropped plain = let d = dropped_exact (sheet_of s) old new c dropped (no_formula (formula_at s c) plain) in (d.here, d.others)

pub plain_stays : (s : Document) (old new : Graph) → KeepsReads (sheet_of s) old new → (c : CellId) → IsReadPlain s old c → IsReadPlain s new c
plain_stays s old new keeps c read plain = keeps c (read plain)

pub not_plain : (s : Document) (graph : Graph) (c : CellId) → is_some (formula_at s c) ≡ true → IsReadPlain s graph c
not_plain s graph c there plain = absurd (true≢false (sym there ∙ ap is_some plain))
