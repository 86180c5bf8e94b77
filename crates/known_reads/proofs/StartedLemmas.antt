-- All formula cells evaluated one after the other.
use Rattle.std.proofs.Common.{ℕ, ◌+◌, ◌≤◌, true, false, ◌||◌, List, [], ◌∷◌, inl, inr, cond, map, length, ◌≡◌, refl, sym, ap, ◌∙◌, subst, Option, None, Some, arith}
use Rattle.std.proofs.lemmas.Bool.{false≢true, or_right}
use Rattle.std.specs.List.{AllByRecursion}
use Rattle.std.specs.Option.{is_some}
use Rattle.cell_types.specs.declared.cell.CellId.{CellId}
use Rattle.doc_model.specs.declared.column.ColDef.{ColDef}
use Rattle.doc_model.specs.Document.{Document}
use Rattle.doc_model.specs.Grid.{Grid}
use Rattle.doc_model.proofs.Choices.{each_weaker}
use Rattle.dep_graph.specs.Graph.{Graph}
use Rattle.recalc.specs.declared.kept.KeptTable.{KeptTable}
use Rattle.recalc.specs.Cells.{cell_of, same_cell}
use Rattle.recalc.specs.Evaluated.{cells_of_column, formula_at, formula_cells, sheet_of}
use Rattle.recalc.specs.Kept.{IsEvaluated, IsFurther, IsSettled, blank_table, held_at, table_part}
use Rattle.recalc.specs.Sheet.{IsIn}
use Rattle.recalc.specs.Stack.{is_open, on}
use Rattle.recalc.proofs.KeptLemmas.{blank_held}
use Rattle.recalc.proofs.Progress.{further_next, further_start, known_value}
use Rattle.recalc.proofs.SheetLemmas.{is_sheet}
use Rattle.recalc.proofs.Turn.{same_itself}
use Rattle.affected_cells.specs.Bound.{attempt_bound}
use Rattle.affected_search.specs.ExactNotes.{HasNoReads, HasNotesOf}
use Rattle.affected_search.proofs.ExactNotes.{none_exact}
use Rattle.affected_values.specs.Taken.{IsHeldWhere}
use Rattle.known_reads.specs.Attempts.{HasFormulas, IsSpent, IsWithin, due, most_attempts}
use Rattle.known_reads.specs.Beside.{Beside, KnowsOthers}
use Rattle.known_reads.specs.Known.{KeepsReads}
use Rattle.known_reads.specs.Walked.{AreHeld, IsWalked}
use Rattle.known_reads.proofs.BoundLemmas.{bound_all, due_within, most_all, spent_next, spent_none, spent_within, within_next}
use Rattle.known_reads.proofs.RecordedLemmas.{recording_next, recording_none}

pub walked_start : (s : Document) (ks : List KeptTable) (known : Beside) (n : ℕ) → IsSettled s ks → IsWalked s ks known n ks known n
walked_start s ks known n settled = record {
  further = further_start s ks settled;
  recording = recording_none s (held_at s ks) known;
  attempts = spent_none (sheet_of s) (held_at s ks) [] (due n known) refl;
  owed = refl;
}

pub walked_next : (s : Document) (ks ls ms : List KeptTable) (old mid new : Beside) (n m p : ℕ) → IsWalked s ks old n ls mid m → IsWalked s ls mid m ms new p → IsWalked s ks old n ms new p
walked_next s ks ls ms old mid new n m p a b = record {
  further = further_next s ks ls ms a.further b.further;
  recording = recording_next s (held_at s ks) (held_at s ls) (held_at s ms) old mid new a.recording b.recording;
  attempts = spent_next (sheet_of s) (held_at s ks) (held_at s ls) (held_at s ms) [] [] [] (due n old) (due m mid) (due p new) a.further.stays a.attempts b.attempts;
  owed = b.owed ∙ a.owed;
}

-- where the graph and the stale cells stay
pub walked_same : (s : Document) (ks ls : List KeptTable) (old mid new : Beside) (n m : ℕ) → new.graph ≡ mid.graph → new.stale ≡ mid.stale → new.owed ≡ mid.owed → IsWalked s ks old n ls mid m → IsWalked s ks old n ls new m
walked_same s ks ls old mid new n m graph stale owed a = record {
  further = a.further;
  recording = record {
    read = λ c none some fresh. subst (λ (g : Graph). HasNotesOf g (sheet_of s) c) (sym graph) (a.recording.read c none some (sym (ap (λ l. on l c) stale) ∙ fresh));
    others = subst (λ (g : Graph). KeepsReads (sheet_of s) old.graph g) (sym graph) a.recording.others;
    stale = λ c h. ap (λ l. on l c) stale ∙ a.recording.stale c h;
  };
  attempts = subst (λ (l : List CellId). IsSpent (sheet_of s) (held_at s ks) [] (due n old) (held_at s ls) [] (m + length l)) (sym stale) a.attempts;
  owed = owed ∙ a.owed;
}

-- no more attempts than it takes, whether or not the last step could be done
pub walked_within : (s : Document) (ks ls : List KeptTable) (old mid : Beside) (n m p : ℕ) → IsWalked s ks old n ls mid m → IsWithin (sheet_of s) (held_at s ls) (due m mid) p → IsWithin (sheet_of s) (held_at s ks) (due n old) p
walked_within s ks ls old mid n m p walked last = within_next (sheet_of s) (held_at s ks) (held_at s ls) (due n old) (due m mid) p walked.further.stays walked.attempts last

pub walked_done : (s : Document) (ks ls : List KeptTable) (old new : Beside) (n m : ℕ) → IsWalked s ks old n ls new m → IsWithin (sheet_of s) (held_at s ks) (due n old) m
walked_done s ks ls old new n m walked = due_within (sheet_of s) (held_at s ks) (due n old) m new (spent_within (sheet_of s) (held_at s ks) (held_at s ls) [] (due n old) (due m new) refl walked.attempts)

-- what is known stays known
pub held_later : (s : Document) (ls ms : List KeptTable) → IsFurther s ls ms → (c : CellId) → IsHeldWhere s ls c → IsHeldWhere s ms c
held_later s ls ms further c h there = further.stays c (h there)

pub all_later : (s : Document) (ls ms : List KeptTable) → IsFurther s ls ms → (cells : List CellId) → AreHeld s ls cells → AreHeld s ms cells
all_later s ls ms further cells all = each_weaker (IsHeldWhere s ls) (IsHeldWhere s ms) (held_later s ls ms further) cells all

-- a data column has no formula cells
pub data_held : (s : Document) (ks : List KeptTable) (t : List ℕ) (g : Grid ColDef) (d : ColDef) → d.info.is_formula ≡ false → AreHeld s ks (cells_of_column t g d)
data_held s ks t g d is = subst (λ b. AllByRecursion (IsHeldWhere s ks) (cond b (map (cell_of t d.id) g.rows) [])) (sym is) tt

pub plain_held : (s : Document) (ks : List KeptTable) (c : CellId) → formula_at s c ≡ None → IsHeldWhere s ks c
plain_held s ks c e there = absurd (false≢true (sym (ap is_some e) ∙ there))

-- what is settled with each value known is evaluated
pub all_evaluated : (s : Document) (ks : List KeptTable) → IsSettled s ks → ((c : CellId) → IsHeldWhere s ks c) → IsEvaluated s ks
all_evaluated s ks settled held = record {
  of_document = settled.of_document;
  values = λ c f e. known_value s ks settled c (held c (ap is_some e));
}

in_on : (c : CellId) (cs : List CellId) → IsIn c cs → on cs c ≡ true
in_on c [] i = absurd i
in_on c (d ∷ ds) (inl e) = ap (λ b. b || on ds c) (ap (same_cell d) (sym e) ∙ same_itself d)
in_on c (d ∷ ds) (inr i) = or_right (same_cell d c) (on ds c) (in_on c ds i)

-- within what it takes to evaluate all
module _ (s : Document) (ks : List KeptTable) (old : Beside) (n last : ℕ) (none : old.stale ≡ []) (within : IsWithin (sheet_of s) (held_at s ks) (due n old) last) where
  pub few_within : last ≤ n + most_attempts (sheet_of s) (formula_cells s)
  few_within =
      let spent = within.twice (formula_cells s) (λ c opened. (is_sheet s).listed c opened.0.0 opened.0.1) in
      let few = most_all (sheet_of s) (formula_cells s) (is_open (held_at s ks)) in
      let first = ap length none in
      omega (arith, spent, few, first)

  pub named_within : (all : List CellId) → HasFormulas s (formula_cells s) all → last ≤ n + attempt_bound (sheet_of s) all
  named_within all has =
      let spent = within.named all (λ c opened. has c (in_on c (formula_cells s) ((is_sheet s).listed c opened.0.0 opened.0.1)) (ap is_some opened.0.1)) in
      let few = bound_all (sheet_of s) all (is_open (held_at s ks)) in
      let first = ap length none in
      omega (arith, spent, few, first)

-- from no values and no reads
module _ (s : Document) (ks ls : List KeptTable) (old new : Beside) (n m : ℕ) (walked : IsWalked s ks old n ls new m) where
  pub recorded_all : map table_part ks ≡ map blank_table s → HasNoReads old.graph → IsEvaluated s ls → KnowsOthers s new
  recorded_all blank none evaluated c fresh = by (formula_at s c) refl
    where
      by : (o : Option (List ℕ)) → formula_at s c ≡ o → HasNotesOf new.graph (sheet_of s) c
      by None e = walked.recording.others c (none_exact (sheet_of s) old.graph none c e)
      by (Some f) e = walked.recording.read c (ap is_some (blank_held s ks blank c)) (ap is_some (evaluated.values c f e)) fresh

  -- with the attempts that the stale cells take
  module _ (none : old.stale ≡ []) (last : ℕ) (more : last ≤ m + length new.stale) where
    pub few_attempts : last ≤ n + most_attempts (sheet_of s) (formula_cells s)
    few_attempts =
        let within = spent_within (sheet_of s) (held_at s ks) (held_at s ls) [] (due n old) (due m new) refl walked.attempts in
        let spent = within.twice (formula_cells s) (λ c opened. (is_sheet s).listed c opened.0.0 opened.0.1) in
        let few = most_all (sheet_of s) (formula_cells s) (is_open (held_at s ks)) in
        let first = ap length none in
        omega (arith, spent, few, first, more)

    pub named_attempts : (all : List CellId) → HasFormulas s (formula_cells s) all → last ≤ n + attempt_bound (sheet_of s) all
    named_attempts all has =
        let within = spent_within (sheet_of s) (held_at s ks) (held_at s ls) [] (due n old) (due m new) refl walked.attempts in
        let spent = within.named all (λ c opened. has c (in_on c (formula_cells s) ((is_sheet s).listed c opened.0.0 opened.0.1)) (ap is_some opened.0.1)) in
        let few = bound_all (sheet_of s) all (is_open (held_at s ks)) in
        let first = ap length none in
        omega (arith, spent, few, first, more)
