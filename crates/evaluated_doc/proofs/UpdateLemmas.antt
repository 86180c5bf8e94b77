-- An update of a document of which values are kept.
use Rattle.std.proofs.Common.{ℕ, true, false, cond, filter, ◌||◌, List, [], ◌∷◌, ◌≡◌, refl, sym, ap, ◌∙◌, subst, unwrap_or}
use Rattle.std.proofs.lemmas.Bool.{false≢true}
use Rattle.std.specs.Option.{is_some}
use Rattle.cell_types.specs.declared.cell.CellId.{CellId}
use Rattle.cell_types.specs.declared.cell.CellOld.{CellOld}
use Rattle.doc_model.specs.declared.action.DocAction.{DocAction}
use Rattle.doc_model.specs.declared.action.DocAction.TheVariants.{AddColumn, AddTable, BulkAdd, BulkRemove, BulkUpdate, ModifyColumn, RemoveColumn, RemoveTable, RenameColumn, RenameTable}
use Rattle.doc_model.specs.declared.column.CellColumn.{CellColumn}
use Rattle.doc_model.specs.Apply.{apply}
use Rattle.doc_model.specs.Document.{Document}
use Rattle.doc_model.specs.DocumentLaws.{IsWhole}
use Rattle.doc_model.specs.Valid.{valid}
use Rattle.dep_graph.specs.declared.numbers.CellNumber.{CellNumber}
use Rattle.dep_graph.specs.Graph.{Graph}
use Rattle.dep_graph.specs.Named.{Were}
use Rattle.recalc.specs.declared.kept.KeptTable.{KeptTable}
use Rattle.recalc.specs.Current.{has_formula, has_formulas}
use Rattle.recalc.specs.Evaluated.{filled, formula_at}
use Rattle.recalc.specs.Kept.{IsEvaluated, IsKeptOf, held_at}
use Rattle.recalc.specs.Lost.{all_cells, is_lost, lost}
use Rattle.recalc.specs.MayLose.{MayLoseLaw, is_record, may_lose}
use Rattle.affected_cells.proofs.UpdateTouches.{after, same_columns, same_formula}
use Rattle.affected_search.specs.Actions.{KeepsOthers}
use Rattle.affected_search.specs.Narrow.{NarrowLaw, is_narrow}
use Rattle.affected_values.specs.declared.taking.HeldValue.{HeldValue}
use Rattle.affected_values.specs.SamePlaces.{HasSamePlaces}
use Rattle.affected_values.specs.Taken.{IsRightBut, LeadsBack, taken_of}
use Rattle.affected_values.specs.WaysBack.{LeadsOver, LeadsOverLaw, WayBackLaw}
use Rattle.affected_values.proofs.SamePlaces.{left_right, same_places}
use Rattle.known_reads.specs.Beside.{Beside, KnowsExact, ReadsSameBut}
use Rattle.known_reads.specs.Recorded.{KnowsBut}
use Rattle.known_reads.specs.Watched.{AreBefore}
use Rattle.known_reads.proofs.BesideLemmas.{read_same, reads_same}
use Rattle.evaluated_doc.specs.Update.{HasFound, LeadsFrom, is_update}

update_parts : (a : DocAction) → is_update a ≡ true → (t : List ℕ) × (rows : List ℕ) × (ks : List CellColumn) × (a ≡ BulkUpdate t rows ks)
update_parts (BulkUpdate t rows ks) h = (t, rows, ks, refl)
update_parts (BulkAdd t rows ks) h = absurd (false≢true h)
update_parts (BulkRemove t rows) h = absurd (false≢true h)
update_parts (AddTable t r cs) h = absurd (false≢true h)
update_parts (RemoveTable t) h = absurd (false≢true h)
update_parts (RenameTable t n) h = absurd (false≢true h)
update_parts (AddColumn t d) h = absurd (false≢true h)
update_parts (RemoveColumn t c) h = absurd (false≢true h)
update_parts (RenameColumn t c n) h = absurd (false≢true h)
update_parts (ModifyColumn t c i) h = absurd (false≢true h)

-- an update is an action on records
pub of_records : (a : DocAction) → is_update a ≡ true → is_record a ≡ true
of_records a update = let u = update_parts a update in ap is_record u.3

-- the cells that an action on records loses are among the found and the written ones
pub lost_narrow : NarrowLaw → (s next : Document) (a : DocAction) → valid s a ≡ true → is_record a ≡ true → next ≡ apply s a → (graph : Graph) (found : List CellNumber) → IsWhole s → KeepsOthers s graph a found
    → filter (is_lost (filled next) a) (filter (is_narrow graph found (filled s) a) (all_cells (filled s))) ≡ lost s next a
lost_narrow law s next a ok records done graph found whole keeps =
    subst (λ d. filter (is_lost (filled d) a) (filter (is_narrow graph found (filled s) a) (all_cells (filled s))) ≡ lost s d a) (sym done) (sym (law s a graph found whole ok records keeps))

-- the cells that an action loses are among those that it may lose
pub lost_watched : MayLoseLaw → (s next : Document) (a : DocAction) → valid s a ≡ true → next ≡ apply s a → IsWhole s → (cells left : List CellOld)
    → cells ≡ filter (may_lose (filled s) a) (all_cells (filled s)) → left ≡ filter (is_lost (filled next) a) cells → left ≡ lost s next a
lost_watched law s next a ok done whole cells left watched kept =
    kept ∙ ap (filter (is_lost (filled next) a)) watched ∙ subst (λ d. filter (is_lost (filled d) a) (filter (may_lose (filled s) a) (all_cells (filled s))) ≡ lost s d a) (sym done) (sym (law s a whole ok))

module _ (s next : Document) (a : DocAction) (ok : valid s a ≡ true) (update : is_update a ≡ true) (done : next ≡ apply s a) where
  abbrev t : List ℕ
  t = (update_parts a update).0

  abbrev rows : List ℕ
  rows = (update_parts a update).1

  abbrev ks : List CellColumn
  ks = (update_parts a update).2

  is : a ≡ BulkUpdate t rows ks
  is = (update_parts a update).3

  valid_so : valid s (BulkUpdate t rows ks) ≡ true
  valid_so = subst (λ a. valid s a ≡ true) is ok

  next_so : next ≡ apply s (BulkUpdate t rows ks)
  next_so = done ∙ ap (apply s) is

  pub places : (kept : List KeptTable) → HasSamePlaces s next kept
  places kept = subst (λ d. HasSamePlaces s d kept) (sym next_so) (same_places s t rows ks kept)

  pub right : (graph : Graph) (cells : List CellId) (kept : List KeptTable) → HasFound s graph a cells → IsEvaluated s kept → IsRightBut next kept cells
  right graph cells kept found known =
      subst (λ d. IsRightBut d kept cells) (sym next_so) (left_right s t rows ks graph found.found cells kept valid_so (subst (λ a. KeepsOthers s graph a found.found) is found.keeps) found.named known)

  pub same_reads : (graph : Graph) (cells : List CellId) → HasFound s graph a cells → ReadsSameBut s next cells
  same_reads graph cells found =
      subst (λ d. ReadsSameBut s d cells) (sym next_so) (reads_same s t rows ks graph found.found cells valid_so (subst (λ a. KeepsOthers s graph a found.found) is found.keeps) found.named)

  formula_stays : (c : CellId) → formula_at next c ≡ formula_at s c
  formula_stays c = ap (λ d. formula_at d c) next_so ∙ ap (λ b. formula_at (cond b (after t rows ks s) s) c) valid_so ∙ same_formula t rows ks s c

  pub leads : LeadsOverLaw → (known : Beside) (cells : List CellId) (log : List Were) (taken : List HeldValue) (new old : List KeptTable) → AreBefore next known cells log → KnowsExact s known
      → IsEvaluated s old → IsEvaluated next new → LeadsBack next taken new old → LeadsFrom s next taken log
  leads law known cells log taken new old leads_back exact before now back = record {
    table = t;
    rows = rows;
    columns = ks;
    after = next_so;
    leads = subst (λ d. LeadsOver s d taken) (sym next_so) (law s t rows ks taken new old valid_so before (subst (λ d. IsEvaluated d new) next_so now) (subst (λ d. LeadsBack d taken new old) next_so back));
    reads = leads_back s exact.each (λ c other. ap is_some (formula_stays c));
  }

  -- the graph is right of each cell but the found ones after the update
  pub known_but : (known : Beside) (cells : List CellId) → HasFound s known.graph a cells → KnowsExact s known → KnowsBut next known cells
  known_but known cells found exact c fresh other =
      let same = same_reads known.graph cells found in
      read_same s next known.graph c (same.there c) (λ there. same.same c (same.there c ∙ there) other) (exact.each c)

  there : (c : CellId) → is_some (formula_at s c) ≡ true → is_some (formula_at next c) ≡ true
  there c h = ap is_some (formula_stays c) ∙ h

  -- values that are as they were, of the document before
  pub restored : (new old : List KeptTable) → IsEvaluated s old → IsKeptOf next new → LeadsBack next [] new old → IsEvaluated s new
  restored new old before kept back = record {
    of_document = (places new).back kept;
    values = λ c f e. sym ((places new).held c) ∙ back c (there c (ap is_some e)) ∙ (places old).held c ∙ before.values c f e;
  }

-- ---- the way back

module _ (s now : Document) (taken : List HeldValue) (log : List Were) (ks : List KeptTable) (led : LeadsFrom s now taken log) where
  pub kept_before : IsEvaluated now ks → IsKeptOf s ks
  kept_before known = (same_places s led.table led.rows led.columns ks).back (subst (λ d. IsKeptOf d ks) led.after known.of_document)

  pub values_before : WayBackLaw → (back : List KeptTable) → IsEvaluated now ks → IsKeptOf s back
      → ((c : CellId) → is_some (formula_at s c) ≡ true → held_at s back c ≡ unwrap_or (taken_of taken c) (held_at s ks c))
      → IsEvaluated s back
  values_before law back known kept put =
      law s led.table led.rows led.columns taken ks back (subst (λ d. LeadsOver s d taken) led.after led.leads) (subst (λ d. IsEvaluated d ks) led.after known) kept put

has_same : (id ids : List ℕ) (cs : List CellColumn) (s : Document) → has_formulas (after id ids cs s) ≡ has_formulas s
has_same id ids cs [] = refl
has_same id ids cs (u ∷ s) = λ i. has_formula (same_columns id ids cs u i) || has_same id ids cs s i

pub plain_before : (s now : Document) (taken : List HeldValue) (log : List Were) → LeadsFrom s now taken log → has_formulas now ≡ false → has_formulas s ≡ false
plain_before s now taken log led plain =
    elim (valid s (BulkUpdate led.table led.rows led.columns)) as (λ b. has_formulas (cond b (after led.table led.rows led.columns s) s) ≡ false → has_formulas s ≡ false) [
      | true ↦ λ h. sym (has_same led.table led.rows led.columns s) ∙ h
      | false ↦ λ h. h
    ] (subst (λ d. has_formulas d ≡ false) led.after plain)
