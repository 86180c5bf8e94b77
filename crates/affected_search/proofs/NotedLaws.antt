-- What is found by the graph of what formula cells note is closed in the sheet.
use Rattle.std.proofs.Common.{ℕ, Bool, true, false, ◌||◌, List, [], ◌∷◌, ◌++◌, map, ◌≡◌, inl, inr, refl, sym, ap, ◌∙◌, subst, Option, Some, None, cond}
use Rattle.std.proofs.lemmas.Bool.{false≢true, or_left, or_right, or_parts, or_from}
use Rattle.std.specs.List.{AllByRecursion}
use Rattle.std.specs.Option.{is_some}
use Rattle.cell_types.specs.declared.cell.CellId.{CellId}
use Rattle.cell_types.specs.declared.cell.KeyItem.{KeyItem}
use Rattle.cell_types.specs.declared.cell.Read.TheVariants.{Cell, Key, Rows}
use Rattle.doc_model.specs.Rows.{has}
use Rattle.doc_model.proofs.Choices.{false_from}
use Rattle.formula_eval.specs.declared.note.Note.{Note}
use Rattle.formula_eval.specs.declared.note.Note.TheVariants as note
use Rattle.formula_eval.specs.Lookup.{kept_row, matched_in, scan}
use Rattle.formula_eval.specs.Run.{both, gives, reads_of}
use Rattle.formula_eval.proofs.TextLaws.{text_notes}
use Rattle.recalc.specs.Cells.{cell_of}
use Rattle.recalc.specs.Sheet.{Sheet, Values, over, row_of}
use Rattle.affected_cells.specs.Met.{IsUnmet, IsUnmetRow, IsSameKey, IsSameKind}
use Rattle.affected_cells.specs.Noted.{IsClosedByNotes, IsUntouchedMet, IsUntouchedNote, notes, notes_by}
use Rattle.affected_cells.specs.TouchedRight.{IsSameCell}
use Rattle.affected_cells.specs.Untouched.{IsUntouchedCell}
use Rattle.affected_cells.proofs.MetAlike.{met_law}
use Rattle.affected_cells.proofs.Tests.{all_weaker}
use Rattle.affected_cells.proofs.Unaffected.{all_values, reads_noted, unaffected_notes_law}
use Rattle.dep_graph.proofs.NameLaws.{cell_stays, numbers_stay}
use Rattle.dep_graph.specs.declared.numbers.CellNumber.{CellNumber}
use Rattle.dep_graph.specs.declared.numbers.ReadNumber.{ReadNumber}
use Rattle.dep_graph.specs.Graph.{Graph, IsSet}
use Rattle.dep_graph.specs.NumberLaws.{cell_itself, same_cell}
use Rattle.dep_graph.specs.Numbers.{is_cell}
use Rattle.dep_graph.specs.Records.{holds, reads_under}
use Rattle.dep_graph.specs.Sources.{Source, all_source, cell_in, read_source, source_of_key, sources, sources_of, sources_of_keys}
use Rattle.affected_search.specs.NotedUpkeep.{CarriedNotesLaw, NotesReadsLaw, SetNotesLaw}
use Rattle.affected_search.specs.Noted.{FoundNotesLaw, HoldsNotes, HoldsNotesOf, IsFree, IsFreeKey, IsHeldSource, ListsChanges, ListsRows}
use Rattle.affected_search.specs.Reached.{is_among, IsClosed}
use Rattle.affected_search.specs.Sheets.{IsHeld, is_found}
use Rattle.affected_search.proofs.ActionLaws.{any_at}
use Rattle.affected_search.proofs.ExactNotes.{set_exact}
use Rattle.affected_search.proofs.NumbersHeld.{numbers_held}
use Rattle.affected_search.proofs.SheetLaws.{none_found, not_found}
use Rattle.affected_search.proofs.UpkeepLaws.{one_cell}

all_append : {X : Type 0} (P : X → Type 0) (xs ys : List X) → AllByRecursion P (xs ++ ys) → AllByRecursion P xs × AllByRecursion P ys
all_append P [] ys h = (tt, h)
all_append P (x ∷ xs) ys h = let r = all_append P xs ys h.1 in ((h.0, r.0), r.1)

-- what is held of notes is held of the reads among them
pub reads_held : (names : List (List ℕ)) (numbers : List ReadNumber) (ns : List Note) → AllByRecursion (IsHeldSource names numbers) (sources ns) → AllByRecursion (IsHeld names numbers) (reads_of ns)
reads_held names numbers [] h = tt
reads_held names numbers (note.Read q ∷ ns) h = (h.0, reads_held names numbers ns h.1)
reads_held names numbers (note.All t ∷ ns) h = reads_held names numbers ns h.1
reads_held names numbers (note.Met t ks ∷ ns) h = reads_held names numbers ns (all_append (IsHeldSource names numbers) (sources_of_keys t ks) (sources ns) h).1

module _ (names : List (List ℕ)) (numbers : List ReadNumber) where
  -- of each note what it reads, and of keys that are met their columns
  abbrev IsHeldNote : Note → Type 0
  IsHeldNote (note.Read q) = IsHeld names numbers q
  IsHeldNote (note.All t) = Unit {0}
  IsHeldNote (note.Met t ks) = AllByRecursion (λ k. IsHeld names numbers (Key t k.column)) ks

  pub columns_held : (s : Sheet) (c : CellId) → AllByRecursion (IsHeldSource names numbers) (sources (notes s c)) → AllByRecursion IsHeldNote (notes s c)
  columns_held s c h = by (s.formula c) (reads_held names numbers (notes s c) h)
    where
      by : (o : Option (List ℕ)) → AllByRecursion (IsHeld names numbers) (reads_of (notes_by s (all_values s) c o)) → AllByRecursion IsHeldNote (notes_by s (all_values s) c o)
      by None g = tt
      by (Some f) g = text_notes (IsHeld names numbers) IsHeldNote (λ q held. held) (λ t held. tt) (λ t ks rows keys. keys) (over s (all_values s)) (row_of c) f g

module _ (s t : Sheet) (graph : Graph) (numbers : List ReadNumber) (cells : List CellNumber) (fresh : CellId → Bool) (old_cell : (c : CellId) (f : List ℕ) → s.formula c ≡ Some f → fresh c ≡ false)
    (lists : ListsChanges graph.names numbers s t) (closed : IsClosed graph.reads numbers cells) where
  abbrev affected : CellId → Bool
  affected c = fresh c || is_found graph cells c

  untouched_cell : (d : CellId) → is_found graph cells d ≡ false → IsSameCell s t (λ c. false) (λ q. false) d → IsUntouchedCell s t affected d
  untouched_cell d free (inl h) = inl h
  untouched_cell d free (inr h) = inr (h.0, h.1, h.2, or_from (fresh d) (is_found graph cells d) (old_cell d h.0 h.1) free)

  -- a reader that is not found
  module _ (k : CellNumber) (free : is_among cells k ≡ false) where
    -- what it reads is not listed
    free_source : (x : Source) → IsHeldSource graph.names (reads_under graph.reads k) x → IsFree graph.names numbers x
    free_source x h = (
      h.0,
      h.1,
      false_from (holds numbers h.0) (λ on. false≢true (sym free ∙ closed.of_touched k (any_at (holds (reads_under graph.reads k)) numbers h.0 on h.2))),
    )

    -- no cell of its key columns is found
    key_free : (u c : List ℕ) (r : ℕ) → IsHeld graph.names (reads_under graph.reads k) (Key u c) → is_found graph cells (cell_of u c r) ≡ false
    key_free u c r h = none_found graph numbers cells closed k free u c r h.0 h.1 h.2

    module _ (u : List ℕ) where
      HeldKey : KeyItem → Type 0
      HeldKey key = IsHeldSource graph.names (reads_under graph.reads k) (source_of_key u key) × IsHeld graph.names (reads_under graph.reads k) (Key u key.column)

      free_key : (key : KeyItem) → HeldKey key → IsFreeKey graph.names numbers u key
      unfolding HeldKey
      free_key key h = (free_source (source_of_key u key) h.0, free_source (read_source (Key u key.column)) h.1)

      paired : (ks : List KeyItem) → AllByRecursion (IsHeldSource graph.names (reads_under graph.reads k)) (map (source_of_key u) ks) → AllByRecursion (λ key. IsHeld graph.names (reads_under graph.reads k) (Key u key.column)) ks → AllByRecursion HeldKey ks
      unfolding HeldKey
      paired [] h g = tt
      paired (key ∷ ks) h g = ((h.0, g.0), paired ks h.1 g.1)

      kinds : (ks : List KeyItem) → AllByRecursion (IsSameKind s t affected u) ks
      kinds [] = tt
      kinds (key ∷ ks) = (lists.kind u key.column, kinds ks)

      row_stays : (rs : ListsRows graph.names numbers s t u) (r : ℕ) → has rs.rows r ≡ true → has rs.gone r ≡ false → (key : KeyItem) → HeldKey key → IsSameKey s t affected u r key
      unfolding HeldKey
      row_stays rs r among on key h = elim (rs.stays r among on key (free_key key h)) [
        | inl is ↦ inl is
        | inr g ↦ elim g [ inl same ↦ inr (inl (untouched_cell (cell_of u key.column r) (key_free u key.column r h.1) same)) | inr apart ↦ inr (inr apart) ]
      ]

      unmet : (x : Sheet) (r : ℕ) (key : KeyItem) (ks : List KeyItem) → ((one : KeyItem) → HeldKey one → IsUnmet x u r one) → AllByRecursion HeldKey (key ∷ ks) → IsUnmetRow x u r (key ∷ ks)
      unmet x r key ks h all = all_weaker HeldKey (IsUnmet x u r) h (key ∷ ks) all

      some_met : (rs : ListsRows graph.names numbers s t u) (key : KeyItem) (ks : List KeyItem) → AllByRecursion HeldKey (key ∷ ks) → IsUntouchedMet s t affected u (key ∷ ks)
      some_met rs key ks held =
          met_law s t affected u (key ∷ ks) (record {
            rows = rs.rows;
            gone = rs.gone;
            new = rs.new;
            before = rs.before;
            after = rs.after;
            kinds = kinds (key ∷ ks);
            stays = λ r among on. all_weaker HeldKey (IsSameKey s t affected u r) (row_stays rs r among on) (key ∷ ks) held;
            goes = λ r among on. unmet s r key ks (λ one h. rs.goes r among on one (free_key one h)) held;
            comes = λ r among. unmet t r key ks (λ one h. rs.comes r among one (free_key one h)) held;
          })

      -- a table that is not there before is not there after
      not_there : s.rows u ≡ None → (ks : List KeyItem) → IsUntouchedMet s t affected u ks
      not_there none ks v w agree = ap (matched_in (over s v) u ks) none ∙ sym (ap (matched_in (over t w) u ks) (gone (t.rows u) (sym (lists.there u) ∙ ap is_some none)))
        where
          gone : (o : Option (List ℕ)) → is_some o ≡ false → o ≡ None
          gone None h = refl
          gone (Some q) h = absurd (false≢true (sym h))

      met : (ks : List KeyItem) → AllByRecursion (IsHeldSource graph.names (reads_under graph.reads k)) (sources_of_keys u ks) → AllByRecursion (λ key. IsHeld graph.names (reads_under graph.reads k) (Key u key.column)) ks → IsUntouchedMet s t affected u ks
      met [] h g = λ v w agree. by v w (s.rows u) ∙ ap (matched_in (over t w) u []) (lists.all u (free_source (all_source u) h.0))
        where
          -- without a key every row is met
          every : (v w : Values) (rs : List ℕ) → scan (over s v) u [] rs ≡ scan (over t w) u [] rs
          every v w [] = refl
          every v w (r ∷ rs) = ap (λ o. both (kept_row r) (gives true) o) (every v w rs)

          by : (v w : Values) (o : Option (List ℕ)) → matched_in (over s v) u [] o ≡ matched_in (over t w) u [] o
          by v w None = refl
          by v w (Some rs) = every v w rs
      met (key ∷ ks) h g = by (s.rows u) refl
        where
          by : (o : Option (List ℕ)) → s.rows u ≡ o → IsUntouchedMet s t affected u (key ∷ ks)
          by None at = not_there at (key ∷ ks)
          by (Some rows) at = some_met (lists.met u rows at) key ks (paired (key ∷ ks) h g)

    untouched_note : (n : Note) → AllByRecursion (IsHeldSource graph.names (reads_under graph.reads k)) (sources_of n) → IsHeldNote graph.names (reads_under graph.reads k) n → IsUntouchedNote s t affected n
    untouched_note (note.Read (Cell d)) h g = (lists.kind d.table d.column, untouched_cell d (not_found graph numbers cells closed k free d g.0 g.1 g.2) (lists.cell d (free_source (read_source (Cell d)) h.0)))
    untouched_note (note.Read (Key u c)) h g = lists.kind u c
    untouched_note (note.Read (Rows u)) h g = lists.there u
    untouched_note (note.All u) h g = lists.all u (free_source (all_source u) h.0)
    untouched_note (note.Met u ks) h g = met u ks h g

    untouched_notes : (ns : List Note) → AllByRecursion (IsHeldSource graph.names (reads_under graph.reads k)) (sources ns) → AllByRecursion (IsHeldNote graph.names (reads_under graph.reads k)) ns → AllByRecursion (IsUntouchedNote s t affected) ns
    untouched_notes [] h g = tt
    untouched_notes (n ∷ ns) h g =
        let parts = all_append (IsHeldSource graph.names (reads_under graph.reads k)) (sources_of n) (sources ns) h in
        (untouched_note n parts.0 g.0, untouched_notes ns parts.1 g.1)

  by_number : (c : CellId) (k : CellNumber) → cell_in graph.names c ≡ Some k → is_found graph cells c ≡ false → is_among cells k ≡ false
  by_number c k is free = sym (ap (λ o. elim o as (λ _. Bool) [ None ↦ false | Some j ↦ is_among cells j ]) is) ∙ free

  pub sheet_closed : ((c : CellId) (f : List ℕ) → t.formula c ≡ Some f → fresh c ≡ false → s.formula c ≡ Some f) → HoldsNotes graph s → IsClosedByNotes s t affected
  sheet_closed was held = record {
    was = λ c f e free. was c f e (or_parts (fresh c) (is_found graph cells c) free).0;
    kind = λ c f e free. lists.kind c.table c.column;
    untouched = λ c f e free.
        let parts = or_parts (fresh c) (is_found graph cells c) free in
        let has = held c f (was c f e parts.0) in
        untouched_notes has.0 (by_number c has.0 has.1 parts.1) (notes s c) has.2 (columns_held graph.names (reads_under graph.reads has.0) s c has.2);
  }

pub found_notes_law : FoundNotesLaw
found_notes_law s t graph numbers cells fresh ls lt old_cell was held lists closed c f e new free =
    unaffected_notes_law s t (λ d. fresh d || is_found graph cells d) ls lt (sheet_closed s t graph numbers cells fresh old_cell lists closed was held) c f e
    (or_from (fresh c) (is_found graph cells c) new free)

-- ---- what is recorded

module _ (old new : Graph) (s : Sheet) (reader : CellId) (given : List Note) (set : IsSet old new reader given) (same : notes s reader ≡ given) where
  recorded : reads_under new.reads set.cell ≡ set.reads
  recorded = set.recorded set.cell ∙ ap (λ b. cond b set.reads (reads_under old.reads set.cell)) (cell_itself set.cell)

  here : HoldsNotesOf new s reader
  here = (
    set.cell,
    set.is_cell,
    subst (λ ns. AllByRecursion (IsHeldSource new.names (reads_under new.reads set.cell)) (sources ns)) (sym same)
        (subst (λ ns. AllByRecursion (IsHeldSource new.names ns) (sources given)) (sym recorded) (numbers_held new.names (sources given) set.reads set.are_reads)),
  )

  stays : (numbers : List ReadNumber) (x : Source) → IsHeldSource old.names numbers x → IsHeldSource new.names numbers x
  stays numbers x h = (h.0, (numbers_stay old.names new.names set.grown (x ∷ []) (h.0 ∷ []) (h.1, tt)).0, h.2)

  others : (c : CellId) → HoldsNotesOf old s c → HoldsNotesOf new s c
  others c h = by (is_cell set.cell h.0) refl
    where
      number : cell_in new.names c ≡ Some h.0
      number = cell_stays old.names new.names set.grown c h.0 h.1

      by : (b : Bool) → is_cell set.cell h.0 ≡ b → HoldsNotesOf new s c
      by true is = subst (HoldsNotesOf new s) (one_cell new.names reader c h.0 (set.is_cell ∙ ap (λ k. Some k) (same_cell set.cell h.0 is)) number) here
      by false is =
          let left : reads_under new.reads h.0 ≡ reads_under old.reads h.0 = set.recorded h.0 ∙ ap (λ b. cond b set.reads (reads_under old.reads h.0)) is in (
            h.0,
            number,
            subst (λ ns. AllByRecursion (IsHeldSource new.names ns) (sources (notes s c))) (sym left) (all_weaker (IsHeldSource old.names (reads_under old.reads h.0)) (IsHeldSource new.names (reads_under old.reads h.0)) (stays (reads_under old.reads h.0)) (sources (notes s c)) h.2),
          )

pub set_notes_law : SetNotesLaw
set_notes_law old new s reader given set same = record {
  here = here old new s reader given set same;
  others = others old new s reader given set same;
  exact = (set_exact old new s reader given set same).0;
  keeps = (set_exact old new s reader given set same).1;
}

-- ---- what is kept up

pub notes_reads_law : NotesReadsLaw
notes_reads_law graph s c h =
    (h.0, h.1, subst (λ rs. AllByRecursion (IsHeld graph.names (reads_under graph.reads h.0)) rs) (sym (reads_noted s c)) (reads_held graph.names (reads_under graph.reads h.0) (notes s c) h.2))

pub carried_notes_law : CarriedNotesLaw
carried_notes_law s t fresh graph new cells was held keeps anew left c f e = by (fresh c) (is_found graph cells c) refl refl
  where
    by : (p q : Bool) → fresh c ≡ p → is_found graph cells c ≡ q → HoldsNotesOf new t c
    by true q is there = anew c f e (or_left (fresh c) (is_found graph cells c) is)
    by false true is there = anew c f e (or_right (fresh c) (is_found graph cells c) there)
    by false false is there =
        let h = left c there (held c f (was c f e is)) in
        (h.0, h.1, subst (λ ns. AllByRecursion (IsHeldSource new.names (reads_under new.reads h.0)) (sources ns)) (sym (keeps c f e is there).1) h.2)
