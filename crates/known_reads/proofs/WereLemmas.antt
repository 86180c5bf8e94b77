-- What cells read before, noted one after the other.
use Rattle.std.proofs.Common.{ℕ, zero, suc, length, take, slice_get, arith, Bool, true, false, cond, List, [], ◌∷◌, ◌++◌, ◌≡◌, refl, sym, ap, ◌∙◌, subst, Option, Some, None}
use Rattle.std.proofs.lemmas.Bool.{false≢true, true≢false}
use Rattle.std.specs.Option.{is_some}
use Rattle.cell_types.specs.declared.cell.CellId.{CellId}
use Rattle.doc_model.specs.Document.{Document}
use Rattle.dep_graph.specs.declared.numbers.CellNumber.{CellNumber}
use Rattle.dep_graph.specs.Graph.{Graph, IsKept, IsSetTo}
use Rattle.dep_graph.specs.Named.{Were}
use Rattle.dep_graph.specs.Names.{IsGrown}
use Rattle.dep_graph.specs.Records.{reads_under}
use Rattle.dep_graph.specs.Sources.{AreNumbers, Source, cell_in, sources}
use Rattle.dep_graph.specs.Were.{HadReads, IsReadBy}
use Rattle.dep_graph.proofs.NameLaws.{append_assoc, append_none, cell_stays, grown_twice}
use Rattle.recalc.specs.Cells.{same_cell}
use Rattle.recalc.specs.Evaluated.{sheet_of}
use Rattle.recalc.specs.Sheet.{Sheet}
use Rattle.recalc.proofs.Turn.{same_true}
use Rattle.affected_cells.specs.Noted.{notes}
use Rattle.affected_search.specs.ExactNotes.{HasNotes, HasNotesOf}
use Rattle.affected_search.proofs.ExactNotes.{no_notes, set_exact}
use Rattle.known_reads.specs.Beside.{IsKnownBy, IsReadThere, KnowsWith, LaidLaw, were}
use Rattle.known_reads.specs.Laid.{all_laid, all_turned}
use Rattle.known_reads.specs.Watched.{HasSameReadsOf, KeepsOthersOf}

pub none_some : (xs : List Source) → None ≡ Some xs → ⊥
none_some xs e = cc

pub no_formula : (o : Option (List ℕ)) → is_some o ≡ false → o ≡ None
no_formula None h = refl
no_formula (Some f) h = absurd (true≢false h)

-- ---- the first note of a cell

pub were_first : (ws vs : List Were) (c : CellId) (xs : List Source) → were ws c ≡ Some xs → were (ws ++ vs) c ≡ Some xs
were_first [] vs c xs h = absurd (none_some xs h)
were_first (w ∷ ws) vs c xs h = by (were_first ws vs c xs) (same_cell w.cell c) h
  where
    by : (were ws c ≡ Some xs → were (ws ++ vs) c ≡ Some xs) → (b : Bool) → cond b (Some w.reads) (were ws c) ≡ Some xs → cond b (Some w.reads) (were (ws ++ vs) c) ≡ Some xs
    by later true e = e
    by later false e = later e

pub were_later : (ws vs : List Were) (c : CellId) → were ws c ≡ None → were (ws ++ vs) c ≡ were vs c
were_later [] vs c h = refl
were_later (w ∷ ws) vs c h = by (were_later ws vs c) (same_cell w.cell c) h
  where
    by : (were ws c ≡ None → were (ws ++ vs) c ≡ were vs c) → (b : Bool) → cond b (Some w.reads) (were ws c) ≡ None → cond b (Some w.reads) (were (ws ++ vs) c) ≡ were vs c
    by later true e = absurd (none_some w.reads (sym e))
    by later false e = later e

-- one note more, of another cell or of this one
pub were_other : (ws : List Were) (w : Were) (c : CellId) → same_cell w.cell c ≡ false → were (ws ++ w ∷ []) c ≡ were ws c
were_other ws w c other = by (were ws c) refl
  where
    by : (o : Option (List Source)) → were ws c ≡ o → were (ws ++ w ∷ []) c ≡ were ws c
    by None e = were_later ws (w ∷ []) c e ∙ ap (λ b. cond b (Some w.reads) None) other ∙ sym e
    by (Some xs) e = were_first ws (w ∷ []) c xs e ∙ sym e

pub were_last : (ws : List Were) (w : Were) (c : CellId) → same_cell w.cell c ≡ true → were ws c ≡ None → were (ws ++ w ∷ []) c ≡ Some w.reads
were_last ws w c here e = were_later ws (w ∷ []) c e ∙ ap (λ b. cond b (Some w.reads) None) here

-- what is not noted after one note more was not noted, and is another cell
pub not_noted : (ws : List Were) (w : Were) (c : CellId) → were (ws ++ w ∷ []) c ≡ None → (were ws c ≡ None) × (same_cell w.cell c ≡ false)
not_noted ws w c h = by (were ws c) (same_cell w.cell c) refl refl
  where
    by : (o : Option (List Source)) (b : Bool) → were ws c ≡ o → same_cell w.cell c ≡ b → (were ws c ≡ None) × (same_cell w.cell c ≡ false)
    by (Some xs) b e g = absurd (none_some xs (sym h ∙ were_first ws (w ∷ []) c xs e))
    by None true e g = absurd (none_some w.reads (sym h ∙ were_last ws w c g e))
    by None false e g = (e, g)

-- the last note, and those before it
pub last_taken : (ws : List Were) (w : Were) (m : ℕ) → suc m ≡ length ws → Some w ≡ slice_get ws m → ws ≡ take m ws ++ w ∷ []
last_taken [] w m e h = absurd (omega arith)
last_taken (v ∷ []) w zero e h = let same : w ≡ v = cc in ap (λ x. x ∷ []) (sym same)
last_taken (v ∷ u ∷ ws) w zero e h = absurd (omega arith)
last_taken (v ∷ ws) w (suc m) e h = let less : suc m ≡ length ws = omega arith in ap (λ l. v ∷ l) (last_taken ws w m less h)

-- ---- what a graph has of a cell

pub exact_same : (s : Sheet) (old new : Graph) (c : CellId) → IsGrown old.names new.names → HasSameReadsOf old new c → HasNotesOf old s c → HasNotesOf new s c
exact_same s old new c grown same has = record {
  number = λ h. by (cell_in old.names c) refl (has.number h);
  reads = λ names k more at. subst (AreNumbers names (sources (notes s c))) (sym (same names k more at)) (has.reads names k (grown_twice old.names new.names names grown more) at);
}
  where
    by : (o : Option CellNumber) → cell_in old.names c ≡ o → is_some o ≡ true → is_some (cell_in new.names c) ≡ true
    by None e h = absurd (false≢true h)
    by (Some k) e h = ap is_some (cell_stays old.names new.names grown c k e)

-- what it has of a cell whose notes it has
pub read_by : (s : Sheet) (graph : Graph) (c : CellId) → HasNotesOf graph s c → IsReadBy graph c (sources (notes s c))
read_by s graph c has = record {
  numbers = has.reads;
  none = λ none. ap sources (no_notes s c (no_formula (s.formula c) (by (is_some (s.formula c)) refl none)));
}
  where
    by : (b : Bool) → is_some (s.formula c) ≡ b → cell_in graph.names c ≡ None → b ≡ false
    by true e none = absurd (false≢true (sym (ap is_some none) ∙ has.number e))
    by false e none = refl

-- what was had of a cell whose notes the graph has
pub had_notes : (s : Sheet) (graph : Graph) (c : CellId) (xs : List Source) → HadReads graph c xs → HasNotesOf graph s c → xs ≡ sources (notes s c)
had_notes s graph c xs had has = had (sources (notes s c)) (read_by s graph c has)

-- what the second graph has of a cell the first one had, where it is the same
pub had_before : (old new : Graph) (c : CellId) (xs : List Source) → IsGrown old.names new.names → HasSameReadsOf old new c → HadReads new c xs → HadReads old c xs
had_before old new c xs grown same had ys is = had ys (record {
  numbers = λ names k more at. subst (AreNumbers names ys) (sym (same names k more at)) (is.numbers names k (grown_twice old.names new.names names grown more) at);
  none = λ none. is.none (by (cell_in old.names c) refl none);
})
  where
    by : (o : Option CellNumber) → cell_in old.names c ≡ o → cell_in new.names c ≡ None → o ≡ None
    by None e none = refl
    by (Some k) e none = absurd (none_number k (sym none ∙ cell_stays old.names new.names grown c k e))
      where
        none_number : (k : CellNumber) → None ≡ Some k → ⊥
        none_number k e = cc

-- ---- what was laid aside is recorded again

module _ (s : Document) (old new : Graph) (w : Were) (set : IsSetTo old new w.cell w.reads) (keeps : KeepsOthersOf old new w.cell) where
  set_read : (c : CellId) → same_cell w.cell c ≡ true → w.reads ≡ sources (notes (sheet_of s) c) → HasNotesOf new (sheet_of s) c
  set_read c here is =
      let one : w.cell ≡ c = same_true w.cell c here in
      (set_exact old new (sheet_of s) c (notes (sheet_of s) c) (subst (IsSetTo old new c) is (subst (λ d. IsSetTo old new d w.reads) one set)) refl).0

  put_known : (ws : List Were) (c : CellId) → IsKnownBy s old c (were (ws ++ w ∷ []) c) → IsKnownBy s new c (were ws c)
  put_known ws c known = by (were ws c) (same_cell w.cell c) refl refl
    where
      by : (o : Option (List Source)) (b : Bool) → were ws c ≡ o → same_cell w.cell c ≡ b → IsKnownBy s new c o
      by (Some xs) b e g = subst (IsKnownBy s old c) (were_first ws (w ∷ []) c xs e) known
      by None true e g = set_read c g (subst (IsKnownBy s old c) (were_last ws w c g e) known)
      by None false e g = exact_same (sheet_of s) old new c keeps.grown (keeps.same c g) (subst (IsKnownBy s old c) (were_other ws w c g ∙ e) known)

  -- one note less
  pub put_one_back : (first ws : List Were) → KnowsWith s old (first ++ (ws ++ w ∷ [])) → KnowsWith s new (first ++ ws)
  put_one_back first ws knows c = put_known (first ++ ws) c (subst (λ l. IsKnownBy s old c (were l c)) (sym (append_assoc first ws (w ∷ []))) (knows c))

-- where each cell reads what it read
pub kept_known : (s : Document) (old new : Graph) → IsKept old new → (ws : List Were) → KnowsWith s old ws → KnowsWith s new ws
kept_known s old new kept ws knows c = by (were ws c) (knows c)
  where
    by : (o : Option (List Source)) → IsKnownBy s old c o → IsKnownBy s new c o
    by (Some xs) h = h
    by None h = exact_same (sheet_of s) old new c kept.grown (λ names k more at. kept.reads k) h

-- nothing is laid aside
pub known_exact : (s : Document) (graph : Graph) (ws : List Were) → ws ≡ [] → KnowsWith s graph ws → HasNotes graph (sheet_of s)
known_exact s graph ws none knows c = subst (λ l. IsKnownBy s graph c (were l c)) none (knows c)

pub exact_known : (s : Document) (graph : Graph) → HasNotes graph (sheet_of s) → KnowsWith s graph []
exact_known s graph has c = has c

-- ---- turned over

pub turned_one : (above below : List (List Were)) (ws : List Were) → all_turned (ws ∷ above) ++ all_laid below ≡ all_turned above ++ all_laid (ws ∷ below)
turned_one above below ws = append_assoc (all_turned above) ws (all_laid below)

pub laid_alone : (ws : List Were) → all_laid (ws ∷ []) ≡ ws
laid_alone ws = append_none ws

-- ---- the way back

pub laid : LaidLaw
laid now s graph ws vs leads knows c = by (were ws c) refl (leads c)
  where
    over : (o : Option (List Source)) → IsReadThere now s c None → IsKnownBy now graph c o → IsKnownBy s graph c o
    over (Some xs) there h = h ∙ there.1
    over None there h = record {
      number = λ f. h.number (there.0 f);
      reads = λ names k grown at. subst (λ xs. AreNumbers names xs (reads_under graph.reads k)) there.1 (h.reads names k grown at);
    }

    by : (o : Option (List Source)) → were ws c ≡ o → IsReadThere now s c o → IsKnownBy s graph c (were (ws ++ vs) c)
    by (Some xs) e there = subst (IsKnownBy s graph c) (sym (were_first ws vs c xs e)) there
    by None e there = subst (IsKnownBy s graph c) (sym (were_later ws vs c e)) (over (were vs c) there (knows c))
