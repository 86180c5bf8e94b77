-- A graph of which it is noted what cells read that come to read something else.
use Rattle.std.proofs.Common.{ℕ, zero, suc, Bool, true, false, cond, ◌||◌, List, [], ◌∷◌, ◌++◌, ◌≡◌, ◌<◌, inl, inr, length, get_or, refl, sym, ap, ◌∙◌, subst, Option, Some, None, Result, Ok, Err, OnErr, OnOk, arith}
use Rattle.std.proofs.lemmas.Bool.{false≢true, true≢false}
use Rattle.std.specs.Option.{is_some}
use Rattle.cell_types.specs.declared.cell.CellId.{CellId}
use Rattle.doc_model.specs.Document.{Document}
use Rattle.dep_graph.specs.declared.numbers.CellNumber.{CellNumber}
use Rattle.dep_graph.specs.Graph.{Graph, IsDropped, IsKept, IsSetTo}
use Rattle.dep_graph.specs.Named.{Were}
use Rattle.dep_graph.specs.Names.{IsGrown}
use Rattle.dep_graph.specs.NumberLaws.{same_cell as same_number}
use Rattle.dep_graph.specs.Numbers.{is_cell}
use Rattle.dep_graph.specs.Records.{reads_under}
use Rattle.dep_graph.specs.Sources.{AreNumbers, Source, cell_in, sources}
use Rattle.dep_graph.specs.Were.{HadReads, IsLogged, IsNotedLast}
use Rattle.dep_graph.proofs.NameLaws.{cell_stays, grown_same, grown_twice}
use Rattle.dep_graph.proofs.NamedLaws.{told_all}
use Rattle.recalc.specs.Cells.{same_cell}
use Rattle.recalc.specs.Evaluated.{formula_at, sheet_of}
use Rattle.recalc.specs.Stack.{on}
use Rattle.recalc.proofs.Turn.{same_itself, same_true}
use Rattle.affected_cells.specs.Noted.{notes}
use Rattle.affected_cells.proofs.Tests.{or_false}
use Rattle.affected_search.specs.ExactNotes.{HasNotes}
use Rattle.affected_search.proofs.ExactNotes.{no_notes}
use Rattle.affected_search.proofs.UpkeepLaws.{one_cell}
use Rattle.known_reads.specs.Beside.{Beside, IsKnownBy, IsReadThere, KnowsWith, LeadsReads, is_stale, were}
use Rattle.known_reads.specs.Recorded.{KnowsBut}
use Rattle.known_reads.specs.Known.{IsRead}
use Rattle.known_reads.specs.Watched.{AreBefore, IsGoneNoted, IsWatched, KeepsAllBut, KeepsOthersOf}
use Rattle.known_reads.proofs.WereLemmas.{exact_same, had_before, had_notes, no_formula, none_some, not_noted, were_first, were_last, were_other}

-- ---- what a graph has of other cells

apart : (cell c : CellId) (names : List (List ℕ)) (k : CellNumber) → same_cell cell c ≡ false → cell_in names cell ≡ Some k → cell_in names c ≡ Some k → ⊥
apart cell c names k other here there = true≢false (sym (subst (λ d. same_cell cell d ≡ true) (one_cell names cell c k here there) (same_itself cell)) ∙ other)

pub others_set : (old new : Graph) (cell : CellId) (xs : List Source) → IsSetTo old new cell xs → KeepsOthersOf old new cell
others_set old new cell xs set = record { grown = set.grown; same = λ c other names k grown at. by c other names k grown at (is_cell set.cell k) refl }
  where
    by : (c : CellId) → same_cell cell c ≡ false → (names : List (List ℕ)) (k : CellNumber) → IsGrown new.names names → cell_in names c ≡ Some k → (b : Bool) → is_cell set.cell k ≡ b → reads_under new.reads k ≡ reads_under old.reads k
    by c other names k grown at true is = absurd (apart cell c names k other (cell_stays new.names names grown cell set.cell set.is_cell ∙ ap (λ j. Some j) (same_number set.cell k is)) at)
    by c other names k grown at false is = set.recorded k ∙ ap (λ b. cond b set.reads (reads_under old.reads k)) is

pub others_dropped : (old new : Graph) (cell : CellId) → IsDropped old new cell → KeepsOthersOf old new cell
others_dropped old new cell dropped = record {
  grown = subst (λ n. IsGrown old.names n) (sym dropped.names) (grown_same old.names);
  same = λ c other names k grown at. by c other names k grown at (cell_in old.names cell) refl;
}
  where
    known : (c : CellId) → same_cell cell c ≡ false → (names : List (List ℕ)) (k : CellNumber) → IsGrown new.names names → cell_in names c ≡ Some k → (j : CellNumber) → cell_in old.names cell ≡ Some j → (b : Bool) → is_cell j k ≡ b → reads_under new.reads k ≡ reads_under old.reads k
    known c other names k grown at j here true is = absurd (apart cell c names k other (cell_stays old.names names (subst (λ n. IsGrown n names) dropped.names grown) cell j here ∙ ap (λ i. Some i) (same_number j k is)) at)
    known c other names k grown at j here false is = dropped.known j here k ∙ ap (λ b. cond b [] (reads_under old.reads k)) is

    by : (c : CellId) → same_cell cell c ≡ false → (names : List (List ℕ)) (k : CellNumber) → IsGrown new.names names → cell_in names c ≡ Some k → (o : Option CellNumber) → cell_in old.names cell ≡ o → reads_under new.reads k ≡ reads_under old.reads k
    by c other names k grown at None is = dropped.unknown is k
    by c other names k grown at (Some j) is = known c other names k grown at j is (is_cell j k) refl

pub others_kept : (old new : Graph) (cell : CellId) → IsKept old new → KeepsOthersOf old new cell
others_kept old new cell kept = record { grown = kept.grown; same = λ c other names k grown at. kept.reads k }

pub others_none : (graph : Graph) (cell : CellId) → KeepsOthersOf graph graph cell
others_none graph cell = record { grown = grown_same graph.names; same = λ c other names k grown at. refl }

-- in either case
pub others_either : {A E P Q : Type 0} (r : Result A E) (old new : Graph) (cell : CellId) → OnOk r P → OnErr r Q → (P → KeepsOthersOf old new cell) → (Q → KeepsOthersOf old new cell) → KeepsOthersOf old new cell
others_either (Ok x) old new cell p q f g = f p
others_either (Err e) old new cell p q f g = g q

-- ---- cells one after the other

pub but_none : (graph : Graph) (cells : List CellId) → KeepsAllBut graph graph cells
but_none graph cells = record { grown = grown_same graph.names; same = λ c other names k grown at. refl }

pub not_at : (cells : List CellId) (i : ℕ) (x : CellId) → i < length cells → x ≡ get_or cells i x → (c : CellId) → on cells c ≡ false → same_cell x c ≡ false
not_at [] i x l e c other = absurd (omega arith)
not_at (d ∷ cells) zero x l e c other = ap (λ y. same_cell y c) e ∙ (or_false (same_cell d c) (on cells c) other).0
not_at (d ∷ cells) (suc i) x l e c other = not_at cells i x (omega arith) e c (or_false (same_cell d c) (on cells c) other).1

pub but_next : (old mid new : Graph) (cells : List CellId) (i : ℕ) (x : CellId) → i < length cells → x ≡ get_or cells i x → KeepsAllBut old mid cells → KeepsOthersOf mid new x → KeepsAllBut old new cells
but_next old mid new cells i x l e a b = record {
  grown = grown_twice old.names mid.names new.names a.grown b.grown;
  same = λ c other names k grown at. b.same c (not_at cells i x l e c other) names k grown at ∙ a.same c other names k (grown_twice mid.names new.names names b.grown grown) at;
}

-- ---- while cells are noted

pub watched_none : (known : Beside) → IsWatched known known
watched_none known = record {
  grown = grown_same known.graph.names;
  same = λ c other names k grown at. refl;
  fresh = λ c other h. h;
  logged = λ c xs none some. absurd (none_some xs (sym none ∙ some));
  kept = λ c xs h. h;
  owed = refl;
}

-- what is not noted was not
not_before : (old new : Beside) → IsWatched old new → (c : CellId) → were new.log c ≡ None → were old.log c ≡ None
not_before old new watched c h = by (were old.log c) refl
  where
    by : (o : Option (List Source)) → were old.log c ≡ o → o ≡ None
    by None e = refl
    by (Some xs) e = absurd (none_some xs (sym h ∙ watched.kept c xs e))

pub watched_next : (old mid new : Beside) → IsWatched old mid → IsWatched mid new → IsWatched old new
watched_next old mid new a b = record {
  grown = grown_twice old.graph.names mid.graph.names new.graph.names a.grown b.grown;
  same = λ c other names k grown at. b.same c other names k grown at ∙ a.same c (not_before mid new b c other) names k (grown_twice mid.graph.names new.graph.names names b.grown grown) at;
  fresh = λ c other h. a.fresh c (not_before mid new b c other) (b.fresh c other h);
  logged = λ c xs none some. by c xs none some (were mid.log c) refl;
  kept = λ c xs h. b.kept c xs (a.kept c xs h);
  owed = b.owed ∙ a.owed;
}
  where
    some_same : (xs ys : List Source) → Some xs ≡ Some ys → xs ≡ ys
    some_same xs ys e = cc

    by : (c : CellId) (xs : List Source) → were old.log c ≡ None → were new.log c ≡ Some xs → (o : Option (List Source)) → were mid.log c ≡ o → HadReads old.graph c xs
    by c xs none some None e = had_before old.graph mid.graph c xs a.grown (a.same c e) (b.logged c xs e some)
    by c xs none some (Some ys) e = subst (HadReads old.graph c) (some_same ys xs (sym (b.kept c ys e) ∙ some)) (a.logged c ys none e)

-- where one cell may read something else, which is noted then
module _ (old new : Beside) (cell : CellId) (stale : (c : CellId) → were new.log c ≡ None → is_stale new c ≡ true → is_stale old c ≡ true) (owed : new.owed ≡ old.owed) where
  watched_noted : IsNotedLast old.graph cell old.log new.log → KeepsOthersOf old.graph new.graph cell → IsWatched old new
  watched_noted noted keeps =
      let w = noted.0 in
      let is : new.log ≡ old.log ++ w ∷ [] = noted.1 in
      let of : w.cell ≡ cell = noted.2 in
      record {
        grown = keeps.grown;
        same = λ c h. keeps.same c (ap (λ d. same_cell d c) (sym of) ∙ (not_noted old.log w c (ap (λ l. were l c) (sym is) ∙ h)).1);
        fresh = stale;
        logged = λ c xs none some. by w of noted.3 c xs none (ap (λ l. were l c) (sym is) ∙ some) (same_cell w.cell c) refl;
        kept = λ c xs h. ap (λ l. were l c) is ∙ were_first old.log (w ∷ []) c xs h;
        owed = owed;
      }
    where
      some_same : (xs ys : List Source) → Some xs ≡ Some ys → xs ≡ ys
      some_same xs ys e = cc

      by : (w : Were) → w.cell ≡ cell → HadReads old.graph cell w.reads → (c : CellId) (xs : List Source) → were old.log c ≡ None → were (old.log ++ w ∷ []) c ≡ Some xs → (b : Bool) → same_cell w.cell c ≡ b → HadReads old.graph c xs
      by w of had c xs none some true e =
          subst (HadReads old.graph c) (some_same w.reads xs (sym (were_last old.log w c e none) ∙ some)) (subst (λ d. HadReads old.graph d w.reads) (sym of ∙ same_true w.cell c e) had)
      by w of had c xs none some false e = absurd (none_some xs (sym none ∙ sym (were_other old.log w c e) ∙ some))

  watched_kept : new.log ≡ old.log → IsKept old.graph new.graph → IsWatched old new
  watched_kept is kept = record {
    grown = kept.grown;
    same = λ c other names k grown at. kept.reads k;
    fresh = stale;
    logged = λ c xs none some. absurd (none_some xs (sym none ∙ ap (λ l. were l c) (sym is) ∙ some));
    kept = λ c xs h. ap (λ l. were l c) is ∙ h;
    owed = owed;
  }

  pub watched_logged : IsLogged old.graph new.graph cell old.log new.log → KeepsOthersOf old.graph new.graph cell → IsWatched old new
  watched_logged (inl same) keeps = watched_kept same.0 same.1
  watched_logged (inr noted) keeps = watched_noted noted keeps

-- where a cell that was noted last becomes stale
pub stale_last : (old new : Beside) (cell : CellId) → IsNotedLast old.graph cell old.log new.log → new.stale ≡ old.stale ++ cell ∷ [] → (c : CellId) → were new.log c ≡ None → is_stale new c ≡ true → is_stale old c ≡ true
stale_last old new cell noted is c other h =
    let w = noted.0 in
    let apart : same_cell cell c ≡ false = ap (λ d. same_cell d c) (sym noted.2) ∙ (not_noted old.log w c (ap (λ l. were l c) (sym noted.1) ∙ other)).1 in
    sym (on_last old.stale cell c apart) ∙ ap (λ l. on l c) (sym is) ∙ h
  where
    on_last : (cells : List CellId) (cell c : CellId) → same_cell cell c ≡ false → on (cells ++ cell ∷ []) c ≡ on cells c
    on_last [] cell c apart = ap (λ b. b || false) apart
    on_last (d ∷ cells) cell c apart = ap (λ b. same_cell d c || b) (on_last cells cell c apart)

-- the stale cells recorded, which were noted
pub watched_recorded : (old new : Beside) → ((c : CellId) → is_stale old c ≡ true → is_some (were old.log c) ≡ true) → KeepsAllBut old.graph new.graph old.stale → new.stale ≡ [] → new.log ≡ old.log → new.owed ≡ old.owed → IsWatched old new
watched_recorded old new noted keeps none log owed = record {
  grown = keeps.grown;
  same = λ c h. keeps.same c (by c (ap (λ l. were l c) (sym log) ∙ h) (on old.stale c) refl);
  fresh = λ c h stale. absurd (false≢true (sym (ap (λ l. on l c) none) ∙ stale));
  logged = λ c xs before some. absurd (none_some xs (sym before ∙ ap (λ l. were l c) (sym log) ∙ some));
  kept = λ c xs h. ap (λ l. were l c) log ∙ h;
  owed = owed;
}
  where
    by : (c : CellId) → were old.log c ≡ None → (b : Bool) → on old.stale c ≡ b → b ≡ false
    by c none true e = absurd (false≢true (sym (ap is_some none) ∙ noted c e))
    by c none false e = refl

-- what is stale was noted, where nothing was stale
pub stale_noted : (old new : Beside) → IsWatched old new → old.stale ≡ [] → (c : CellId) → is_stale new c ≡ true → is_some (were new.log c) ≡ true
stale_noted old new watched none c stale = by (were new.log c) refl
  where
    by : (o : Option (List Source)) → were new.log c ≡ o → is_some o ≡ true
    by (Some xs) e = refl
    by None e = absurd (false≢true (sym (ap (λ l. on l c) none) ∙ watched.fresh c e stale))

-- what was noted stays noted
pub noted_stays : (s : Document) (old mid new : Beside) → IsWatched mid new → (c : CellId) → IsGoneNoted s old mid c → IsGoneNoted s old new c
noted_stays s old mid new watched c gone plain there = by (were mid.log c) refl (gone plain there)
  where
    by : (o : Option (List Source)) → were mid.log c ≡ o → is_some o ≡ true → is_some (were new.log c) ≡ true
    by None e h = absurd (false≢true h)
    by (Some xs) e h = ap is_some (watched.kept c xs e)

pub noted_later : (s : Document) (old mid new : Beside) → IsWatched old mid → (c : CellId) → IsGoneNoted s mid new c → IsGoneNoted s old new c
noted_later s old mid new watched c gone plain there = gone plain (by (cell_in old.graph.names c) refl there)
  where
    by : (o : Option CellNumber) → cell_in old.graph.names c ≡ o → is_some o ≡ true → is_some (cell_in mid.graph.names c) ≡ true
    by None e h = absurd (false≢true h)
    by (Some k) e h = ap is_some (cell_stays old.graph.names mid.graph.names watched.grown c k e)

-- what was stale at last is recorded, where nothing was stale at first
module _ (old mid next new : Beside) (none : old.stale ≡ []) (first : IsWatched old mid) (then : IsWatched mid next) (last : ((c : CellId) → is_stale next c ≡ true → is_some (were next.log c) ≡ true) → IsWatched next new) where
  recorded : IsWatched next new
  recorded = last (stale_noted old next (watched_next old mid next first then) none)

  pub watched_last : IsWatched old new
  watched_last = watched_next old next new (watched_next old mid next first then) recorded

  pub gone_last : (s : Document) (cells : List CellId) → ((c : CellId) → on cells c ≡ true → IsGoneNoted s old mid c) → (c : CellId) → on cells c ≡ true → IsGoneNoted s old new c
  gone_last s cells gone c here = noted_stays s old mid new (watched_next mid next new then recorded) c (gone c here)

-- a cell without a formula of which it was noted
pub gone_noted : (s : Document) (old new : Beside) (c : CellId) → (is_some (cell_in old.graph.names c) ≡ true → IsNotedLast old.graph c old.log new.log) → IsGoneNoted s old new c
gone_noted s old new c noted plain there =
    let n = noted there in
    by n.0 (same_cell n.0.cell c) (ap (λ d. same_cell d c) n.2 ∙ same_itself c) (were old.log c) refl n.1
  where
    by : (w : Were) (b : Bool) → same_cell w.cell c ≡ true → (o : Option (List Source)) → were old.log c ≡ o → new.log ≡ old.log ++ w ∷ [] → is_some (were new.log c) ≡ true
    by w b here None e is = ap is_some (ap (λ l. were l c) is ∙ were_last old.log w c here e)
    by w b here (Some xs) e is = ap is_some (ap (λ l. were l c) is ∙ were_first old.log (w ∷ []) c xs e)

pub gone_formula : (s : Document) (old new : Beside) (c : CellId) → is_some (formula_at s c) ≡ true → IsGoneNoted s old new c
gone_formula s old new c there plain number = absurd (false≢true (sym (ap is_some plain) ∙ there))

-- ---- from one document to another

module _ (s : Document) (old new : Beside) (exact : HasNotes old.graph (sheet_of s)) (watched : IsWatched old new) (none : old.log ≡ []) where
  noted_right : (c : CellId) (xs : List Source) → were new.log c ≡ Some xs → xs ≡ sources (notes (sheet_of s) c)
  noted_right c xs e = had_notes (sheet_of s) old.graph c xs (watched.logged c xs (ap (λ l. were l c) none) e) (exact c)

  -- what was noted is right before, and of the others the graph still is
  pub known_before : KnowsWith s new.graph new.log
  known_before c = by (were new.log c) refl
    where
      by : (o : Option (List Source)) → were new.log c ≡ o → IsKnownBy s new.graph c o
      by (Some xs) e = noted_right c xs e
      by None e = exact_same (sheet_of s) old.graph new.graph c watched.grown (watched.same c e) (exact c)

  module _ (t : Document) (cells : List CellId) (after : HasNotes new.graph (sheet_of t)) (gone : (c : CellId) → on cells c ≡ true → IsGoneNoted t old new c)
      (there : (c : CellId) → on cells c ≡ false → is_some (formula_at t c) ≡ is_some (formula_at s c)) where
    -- a cell that has a formula before and is not noted has one after
    still : (c : CellId) → were new.log c ≡ None → is_some (formula_at s c) ≡ true → is_some (formula_at t c) ≡ true
    still c e f = by (on cells c) refl
      where
        stays : (o : Option (List ℕ)) → formula_at t c ≡ o → on cells c ≡ true → is_some o ≡ true
        stays (Some g) h here = refl
        stays None h here = absurd (false≢true (sym (ap is_some e) ∙ gone c here h ((exact c).number f)))

        by : (b : Bool) → on cells c ≡ b → is_some (formula_at t c) ≡ true
        by true here = stays (formula_at t c) refl here
        by false here = there c here ∙ f

    numbered : (c : CellId) → were new.log c ≡ None → (o : Option CellNumber) → cell_in new.graph.names c ≡ o → is_some o ≡ true → sources (notes (sheet_of t) c) ≡ sources (notes (sheet_of s) c)
    numbered c e None at g = absurd (false≢true g)
    numbered c e (Some k) at g =
        let grown = grown_same new.graph.names in
        let now : AreNumbers new.graph.names (sources (notes (sheet_of t) c)) (reads_under new.graph.reads k) = (after c).reads new.graph.names k grown at in
        let before : AreNumbers new.graph.names (sources (notes (sheet_of s) c)) (reads_under old.graph.reads k) = (exact c).reads new.graph.names k watched.grown at in
        sym (told_all new.graph.names (sources (notes (sheet_of t) c)) (reads_under new.graph.reads k) now)
        ∙ told_all new.graph.names (sources (notes (sheet_of s) c)) (reads_under new.graph.reads k) (subst (AreNumbers new.graph.names (sources (notes (sheet_of s) c))) (sym (watched.same c e new.graph.names k grown at)) before)

    same_sources : (c : CellId) → were new.log c ≡ None → sources (notes (sheet_of t) c) ≡ sources (notes (sheet_of s) c)
    same_sources c e = by (is_some (formula_at t c)) refl
      where
        plain : is_some (formula_at t c) ≡ false → is_some (formula_at s c) ≡ false
        plain h = off (is_some (formula_at s c)) refl
          where
            off : (b : Bool) → is_some (formula_at s c) ≡ b → b ≡ false
            off true f = absurd (false≢true (sym h ∙ still c e f))
            off false f = refl

        by : (b : Bool) → is_some (formula_at t c) ≡ b → sources (notes (sheet_of t) c) ≡ sources (notes (sheet_of s) c)
        by true f = numbered c e (cell_in new.graph.names c) refl ((after c).number f)
        by false f = ap sources (no_notes (sheet_of t) c (no_formula (formula_at t c) f)) ∙ sym (ap sources (no_notes (sheet_of s) c (no_formula (formula_at s c) (plain f))))

    pub leads_reads : LeadsReads t s new.log
    leads_reads c = by (were new.log c) refl
      where
        by : (o : Option (List Source)) → were new.log c ≡ o → IsReadThere t s c o
        by (Some xs) e = noted_right c xs e
        by None e = (still c e, same_sources c e)

-- so for what is handed out
pub are_before : (t : Document) (first old new : Beside) (cells : List CellId) → old.graph ≡ first.graph → old.log ≡ [] → IsWatched old new → HasNotes new.graph (sheet_of t) → ((c : CellId) → on cells c ≡ true → IsGoneNoted t old new c) → AreBefore t first cells new.log
are_before t first old new cells same none watched after gone s exact there =
    leads_reads s old new (subst (λ (g : Graph). HasNotes g (sheet_of s)) (sym same) exact) watched none t cells after gone there

-- what is known stays, where the graph and the stale cells do
pub but_same : (s : Document) (old new : Beside) (cells : List CellId) → new.graph ≡ old.graph → new.stale ≡ old.stale → KnowsBut s old cells → KnowsBut s new cells
but_same s old new cells same stale known c fresh other = subst (λ (g : Graph). IsRead s g c) (sym same) (known c (sym (ap (λ l. on l c) stale) ∙ fresh) other)
