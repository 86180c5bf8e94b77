-- Lookups that look at the rows of one key's bucket alone.
use Rattle.std.proofs.Common.{ℕ, zero, suc, ◌+◌, ◌-◌, take, drop, slice_get, arith, pos, Bool, true, false, not, cond, ◌&&◌, ◌||◌, eqb, List, [], ◌∷◌, filter, ◌≡◌, refl, sym, ap, ◌∙◌, subst, Some, None, Vec}
use Rattle.std.proofs.lemmas.Bool.{eqb-true, false≢true, and_parts, or_left, or_right}
use Rattle.std.proofs.lemmas.Slice.Eq.{bytes_eq-Decides}
use Rattle.std.specs.Global.{Global}
use Rattle.std.specs.List.{find, list_all}
use Rattle.std.specs.Option.{is_some, option_or}
use Rattle.std.specs.Str.{bytes_eq}
use Rattle.cell_types.specs.declared.cell.CellId.{CellId}
use Rattle.cell_types.specs.declared.cell.KeyItem.{KeyItem}
use Rattle.cell_types.specs.declared.value.CellValue.{CellValue}
use Rattle.cell_types.specs.declared.value.CellValue.TheVariants as value
use Rattle.cell_types.specs.declared.value.ErrKind.TheVariants as err
use Rattle.doc_model.specs.Rows.{IsAscending, has}
use Rattle.doc_model.proofs.RowsLaws.{has-filter, IsAscending-filter, number_itself, same_ascending}
use Rattle.value_ops.specs.Equality.{is_equal, is_row_of}
use Rattle.formula_parse.specs.Lexemes.{is_id}
use Rattle.formula_eval.specs.Lookup.{agrees, is_key_column, key_met, kept_row, matched, matched_in, meets, met_by, row_met, scan, value_meets}
use Rattle.formula_eval.specs.Reader.{Reader, known}
use Rattle.formula_eval.specs.Reading.{as_read, told_out}
use Rattle.formula_eval.specs.Run.{circular, need, Out, gives, raises, stops, both}
use Rattle.lookup_index.specs.Buckets.{bucket_of}
use Rattle.lookup_index.specs.Under.{under}
use Rattle.lookup_index.proofs.Buckets.{same_bucket}
use Rattle.recalc.specs.declared.indexes.ColumnIndex.{ColumnIndex}
use Rattle.recalc.specs.Cells.{cell_of}
use Rattle.recalc.specs.Indexes.{AreCandidates, AreIndexes, IsInBucket, IsIndex, IsRowAlone, chosen, index_at, is_error, is_plain}
use Rattle.recalc.specs.Sheet.{Sheet, Values, over, told_by}
use Rattle.recalc.proofs.SortedRows.{same_tests}

both_true : (o p : Out Bool) → both ◌&&◌ o p ≡ gives true → (o ≡ gives true) × (p ≡ gives true)
both_true (gives a) (gives b) h =
    let e : (a && b) ≡ true = cc in
    let parts = and_parts a b e in
    (ap (λ c. gives c) parts.0, ap (λ c. gives c) parts.1)
both_true (gives a) (raises e) h = absurd (cc)
both_true (gives a) (stops s) h = absurd (cc)
both_true (raises e) (gives b) h = absurd (cc)
both_true (raises e) (raises d) h = absurd (cc)
both_true (raises e) (stops s) h = absurd (cc)
both_true (stops circular) p h = absurd (cc)
both_true (stops (need cs)) (gives b) h = absurd (cc)
both_true (stops (need cs)) (raises e) h = absurd (cc)
both_true (stops (need cs)) (stops circular) h = absurd (cc)
both_true (stops (need cs)) (stops (need ds)) h = absurd (cc)

find_passes : {X : Type 0} (p : X → Bool) (xs : List X) (x : X) → find p xs ≡ Some x → p x ≡ true
find_passes p [] x h = absurd (cc)
find_passes p (y ∷ ys) x h =
    elim (p y) as (λ b. p y ≡ b → cond b (Some y) (find p ys) ≡ Some x → p x ≡ true) [
      | true ↦ λ is e. let same : y ≡ x = cc in subst (λ z. p z ≡ true) same is
      | false ↦ λ _ e. find_passes p ys x e
    ] refl h

abbrev is_id_key : KeyItem → Bool
is_id_key k = not k.contains && is_id k.column

abbrev is_whole : KeyItem → Bool
is_whole k = not k.contains

not_true : (b : Bool) → not b ≡ true → b ≡ false
not_true false h = refl
not_true true h = absurd (false≢true h)

pub chosen_whole : (ks : List KeyItem) (key : KeyItem) → chosen ks ≡ Some key → key.contains ≡ false
chosen_whole ks key =
    elim (find is_id_key ks) as (λ o. find is_id_key ks ≡ o → option_or o (find is_whole ks) ≡ Some key → key.contains ≡ false) [
      | None ↦ λ _ e. not_true key.contains (find_passes is_whole ks key e)
      | Some x ↦ λ is e. not_true key.contains (and_parts (not key.contains) (is_id key.column) (find_passes is_id_key ks key (is ∙ e))).0
    ] refl

module _ (rd : Reader) (t : List ℕ) where
  -- the key's cell in the row is neither needed nor circular
  abbrev pub IsDecided : ℕ → KeyItem → Type 0
  IsDecided r k = (b : Bool) × (key_met rd t r k ≡ gives b)

  abbrev pub AreDecided : List KeyItem → ℕ → Type 0
  AreDecided ks r = (b : Bool) × (row_met rd t r ks ≡ gives b)

  all_decided : (p : KeyItem → Bool) (r : ℕ) → ((k : KeyItem) → p k ≡ true → IsDecided r k) → (ks : List KeyItem) → list_all p ks ≡ true → AreDecided ks r
  all_decided p r h [] a = (true, refl)
  all_decided p r h (k ∷ ks) a =
      let parts = and_parts (p k) (list_all p ks) a in
      let first = h k parts.0 in
      let rest = all_decided p r h ks parts.1 in
      (first.0 && rest.0, ap (λ o. both ◌&&◌ o (row_met rd t r ks)) first.1 ∙ ap (both ◌&&◌ (gives first.0)) rest.1)

  key_of_row : (p : KeyItem → Bool) (r : ℕ) (key : KeyItem) (ks : List KeyItem) → find p ks ≡ Some key → row_met rd t r ks ≡ gives true → key_met rd t r key ≡ gives true
  key_of_row p r key [] e h = absurd (cc)
  key_of_row p r key (k ∷ ks) e h =
      let parts = both_true (key_met rd t r k) (row_met rd t r ks) h in
      elim (p k) as (λ b. cond b (Some k) (find p ks) ≡ Some key → key_met rd t r key ≡ gives true) [
        | true ↦ λ e. let same : k ≡ key = cc in subst (λ x. key_met rd t r x ≡ gives true) same parts.0
        | false ↦ λ e. key_of_row p r key ks e parts.1
      ] e

  chosen_met : (r : ℕ) (key : KeyItem) (ks : List KeyItem) → chosen ks ≡ Some key → row_met rd t r ks ≡ gives true → key_met rd t r key ≡ gives true
  chosen_met r key ks e h =
      elim (find is_id_key ks) as (λ o. find is_id_key ks ≡ o → option_or o (find is_whole ks) ≡ Some key → key_met rd t r key ≡ gives true) [
        | None ↦ λ _ e. key_of_row is_whole r key ks e h
        | Some x ↦ λ is e. key_of_row is_id_key r key ks (is ∙ e) h
      ] refl e

  module _ (ks : List KeyItem) where
    abbrev truth : Out Bool → Bool
    truth (gives b) = b
    truth (raises e) = false
    truth (stops s) = false

    abbrev passes : ℕ → Bool
    passes r = truth (row_met rd t r ks)

    filtered : (rows : List ℕ) → ((r : ℕ) → has rows r ≡ true → AreDecided ks r) → scan rd t ks rows ≡ gives (filter passes rows)
    filtered [] h = refl
    filtered (r ∷ rows) h =
        let d = h r (ap (λ b. b || has rows r) (number_itself r)) in
        ap (λ o. both (kept_row r) o (scan rd t ks rows)) d.1
        ∙ ap (both (kept_row r) (gives d.0)) (filtered rows (λ q e. h q (or_right (eqb r q) (has rows q) e)))
        ∙ ap (λ b. gives (cond b (r ∷ filter passes rows) (filter passes rows))) (sym (ap truth d.1))

    -- rows that are left out do not meet the keys
    narrowed : (rows found : List ℕ) → IsAscending rows → IsAscending found → ((r : ℕ) → has rows r ≡ true → AreDecided ks r)
        → ((r : ℕ) → has found r ≡ true → has rows r ≡ true) → ((r : ℕ) → has rows r ≡ true → row_met rd t r ks ≡ gives true → has found r ≡ true)
        → scan rd t ks rows ≡ scan rd t ks found
    narrowed rows found a b d only all =
        filtered rows d
        ∙ ap (λ l. gives l) (same_ascending (filter passes rows) (filter passes found) (IsAscending-filter passes rows a) (IsAscending-filter passes found b) same)
        ∙ sym (filtered found (λ r h. d r (only r h)))
      where
        still : (q : ℕ) → (passes q && has rows q) ≡ true → (passes q && has found q) ≡ true
        still q h =
            let parts = and_parts (passes q) (has rows q) h in
            let is = d q parts.1 in
            let yes : is.0 ≡ true = sym (ap truth is.1) ∙ parts.0 in
            ap (λ x. x && has found q) parts.0 ∙ all q parts.1 (is.1 ∙ ap (λ x. gives x) yes)

        back : (q : ℕ) → (passes q && has found q) ≡ true → (passes q && has rows q) ≡ true
        back q h = let parts = and_parts (passes q) (has found q) h in ap (λ x. x && has rows q) parts.0 ∙ only q parts.1

        same : (q : ℕ) → has (filter passes rows) q ≡ has (filter passes found) q
        same q = has-filter passes rows q ∙ same_tests (passes q && has rows q) (passes q && has found q) (still q) (back q) ∙ sym (has-filter passes found q)

-- ---- buckets

agreed_bucket : (w v : CellValue) → agrees w v ≡ true → bucket_of w ≡ bucket_of v
agreed_bucket w v h =
    elim (is_equal v w) as (λ b. is_equal v w ≡ b → (b || is_row_of w v) ≡ true → bucket_of w ≡ bucket_of v) [
      | true ↦ λ e _. sym (same_bucket v w (or_left (is_equal v w) (is_row_of v w) e))
      | false ↦ λ _ e. same_bucket w v (or_right (is_equal w v) (is_row_of w v) e)
    ] refl h

met_bucket : (key : KeyItem) (w : CellValue) → key.contains ≡ false → meets key w ≡ true → bucket_of w ≡ bucket_of key.value
met_bucket key w whole h = agreed_bucket w key.value (ap (λ b. cond b (Rattle.formula_eval.specs.Lookup.holds w key.value) (agrees w key.value)) (sym whole) ∙ h)

value_met : (key : KeyItem) (w : CellValue) → value_meets key w ≡ true → meets key w ≡ true
value_met key value.Null h = h
value_met key (value.Int n) h = h
value_met key (value.Bool b) h = h
value_met key (value.Text x) h = h
value_met key (value.Date n) h = h
value_met key (value.Rec x) h = h
value_met key (value.RecSet x) h = h
value_met key (value.List x) h = h
value_met key (value.Err e) h = absurd (false≢true h)
value_met key value.Censored h = h

told_plain : (c : CellId) (v : CellValue) → is_error v ≡ false → told_out c (known v) ≡ gives (known v)
told_plain c value.Null h = refl
told_plain c (value.Int n) h = refl
told_plain c (value.Bool b) h = refl
told_plain c (value.Text x) h = refl
told_plain c (value.Date n) h = refl
told_plain c (value.Rec x) h = refl
told_plain c (value.RecSet x) h = refl
told_plain c (value.List x) h = refl
told_plain c (value.Err e) h = absurd (false≢true (sym h))
told_plain c value.Censored h = refl

-- ---- keys of the row itself

row_at : (rows : List ℕ) (i r : ℕ) → slice_get rows i ≡ Some r → (take 1 (drop i rows) ≡ r ∷ []) × (has rows r ≡ true)
row_at [] zero r h = absurd (cc)
row_at [] (suc i) r h = absurd (cc)
row_at (q ∷ rows) zero r h =
    let same : q ≡ r = cc in
    (ap (λ p. p ∷ []) same, subst (λ p. has (p ∷ rows) r ≡ true) (sym same) (or_left (eqb r r) (has rows r) (number_itself r)))
row_at (q ∷ rows) (suc i) r h = let rest = row_at rows i r h in (rest.0, or_right (eqb q r) (has rows r) rest.1)

pub alone_at : (rows : List ℕ) (i r row : ℕ) → slice_get rows i ≡ Some r → row ≡ r → IsRowAlone rows row (take (i + 1 - i) (drop i rows))
alone_at rows i r row h same =
    let one : i + 1 - i ≡ 1 = omega arith in
    let at = row_at rows i r h in
    subst (λ l. IsRowAlone rows row l) (sym (ap (λ n. take n (drop i rows)) one ∙ at.0)) (record {
      ascends = (tt, tt);
      only = λ q e.
          let is : r ≡ q = eqb-true r q (elim (eqb r q) as (λ b. (b || false) ≡ true → b ≡ true) [ true ↦ λ _. refl | false ↦ λ h. h ] e) in
          subst (λ p. has rows p ≡ true) is at.1;
      there = λ _. or_left (eqb r row) false (subst (λ p. eqb r p ≡ true) (sym same) (number_itself r));
    })

pub row_candidates : (rd : Reader) (t : List ℕ) (key : KeyItem) (rows found : List ℕ) → key.contains ≡ false → is_id key.column ≡ true → IsRowAlone rows (bucket_of key.value) found → AreCandidates rd t key rows found
row_candidates rd t key rows found whole id alone = record {
  ascends = alone.ascends;
  only = alone.only;
  met = λ r h m.
      let out : gives (meets key (value.Int (pos r))) ≡ gives true =
      sym (ap (λ b. cond b (gives (meets key (value.Int (pos r)))) (met_by key (rd.kind t key.column) (told_out (cell_of t key.column r) (rd.cell (cell_of t key.column r))))) id) ∙ m in
      let yes : meets key (value.Int (pos r)) ≡ true = cc in
      let same : r ≡ bucket_of key.value = met_bucket key (value.Int (pos r)) whole yes in
      subst (λ q. has found q ≡ true) (sym same) (alone.there (subst (λ q. has rows q ≡ true) same h));
}

-- ---- keys of data columns

pub found_index : (s : Sheet) (indexes : List ColumnIndex) (t c : List ℕ) (i : ColumnIndex) → AreIndexes s indexes → index_at indexes t c ≡ Some i → IsIndex s t c i.index
found_index s [] t c i a e = absurd (cc)
found_index s (x ∷ xs) t c i a e =
    elim (bytes_eq x.table t && bytes_eq x.column c) as (λ b. (bytes_eq x.table t && bytes_eq x.column c) ≡ b → cond b (Some x) (index_at xs t c) ≡ Some i → IsIndex s t c i.index) [
      | true ↦ λ is e.
          let same : x ≡ i = cc in
          let parts = and_parts (bytes_eq x.table t) (bytes_eq x.column c) is in
          subst (λ (y : ColumnIndex). IsIndex s t c y.index) same
          (subst (λ n. IsIndex s t n x.index) ((bytes_eq-Decides x.column c).0 parts.1)
          (subst (λ n. IsIndex s n x.column x.index) ((bytes_eq-Decides x.table t).0 parts.0) a.0))
      | false ↦ λ _ e. found_index s xs t c i a.1 e
    ] refl e

module _ (s : Sheet) (k : Values) (t : List ℕ) where
  met_told : (key : KeyItem) (index : List (ℕ × Vec ℕ Global)) (i : IsIndex s t key.column index) (r q : ℕ) (b : IsInBucket s t key.column i.ty r q) → is_id key.column ≡ false
      → key_met (over s k) t r key ≡ gives (value_meets key (as_read i.ty b.value))
  met_told key index i r q b no_id =
      let c = cell_of t key.column r in
      ap (λ x. cond x (gives (meets key (value.Int (pos r)))) (met_by key (s.kind t key.column) (told_out c (told_by (s.formula c) (s.base c) (k c))))) no_id
      ∙ ap (λ o. met_by key (s.kind t key.column) (told_out c (told_by o (s.base c) (k c)))) (i.no_formula r)
      ∙ ap (λ o. met_by key (s.kind t key.column) (told_out c o)) b.told
      ∙ ap (λ o. met_by key o (told_out c (known b.value))) i.kind
      ∙ ap (met_by key (Some i.ty)) (told_plain c b.value b.plain)

  pub index_candidates : (key : KeyItem) (rows found : List ℕ) (index : List (ℕ × Vec ℕ Global)) → key.contains ≡ false → is_id key.column ≡ false → s.rows t ≡ Some rows → IsIndex s t key.column index
      → found ≡ under index (bucket_of key.value) → IsAscending found → AreCandidates (over s k) t key rows found
  index_candidates key rows found index whole no_id there i is ascends =
      let listed : Some i.rows ≡ Some rows = sym i.listed ∙ there in
      let same : i.rows ≡ rows = cc in
      record {
        ascends = ascends;
        only = λ r h. subst (λ l. has l r ≡ true) same (i.filled.only (bucket_of key.value) r (subst (λ l. has l r ≡ true) is h));
        met = λ r h m.
            let u = i.filled.each r (subst (λ l. has l r ≡ true) (sym same) h) in
            let out : gives (value_meets key (as_read i.ty u.1.value)) ≡ gives true = sym (met_told key index i r u.0 u.1 no_id) ∙ m in
            let yes : value_meets key (as_read i.ty u.1.value) ≡ true = cc in
            let bucket : u.0 ≡ bucket_of key.value = u.1.of_value ∙ met_bucket key (as_read i.ty u.1.value) whole (value_met key (as_read i.ty u.1.value) yes) in
            subst (λ l. has l r ≡ true) (sym is) (subst (λ q. has (under index q) r ≡ true) bucket u.2);
      }

  module _ (indexes : List ColumnIndex) (a : AreIndexes s indexes) where
    decided : (rows : List ℕ) → s.rows t ≡ Some rows → (r : ℕ) → has rows r ≡ true → (key : KeyItem) → is_plain indexes t key ≡ true → IsDecided (over s k) t r key
    decided rows there r h key =
        elim (is_id key.column) as (λ b. is_id key.column ≡ b → (b || is_some (index_at indexes t key.column)) ≡ true → IsDecided (over s k) t r key) [
          | true ↦ λ is _. (meets key (value.Int (pos r)), ap (λ x. cond x (gives (meets key (value.Int (pos r)))) (met_by key (s.kind t key.column) (told_out (cell_of t key.column r) ((over s k).cell (cell_of t key.column r))))) is)
          | false ↦ λ no_id. elim (index_at indexes t key.column) as (λ o. index_at indexes t key.column ≡ o → is_some o ≡ true → IsDecided (over s k) t r key) [
            | None ↦ λ _ e. absurd (false≢true e)
            | Some x ↦ λ e _.
                let i = found_index s indexes t key.column x a e in
                let listed : Some i.rows ≡ Some rows = sym i.listed ∙ there in
                let same : i.rows ≡ rows = cc in
                let u = i.filled.each r (subst (λ l. has l r ≡ true) (sym same) h) in
                (value_meets key (as_read i.ty u.1.value), met_told key x.index i r u.0 u.1 no_id)
          ] refl
        ] refl

    key_column : (key : KeyItem) → is_plain indexes t key ≡ true → is_key_column (over s k) t key.column ≡ true
    key_column key =
        elim (is_id key.column) as (λ b. (b || is_some (index_at indexes t key.column)) ≡ true → (b || is_some (s.kind t key.column)) ≡ true) [
          | true ↦ λ _. refl
          | false ↦ elim (index_at indexes t key.column) as (λ o. index_at indexes t key.column ≡ o → is_some o ≡ true → is_some (s.kind t key.column) ≡ true) [
            | None ↦ λ _ e. absurd (false≢true e)
            | Some x ↦ λ e _. ap is_some (found_index s indexes t key.column x a e).kind
          ] refl
        ]

    key_columns : (ks : List KeyItem) → list_all (is_plain indexes t) ks ≡ true → list_all (λ (x : KeyItem). is_key_column (over s k) t x.column) ks ≡ true
    key_columns [] h = refl
    key_columns (x ∷ ks) h =
        let parts = and_parts (is_plain indexes t x) (list_all (is_plain indexes t) ks) h in
        ap (λ b. b && list_all (λ (x : KeyItem). is_key_column (over s k) t x.column) ks) (key_column x parts.0) ∙ key_columns ks parts.1

    -- what a lookup finds is found among the candidates
    pub found_among : (ks : List KeyItem) (rows found : List ℕ) (key : KeyItem) → s.rows t ≡ Some rows → IsAscending rows → list_all (is_plain indexes t) ks ≡ true → chosen ks ≡ Some key
        → AreCandidates (over s k) t key rows found → matched (over s k) t ks ≡ scan (over s k) t ks found
    found_among ks rows found key there ascends plain choice some =
        ap (matched_in (over s k) t ks) there
        ∙ ap (λ b. cond b (scan (over s k) t ks rows) (raises err.Key)) (key_columns ks plain)
        ∙ narrowed (over s k) t ks rows found ascends some.ascends (λ r h. all_decided (over s k) t (is_plain indexes t) r (λ x p. decided rows there r h x p) ks plain) some.only
        (λ r h m. some.met r h (chosen_met (over s k) t r key ks choice m))
