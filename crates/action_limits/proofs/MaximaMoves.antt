-- The most columns and rows and the greatest row id after an action, against their bounds.
use Rattle.std.proofs.Common.{ℕ, Bool, true, false, cond, not, ◌+◌, ◌≤◌, max, List, [], ◌∷◌, ◌++◌, map, filter, length, length-append, ◌≡◌, refl, sym, ap, subst, ◌∙◌, arith}
use Rattle.std.proofs.lemmas.Bool.{and_parts, true≢false}
use Rattle.std.specs.List.{AllByRecursion}
use Rattle.std.specs.Str.{bytes_eq}
use Rattle.doc_model.specs.declared.action.DocAction.{DocAction}
use Rattle.doc_model.specs.declared.action.DocAction.TheVariants.{BulkAdd, BulkUpdate, BulkRemove, AddTable, RemoveTable, RenameTable, AddColumn, RemoveColumn, RenameColumn, ModifyColumn}
use Rattle.doc_model.specs.Apply.{apply}
use Rattle.doc_model.specs.ByIds.{without_id}
use Rattle.doc_model.specs.Counts.{counts, greatest}
use Rattle.doc_model.specs.Document.{Document, Table, table_id}
use Rattle.doc_model.specs.DocumentLaws.{IsWhole}
use Rattle.doc_model.specs.MaximaLaws.{AreGreatest, Maxima, columns_then, new_maxima, maxima_after, maxima_then, rows_in, rows_out, staying}
use Rattle.doc_model.specs.Rows.{has, without}
use Rattle.doc_model.specs.Valid.{valid}
use Rattle.doc_model.proofs.Choices.{each_weaker, map-map, not_true}
use Rattle.doc_model.proofs.MaximaSums.{without-none}
use Rattle.doc_model.proofs.SchemaMaxima.{maxima-apply}
use Rattle.action_limits.specs.Left.{is_growing, is_quiet, takes_away}
use Rattle.action_limits.proofs.SumLemmas.{greatest-append, greatest-cons, map-append}

-- ---- the greatest of a list and a bound

pub each_below : (b : ℕ) (ns : List ℕ) → greatest ns ≤ b → AllByRecursion (λ n. n ≤ b) ns
each_below b [] h = tt
each_below b (n ∷ ns) h =
    let e : greatest (n ∷ ns) ≡ max n (greatest ns) = greatest-cons n ns in
    let here : n ≤ b = grind arith in
    let later : greatest ns ≤ b = grind arith in
    (here, each_below b ns later)

pub all_below : (b : ℕ) (ns : List ℕ) → AllByRecursion (λ n. n ≤ b) ns → greatest ns ≤ b
all_below b [] h = omega arith
all_below b (n ∷ ns) h =
    let e : greatest (n ∷ ns) ≡ max n (greatest ns) = greatest-cons n ns in
    let here : n ≤ b = h.0 in
    let later : greatest ns ≤ b = all_below b ns h.1 in
    grind arith

greatest-filter : (p : ℕ → Bool) (ns : List ℕ) → greatest (filter p ns) ≤ greatest ns
greatest-filter p ns = all_below (greatest ns) (filter p ns) (kept ns (each_below (greatest ns) ns (omega arith)))
  where
    kept : (ms : List ℕ) → AllByRecursion (λ n. n ≤ greatest ns) ms → AllByRecursion (λ n. n ≤ greatest ns) (filter p ms)
    kept [] h = tt
    kept (m ∷ ms) h = elim (p m) as (λ c. AllByRecursion (λ n. n ≤ greatest ns) (cond c (m ∷ filter p ms) (filter p ms))) [ true ↦ (h.0, kept ms h.1) | false ↦ kept ms h.1 ]

length-filter : {X : Type 0} (p : X → Bool) (xs : List X) → length (filter p xs) ≤ length xs
length-filter p [] = omega arith
length-filter p (x ∷ xs) =
    let later : length (filter p xs) ≤ length xs = length-filter p xs in
    elim (p x) as (λ c. length (cond c (x ∷ filter p xs) (filter p xs)) ≤ length (x ∷ xs)) [ true ↦ omega arith | false ↦ omega arith ]

greatest_more : {X : Type 0} (h k : X → ℕ) → ((x : X) → h x ≤ k x) → (xs : List X) → greatest (map h xs) ≤ greatest (map k xs)
greatest_more h k more [] = omega arith
greatest_more h k more (x ∷ xs) =
    let one : greatest (h x ∷ map h xs) ≡ max (h x) (greatest (map h xs)) = greatest-cons (h x) (map h xs) in
    let two : greatest (k x ∷ map k xs) ≡ max (k x) (greatest (map k xs)) = greatest-cons (k x) (map k xs) in
    let here : h x ≤ k x = more x in
    let later : greatest (map h xs) ≤ greatest (map k xs) = greatest_more h k more xs in
    grind arith

-- ---- actions after which no table has more

pub no_new_table : (a : DocAction) → is_growing a ≡ false → new_maxima a ≡ []
no_new_table (BulkAdd table rows ks) h = refl
no_new_table (BulkUpdate table rows ks) h = refl
no_new_table (BulkRemove table rows) h = refl
no_new_table (AddTable table row columns) h = absurd (true≢false h)
no_new_table (RemoveTable table) h = refl
no_new_table (RenameTable table new) h = refl
no_new_table (AddColumn table d) h = refl
no_new_table (RemoveColumn table column) h = refl
no_new_table (RenameColumn table column new) h = refl
no_new_table (ModifyColumn table column info) h = refl

pub no_new_rows : (a : DocAction) (id : List ℕ) → is_growing a ≡ false → rows_in a id ≡ []
no_new_rows (BulkAdd table rows ks) id h = absurd (true≢false h)
no_new_rows (BulkUpdate table rows ks) id h = refl
no_new_rows (BulkRemove table rows) id h = refl
no_new_rows (AddTable table row columns) id h = absurd (true≢false h)
no_new_rows (RemoveTable table) id h = refl
no_new_rows (RenameTable table new) id h = refl
no_new_rows (AddColumn table d) id h = absurd (true≢false h)
no_new_rows (RemoveColumn table column) id h = refl
no_new_rows (RenameColumn table column new) id h = refl
no_new_rows (ModifyColumn table column info) id h = refl

no_new_columns : (a : DocAction) (t : Table) → is_growing a ≡ false → columns_then a t ≤ length t.grid.columns
no_new_columns (BulkAdd table rows ks) t h = omega arith
no_new_columns (BulkUpdate table rows ks) t h = omega arith
no_new_columns (BulkRemove table rows) t h = omega arith
no_new_columns (AddTable table row columns) t h = omega arith
no_new_columns (RemoveTable table) t h = omega arith
no_new_columns (RenameTable table new) t h = omega arith
no_new_columns (AddColumn table d) t h = absurd (true≢false h)
no_new_columns (RemoveColumn table column) t h = omega arith
no_new_columns (RenameColumn table column new) t h = omega arith
no_new_columns (ModifyColumn table column info) t h = omega arith

each_staying : (P : Table → Type 0) (a : DocAction) (s : Document) → AllByRecursion P s → AllByRecursion P (staying a s)
each_staying P (BulkAdd table rows ks) s h = h
each_staying P (BulkUpdate table rows ks) s h = h
each_staying P (BulkRemove table rows) s h = h
each_staying P (AddTable table row columns) s h = h
each_staying P (RemoveTable table) s h = kept s h
  where
    kept : (ts : List Table) → AllByRecursion P ts → AllByRecursion P (without_id table_id table ts)
    kept [] h = tt
    kept (t ∷ ts) h = elim (bytes_eq t.id table) as (λ c. AllByRecursion P (cond (not c) (t ∷ without_id table_id table ts) (without_id table_id table ts))) [ true ↦ kept ts h.1 | false ↦ (h.0, kept ts h.1) ]
each_staying P (RenameTable table new) s h = h
each_staying P (AddColumn table d) s h = h
each_staying P (RemoveColumn table column) s h = h
each_staying P (RenameColumn table column new) s h = h
each_staying P (ModifyColumn table column info) s h = h

-- each of the tables' maxima is below a bound
module _ (f : Maxima → ℕ) (b : ℕ) where
  each_of_map : (s : Document) (h : Table → Maxima) → AllByRecursion (λ t. f (h t) ≤ b) s → AllByRecursion (λ n. n ≤ b) (map f (map h s))
  each_of_map [] h k = tt
  each_of_map (t ∷ s) h k = (k.0, each_of_map s h k.1)

  each_known : (s : Document) (h : Table → ℕ) → AllByRecursion (λ n. n ≤ b) (map h s) → AllByRecursion (λ t. h t ≤ b) s
  each_known [] h k = tt
  each_known (t ∷ s) h k = (k.0, each_known s h k.1)

  -- what is no greater than before stays below it
  stays_below : (s : Document) (a : DocAction) (h : Table → ℕ) → is_growing a ≡ false → ((t : Table) → f (maxima_then s a t) ≤ h t) → greatest (map h s) ≤ b → greatest (map f (maxima_after s a)) ≤ b
  stays_below s a h shrinks less before =
      subst (λ (ps : List Maxima). greatest (map f (ps ++ map (maxima_then s a) (staying a s))) ≤ b) (sym (no_new_table a shrinks))
      (all_below b (map f (map (maxima_then s a) (staying a s)))
      (each_of_map (staying a s) (maxima_then s a)
      (each_staying (λ t. f (maxima_then s a t) ≤ b) a s
      (each_weaker (λ t. h t ≤ b) (λ t. f (maxima_then s a t) ≤ b) (λ t k. let l : f (maxima_then s a t) ≤ h t = less t in omega arith) s
      (each_known s h (each_below b (map h s) before))))))

fewer_rows : (s : Document) (a : DocAction) (t : Table) → is_growing a ≡ false → length (rows_in a t.id ++ without (rows_out s a t.id) t.grid.rows) ≤ length t.grid.rows
fewer_rows s a t shrinks =
    subst (λ rows. length (rows ++ without (rows_out s a t.id) t.grid.rows) ≤ length t.grid.rows) (sym (no_new_rows a t.id shrinks))
    (length-filter (λ r. not (has (rows_out s a t.id) r)) t.grid.rows)

lesser_rows : (s : Document) (a : DocAction) (t : Table) → is_growing a ≡ false → greatest (rows_in a t.id ++ without (rows_out s a t.id) t.grid.rows) ≤ greatest t.grid.rows
lesser_rows s a t shrinks =
    subst (λ rows. greatest (rows ++ without (rows_out s a t.id) t.grid.rows) ≤ greatest t.grid.rows) (sym (no_new_rows a t.id shrinks))
    (greatest-filter (λ r. not (has (rows_out s a t.id) r)) t.grid.rows)

-- the maxima of a document against bounds
pub record IsBelow (s : Document) (c r i : ℕ) : Type 0 where
  pub columns : (counts s).columns ≤ c
  pub rows : (counts s).rows ≤ r
  pub row_id : (counts s).row_id ≤ i

pub stays-below : (s : Document) (a : DocAction) (c r i : ℕ) → IsWhole s → valid s a ≡ true → is_growing a ≡ false → IsBelow s c r i → IsBelow (apply s a) c r i
stays-below s a c r i whole v shrinks below =
    let told : AreGreatest (counts (apply s a)) (maxima_after s a) = maxima-apply s a whole v in
    record {
      columns = subst (λ n. n ≤ c) (sym told.columns) (stays_below (λ (p : Maxima). p.columns) c s a (λ (t : Table). length t.grid.columns) shrinks (λ t. no_new_columns a t shrinks) below.columns);
      rows = subst (λ n. n ≤ r) (sym told.rows) (stays_below (λ (p : Maxima). p.rows) r s a (λ (t : Table). length t.grid.rows) shrinks (λ t. fewer_rows s a t shrinks) below.rows);
      row_id = subst (λ n. n ≤ i) (sym told.row_id) (stays_below (λ (p : Maxima). p.row_id) i s a (λ (t : Table). greatest t.grid.rows) shrinks (λ t. lesser_rows s a t shrinks) below.row_id);
    }

-- ---- actions after which no table has less

-- every table stays, with its rows and its columns
record AreKept (s : Document) (a : DocAction) : Type 0 where
  rows : (id : List ℕ) → rows_out s a id ≡ []
  tables : staying a s ≡ s
  columns : (t : Table) → length t.grid.columns ≤ columns_then a t

are_kept : (s : Document) (a : DocAction) → takes_away a ≡ false → AreKept s a
are_kept s (BulkAdd table rows ks) h = record { rows = λ id. refl; tables = refl; columns = λ t. omega arith }
are_kept s (BulkUpdate table rows ks) h = record { rows = λ id. refl; tables = refl; columns = λ t. omega arith }
are_kept s (BulkRemove table rows) h = absurd (true≢false h)
are_kept s (AddTable table row columns) h = record { rows = λ id. refl; tables = refl; columns = λ t. omega arith }
are_kept s (RemoveTable table) h = absurd (true≢false h)
are_kept s (RenameTable table new) h = record { rows = λ id. refl; tables = refl; columns = λ t. omega arith }
are_kept s (AddColumn table d) h = record { rows = λ id. refl; tables = refl; columns = λ t. omega arith }
are_kept s (RemoveColumn table column) h = absurd (true≢false h)
are_kept s (RenameColumn table column new) h = record { rows = λ id. refl; tables = refl; columns = λ t. omega arith }
are_kept s (ModifyColumn table column info) h = record { rows = λ id. refl; tables = refl; columns = λ t. omega arith }

-- what is no less in each table is no less in all
rises : (f : Maxima → ℕ) (s : Document) (a : DocAction) (h : Table → ℕ) → AreKept s a → ((t : Table) → h t ≤ f (maxima_then s a t)) → greatest (map h s) ≤ greatest (map f (maxima_after s a))
rises f s a h kept more =
    let all : greatest (map f (new_maxima a ++ map (maxima_then s a) (staying a s))) ≡ max (greatest (map f (new_maxima a))) (greatest (map f (map (maxima_then s a) (staying a s))))
    = ap greatest (map-append f (new_maxima a) (map (maxima_then s a) (staying a s))) ∙ greatest-append (map f (new_maxima a)) (map f (map (maxima_then s a) (staying a s))) in
    let stay : greatest (map f (map (maxima_then s a) (staying a s))) ≡ greatest (map (λ t. f (maxima_then s a t)) s)
    = ap (λ ts. greatest (map f (map (maxima_then s a) ts))) kept.tables ∙ ap greatest (sym (map-map f (maxima_then s a) s)) in
    let each : greatest (map h s) ≤ greatest (map (λ t. f (maxima_then s a t)) s) = greatest_more h (λ t. f (maxima_then s a t)) more s in
    grind arith

no_fewer : (ins rows : List ℕ) → length rows ≤ length (ins ++ without [] rows)
no_fewer ins rows =
    let all : length (ins ++ without [] rows) ≡ length ins + length (without [] rows) = length-append ins (without [] rows) in
    let same : length (without [] rows) ≡ length rows = ap length (without-none rows) in
    omega arith

no_lesser : (ins rows : List ℕ) → greatest rows ≤ greatest (ins ++ without [] rows)
no_lesser ins rows =
    let all : greatest (ins ++ without [] rows) ≡ max (greatest ins) (greatest (without [] rows)) = greatest-append ins (without [] rows) in
    let same : greatest (without [] rows) ≡ greatest rows = ap greatest (without-none rows) in
    grind arith

-- the maxima of the document are no greater than those after the action
pub never-less : (s : Document) (a : DocAction) → IsWhole s → valid s a ≡ true → takes_away a ≡ false → IsBelow s (counts (apply s a)).columns (counts (apply s a)).rows (counts (apply s a)).row_id
never-less s a whole v keeps =
    let told : AreGreatest (counts (apply s a)) (maxima_after s a) = maxima-apply s a whole v in
    let kept : AreKept s a = are_kept s a keeps in
    record {
      columns = subst (λ n. (counts s).columns ≤ n) (sym told.columns) (rises (λ (p : Maxima). p.columns) s a (λ (t : Table). length t.grid.columns) kept kept.columns);
      rows = subst (λ n. (counts s).rows ≤ n) (sym told.rows) (rises (λ (p : Maxima). p.rows) s a (λ (t : Table). length t.grid.rows) kept
          (λ t. subst (λ out. length t.grid.rows ≤ length (rows_in a t.id ++ without out t.grid.rows)) (sym (kept.rows t.id)) (no_fewer (rows_in a t.id) t.grid.rows)));
      row_id = subst (λ n. (counts s).row_id ≤ n) (sym told.row_id) (rises (λ (p : Maxima). p.row_id) s a (λ (t : Table). greatest t.grid.rows) kept
          (λ t. subst (λ out. greatest t.grid.rows ≤ greatest (rows_in a t.id ++ without out t.grid.rows)) (sym (kept.rows t.id)) (no_lesser (rows_in a t.id) t.grid.rows)));
    }

-- ---- actions after which all is as before

pub record SameMaxima (s s' : Document) : Type 0 where
  pub columns : (counts s').columns ≡ (counts s).columns
  pub rows : (counts s').rows ≡ (counts s).rows
  pub row_id : (counts s').row_id ≡ (counts s).row_id

as_great : (m n : ℕ) → m ≤ n → n ≤ m → m ≡ n
as_great m n a b = omega arith

pub maxima-quiet : (s : Document) (a : DocAction) → IsWhole s → valid s a ≡ true → is_quiet a ≡ true → SameMaxima s (apply s a)
maxima-quiet s a whole v quiet =
    let both : (not (is_growing a) ≡ true) × (not (takes_away a) ≡ true) = and_parts (not (is_growing a)) (not (takes_away a)) quiet in
    let up : IsBelow (apply s a) (counts s).columns (counts s).rows (counts s).row_id
    = stays-below s a (counts s).columns (counts s).rows (counts s).row_id whole v (not_true (is_growing a) both.0) (record { columns = omega arith; rows = omega arith; row_id = omega arith }) in
    let low : IsBelow s (counts (apply s a)).columns (counts (apply s a)).rows (counts (apply s a)).row_id = never-less s a whole v (not_true (takes_away a) both.1) in
    record {
      columns = as_great (counts (apply s a)).columns (counts s).columns up.columns low.columns;
      rows = as_great (counts (apply s a)).rows (counts s).rows up.rows low.rows;
      row_id = as_great (counts (apply s a)).row_id (counts s).row_id up.row_id low.row_id;
    }
