-- What tests of agreement say of columns, cells and rows.
use Rattle.std.proofs.Common.{ℕ, zero, suc, Bool, true, false, cond, not, ◌&&◌, ◌||◌, ◌<◌, ◌≤◌, nat_eq, List, [], ◌∷◌, ◌++◌, map, length, slice_get, ◌≡◌, refl, sym, ap, subst, ◌∙◌, eqb, ltb, Option, Some, None, arith}
use Rattle.std.proofs.lemmas.Bool.{and_parts, eqb-true, leb-true, ltb-true, ne_eqb, false≢true}
use Rattle.std.proofs.lemmas.Bool.Decides.{Decides-int_eq}
use Rattle.std.proofs.lemmas.Slice.Eq.{bytes_eq-Decides}
use Rattle.std.specs.Prelude.{pos}
use Rattle.std.specs.List.{AllByRecursion}
use Rattle.std.specs.Str.{bytes_eq}
use Rattle.cell_types.specs.declared.column_type.ColType.{ColType}
use Rattle.cell_types.specs.declared.value.CellValue.{CellValue}
use Rattle.cell_types.specs.declared.value.CellValue.TheVariants as value
use Rattle.doc_model.specs.declared.column.ColDef.{ColDef}
use Rattle.doc_model.specs.MetadataIds.{tables_id}
use Rattle.doc_readers.specs.Parts.{grid_at}
use Rattle.doc_model.specs.Column.{column_row, is_empty, is_sound_type}
use Rattle.doc_model.specs.Document.{Table, Document, table_id, table_row}
use Rattle.doc_model.specs.Rows.{has, has_no_duplicates, IsAscending}
use Rattle.doc_model.specs.Schema.{metadata_column, type_text}
use Rattle.doc_model.proofs.Choices.{not_true, both_true, or_assoc, each_unmapped, each_weaker}
use Rattle.doc_model.proofs.RowsLaws.{each_at}
use Rattle.doc_model.proofs.WholeLaws.{column_rows}
use Rattle.meta_schema.specs.Decoding.{type_of, holds}
use Rattle.meta_schema.specs.Agreement.{has_text, has_truth, is_said, are_said, tables_said, cell_beside}
use Rattle.meta_schema.proofs.TextLemmas.{type_of-type_text}

-- ---- cells

pub held : (v : CellValue) (row : ℕ) → holds v row ≡ true → v ≡ value.Int (pos row)
held value.Null row e = absurd (false≢true e)
held (value.Int n) row e = ap value.Int ((Decides-int_eq n (pos row)).0 e)
held (value.Bool b) row e = absurd (false≢true e)
held (value.Text t) row e = absurd (false≢true e)
held (value.Date n) row e = absurd (false≢true e)
held (value.Rec r) row e = absurd (false≢true e)
held (value.RecSet r) row e = absurd (false≢true e)
held (value.List l) row e = absurd (false≢true e)
held (value.Err k) row e = absurd (false≢true e)
held value.Censored row e = absurd (false≢true e)

pub text_held : (v : CellValue) (text : List ℕ) → has_text v text ≡ true → v ≡ value.Text text
text_held value.Null text e = absurd (false≢true e)
text_held (value.Int n) text e = absurd (false≢true e)
text_held (value.Bool b) text e = absurd (false≢true e)
text_held (value.Text t) text e = ap value.Text ((bytes_eq-Decides t text).0 e)
text_held (value.Date n) text e = absurd (false≢true e)
text_held (value.Rec r) text e = absurd (false≢true e)
text_held (value.RecSet r) text e = absurd (false≢true e)
text_held (value.List l) text e = absurd (false≢true e)
text_held (value.Err k) text e = absurd (false≢true e)
text_held value.Censored text e = absurd (false≢true e)

same_truth : (b truth : Bool) → cond b truth (not truth) ≡ true → b ≡ truth
same_truth true truth e = sym e
same_truth false truth e = sym (not_true truth e)

pub truth_held : (v : CellValue) (truth : Bool) → has_truth v truth ≡ true → v ≡ value.Bool truth
truth_held value.Null truth e = absurd (false≢true e)
truth_held (value.Int n) truth e = absurd (false≢true e)
truth_held (value.Bool b) truth e = ap value.Bool (same_truth b truth e)
truth_held (value.Text t) truth e = absurd (false≢true e)
truth_held (value.Date n) truth e = absurd (false≢true e)
truth_held (value.Rec r) truth e = absurd (false≢true e)
truth_held (value.RecSet r) truth e = absurd (false≢true e)
truth_held (value.List l) truth e = absurd (false≢true e)
truth_held (value.Err k) truth e = absurd (false≢true e)
truth_held value.Censored truth e = absurd (false≢true e)

-- ---- columns of metadata tables

emptied : (text : List ℕ) → is_empty text ≡ true → text ≡ []
emptied [] e = refl
emptied (c ∷ cs) e = let few : length (c ∷ cs) ≤ 0 = leb-true (length (c ∷ cs)) 0 e in absurd (omega arith)

-- what the test of a column says of it
pub column_is : (o : Option ColDef) (id ty : List ℕ) (type : ColType) → type_of ty ≡ Some type → ((d : ColDef) → o ≡ Some d → is_sound_type d.info.ty ≡ true)
    → elim o [ None ↦ false | Some d ↦ bytes_eq d.id id && bytes_eq ty (type_text d.info.ty) && not d.info.is_formula && is_empty d.info.formula && nat_eq d.row 0 ] ≡ true
    → o ≡ Some (metadata_column id type)
column_is None id ty type reads sound e = absurd (false≢true e)
column_is (Some d) id ty type reads sound e =
    let p : ((((bytes_eq d.id id && bytes_eq ty (type_text d.info.ty)) && not d.info.is_formula) && is_empty d.info.formula) ≡ true) × (nat_eq d.row 0 ≡ true) = and_parts _ _ e in
    let q : (((bytes_eq d.id id && bytes_eq ty (type_text d.info.ty)) && not d.info.is_formula) ≡ true) × (is_empty d.info.formula ≡ true) = and_parts _ _ p.0 in
    let r : ((bytes_eq d.id id && bytes_eq ty (type_text d.info.ty)) ≡ true) × (not d.info.is_formula ≡ true) = and_parts _ _ q.0 in
    let n : (bytes_eq d.id id ≡ true) × (bytes_eq ty (type_text d.info.ty) ≡ true) = and_parts _ _ r.0 in
    let read : Some type ≡ Some d.info.ty = sym reads ∙ ap type_of ((bytes_eq-Decides ty (type_text d.info.ty)).0 n.1) ∙ type_of-type_text d.info.ty (sound d refl) in
    let typed : d.info.ty ≡ type = cc in
    ap (λ x. Some (let y : ColDef = record { id = x; info = d.info; row = d.row } in y)) ((bytes_eq-Decides d.id id).0 n.0)
    ∙ ap (λ x. Some (let y : ColDef = record { id = id; info = record { ty = x; is_formula = d.info.is_formula; formula = d.info.formula }; row = d.row } in y)) typed
    ∙ ap (λ x. Some (let y : ColDef = record { id = id; info = record { ty = type; is_formula = x; formula = d.info.formula }; row = d.row } in y)) (not_true d.info.is_formula r.1)
    ∙ ap (λ x. Some (let y : ColDef = record { id = id; info = record { ty = type; is_formula = false; formula = x }; row = d.row } in y)) (emptied d.info.formula q.1)
    ∙ ap (λ x. Some (let y : ColDef = record { id = id; info = record { ty = type; is_formula = false; formula = [] }; row = x } in y)) (eqb-true d.row 0 p.1)

pub each_slice : {X : Type 0} (P : X → Type 0) (xs : List X) (i : ℕ) (x : X) → AllByRecursion P xs → slice_get xs i ≡ Some x → P x
each_slice P [] zero x h e = absurd (cc)
each_slice P [] (suc i) x h e = absurd (cc)
each_slice P (y ∷ xs) zero x h e = let same : y ≡ x = cc in subst P same h.0
each_slice P (y ∷ xs) (suc i) x h e = each_slice P xs i x h.1 e

pub ended : {X : Type 0} (o : Option X) → elim o [ None ↦ true | Some d ↦ false ] ≡ true → o ≡ None
ended None e = refl
ended (Some x) e = absurd (false≢true e)

-- ---- columns that are said

pub record AreSaid (s : Document) (parent low : ℕ) (ds : List ColDef) : Type 0 where
  pub above : AllByRecursion (λ q. low < q) (map column_row ds)
  pub ascend : IsAscending (map column_row ds)
  pub said : AllByRecursion (λ d. is_said s parent d ≡ true) ds

pub said_columns : (s : Document) (parent low : ℕ) (ds : List ColDef) → are_said s parent low ds ≡ true → AreSaid s parent low ds
said_columns s parent low [] e = record { above = tt; ascend = tt; said = tt }
said_columns s parent low (d ∷ ds) e =
    let two : ((ltb low d.row && is_said s parent d) ≡ true) × (are_said s parent d.row ds ≡ true) = and_parts _ _ e in
    let first : (ltb low d.row ≡ true) × (is_said s parent d ≡ true) = and_parts _ _ two.0 in
    let rest : AreSaid s parent d.row ds = said_columns s parent d.row ds two.1 in
    let higher : low < d.row = ltb-true low d.row first.0 in
    record {
      above = (higher, each_weaker (λ q. d.row < q) (λ q. low < q) (λ q l. omega arith) (map column_row ds) rest.above);
      ascend = (rest.above, rest.ascend);
      said = (first.1, rest.said);
    }

-- what tables that are said are
pub said_tables : (s : Document) (rows : List ℕ) (p : List Table) → tables_said s rows (map table_id p) ≡ true → rows ≡ map table_row p
    → AllByRecursion (λ t. (has_text (cell_beside s tables_id 0 t.row) t.id ≡ true) × (are_said s t.row 0 (grid_at s t.id).columns ≡ true)) p
said_tables s [] [] e same = tt
said_tables s [] (t ∷ p) e same = absurd (cc)
said_tables s (r ∷ rows) [] e same = absurd (cc)
said_tables s (r ∷ rows) (t ∷ p) e same =
    let two : _ × (tables_said s rows (map table_id p) ≡ true) = and_parts _ _ e in
    let first = and_parts (has_text (cell_beside s tables_id 0 r) t.id) (are_said s r 0 (grid_at s t.id).columns) two.0 in
    let here : r ≡ t.row = cc in
    let rest : rows ≡ map table_row p = cc in (
      (
        ap (λ q. has_text (cell_beside s tables_id 0 q) t.id) (sym here) ∙ first.0,
        ap (λ q. are_said s q 0 (grid_at s t.id).columns) (sym here) ∙ first.1,
      ),
      said_tables s rows p two.1 rest,
    )

-- ---- rows

-- rows that ascend are once
has_below : (r : ℕ) (rows : List ℕ) → AllByRecursion (λ q. r < q) rows → has rows r ≡ false
has_below r [] h = refl
has_below r (q ∷ rows) h = ap (λ b. b || has rows r) (ne_eqb q r (λ e. absurd (omega (arith, h.0)))) ∙ has_below r rows h.1

has_append : (xs ys : List ℕ) (r : ℕ) → has (xs ++ ys) r ≡ (has xs r || has ys r)
has_append [] ys r = refl
has_append (x ∷ xs) ys r = ap (λ b. eqb x r || b) (has_append xs ys r) ∙ or_assoc (eqb x r) (has xs r) (has ys r)

-- rows of which each part has its own mark are once
once_append : (xs ys : List ℕ) → IsAscending xs → AllByRecursion (λ q. has ys q ≡ false) xs → has_no_duplicates ys ≡ true → has_no_duplicates (xs ++ ys) ≡ true
once_append [] ys a h once = once
once_append (x ∷ xs) ys a h once =
    both_true (not (has (xs ++ ys) x)) (has_no_duplicates (xs ++ ys))
    (ap not (has_append xs ys x ∙ ap (λ b. b || has ys x) (has_below x xs a.0) ∙ h.0))
    (once_append xs ys a.1 h.1 once)

module _ (mark : ℕ → CellValue) where
  abbrev pub IsMarked : Table → Type 0
  IsMarked t = AllByRecursion (λ q. mark q ≡ value.Int (pos t.row)) (map column_row t.grid.columns)

  unmarked : (row q : ℕ) (p : List Table) → mark q ≡ value.Int (pos row) → AllByRecursion (λ t. row < t.row) p → AllByRecursion IsMarked p → has (column_rows p) q ≡ false
  unmarked row q [] m l h = refl
  unmarked row q (t ∷ p) m l h =
      has_append (map column_row t.grid.columns) (column_rows p) q
      ∙ ap (λ b. b || has (column_rows p) q) (elim (has (map column_row t.grid.columns) q) as (λ b. has (map column_row t.grid.columns) q ≡ b → b ≡ false) [
        | true ↦ λ is.
            let other : mark q ≡ value.Int (pos t.row) = each_at (λ q. mark q ≡ value.Int (pos t.row)) (map column_row t.grid.columns) q h.0 is in
            let same : row ≡ t.row = cc in
            absurd (omega (arith, l.0))
        | false ↦ λ _. refl
      ] refl)
      ∙ unmarked row q p m l.1 h.1

  pub once_marked : (p : List Table) → AllByRecursion IsMarked p → AllByRecursion (λ t. IsAscending (map column_row t.grid.columns)) p → IsAscending (map table_row p) → has_no_duplicates (column_rows p) ≡ true
  once_marked [] h a ts = refl
  once_marked (t ∷ p) h a ts =
      once_append (map column_row t.grid.columns) (column_rows p) a.0
      (each_weaker (λ q. mark q ≡ value.Int (pos t.row)) (λ q. has (column_rows p) q ≡ false) (λ q m. unmarked t.row q p m (each_unmapped (λ q. t.row < q) table_row p ts.0) h.1) (map column_row t.grid.columns) h.0)
      (once_marked p h.1 a.1 ts.1)

-- ---- as many rows, and all among others

among_tail : (y : ℕ) (xs ys : List ℕ) → AllByRecursion (λ q. y < q) xs → AllByRecursion (λ q. has (y ∷ ys) q ≡ true) xs → AllByRecursion (λ q. has ys q ≡ true) xs
among_tail y [] ys l h = tt
among_tail y (x ∷ xs) ys l h = (ap (λ b. b || has ys x) (sym (ne_eqb y x (λ e. absurd (omega (arith, l.0))))) ∙ h.0, among_tail y xs ys l.1 h.1)

few_among : (xs ys : List ℕ) → IsAscending xs → IsAscending ys → AllByRecursion (λ q. has ys q ≡ true) xs → length xs ≤ length ys
few_among [] ys a b h = omega arith
few_among (x ∷ xs) [] a b h = absurd (false≢true h.0)
few_among (x ∷ xs) (y ∷ ys) a b h =
    elim (eqb y x) as (λ v. eqb y x ≡ v → (v || has ys x) ≡ true → length (x ∷ xs) ≤ length (y ∷ ys)) [
      | true ↦ λ is _.
          let same : y ≡ x = eqb-true y x is in
          let later : length xs ≤ length ys = few_among xs ys a.1 b.1 (among_tail y xs ys (each_weaker (λ q. x < q) (λ q. y < q) (λ q l. omega arith) xs a.0) h.1) in
          omega arith
      | false ↦ λ _ there.
          let less : y < x = each_at (λ q. y < q) ys x b.0 there in
          let all : AllByRecursion (λ q. y < q) (x ∷ xs) = (less, each_weaker (λ q. x < q) (λ q. y < q) (λ q l. omega arith) xs a.0) in
          let later : length (x ∷ xs) ≤ length ys = few_among (x ∷ xs) ys a b.1 (among_tail y (x ∷ xs) ys all h) in
          omega arith
    ] refl h.0

pub same_among : (xs ys : List ℕ) → IsAscending xs → IsAscending ys → AllByRecursion (λ q. has ys q ≡ true) xs → length xs ≡ length ys → xs ≡ ys
same_among [] [] a b h e = refl
same_among [] (y ∷ ys) a b h e = absurd (omega arith)
same_among (x ∷ xs) [] a b h e = absurd (false≢true h.0)
same_among (x ∷ xs) (y ∷ ys) a b h e =
    elim (eqb y x) as (λ v. eqb y x ≡ v → (v || has ys x) ≡ true → x ∷ xs ≡ y ∷ ys) [
      | true ↦ λ is _.
          let same : y ≡ x = eqb-true y x is in
          ap (λ z. z ∷ xs) (sym same)
          ∙ ap (λ zs. y ∷ zs) (same_among xs ys a.1 b.1 (among_tail y xs ys (each_weaker (λ q. x < q) (λ q. y < q) (λ q l. omega arith) xs a.0) h.1) (omega arith))
      | false ↦ λ _ there.
          let less : y < x = each_at (λ q. y < q) ys x b.0 there in
          let all : AllByRecursion (λ q. y < q) (x ∷ xs) = (less, each_weaker (λ q. x < q) (λ q. y < q) (λ q l. omega arith) xs a.0) in
          let later : length (x ∷ xs) ≤ length ys = few_among (x ∷ xs) ys a b.1 (among_tail y (x ∷ xs) ys all h) in
          absurd (omega arith)
    ] refl h.0
