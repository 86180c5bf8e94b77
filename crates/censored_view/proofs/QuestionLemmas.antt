-- What is found in a view, by what its context lets be read.
use Rattle.std.proofs.Common.{ℕ, Bool, true, false, cond, ◌&&◌, ◌||◌, List, [], ◌∷◌, map, filter, ◌≡◌, refl, sym, ap, ◌∙◌, Option, Some, None, is_some, slice_get}
use Rattle.std.proofs.lemmas.Bool.{or_parts, true≢false}
use Rattle.std.proofs.lemmas.Slice.Eq.{bytes_eq-Decides}
use Rattle.std.specs.List.{list_any}
use Rattle.std.specs.Str.{bytes_eq}
use Rattle.doc_model.specs.declared.column.ColDef.{ColDef}
use Rattle.doc_model.specs.declared.view.ViewCol.{ViewCol}
use Rattle.doc_model.specs.declared.view.ViewTable.{ViewTable}
use Rattle.doc_model.specs.ByIds.{by_id, find_id, has_id, precedes, put_by_id}
use Rattle.doc_model.specs.Changes.{shown_table_id}
use Rattle.doc_model.specs.Column.{column_id}
use Rattle.doc_model.specs.Document.{Document, Table, table_id}
use Rattle.doc_model.specs.Grid.{Grid}
use Rattle.doc_model.specs.LaidOut.{IsLaidOut}
use Rattle.doc_model.specs.Rows.{has}
use Rattle.doc_model.specs.Schema.{no_grid}
use Rattle.doc_model.specs.ViewEdits.{shown_id}
use Rattle.doc_model.proofs.ByIdsLaws.{has_id-by_id, has_id-find, has_id-map}
use Rattle.doc_model.proofs.Choices.{or_swap}
use Rattle.doc_model.proofs.RowsLaws.{has-filter}
use Rattle.doc_readers.specs.Parts.{grid_at}
use Rattle.acl_formula.specs.RuleRow.{RuleRow}
use Rattle.censored_view.specs.Parts.{seen_part}
use Rattle.censored_view.specs.Questions.{is_column_in, is_read, is_row_in}
use Rattle.censored_view.specs.Readable.{Readable, row_of}
use Rattle.censored_view.specs.View.{is_row_shown, is_shown, shown_column, shown_columns, shown_rows, view}
use Rattle.censored_view.proofs.ShownRows.{ids_made}
use Rattle.censored_view.proofs.ViewLemmas.{find-view, seen_whole}

and_swap : (a b : Bool) → (a && b) ≡ (b && a)
and_swap true true = refl
and_swap true false = refl
and_swap false true = refl
and_swap false false = refl

-- ---- tests on the ids of shown columns

or_twice : (a b : Bool) → (a || b) ≡ (a || (a || b))
or_twice true b = refl
or_twice false b = refl

any-put : (f : List ℕ → Bool) (x : ViewCol) (xs : List ViewCol) → list_any (λ (d : ViewCol). f d.id) (put_by_id shown_id x xs) ≡ (f x.id || list_any (λ (d : ViewCol). f d.id) xs)
any-put f x [] = refl
any-put f x (y ∷ xs) =
    let any : List ViewCol → Bool = λ ds. list_any (λ (d : ViewCol). f d.id) ds in
    elim (precedes x.id y.id) as (λ b. any (cond b (x ∷ y ∷ xs) (cond (bytes_eq x.id y.id) (x ∷ xs) (y ∷ put_by_id shown_id x xs))) ≡ (f x.id || (f y.id || any xs))) [
      | true ↦ refl
      | false ↦ elim (bytes_eq x.id y.id) as (λ b. bytes_eq x.id y.id ≡ b → any (cond b (x ∷ xs) (y ∷ put_by_id shown_id x xs)) ≡ (f x.id || (f y.id || any xs))) [
        | true ↦ λ is. or_twice (f x.id) (any xs) ∙ ap (λ n. f x.id || (f n || any xs)) ((bytes_eq-Decides x.id y.id).0 is)
        | false ↦ λ _. ap (λ b. f y.id || b) (any-put f x xs) ∙ or_swap (f y.id) (f x.id) (any xs)
      ] refl
    ]

any-by_id : (f : List ℕ → Bool) (xs : List ViewCol) → list_any (λ (d : ViewCol). f d.id) (by_id shown_id xs) ≡ list_any (λ (d : ViewCol). f d.id) xs
any-by_id f [] = refl
any-by_id f (x ∷ xs) = any-put f x (by_id shown_id xs) ∙ ap (λ b. f x.id || b) (any-by_id f xs)

any-made : (q : Readable) (f : List ℕ → Bool) (ds : List ColDef) → list_any (λ (d : ViewCol). f d.id) (map (shown_column q) (filter (λ (d : ColDef). q.column d.id) ds)) ≡ list_any (λ (d : ColDef). q.column d.id && f d.id) ds
any-made q f [] = refl
any-made q f (d ∷ ds) =
    elim (q.column d.id) as (λ b. list_any (λ (d : ViewCol). f d.id) (map (shown_column q) (cond b (d ∷ filter (λ (d : ColDef). q.column d.id) ds) (filter (λ (d : ColDef). q.column d.id) ds))) ≡ ((b && f d.id) || list_any (λ (d : ColDef). q.column d.id && f d.id) ds)) [
      | true ↦ ap (λ b. f d.id || b) (any-made q f ds)
      | false ↦ any-made q f ds
    ]

any-shown : (q : Readable) (f : List ℕ → Bool) (ds : List ColDef) → list_any (λ (d : ViewCol). f d.id) (shown_columns q ds) ≡ list_any (λ (d : ColDef). q.column d.id && f d.id) ds
any-shown q f ds = any-by_id f (map (shown_column q) (filter (λ (d : ColDef). q.column d.id) ds)) ∙ any-made q f ds

-- where no column is shown, none is that passes more
none_more : (q : Readable) (f : List ℕ → Bool) (ds : List ColDef) → list_any (λ (d : ColDef). q.column d.id) ds ≡ false → list_any (λ (d : ColDef). q.column d.id && f d.id) ds ≡ false
none_more q f [] none = refl
none_more q f (d ∷ ds) none =
    let two : (q.column d.id ≡ false) × (list_any (λ (d : ColDef). q.column d.id) ds ≡ false) = or_parts (q.column d.id) (list_any (λ (d : ColDef). q.column d.id) ds) none in
    ap (λ b. (b && f d.id) || list_any (λ (d : ColDef). q.column d.id && f d.id) ds) two.0 ∙ none_more q f ds two.1

-- ---- tables

seen_some : (q : Readable) (c : List ℕ) (o : Option Table) → (is_some o && is_shown q (elim o as (λ _. Grid ColDef) [ None ↦ no_grid | Some t ↦ t.grid ]).columns) ≡ is_some (seen_whole q c o)
seen_some q c None = refl
seen_some q c (Some t) =
    elim (is_shown q t.grid.columns) as (λ b. b ≡ is_some (cond b (Some (shown_rows q c (shown_columns q t.grid.columns) (map (row_of t.grid) t.grid.rows))) None)) [ true ↦ refl | false ↦ refl ]

pub table_seen : (x : List ℕ → Readable) (s : Document) → IsLaidOut s → (c : List ℕ) → (has_id table_id s c && is_shown (x c) (grid_at s c).columns) ≡ has_id shown_table_id (view x s) c
table_seen x s laid c =
    ap (λ b. b && is_shown (x c) (grid_at s c).columns) (has_id-find table_id c s)
    ∙ seen_some (x c) c (find_id table_id c s)
    ∙ sym (has_id-find shown_table_id c (view x s) ∙ ap is_some (find-view x s laid c))

-- ---- columns

has-named : (p : List ℕ → Bool) (ds : List ColDef) (c : List ℕ) → has_id column_id (filter (λ (d : ColDef). p d.id) ds) c ≡ (has_id column_id ds c && p c)
has-named p [] c = refl
has-named p (d ∷ ds) c =
    elim (bytes_eq d.id c) as (λ b. bytes_eq d.id c ≡ b → has_id column_id (cond (p d.id) (d ∷ filter (λ (d : ColDef). p d.id) ds) (filter (λ (d : ColDef). p d.id) ds)) c ≡ ((b || has_id column_id ds c) && p c)) [
      | true ↦ λ is.
          let same : p d.id ≡ p c = ap p ((bytes_eq-Decides d.id c).0 is) in
          elim (p d.id) as (λ b. p d.id ≡ b → has_id column_id (cond b (d ∷ filter (λ (d : ColDef). p d.id) ds) (filter (λ (d : ColDef). p d.id) ds)) c ≡ p c) [
            | true ↦ λ yes. ap (λ b. b || has_id column_id (filter (λ (d : ColDef). p d.id) ds) c) is ∙ sym yes ∙ same
            | false ↦ λ isnt. has-named p ds c ∙ ap (λ b. has_id column_id ds c && b) (sym same ∙ isnt) ∙ never (has_id column_id ds c) ∙ sym isnt ∙ same
          ] refl
      | false ↦ λ isnt.
          elim (p d.id) as (λ b. has_id column_id (cond b (d ∷ filter (λ (d : ColDef). p d.id) ds) (filter (λ (d : ColDef). p d.id) ds)) c ≡ (has_id column_id ds c && p c)) [
            | true ↦ ap (λ b. b || has_id column_id (filter (λ (d : ColDef). p d.id) ds) c) isnt ∙ has-named p ds c
            | false ↦ has-named p ds c
          ]
    ] refl
  where
    never : (b : Bool) → (b && false) ≡ false
    never true = refl
    never false = refl

any_named : (p : List ℕ → Bool) (ds : List ColDef) (c : List ℕ) → list_any (λ (d : ColDef). p d.id) ds ≡ false → false ≡ (has_id column_id ds c && p c)
any_named p [] c none = refl
any_named p (d ∷ ds) c none =
    let two : (p d.id ≡ false) × (list_any (λ (d : ColDef). p d.id) ds ≡ false) = or_parts (p d.id) (list_any (λ (d : ColDef). p d.id) ds) none in
    any_named p ds c two.1
    ∙ elim (bytes_eq d.id c) as (λ b. bytes_eq d.id c ≡ b → (has_id column_id ds c && p c) ≡ ((b || has_id column_id ds c) && p c)) [
      | true ↦ λ is.
          let gone : p c ≡ false = ap p (sym ((bytes_eq-Decides d.id c).0 is)) ∙ two.0 in
          sym (any_named p ds c two.1) ∙ sym gone
      | false ↦ λ _. refl
    ] refl

column_in : (q : Readable) (c column : List ℕ) (o : Option Table) → (has_id column_id (elim o as (λ _. Grid ColDef) [ None ↦ no_grid | Some t ↦ t.grid ]).columns column && q.column column)
    ≡ elim (seen_whole q c o) as (λ _. Bool) [ None ↦ false | Some t ↦ has_id shown_id t.columns column ]
column_in q c column None = refl
column_in q c column (Some t) =
    let ds : List ColDef = t.grid.columns in
    elim (is_shown q ds) as (λ b. is_shown q ds ≡ b → (has_id column_id ds column && q.column column)
    ≡ elim (cond b (Some (shown_rows q c (shown_columns q ds) (map (row_of t.grid) t.grid.rows))) None) as (λ _. Bool) [ None ↦ false | Some t ↦ has_id shown_id t.columns column ]) [
      | true ↦ λ _. sym (
          has_id-by_id shown_id (map (shown_column q) (filter (λ (d : ColDef). q.column d.id) ds)) column
          ∙ has_id-map shown_id (shown_column q) (filter (λ (d : ColDef). q.column d.id) ds) column
          ∙ has-named q.column ds column)
      | false ↦ λ isnt. sym (gone ds isnt)
    ] refl
  where
    gone : (ds : List ColDef) → is_shown q ds ≡ false → false ≡ (has_id column_id ds column && q.column column)
    gone [] isnt = refl
    gone (d ∷ ds) isnt = any_named q.column (d ∷ ds) column isnt

pub column_seen : (x : List ℕ → Readable) (s : Document) → IsLaidOut s → (c column : List ℕ) → (has_id column_id (grid_at s c).columns column && (x c).column column) ≡ is_column_in (view x s) c column
column_seen x s laid c column =
    column_in (x c) c column (find_id table_id c s)
    ∙ ap (λ (o : Option ViewTable). elim o as (λ _. Bool) [ None ↦ false | Some t ↦ has_id shown_id t.columns column ]) (sym (find-view x s laid c))

-- ---- rows

some_columns : (x : Readable) (row : RuleRow) (ds : List ViewCol) → list_any (λ (d : ViewCol). true) ds ≡ true → is_row_shown x ds row ≡ list_any (λ (d : ViewCol). x.cell (Some d.id) row) ds
some_columns x row [] some = absurd (true≢false (sym some))
some_columns x row (d ∷ ds) some = refl

and_true : (b : Bool) → (b && true) ≡ b
and_true true = refl
and_true false = refl

any_same : (p q : ColDef → Bool) → ((d : ColDef) → p d ≡ q d) → (ds : List ColDef) → list_any p ds ≡ list_any q ds
any_same p q same [] = refl
any_same p q same (d ∷ ds) = ap (λ b. b || list_any p ds) (same d) ∙ ap (λ b. q d || b) (any_same p q same ds)

-- a row of a table that is shown
read_shown : (q : Readable) (ds : List ColDef) (row : RuleRow) → is_shown q ds ≡ true → is_row_shown q (shown_columns q ds) row ≡ is_read q ds row
read_shown q [] row is = ap (λ b. b && q.cell None row) (sym is)
read_shown q (d ∷ ds) row is =
    some_columns q row (shown_columns q (d ∷ ds))
    (any-shown q (λ _. true) (d ∷ ds) ∙ any_same (λ (e : ColDef). q.column e.id && true) (λ (e : ColDef). q.column e.id) (λ e. and_true (q.column e.id)) (d ∷ ds) ∙ is)
    ∙ any-shown q (λ n. q.cell (Some n) row) (d ∷ ds)

-- and of one that is not
read_hidden : (q : Readable) (ds : List ColDef) (row : RuleRow) → is_shown q ds ≡ false → is_read q ds row ≡ false
read_hidden q [] row isnt = ap (λ b. b && q.cell None row) isnt
read_hidden q (d ∷ ds) row isnt = none_more q (λ n. q.cell (Some n) row) (d ∷ ds) isnt

row_in : (q : Readable) (c : List ℕ) (r : ℕ) (o : Option Table) → (has (elim o as (λ _. Grid ColDef) [ None ↦ no_grid | Some t ↦ t.grid ]).rows r
    && is_read q (elim o as (λ _. Grid ColDef) [ None ↦ no_grid | Some t ↦ t.grid ]).columns (row_of (elim o as (λ _. Grid ColDef) [ None ↦ no_grid | Some t ↦ t.grid ]) r))
    ≡ elim (seen_whole q c o) as (λ _. Bool) [ None ↦ false | Some t ↦ has t.rows r ]
row_in q c r None = refl
row_in q c r (Some t) =
    let g : Grid ColDef = t.grid in
    elim (is_shown q g.columns) as (λ b. is_shown q g.columns ≡ b → (has g.rows r && is_read q g.columns (row_of g r))
    ≡ elim (cond b (Some (shown_rows q c (shown_columns q g.columns) (map (row_of g) g.rows))) None) as (λ _. Bool) [ None ↦ false | Some t ↦ has t.rows r ]) [
      | true ↦ λ is.
          ap (λ b. has g.rows r && b) (sym (read_shown q g.columns (row_of g r) is))
          ∙ and_swap (has g.rows r) (is_row_shown q (shown_columns q g.columns) (row_of g r))
          ∙ sym (has-filter (λ r. is_row_shown q (shown_columns q g.columns) (row_of g r)) g.rows r)
          ∙ ap (λ rows. has rows r) (sym (ids_made (is_row_shown q (shown_columns q g.columns)) g g.rows))
      | false ↦ λ isnt. ap (λ b. has g.rows r && b) (read_hidden q g.columns (row_of g r) isnt) ∙ and_swap (has g.rows r) false
    ] refl

pub row_seen : (x : List ℕ → Readable) (s : Document) → IsLaidOut s → (c : List ℕ) (r : ℕ) → (has (grid_at s c).rows r && is_read (x c) (grid_at s c).columns (row_of (grid_at s c) r)) ≡ is_row_in (view x s) c r
row_seen x s laid c r =
    row_in (x c) c r (find_id table_id c s)
    ∙ ap (λ (o : Option ViewTable). elim o as (λ _. Bool) [ None ↦ false | Some t ↦ has t.rows r ]) (sym (find-view x s laid c))

-- ---- a whole table

whole_part : (q : Readable) (c : List ℕ) (o : Option Table) → seen_part q c o (elim o as (λ _. Grid ColDef) [ None ↦ no_grid | Some t ↦ t.grid ]).rows ≡ seen_whole q c o
whole_part q c None = refl
whole_part q c (Some t) = refl

pub table_found : (x : List ℕ → Readable) (s : Document) → IsLaidOut s → (c : List ℕ) → seen_part (x c) c (find_id table_id c s) (grid_at s c).rows ≡ find_id shown_table_id c (view x s)
table_found x s laid c = whole_part (x c) c (find_id table_id c s) ∙ sym (find-view x s laid c)

-- ---- whether a row is read

pub read_bare : (q : Readable) (ds : List ColDef) (row : RuleRow) → slice_get ds 0 ≡ None → (q.bare && q.cell None row) ≡ is_read q ds row
read_bare q [] row none = refl
read_bare q (d ∷ ds) row none = absurd (cc)

pub read_some : (q : Readable) (ds : List ColDef) (row : RuleRow) (d : ColDef) → slice_get ds 0 ≡ Some d → list_any (λ (e : ColDef). q.column e.id && q.cell (Some e.id) row) ds ≡ is_read q ds row
read_some q [] row d some = absurd (cc)
read_some q (e ∷ ds) row d some = refl
