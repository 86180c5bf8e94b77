-- Views of documents that hold the same in all rows but some.
use Rattle.std.proofs.Common.{ℕ, Bool, true, false, cond, List, ◌≡◌, refl, sym, ap, subst, ◌∙◌, Option, Some, None}
use Rattle.doc_model.specs.declared.column.ColDef.{ColDef}
use Rattle.doc_model.specs.declared.view.ViewTable.{ViewTable}
use Rattle.doc_model.specs.ByIds.{find_id}
use Rattle.doc_model.specs.Changes.{shown_table_id}
use Rattle.doc_model.specs.Column.{column_id}
use Rattle.doc_model.specs.Document.{Table, Document, table_id}
use Rattle.doc_model.specs.Grid.{Grid, IsGrid}
use Rattle.doc_model.specs.LaidOut.{IsLaidOut}
use Rattle.doc_model.specs.MetadataIds.{is_schema_id}
use Rattle.doc_model.specs.SameRows.{Both}
use Rattle.doc_model.specs.Touched.{AreSameTables}
use Rattle.doc_model.proofs.ByIdsLaws.{found_all}
use Rattle.doc_model.proofs.GridLaws.{same_grid}
use Rattle.doc_model.proofs.RowsLaws.{same_ascending}
use Rattle.plain_view.specs.PartsOfViews.{AgreeOutside, AreSame}
use Rattle.plain_view.proofs.PartLemmasChanges.{changes_same}
use Rattle.censored_view.specs.Readable.{Readable}
use Rattle.censored_view.specs.View.{is_shown, view}
use Rattle.censored_view.specs.ViewLaws.{AreSameBut, LetSameBut, PartLaw}
use Rattle.censored_view.proofs.ShownRows.{shown_of, shown_same}
use Rattle.censored_view.proofs.ViewLemmas.{find-view, IsView-view, seen_whole, whole_hidden}

-- what is seen of a grid under an id
abbrev seen_grid : Readable → List ℕ → Grid ColDef → Option ViewTable
seen_grid q c g = cond (is_shown q g.columns) (Some (shown_of q g g.rows c)) None

-- tables that are the same in each row are seen as one
whole_same : (q : Readable) (c : List ℕ) (o p : Option Table) → ((t : Table) → o ≡ Some t → IsGrid column_id t.grid) → ((t : Table) → p ≡ Some t → IsGrid column_id t.grid)
    → ((r : ℕ) → Both (AreSameTables r) o p) → seen_whole q c p ≡ seen_whole q c o
whole_same q c None None a b same = refl
whole_same q c None (Some u) a b same = absurd (same 0)
whole_same q c (Some t) None a b same = absurd (same 0)
whole_same q c (Some t) (Some u) a b same =
    let each : (r : ℕ) → AreSameTables r t u = λ r. same r in
    ap (seen_grid q c) (same_grid column_id t.grid (a t refl) u.grid (b u refl) (sym (each 0).columns)
    (same_ascending u.grid.rows t.grid.rows (b u refl).ascending (a t refl).ascending (λ r. sym (each r).rows))
    (λ d r found here. sym ((each r).cells d found here)))

-- what is seen of two tables that hold the same in a row
seen_both : (q : Readable) (c : List ℕ) (r : ℕ) (o p : Option Table) → Both (AreSameTables r) o p → Both (AreSame r) (seen_whole q c o) (seen_whole q c p)
seen_both q c r None None same = tt
seen_both q c r None (Some u) same = absurd same
seen_both q c r (Some t) None same = absurd same
seen_both q c r (Some t) (Some u) same =
    subst (λ b. Both (AreSame r) (seen_grid q c t.grid) (cond b (Some (shown_of q u.grid u.grid.rows c)) None)) (ap (is_shown q) same.columns) (
    elim (is_shown q t.grid.columns) as (λ b. Both (AreSame r) (cond b (Some (shown_of q t.grid t.grid.rows c)) None) (cond b (Some (shown_of q u.grid u.grid.rows c)) None)) [
      | true ↦ shown_same q r t.grid u.grid same c
      | false ↦ tt
    ])

module _ (affected : List ℕ → Bool) (test : List ℕ → ℕ → Bool) (x y : List ℕ → Readable) (s t : Document) (a : IsLaidOut s) (b : IsLaidOut t)
    (let_same : LetSameBut test x y) (same : AreSameBut affected test s t) where
  nothing_seen : (c : List ℕ) → is_schema_id c ≡ true → (seen_whole (x c) c (find_id table_id c s) ≡ None) × (seen_whole (y c) c (find_id table_id c t) ≡ None)
  nothing_seen c is = (
    ap (λ q. seen_whole q c (find_id table_id c s)) (let_same.schema c is).0 ∙ whole_hidden c (find_id table_id c s),
    ap (λ q. seen_whole q c (find_id table_id c t)) (let_same.schema c is).1 ∙ whole_hidden c (find_id table_id c t),
  )

  grid_in : (d : Document) → IsLaidOut d → (c : List ℕ) (u : Table) → find_id table_id c d ≡ Some u → IsGrid column_id u.grid
  grid_in d laid c u found = found_all table_id (λ t. IsGrid column_id t.grid) c d u laid.grids found

  others_seen : (c : List ℕ) → affected c ≡ false → seen_whole (y c) c (find_id table_id c t) ≡ seen_whole (x c) c (find_id table_id c s)
  others_seen c apart =
      elim (is_schema_id c) as (λ b. is_schema_id c ≡ b → seen_whole (y c) c (find_id table_id c t) ≡ seen_whole (x c) c (find_id table_id c s)) [
        | true ↦ λ is. (nothing_seen c is).1 ∙ sym (nothing_seen c is).0
        | false ↦ λ past.
            ap (λ q. seen_whole q c (find_id table_id c t)) (sym (let_same.rows c 0 (same.others c 0 apart)))
            ∙ whole_same (x c) c (find_id table_id c s) (find_id table_id c t) (grid_in s a c) (grid_in t b c) (λ r. same.rows c r past (same.others c r apart))
      ] refl

  rows_seen : (c : List ℕ) (r : ℕ) → test c r ≡ false → Both (AreSame r) (seen_whole (x c) c (find_id table_id c s)) (seen_whole (y c) c (find_id table_id c t))
  rows_seen c r apart =
      elim (is_schema_id c) as (λ b. is_schema_id c ≡ b → Both (AreSame r) (seen_whole (x c) c (find_id table_id c s)) (seen_whole (y c) c (find_id table_id c t))) [
        | true ↦ λ is. subst (λ o. Both (AreSame r) o (seen_whole (y c) c (find_id table_id c t))) (sym (nothing_seen c is).0) (subst (λ o. Both (AreSame r) None o) (sym (nothing_seen c is).1) tt)
        | false ↦ λ past. subst (λ q. Both (AreSame r) (seen_whole (x c) c (find_id table_id c s)) (seen_whole q c (find_id table_id c t))) (let_same.rows c r apart)
            (seen_both (x c) c r (find_id table_id c s) (find_id table_id c t) (same.rows c r past apart))
      ] refl

  views_agree : AgreeOutside affected test (view x s) (view y t)
  views_agree = record {
    others = λ c apart. find-view y t b c ∙ others_seen c apart ∙ sym (find-view x s a c);
    rows = λ c r apart.
        subst (λ o. Both (AreSame r) o (find_id shown_table_id c (view y t))) (sym (find-view x s a c))
        (subst (λ o. Both (AreSame r) (seen_whole (x c) c (find_id table_id c s)) o) (sym (find-view y t b c)) (rows_seen c r apart));
  }

pub changes-part : PartLaw
changes-part affected test x y s t a b let_same same =
    changes_same affected test (view x s) (view y t) (IsView-view x s a) (IsView-view y t b) (views_agree affected test x y s t a b let_same same)
