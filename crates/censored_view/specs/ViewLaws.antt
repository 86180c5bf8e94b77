-- What may be relied on of views.
use Rattle.std.specs.Prelude.{ℕ, Bool, true, false, List, ◌≡◌}
use Rattle.doc_model.specs.ByIds.{find_id}
use Rattle.doc_model.specs.Changes.{IsView, changes}
use Rattle.doc_model.specs.Document.{Document, table_id}
use Rattle.doc_model.specs.LaidOut.{IsLaidOut}
use Rattle.doc_model.specs.MetadataIds.{is_schema_id}
use Rattle.doc_model.specs.SameRows.{Both}
use Rattle.doc_model.specs.Touched.{AreSameTables}
use Rattle.plain_view.specs.PartsOfViews.{part_of}
use Rattle.censored_view.specs.Parts.{part}
use Rattle.censored_view.specs.Readable.{Readable, hidden}
use Rattle.censored_view.specs.View.{view}

-- what is seen of a document is a view
abbrev pub ViewLaw : Type 0
ViewLaw = (x : List ℕ → Readable) (s : Document) → IsLaidOut s → IsView (view x s)

-- two documents hold the same in all rows but those that pass, and past the schema tables; only
-- affected tables have such rows
pub record AreSameBut
    (affected : List ℕ → Bool) (test : List ℕ → ℕ → Bool) (s t : Document) : Type 0 where
  pub others : (c : List ℕ) (r : ℕ) → affected c ≡ false → test c r ≡ false
  pub rows : (c : List ℕ) (r : ℕ) → is_schema_id c ≡ false → test c r ≡ false
      → Both (AreSameTables r) (find_id table_id c s) (find_id table_id c t)

-- two contexts let the same be read of each table with rows that do not pass, and nothing of the
-- schema tables
pub record LetSameBut
    (test : List ℕ → ℕ → Bool) (x y : List ℕ → Readable) : Type 0 where
  pub schema : (c : List ℕ) → is_schema_id c ≡ true → (x c ≡ hidden) × (y c ≡ hidden)
  pub rows : (c : List ℕ) (r : ℕ) → test c r ≡ false → x c ≡ y c

-- the tables and rows outside of which nothing changed tell all changes of the views
abbrev pub PartLaw : Type 0
PartLaw =
    (affected : List ℕ → Bool) (test : List ℕ → ℕ → Bool) (x y : List ℕ → Readable)
    (s t : Document) → IsLaidOut s → IsLaidOut t → LetSameBut test x y
    → AreSameBut affected test s t
    → changes (part_of affected test (view x s)) (part_of affected test (view y t))
    ≡ changes (view x s) (view y t)

-- a part of a view is made of its rows alone
abbrev pub PartMadeLaw : Type 0
PartMadeLaw =
    (affected : List ℕ → Bool) (test : List ℕ → ℕ → Bool) (x : List ℕ → Readable) (s : Document)
    → IsLaidOut s → part affected test x s ≡ part_of affected test (view x s)
