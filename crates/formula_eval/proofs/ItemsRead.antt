-- The cells of a column, one after the other.
use Rattle.std.proofs.Common.{◌≡◌, List, ℕ, ◌∷◌, ◌+◌, ◌<◌, length, map, get_or, drop, ap, sym, ◌∙◌}
use Rattle.std.proofs.lemmas.List.{drop_more, get_or-map}
use Rattle.cell_types.specs.declared.value.CellItem.{CellItem}
use Rattle.formula_eval.specs.declared.note.Note.{Note}
use Rattle.formula_eval.specs.declared.reader.Reading.{Reading}
use Rattle.formula_eval.specs.Asked.{told_of}
use Rattle.formula_eval.specs.Attribute.{as_item, column_runs}
use Rattle.formula_eval.specs.Halted.{fronted}
use Rattle.formula_eval.specs.Reader.{Reader, Told}
use Rattle.formula_eval.specs.Run.{Run, after, collect}

-- what is told of the cell of a row stands where the row does
pub told_here : (f : ℕ → Told) (told : List Reading) (rows : List ℕ) (i : ℕ) (x : Reading) → map told_of told ≡ map f rows
    → i < length told → i < length rows → x ≡ get_or told i x → told_of x ≡ f (get_or rows i 0)
told_here f told rows i x e within among here =
    ap told_of here ∙ sym (get_or-map told_of told i x (told_of x) within) ∙ ap (λ l. get_or l i (told_of x)) e ∙ get_or-map f rows i 0 (told_of x) among

-- the reads that are left begin with that of the next row
pub next_read : (reader : Reader) (t c : List ℕ) (rows : List ℕ) (i : ℕ) (vs : List CellItem) (notes : List Note) → i < length rows
    → fronted vs (after notes (collect (map as_item (column_runs reader t c (get_or rows i 0 ∷ drop (i + 1) rows)))))
    ≡ fronted vs (after notes (collect (map as_item (column_runs reader t c (drop i rows)))))
next_read reader t c rows i vs notes among =
    ap (λ l. fronted vs (after notes (collect (map as_item (column_runs reader t c l))))) (sym (drop_more rows i 0 among))
