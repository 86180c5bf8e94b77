-- A graph of reads that is kept up.
use Rattle.std.proofs.Common.{ℕ, Bool, true, false, cond, not, ◌||◌, List, [], ◌∷◌, ◌≡◌, refl, sym, ap, ◌∙◌, subst, Option, Some, None}
use Rattle.std.proofs.lemmas.Bool.{true≢false, or_left, or_right}
use Rattle.std.specs.Option.{is_some}
use Rattle.std.specs.List.{AllByRecursion}
use Rattle.cell_types.specs.declared.cell.CellId.{CellId}
use Rattle.cell_types.specs.declared.cell.Read.{Read}
use Rattle.doc_model.specs.Apply.{apply}
use Rattle.formula_eval.specs.declared.note.Note.{Note}
use Rattle.formula_eval.specs.Run.{reads_of}
use Rattle.recalc.specs.Evaluated.{sheet_of}
use Rattle.recalc.specs.Sheet.{Sheet, reads}
use Rattle.affected_cells.specs.Affected.{is_fresh_cell, is_modified}
use Rattle.affected_cells.proofs.Tests.{all_weaker, found_once}
use Rattle.affected_cells.proofs.Unaffected.{reads_noted}
use Rattle.dep_graph.proofs.NameLaws.{cell_stays, number_there, numbers_stay}
use Rattle.dep_graph.specs.declared.numbers.CellNumber.{CellNumber}
use Rattle.dep_graph.specs.declared.numbers.ReadNumber.{ReadNumber}
use Rattle.dep_graph.specs.Graph.{Graph, IsSet}
use Rattle.dep_graph.specs.NumberLaws.{cell_itself, same_cell}
use Rattle.dep_graph.specs.Numbers.{is_cell}
use Rattle.dep_graph.specs.Records.{reads_under}
use Rattle.dep_graph.specs.Sources.{cell_in, read_source}
use Rattle.affected_search.specs.Sheets.{IsHeld, is_found}
use Rattle.affected_search.specs.Upkeep.{CarriedLaw, HoldsReadsOf, SetLaw}
use Rattle.affected_search.proofs.SheetLaws.{held}
use Rattle.affected_search.proofs.CellNumbers.{cell_parts}

-- a cell of a number is one cell
pub one_cell : (names : List (List ℕ)) (c d : CellId) (k : CellNumber) → cell_in names c ≡ Some k → cell_in names d ≡ Some k → c ≡ d
one_cell names c d k p q =
    let a = cell_parts names c k p in
    let b = cell_parts names d k q in
    let table : c.table ≡ d.table = found_once c.table d.table (sym (number_there names c.table k.column.table a.0) ∙ number_there names d.table k.column.table b.0) in
    let column : c.column ≡ d.column = found_once c.column d.column (sym (number_there names c.column k.column.column a.1) ∙ number_there names d.column k.column.column b.1) in
    let row : c.row ≡ d.row = sym a.2 ∙ b.2 in
    ap (λ (t : List ℕ). record { table = t; column = c.column; row = c.row }) table
    ∙ ap (λ (e : List ℕ). record { table = d.table; column = e; row = c.row }) column
    ∙ ap (λ (r : ℕ). record { table = d.table; column = d.column; row = r }) row

module _ (old new : Graph) (s : Sheet) (reader : CellId) (notes : List Note) (set : IsSet old new reader notes) (same : reads s reader ≡ reads_of notes) where
  recorded : reads_under new.reads set.cell ≡ set.reads
  recorded = set.recorded set.cell ∙ ap (λ b. cond b set.reads (reads_under old.reads set.cell)) (cell_itself set.cell)

  here : HoldsReadsOf new s reader
  here = (
    set.cell,
    set.is_cell,
    subst (λ rs. AllByRecursion (IsHeld new.names (reads_under new.reads set.cell)) rs) (sym same)
        (subst (λ ns. AllByRecursion (IsHeld new.names ns) (reads_of notes)) (sym recorded) (held new.names notes set.reads set.are_reads)),
  )

  stays : (numbers : List ReadNumber) (q : Read) → IsHeld old.names numbers q → IsHeld new.names numbers q
  stays numbers q h = (h.0, (numbers_stay old.names new.names set.grown (read_source q ∷ []) (h.0 ∷ []) (h.1, tt)).0, h.2)

  others : (c : CellId) → HoldsReadsOf old s c → HoldsReadsOf new s c
  others c h = by (is_cell set.cell h.0) refl
    where
      number : cell_in new.names c ≡ Some h.0
      number = cell_stays old.names new.names set.grown c h.0 h.1

      by : (b : Bool) → is_cell set.cell h.0 ≡ b → HoldsReadsOf new s c
      by true is = subst (HoldsReadsOf new s) (one_cell new.names reader c h.0 (set.is_cell ∙ ap (λ k. Some k) (same_cell set.cell h.0 is)) number) here
      by false is =
          let left : reads_under new.reads h.0 ≡ reads_under old.reads h.0 = set.recorded h.0 ∙ ap (λ b. cond b set.reads (reads_under old.reads h.0)) is in (
            h.0,
            number,
            subst (λ ns. AllByRecursion (IsHeld new.names ns) (reads s c)) (sym left) (all_weaker (IsHeld old.names (reads_under old.reads h.0)) (IsHeld new.names (reads_under old.reads h.0)) (stays (reads_under old.reads h.0)) (reads s c) h.2),
          )

pub set_law : SetLaw
set_law old new s reader notes set same = record { here = here old new s reader notes set same; others = others old new s reader notes set same }

pub carried_law : CarriedLaw
carried_law s a graph new cells ok held keeps anew left c f e = by (is_fresh_cell s a c) (is_found graph cells c) refl refl
  where
    after : Sheet
    after = sheet_of (apply s a)

    was : (o : Option (List ℕ)) → (sheet_of s).formula c ≡ o → is_fresh_cell s a c ≡ false → (g : List ℕ) × ((sheet_of s).formula c ≡ Some g)
    was None is old_cell = absurd (true≢false (sym (ap (λ (o : Option (List ℕ)). not (is_some o) || is_modified a c) is) ∙ old_cell))
    was (Some g) is old_cell = (g, is)

    by : (p q : Bool) → is_fresh_cell s a c ≡ p → is_found graph cells c ≡ q → HoldsReadsOf new after c
    by true q is there = anew c f e (or_left (is_fresh_cell s a c) (is_found graph cells c) is)
    by false true is there = anew c f e (or_right (is_fresh_cell s a c) (is_found graph cells c) there)
    by false false is there =
        let g = was ((sheet_of s).formula c) refl is in
        let h = left c there (held c g.0 g.1) in
        (h.0, h.1, subst (λ rs. AllByRecursion (IsHeld new.names (reads_under new.reads h.0)) rs) (sym (reads_noted (sheet_of (apply s a)) c ∙ ap reads_of (keeps ok c f e is there).1 ∙ sym (reads_noted (sheet_of s) c))) h.2)
