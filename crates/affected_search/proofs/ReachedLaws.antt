-- What is reached, and how many cells that can be.
use Rattle.std.proofs.Common.{true, false, List, [], ◌∷◌, length, ◌≡◌, ◌≤◌, refl, sym, ◌∙◌, subst, Option, Some, None, Vec, Global}
use Rattle.std.proofs.lemmas.Bool.{false≢true}
use Rattle.std.proofs.lemmas.Map.Steps.{length-le_from_keys}
use Rattle.std.specs.Cmp.{IsEquivalence, decided}
use Rattle.std.specs.List.{list_any, IsDistinct}
use Rattle.std.specs.Map.{lookup}
use Rattle.std.specs.Option.{IsSome}
use Rattle.dep_graph.specs.declared.numbers.CellNumber.{CellNumber}
use Rattle.dep_graph.specs.declared.numbers.ReadNumber.{ReadNumber}
use Rattle.dep_graph.specs.Numbers.{is_cell}
use Rattle.dep_graph.specs.NumberLaws.{same_cell, cell_itself}
use Rattle.dep_graph.specs.Readers.{items_of}
use Rattle.dep_graph.specs.Records.{holds}
use Rattle.affected_search.specs.Reached.{ReadLists, is_among, reads_naming, reads_one, IsReached, from_touched, from_cell, LeastLaw}

pub least : LeastLaw
least reads touched cells closed c (from_touched h) = closed.of_touched c h
least reads touched cells closed c (from_cell d r h) = closed.of_cells d c (least reads touched cells closed d r) h

pub cell_equiv : IsEquivalence is_cell
cell_equiv = decided is_cell (λ c d. (same_cell c d, λ e. subst (λ x. is_cell c x ≡ true) e (cell_itself c)))

-- a cell without reads reads none of these
none_held : (qs : List ReadNumber) → list_any (holds []) qs ≡ false
none_held [] = refl
none_held (q ∷ qs) = none_held qs

-- a cell that reads something has its reads in the graph
has_reads : (reads : ReadLists) (qs : List ReadNumber) (c : CellNumber) → reads_one reads qs c ≡ true → IsSome (lookup (is_cell c) reads)
has_reads reads qs c h = by (lookup (is_cell c) reads) h
  where
    by : (o : Option (Vec ReadNumber Global)) → list_any (holds (items_of o)) qs ≡ true → IsSome o
    by None h = absurd (false≢true (sym (none_held qs) ∙ h))
    by (Some v) h = refl

reached_has_reads : (reads : ReadLists) (touched : List ReadNumber) (c : CellNumber) → IsReached reads touched c → IsSome (lookup (is_cell c) reads)
reached_has_reads reads touched c (from_touched h) = has_reads reads touched c h
reached_has_reads reads touched c (from_cell d r h) = has_reads reads (reads_naming d) c h

-- no more cells are reached than the graph has reads of
pub reached_bound : (reads : ReadLists) (touched : List ReadNumber) (cells : List CellNumber) → IsDistinct is_cell cells
    → ((c : CellNumber) → is_among cells c ≡ true → IsReached reads touched c) → length cells ≤ length reads
reached_bound reads touched cells once reached = length-le_from_keys cell_equiv cells reads once (λ c h. reached_has_reads reads touched c (reached c h))
