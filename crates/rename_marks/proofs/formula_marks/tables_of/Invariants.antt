use Rattle.std.proofs.Common.{◌≡◌, ◌++◌, map, drop, bytes_eq}
use Rattle.std.specs.Prelude.{filter}
use Rattle.rename_marks.specs.declared.formula_place.AttributeTable.{AttributeTable}
use Rattle.rename_marks.proofs.formula_marks.tables_of.Given as goal

-- those before and those of what is left are all
abbrev pub invariant-loop-attribute : goal.invariant-loop-attribute
invariant-loop-attribute l =
    l.tables ++ map (λ (a : AttributeTable). a.table) (filter (λ a. bytes_eq a.name l.name) (drop l.attribute-index l.attributes))
    ≡ map (λ (a : AttributeTable). a.table) (filter (λ a. bytes_eq a.name l.name) l.attributes)
