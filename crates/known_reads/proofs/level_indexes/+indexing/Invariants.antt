use Rattle.std.proofs.Common.{◌+◌, ◌*◌}
use Rattle.formula_parse.specs.Tree.{from_list, keys_from}
use Rattle.formula_parse.specs.TreeSize.{tree_size, trees_size, keys_size}
use Rattle.recalc.specs.Evaluated.{sheet_of}
use Rattle.recalc.specs.Indexes.{AreIndexes}
use Rattle.known_reads.proofs.level_indexes.+indexing.Given as goal

abbrev pub decreases-index_formula : goal.decreases-index_formula
decreases-index_formula g l = 2 * tree_size l.formula.now

abbrev pub decreases-index_items : goal.decreases-index_items
decreases-index_items g l = 2 * trees_size (from_list l.items.now) + 1

abbrev pub decreases-index_keys : goal.decreases-index_keys
decreases-index_keys g l = 2 * keys_size (keys_from l.keys.now)

abbrev pub invariant-index_items-loop-item : goal.invariant-index_items-loop-item
invariant-index_items-loop-item g l = AreIndexes (sheet_of (g.D.DocReader.document l.tables)) l.indexes.items

abbrev pub invariant-index_keys-loop-key : goal.invariant-index_keys-loop-key
invariant-index_keys-loop-key g l = AreIndexes (sheet_of (g.D.DocReader.document l.tables)) l.indexes.items
