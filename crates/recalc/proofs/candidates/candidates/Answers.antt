use Rattle.std.proofs.Common.{◌≡◌, ◌∙◌, sym, Some, None, Option, List, ℕ, Bor, IfSome}
use Rattle.formula_eval.specs.Lookup.{matched, scan}
use Rattle.recalc.specs.Evaluated.{sheet_of}
use Rattle.recalc.specs.Indexes.{AreCandidates}
use Rattle.recalc.specs.Sheet.{over}
use Rattle.recalc.proofs.NarrowedRows.{chosen_whole, found_among}
use Rattle.recalc.proofs.candidates.candidates.Goals as goal

pub rows_of_key-requires-clause-whole : goal.rows_of_key-requires-clause-whole
rows_of_key-requires-clause-whole g c = chosen_whole c.args.keys.now c.in_ok-key.key.now (sym c.in_ok-key.ensures)

pub returns : goal.returns
returns g c k =
    let s = sheet_of (g.D.DocReader.document c.args.tables.now) in
    elim c.rows_of_key.result as (λ (o : Option (Bor (List ℕ))). IfSome o (λ found. AreCandidates (over s k) c.args.table.now c.in_ok-key.key.now c.in_ok-rows.rows.now found.now)
    → IfSome o (λ found. matched (over s k) c.args.table.now c.args.keys.now ≡ scan (over s k) c.args.table.now c.args.keys.now found.now)) [
      | None ↦ λ _. tt
      | Some found ↦ found_among s k c.args.table.now c.args.indexes.now c.requires c.args.keys.now c.in_ok-rows.rows.now found.now c.in_ok-key.key.now c.in_ok-rows.ensures.told c.in_ok-rows.ensures.ascending
          (sym c.are_plain.ensures ∙ c.if-not-are_plain.false) (sym c.in_ok-key.ensures)
    ] (c.rows_of_key.ensures s k c.in_ok-rows.ensures.told c.requires)
