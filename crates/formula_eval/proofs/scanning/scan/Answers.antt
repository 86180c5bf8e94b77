use Rattle.std.proofs.Common.{ℕ, true, false, List, ap, sym, ◌∙◌, subst, IfOk}
use Rattle.std.specs.List.{list_all}
use Rattle.cell_types.specs.declared.cell.KeyItem.{KeyItem}
use Rattle.formula_eval.specs.Asked.{IsMatching}
use Rattle.formula_eval.specs.Lookup.{is_key_column}
use Rattle.formula_eval.specs.Reader.{Reader}
use Rattle.formula_eval.specs.Run.{Out}
use Rattle.formula_eval.proofs.Scans.{matched_is}
use Rattle.formula_eval.proofs.scanning.scan.Goals as goal

pub returns-then-not-has_key_columns : goal.returns-then-not-has_key_columns
returns-then-not-has_key_columns g c =
    let rd : Reader = g.S.CellSource.told c.args.source.now in
    let t : List ℕ = c.args.table.now in
    matched_is rd t c.args.keys.now c.in-Some.rows.now false c.in-Some.ensures.rows
    (ap (λ (ks : List KeyItem). list_all (λ (k : KeyItem). is_key_column rd t k.column) ks) (sym c.as_slice.ensures) ∙ sym c.has_key_columns.ensures ∙ c.if-not-has_key_columns.true)

pub returns : goal.returns
returns g c =
    let rd : Reader = g.S.CellSource.told c.args.source.now in
    let t : List ℕ = c.args.table.now in
    let e = matched_is rd t c.args.keys.now c.in-Some.rows.now true c.in-Some.ensures.rows
    (ap (λ (ks : List KeyItem). list_all (λ (k : KeyItem). is_key_column rd t k.column) ks) (sym c.as_slice.ensures) ∙ sym c.has_key_columns.ensures ∙ c.if-not-has_key_columns.false) in
    subst (λ (o : Out (List ℕ)). IfOk c.scan_among.result (λ found. IsMatching found o)) (sym e) c.scan_among.ensures
