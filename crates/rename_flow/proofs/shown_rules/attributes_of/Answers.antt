use Rattle.std.proofs.Common.{◌≡◌, ◌∙◌, ◌+◌, ◌++◌, ap, sym, arith, List, Option, drop}
use Rattle.user_attrs.specs.declared.attribute_rule.AttributeRule.{AttributeRule}
use Rattle.rename_marks.specs.declared.formula_place.AttributeTable.{AttributeTable}
use Rattle.rename_flow.specs.ShownRows.{ShownRow, cells_at, rows_from}
use Rattle.rename_flow.specs.ShownRules.{attribute_before, attribute_shown, attributes_in}
use Rattle.rename_flow.proofs.PartLemmas.{attribute_last, rows_step}
use Rattle.rename_flow.proofs.shown_rules.attributes_of.Goals as goal

pub loop-index-preserved : goal.loop-index-preserved
loop-index-preserved c =
    let w = c.args.table.now in
    let i = c.loop-index.index in
    let old = c.loop-index.attributes in
    let rest = attributes_in (rows_from w (i + 1) (drop (i + 1) w.rows)) in
    let s = rows_step w w.rows i (omega (arith, c.loop-index-test.true, c.len-index-end.ensures)) in
    let shown : c.in_ok-rule.rule ≡ attribute_shown w.columns (cells_at w i) =
    c.in_ok-rule.ensures ∙ (λ j. attribute_shown (c.as_slice-columns.ensures j) (c.cells_at.ensures j)) in
    ap (λ (as' : List AttributeTable). as' ++ rest) c.in_ok-note_attribute.ensures
    ∙ attribute_last c.in_ok-rule.rule old rest
    ∙ ap (λ (q : Option AttributeRule). old ++ attribute_before q rest) shown
    ∙ ap (λ (ws : List ShownRow). old ++ attributes_in ws) (sym s.1)
    ∙ c.loop-index.invariant
