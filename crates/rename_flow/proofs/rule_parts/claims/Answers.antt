use Rattle.std.proofs.Common.{◌≡◌, ◌∙◌, ◌+◌, ap, sym, arith, Bool, ℕ, List, Option, cond, drop}
use Rattle.acl_rules.specs.declared.resource.Resource.{Resource}
use Rattle.rename_marks.specs.Noted.{capped}
use Rattle.rename_flow.specs.RuleParts.{claims}
use Rattle.rename_flow.specs.ShownRows.{ShownRow, cells_at, rows_from}
use Rattle.rename_flow.specs.ShownRules.{claims_new, resource_shown}
use Rattle.rename_flow.proofs.PartLemmas.{rows_step}
use Rattle.rename_flow.proofs.rule_parts.claims.Goals as goal

pub loop-index-preserved : goal.loop-index-preserved
loop-index-preserved c =
    let r = c.args.rename.now in
    let w = c.in-Some.table.now in
    let i = c.loop-index.index in
    let n = c.loop-index.count in
    let rest = rows_from w (i + 1) (drop (i + 1) w.rows) in
    let s = rows_step w w.rows i (omega (arith, c.loop-index-test.true, c.len-index-end.ensures)) in
    let shown : c.in_ok-resource.resource ≡ resource_shown w.columns (cells_at w i) =
    c.in_ok-resource.ensures ∙ (λ j. resource_shown (c.as_slice-columns.ensures j) (c.cells_at.ensures j)) in
    let e : c.counted-count.result ≡ cond (claims_new r (resource_shown w.columns (cells_at w i))) (capped (n + 1)) n =
    c.counted-count.ensures ∙ ap (λ (b : Bool). cond b (capped (n + 1)) n) (c.claims_new.ensures ∙ ap (λ (q : Option Resource). claims_new r q) shown) in
    ap (λ (k : ℕ). claims r k rest) e
    ∙ ap (λ (ws : List ShownRow). claims r n ws) (sym s.1)
    ∙ c.loop-index.invariant
