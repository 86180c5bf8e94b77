use Rattle.std.proofs.Common.{◌≡◌, true, sym, ap, subst, ◌∙◌}
use Rattle.doc_model.specs.DocumentLaws.{IsWhole}
use Rattle.doc_model.specs.Valid.{valid}
use Rattle.doc_model.proofs.InverseLaws.{IsWhole-apply}
use Rattle.column_store.proofs.tables.ColumnTablesDocTables.put.Goals as goal

pub invariant_of-self-2 : goal.invariant_of-self-2
invariant_of-self-2 c =
    let v : valid c.self.inside.tables.items c.args.action.now ≡ true = ap (λ s. valid s c.args.action.now) c.self.view_is ∙ c.requires.valid in
    subst IsWhole (sym c.in_ok-replaced.ensures.done) (IsWhole-apply c.self.inside.tables.items c.args.action.now c.self.invariant v)
