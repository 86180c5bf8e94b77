use Rattle.std.proofs.Common.{◌≡◌, ◌∷◌, [], length, true, None, Some, subst, sym, ap, ◌∙◌}
use Rattle.std.specs.Option.{MatchOption, option_copied}
use Rattle.std.specs.Str.{bytes_eq}
use Rattle.doc_model.specs.Document.{Table}
use Rattle.doc_model.specs.Readers.{cell_at}
use Rattle.table_copies.proofs.TableLemmas.{filled_at, named, other_column, told_by}
use Rattle.table_copies.proofs.table.TableCopyDocReader.cell.Goals as goal

pub returns-in_err-found : goal.returns-in_err-found
returns-in_err-found c =
    let x = c.self.inside in
    let table = c.args.table.now in
    let k = c.args.column.now in
    let here : bytes_eq x.id table ≡ true = ap (λ (t : Table). bytes_eq t.id table) c.self.view_is ∙ sym c.is_named.ensures ∙ c.if-not-is_named.false in
    let none : named k x.columns.items ≡ None = ap (named k) (sym c.deref.ensures.value) ∙ sym c.column_named.ensures ∙ ap option_copied c.in_err-found.was in
    subst (λ o. MatchOption o (cell_at (c.args.self.now ∷ []) table k c.args.row ≡ None) (λ value. cell_at (c.args.self.now ∷ []) table k c.args.row ≡ Some value.now)) (sym c.from_residual.ensures)
    (subst (λ (t : Table). cell_at (t ∷ []) table k c.args.row ≡ None) c.self.view_is (other_column x.id x.columns.items x.rows.items table k c.args.row here none))

pub cell_beside-requires-clause-beside : goal.cell_beside-requires-clause-beside
cell_beside-requires-clause-beside c =
    let x = c.self.inside in
    let k = c.args.column.now in
    let found : named k x.columns.items ≡ Some c.in_ok-found.found.now = ap (named k) (sym c.deref.ensures.value) ∙ sym c.column_named.ensures ∙ ap option_copied c.in_ok-found.was in
    ap length c.deref-3.ensures.value ∙ filled_at x.columns.items x.rows.items k c.in_ok-found.found.now c.self.invariant.1 found ∙ sym (ap length c.deref-2.ensures.value)

pub returns : goal.returns
returns c =
    let x = c.self.inside in
    let table = c.args.table.now in
    let k = c.args.column.now in
    let here : bytes_eq x.id table ≡ true = ap (λ (t : Table). bytes_eq t.id table) c.self.view_is ∙ sym c.is_named.ensures ∙ c.if-not-is_named.false in
    let found : named k x.columns.items ≡ Some c.in_ok-found.found.now = ap (named k) (sym c.deref.ensures.value) ∙ sym c.column_named.ensures ∙ ap option_copied c.in_ok-found.was in
    told_by c.args.self.now x.id x.columns.items x.rows.items table k c.args.row c.in_ok-found.found.now c.deref-2.result.now c.deref-3.result.now c.cell_beside.result c.self.view_is here found
    c.deref-2.ensures.value c.deref-3.ensures.value c.cell_beside.ensures
