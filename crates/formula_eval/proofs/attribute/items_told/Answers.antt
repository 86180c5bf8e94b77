use Rattle.std.proofs.Common.{◌≡◌, ◌∙◌, ◌++◌, ◌∷◌, [], List, Vec, Global, Err, arith, ap, refl, subst, sym, get_or, drop, take, map, ◌+◌}
use Rattle.std.proofs.lemmas.List.{map_more}
use Rattle.std.proofs.lemmas.Result.{err_from_is_err_and}
use Rattle.cell_types.specs.declared.value.CellItem.{CellItem}
use Rattle.formula_eval.specs.declared.note.Note.{Note}
use Rattle.formula_eval.specs.Asked.{read_note, told_at}
use Rattle.formula_eval.specs.Reader.{cell_at}
use Rattle.formula_eval.specs.Run.{after, collect}
use Rattle.formula_eval.specs.Reading.{read_cell}
use Rattle.formula_eval.specs.Attribute.{as_item, column_runs}
use Rattle.formula_eval.specs.Halted.{ComesAs, fronted}
use Rattle.formula_eval.proofs.Collects.{collect_step, collect_halts}
use Rattle.formula_eval.proofs.ItemsRead.{told_here, next_read}
use Rattle.formula_eval.proofs.attribute.items_told.Goals as goal

pub returns-in_err-item-clause-items : goal.returns-in_err-item-clause-items
returns-in_err-item-clause-items c reader kind told =
    let i = c.loop-index.index in
    let rows = c.args.rows.now in
    let noted : List Note = map (read_note c.args.table.now c.args.column.now) (take i rows) in
    let next = next_read reader c.args.table.now c.args.column.now rows i c.loop-index.items.items noted (omega arith) in
    let here = told_here (told_at reader c.args.table.now c.args.column.now) c.args.told.now rows i c.index-told-index.result told (omega arith) (omega arith) c.index-told-index.is in
    let whole = collect (map as_item (column_runs reader c.args.table.now c.args.column.now rows)) in
    let p = err_from_is_err_and c.from_residual-in_err-item.result c.from_residual-in_err-item.ensures.1 in
    rw (p.1, p.2)
    (subst (λ (n : List Note). ComesAs (λ (v : Vec CellItem Global). v.items) (Err c.in_err-item.field-0.0) [] n whole)
    (sym (map_more (read_note c.args.table.now c.args.column.now) rows i 0 (omega arith)))
    (collect_halts (λ (i : CellItem). i) (λ (v : Vec CellItem Global). v.items) c.in_err-item.field-0.0 (as_item (read_cell reader (cell_at c.args.table.now c.args.column.now (get_or rows i 0))))
    (map as_item (column_runs reader c.args.table.now c.args.column.now (drop (i + 1) rows))) c.loop-index.items.items [] noted (noted ++ read_note c.args.table.now c.args.column.now (get_or rows i 0) ∷ [])
    whole (c.in_err-item.ensures reader noted kind here)
    (next ∙ c.loop-index.invariant.1 reader kind told)))

pub loop-index-preserved : goal.loop-index-preserved
loop-index-preserved c = (
  refl,
  λ reader kind told.
      let i = c.loop-index.index in
      let rows = c.args.rows.now in
      let noted : List Note = map (read_note c.args.table.now c.args.column.now) (take i rows) in
      let next = next_read reader c.args.table.now c.args.column.now rows i c.loop-index.items.items noted (omega arith) in
      let here = told_here (told_at reader c.args.table.now c.args.column.now) c.args.told.now rows i c.index-told-index.result told (omega arith) (omega arith) c.index-told-index.is in
      let rest = map as_item (column_runs reader c.args.table.now c.args.column.now (drop (i + 1) rows)) in
      let one : List Note = noted ++ read_note c.args.table.now c.args.column.now (get_or rows i 0) ∷ [] in
      let s = collect_step (as_item (read_cell reader (cell_at c.args.table.now c.args.column.now (get_or rows i 0)))) rest c.loop-index.items.items c.in_ok-item.item noted one (c.in_ok-item.ensures reader noted kind here) in
      ap (λ (us : List CellItem). fronted us (after (map (read_note c.args.table.now c.args.column.now) (take (i + 1) rows)) (collect rest))) c.in_ok-push.ensures.items
      ∙ ap (λ (n : List Note). fronted (c.loop-index.items.items ++ c.in_ok-item.item ∷ []) (after n (collect rest))) (map_more (read_note c.args.table.now c.args.column.now) rows i 0 (omega arith))
      ∙ sym s ∙ next ∙ c.loop-index.invariant.1 reader kind told,
)
