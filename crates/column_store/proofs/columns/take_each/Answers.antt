use Rattle.std.proofs.Common.{ℕ, suc, List, [], ◌∷◌, ◌++◌, ◌≡◌, ◌<◌, ◌≤◌, ◌+◌, Vec, get_or, set, length, map, take, vec_len, vec_capacity, sym, ap, subst, ◌∙◌, arith}
use Rattle.std.proofs.lemmas.List.{length-set, take_more, get_or_default, get_or-map}
use Rattle.std.specs.Global.{Global}
use Rattle.std.specs.List.{AllByRecursion}
use Rattle.cell_types.specs.declared.value.CellValue.{CellValue}
use Rattle.cell_types.specs.declared.value.CellValue.TheVariants.{Null}
use Rattle.column_store.specs.Crossed.{all_items, remove_each, remove_firsts}
use Rattle.column_store.proofs.CrossedLaws.{len_map}
use Rattle.column_store.proofs.FrontLaws.{remove_all}
use Rattle.column_store.proofs.MoveLaws.{column_read, each_there, take_step}
use Rattle.column_store.proofs.columns.take_each.Goals as goal

pub remove-requires : goal.remove-requires
remove-requires c =
    let before : List (List CellValue) = all_items c.args.columns.now.items in
    let j : ℕ = c.loop-column.column in
    let all : length before ≡ length c.args.columns.now.items = len_map (λ (v : Vec CellValue Global). v.items) c.args.columns.now.items in
    let same = c.loop-column.invariant.2 in
    let test = c.loop-column-test.true in
    let end = c.len-column-end.ensures in
    let kept = c.args.columns.now.ok.0 in
    let read : c.index_mut.result.now.items ≡ get_or before j [] = column_read j c.args.index before c.loop-column.columns.items c.index_mut.result.now c.loop-column.invariant.0 (omega arith) c.index_mut.ensures.value in
    let high : c.args.index < length (get_or before j []) = each_there (λ v. c.args.index < length v) before j [] c.requires.height (omega arith) in
    let len = ap length read in
    let counted = c.index_mut.result.now.ok.0 in
    omega arith

pub loop-column-preserved : goal.loop-column-preserved
loop-column-preserved c =
    let before : List (List CellValue) = all_items c.args.columns.now.items in
    let j : ℕ = c.loop-column.column in
    let cells : List CellValue = map (λ v. get_or v c.args.index Null) before in
    let all : length before ≡ length c.args.columns.now.items = len_map (λ (v : Vec CellValue Global). v.items) c.args.columns.now.items in
    let same = c.loop-column.invariant.2 in
    let test = c.loop-column-test.true in
    let end = c.len-column-end.ensures in
    let kept = c.args.columns.now.ok.0 in
    let counted = c.loop-column.invariant.3 in
    let pushed = c.push_reserved.ensures.len in
    let next : suc j ≡ j + 1 = omega arith in
    let within : j < length before = omega arith in
    let many : length cells ≡ length before = len_map (λ v. get_or v c.args.index Null) before in
    let read : c.index_mut.result.now.items ≡ get_or before j [] = column_read j c.args.index before c.loop-column.columns.items c.index_mut.result.now c.loop-column.invariant.0 (omega arith) c.index_mut.ensures.value in
    let high : c.args.index < length (get_or before j []) = each_there (λ v. c.args.index < length v) before j [] c.requires.height within in
    let value : c.remove.result ≡ get_or cells j Null
    = c.remove.ensures.value ∙ ap (λ xs. get_or xs c.args.index c.remove.result) read ∙ get_or_default (get_or before j []) c.args.index c.remove.result Null high
    ∙ sym (get_or-map (λ v. get_or v c.args.index Null) before j [] Null within) in (
      take_step j c.args.index before c.loop-column.columns.items c.index_mut.result.now c.remove.new.self c.loop-column.invariant.0 within (omega arith) c.index_mut.ensures.value c.remove.ensures.items
          ∙ ap (λ n. remove_firsts n c.args.index before) next,
      c.push_reserved.ensures.items ∙ ap (λ xs. xs ++ c.remove.result ∷ []) c.loop-column.invariant.1 ∙ ap (λ x. take j cells ++ x ∷ []) value ∙ sym (take_more cells j Null (omega arith)),
      length-set c.loop-column.columns.items j c.remove.new.self ∙ same,
      omega arith,
      c.push_reserved.ensures.capacity ∙ c.loop-column.invariant.4,
    )

pub returns-clause-columns : goal.returns-clause-columns
returns-clause-columns c =
    let before : List (List CellValue) = all_items c.args.columns.now.items in
    let all : length before ≡ length c.args.columns.now.items = len_map (λ (v : Vec CellValue Global). v.items) c.args.columns.now.items in
    let test = c.loop-column-test.false in
    let most = c.loop-column.auto.column-end in
    let end = c.len-column-end.ensures in
    let kept = c.args.columns.now.ok.0 in
    let at : c.loop-column.column ≡ length before = omega arith in
    c.loop-column.invariant.0 ∙ ap (λ n. remove_firsts n c.args.index before) at ∙ remove_all c.args.index before
