use Rattle.std.proofs.Common.{◌<◌, ◌≤◌, get_or, length, ◌≡◌, sym, subst, arith}
use Rattle.std.proofs.lemmas.List.{get_or_default}
use Rattle.affected_search.specs.Found.{IsMore}
use Rattle.affected_search.specs.Reached.{reads_one}
use Rattle.affected_search.proofs.SearchLaws.{no_cell, begun, passed, within, ended}
use Rattle.affected_search.proofs.search.affected_by.Goals as goal

pub loop-place-init : goal.loop-place-init
loop-place-init c =
    begun c.args.graph.now.reads c.args.touched.now c.add_readers_of_each.new.found c.new-keys.result.keys c.new-keys.ensures.empty
    (subst (λ cells. IsMore cells c.add_readers_of_each.new.found (reads_one c.args.graph.now.reads c.args.touched.now)) c.new-found.ensures c.in_ok-add_readers_of_each.ensures)

pub loop-place-smaller : goal.loop-place-smaller
loop-place-smaller c =
    let loop = c.loop-place in
    let l : loop.place < length loop.found = subst (λ cells. loop.place < length cells) c.cells.ensures.cells c.loop-place-test.true in
    let bound : loop.place < length c.args.graph.now.reads = within c.args.graph.now.reads c.args.touched.now loop.found loop.keys.keys loop.place l c.cells.ensures.once loop.invariant in
    omega (arith, bound)

pub loop-place-preserved : goal.loop-place-preserved
loop-place-preserved c =
    let loop = c.loop-place in
    let cells = c.cells-in-loop-place.result.now in
    let same = c.cells-in-loop-place.ensures.cells in
    let x = get_or cells loop.place no_cell in
    let l : loop.place < length loop.found = subst (λ list. loop.place < length list) c.cells.ensures.cells c.loop-place-test.true in
    let there : loop.place < length cells = subst (λ list. loop.place < length list) (sym same) l in
    passed c.args.graph.now.reads c.args.touched.now loop.found c.add_cell_readers.new.found loop.keys.keys c.add_cell_readers.new.keys.keys loop.place x l
    (subst (λ list. x ≡ get_or list loop.place x) same (get_or_default cells loop.place no_cell x there)) loop.invariant c.in_ok-add_cell_readers.ensures.more c.in_ok-add_cell_readers.ensures.keys

pub returns : goal.returns
returns c =
    let loop = c.loop-place in
    ended c.args.graph.now.reads c.args.touched.now loop.found loop.keys.keys loop.place
    (let above : length c.cells.result.now ≤ loop.place = omega arith in subst (λ cells. length cells ≤ loop.place) c.cells.ensures.cells above) c.cells.ensures.once loop.invariant
