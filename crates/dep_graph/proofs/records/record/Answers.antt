use Rattle.std.proofs.Common.{Some, cond, subst, sym, ap, ◌∙◌, ◌≡◌, refl}
use Rattle.dep_graph.specs.Differing.{AreDiffering}
use Rattle.dep_graph.specs.Numbers.{is_cell}
use Rattle.dep_graph.specs.Readers.{items_of}
use Rattle.dep_graph.specs.Records.{holds, IsParted, IsRecorded, reads_under}
use Rattle.dep_graph.proofs.DifferingLaws.{joined_all, parted_all}
use Rattle.dep_graph.proofs.RecordLaws.{recorded_by, recorded_again, recorded_inverse, same_reads, err_any}
use Rattle.dep_graph.proofs.records.record.Goals as goal

pub returns-then-eq-clause-ok : goal.returns-then-eq-clause-ok
returns-then-eq-clause-ok c =
    subst (IsRecorded c.args.reads.now.entries c.args.reads.now.entries c.args.cell)
    (sym c.recorded.ensures ∙ same_reads c.recorded.result.now c.as_slice.result.now (sym c.eq.ensures ∙ c.if-eq.true) ∙ c.as_slice.ensures.value) (recorded_again c.args.reads.now.entries c.args.cell)

pub returns-in_err-kept-clause-err : goal.returns-in_err-kept-clause-err
returns-in_err-kept-clause-err c = err_any c.from_residual-in_err-kept.result (λ d. ap items_of (c.in_ok-reserve.ensures.entries.2 d))

pub returns-in_err-kept-clause-inverse : goal.returns-in_err-kept-clause-inverse
returns-in_err-kept-clause-inverse c q d = c.requires q d ∙ ap (λ reads. holds reads q) (ap items_of (sym (c.in_ok-reserve.ensures.entries.2 d)))

pub returns-in_err-gone-clause-err : goal.returns-in_err-gone-clause-err
returns-in_err-gone-clause-err c = err_any c.from_residual-in_err-gone.result (λ d. ap items_of (c.in_ok-reserve.ensures.entries.2 d))

pub returns-in_err-gone-clause-inverse : goal.returns-in_err-gone-clause-inverse
returns-in_err-gone-clause-inverse c q d = c.requires q d ∙ ap (λ reads. holds reads q) (ap items_of (sym (c.in_ok-reserve.ensures.entries.2 d)))

pub link-requires : goal.link-requires
link-requires c q =
    c.requires q c.args.cell ∙ ap (λ reads. holds reads q) (ap items_of (sym (c.in_ok-reserve.ensures.entries.2 c.args.cell)) ∙ sym c.recorded-had.ensures)

pub returns-in_err-link-clause-err : goal.returns-in_err-link-clause-err
returns-in_err-link-clause-err c = err_any c.from_residual-in_err-link.result (λ d. ap items_of (c.in_ok-reserve.ensures.entries.2 d))

pub returns-in_err-link-clause-inverse : goal.returns-in_err-link-clause-inverse
returns-in_err-link-clause-inverse c q d =
    c.in_err-link.ensures.err q d ∙ c.requires q d ∙ ap (λ reads. holds reads q) (ap items_of (sym (c.in_ok-reserve.ensures.entries.2 d)))

pub returns-clause-inverse : goal.returns-clause-inverse
returns-clause-inverse c =
    let old = c.args.reads.now.entries in
    let cell = c.args.cell in
    let items = c.args.new.items in
    let gone = c.differing.result.0.now in
    let more = c.differing.result.1.now in
    let kept = c.in_ok-kept.kept.keys in
    let was : c.recorded-had.result.now ≡ reads_under old cell = c.recorded-had.ensures ∙ ap items_of (c.in_ok-reserve.ensures.entries.2 cell) in
    let apart : AreDiffering (reads_under old cell) items gone more = subst (λ had. AreDiffering had items gone more) was (subst (λ new. AreDiffering c.recorded-had.result.now new gone more) c.as_slice-2.ensures.value c.differing.ensures) in
    recorded_inverse old c.insert.new.self.entries c.args.readers.now c.link.new.readers c.unlink.new.readers items items cell
    c.requires (recorded_by old c.insert.new.self.entries cell (Some c.args.new) (λ d. c.in-Ok.ensures.updates.0 d ∙ ap (cond (is_cell cell d) (Some c.args.new)) (c.in_ok-reserve.ensures.entries.2 d)))
    (λ q. refl)
    (joined_all (reads_under old cell) items gone more cell apart c.args.readers.now c.link.new.readers (λ q. c.requires q cell) c.in_ok-link.ensures.ok)
    (parted_all (reads_under old cell) items gone more cell apart c.link.new.readers c.unlink.new.readers kept (λ q here. c.in_ok-kept.ensures q here ∙ ap (λ reads. holds reads q) c.as_slice-3.ensures.value)
    (subst (λ reads. IsParted c.link.new.readers c.unlink.new.readers reads kept cell) (c.as_slice-4.ensures.value ∙ c.in_ok-gone.ensures.items) c.unlink.ensures.links))
