use Rattle.std.proofs.Common.{◌≡◌, true, ◌∙◌, ap, length, subst, sym, arith}
use Rattle.cell_types.specs.declared.cell.CellId.{CellId}
use Rattle.recalc.specs.Evaluated.{sheet_of}
use Rattle.recalc.specs.Kept.{IsEvaluated, held_at}
use Rattle.recalc.specs.Stack.{is_open, on}
use Rattle.affected_values.proofs.RefreshedLemmas.{all_refreshed, held_left, leads_back, settled_left}
use Rattle.known_reads.specs.Recorded.{KnowsBut, KnowsButFormulas}
use Rattle.known_reads.specs.Watched.{IsGoneNoted}
use Rattle.known_reads.proofs.BoundLemmas.{bound_all, most_all}
use Rattle.known_reads.proofs.CountLemmas.{open_named, open_taken}
use Rattle.known_reads.proofs.RecordedLemmas.{AllTaken, known_anew}
use Rattle.known_reads.proofs.WatchedLemmas.{gone_last, watched_last, watched_next}
use Rattle.known_reads.proofs.refreshing.refresh_noting.Goals as goal

pub settle_taken-requires-clause-settled : goal.settle_taken-requires-clause-settled
settle_taken-requires-clause-settled g c =
    settled_left (g.D.DocReader.document c.args.tables.now) c.args.kept.now.items c.take_values.new.kept.items c.args.cells.items c.take_values.new.taken.items c.take_values.ensures.taken c.requires.others c.take_values.ensures.of_document

pub record_stale-requires-clause-evaluated : goal.record_stale-requires-clause-evaluated
record_stale-requires-clause-evaluated g c =
    let s = g.D.DocReader.document c.args.tables.now in
    subst (IsEvaluated s) (sym c.deref-in-Ok.ensures.value) (all_refreshed s c.take_values.new.kept.items c.settle_taken.new.kept.items c.take_values.new.taken.items
    (held_left s c.args.kept.now.items c.take_values.new.kept.items c.args.cells.items c.take_values.new.taken.items c.take_values.ensures.taken c.requires.others)
    c.settle_taken.ensures.further (subst (AllTaken s c.settle_taken.new.kept.items) c.deref.ensures.value c.in-Ok.ensures.known))

pub record_stale-requires-clause-others : goal.record_stale-requires-clause-others
record_stale-requires-clause-others g c =
    let s = g.D.DocReader.document c.args.tables.now in
    known_anew s c.args.kept.now.items c.take_values.new.kept.items c.args.cells.items c.take_values.new.taken.items c.take_values.ensures.taken
    c.settle_taken.new.kept.items c.forget_plain.new.self c.settle_taken.new.reads c.settle_taken.ensures.recording (subst (AllTaken s c.settle_taken.new.kept.items) c.deref.ensures.value c.in-Ok.ensures.known)
    (subst (KnowsButFormulas s c.forget_plain.new.self) c.as_slice.ensures.value (c.in_ok-forget_plain.ensures.knows (subst (KnowsBut s c.args.reads.now) (sym c.as_slice.ensures.value) c.requires.reads)))

pub returns-in-Ok-record_stale-clause-ok : goal.returns-in-Ok-record_stale-clause-ok
returns-in-Ok-record_stale-clause-ok g c =
    let s = g.D.DocReader.document c.args.tables.now in
    all_refreshed s c.take_values.new.kept.items c.settle_taken.new.kept.items c.take_values.new.taken.items
    (held_left s c.args.kept.now.items c.take_values.new.kept.items c.args.cells.items c.take_values.new.taken.items c.take_values.ensures.taken c.requires.others)
    c.settle_taken.ensures.further (subst (AllTaken s c.settle_taken.new.kept.items) c.deref.ensures.value c.in-Ok.ensures.known)

pub returns-in-Ok-record_stale-clause-way : goal.returns-in-Ok-record_stale-clause-way
returns-in-Ok-record_stale-clause-way g c =
    leads_back (g.D.DocReader.document c.args.tables.now) c.args.kept.now.items c.take_values.new.kept.items c.args.cells.items c.take_values.new.taken.items c.take_values.ensures.taken c.requires.others
    c.settle_taken.new.kept.items c.settle_taken.ensures.further

pub returns-in-Ok-record_stale-clause-watched : goal.returns-in-Ok-record_stale-clause-watched
returns-in-Ok-record_stale-clause-watched g c =
    watched_last c.args.reads.now c.forget_plain.new.self c.settle_taken.new.reads c.record_stale.new.self c.requires.none c.forget_plain.ensures.watched c.settle_taken.ensures.watched c.record_stale.ensures.watched

pub returns-in-Ok-record_stale-clause-gone : goal.returns-in-Ok-record_stale-clause-gone
returns-in-Ok-record_stale-clause-gone g c =
    let s = g.D.DocReader.document c.args.tables.now in
    gone_last c.args.reads.now c.forget_plain.new.self c.settle_taken.new.reads c.record_stale.new.self c.requires.none c.forget_plain.ensures.watched c.settle_taken.ensures.watched c.record_stale.ensures.watched
    s c.args.cells.items (subst (λ l. (d : CellId) → on l d ≡ true → IsGoneNoted s c.args.reads.now c.forget_plain.new.self d) c.as_slice.ensures.value c.in_ok-forget_plain.ensures.gone)

pub returns-in-Ok-record_stale-clause-attempts : goal.returns-in-Ok-record_stale-clause-attempts
returns-in-Ok-record_stale-clause-attempts g c =
    let s = g.D.DocReader.document c.args.tables.now in
    let spent = c.in-Ok.ensures.due.twice c.args.cells.items
    (open_taken s c.args.kept.now.items c.take_values.new.kept.items c.args.cells.items c.take_values.new.taken.items c.take_values.ensures.taken c.requires.others) in
    let few = most_all (sheet_of s) c.args.cells.items (is_open (held_at s c.take_values.new.kept.items)) in
    let first = ap length c.forget_plain.ensures.list in
    let none = ap length c.requires.none in
    let more = c.record_stale.ensures.steps in
    omega (arith, spent, few, first, none, more)

pub returns-in-Ok-record_stale-clause-named : goal.returns-in-Ok-record_stale-clause-named
returns-in-Ok-record_stale-clause-named g c =
    let s = g.D.DocReader.document c.args.tables.now in
    λ all has. let spent = c.in-Ok.ensures.due.named all
    (open_named s c.args.kept.now.items c.take_values.new.kept.items c.args.cells.items c.take_values.new.taken.items c.take_values.ensures.taken c.requires.others all has) in
    let few = bound_all (sheet_of s) all (is_open (held_at s c.take_values.new.kept.items)) in
    let first = ap length c.forget_plain.ensures.list in
    let none = ap length c.requires.none in
    let more = c.record_stale.ensures.steps in
    omega (arith, spent, few, first, none, more)

pub returns-in-Err-record_stale-clause-watched : goal.returns-in-Err-record_stale-clause-watched
returns-in-Err-record_stale-clause-watched g c =
    watched_last c.args.reads.now c.forget_plain.new.self c.settle_taken.new.reads c.record_stale.new.self c.requires.none c.forget_plain.ensures.watched c.settle_taken.ensures.watched c.record_stale.ensures.watched

pub returns-in-Err-record_stale-clause-err : goal.returns-in-Err-record_stale-clause-err
returns-in-Err-record_stale-clause-err g c =
    λ d there. c.put_values_back.ensures.back d there
    ∙ leads_back (g.D.DocReader.document c.args.tables.now) c.args.kept.now.items c.take_values.new.kept.items c.args.cells.items c.take_values.new.taken.items c.take_values.ensures.taken c.requires.others
    c.settle_taken.new.kept.items c.settle_taken.ensures.further d there

pub returns-in-Err-record_stale-clause-attempts : goal.returns-in-Err-record_stale-clause-attempts
returns-in-Err-record_stale-clause-attempts g c =
    let s = g.D.DocReader.document c.args.tables.now in
    let spent = c.in-Ok.ensures.due.twice c.args.cells.items
    (open_taken s c.args.kept.now.items c.take_values.new.kept.items c.args.cells.items c.take_values.new.taken.items c.take_values.ensures.taken c.requires.others) in
    let few = most_all (sheet_of s) c.args.cells.items (is_open (held_at s c.take_values.new.kept.items)) in
    let first = ap length c.forget_plain.ensures.list in
    let none = ap length c.requires.none in
    let more = c.record_stale.ensures.steps in
    omega (arith, spent, few, first, none, more)

pub returns-in-Err-record_stale-clause-named : goal.returns-in-Err-record_stale-clause-named
returns-in-Err-record_stale-clause-named g c =
    let s = g.D.DocReader.document c.args.tables.now in
    λ all has. let spent = c.in-Ok.ensures.due.named all
    (open_named s c.args.kept.now.items c.take_values.new.kept.items c.args.cells.items c.take_values.new.taken.items c.take_values.ensures.taken c.requires.others all has) in
    let few = bound_all (sheet_of s) all (is_open (held_at s c.take_values.new.kept.items)) in
    let first = ap length c.forget_plain.ensures.list in
    let none = ap length c.requires.none in
    let more = c.record_stale.ensures.steps in
    omega (arith, spent, few, first, none, more)

pub returns-in-Err-clause-watched : goal.returns-in-Err-clause-watched
returns-in-Err-clause-watched g c =
    watched_next c.args.reads.now c.forget_plain.new.self c.settle_taken.new.reads c.forget_plain.ensures.watched c.settle_taken.ensures.watched

pub returns-in-Err-clause-err : goal.returns-in-Err-clause-err
returns-in-Err-clause-err g c =
    λ d there. c.put_values_back-in-Err.ensures.back d there
    ∙ leads_back (g.D.DocReader.document c.args.tables.now) c.args.kept.now.items c.take_values.new.kept.items c.args.cells.items c.take_values.new.taken.items c.take_values.ensures.taken c.requires.others
    c.settle_taken.new.kept.items c.settle_taken.ensures.further d there

pub returns-in-Err-clause-attempts : goal.returns-in-Err-clause-attempts
returns-in-Err-clause-attempts g c =
    let s = g.D.DocReader.document c.args.tables.now in
    let spent = c.settle_taken.ensures.attempts.twice c.args.cells.items
    (open_taken s c.args.kept.now.items c.take_values.new.kept.items c.args.cells.items c.take_values.new.taken.items c.take_values.ensures.taken c.requires.others) in
    let few = most_all (sheet_of s) c.args.cells.items (is_open (held_at s c.take_values.new.kept.items)) in
    let first = ap length c.forget_plain.ensures.list in
    let none = ap length c.requires.none in
    omega (arith, spent, few, first, none)

pub returns-in-Err-clause-named : goal.returns-in-Err-clause-named
returns-in-Err-clause-named g c =
    let s = g.D.DocReader.document c.args.tables.now in
    λ all has. let spent = c.settle_taken.ensures.attempts.named all
    (open_named s c.args.kept.now.items c.take_values.new.kept.items c.args.cells.items c.take_values.new.taken.items c.take_values.ensures.taken c.requires.others all has) in
    let few = bound_all (sheet_of s) all (is_open (held_at s c.take_values.new.kept.items)) in
    let first = ap length c.forget_plain.ensures.list in
    let none = ap length c.requires.none in
    omega (arith, spent, few, first, none)
