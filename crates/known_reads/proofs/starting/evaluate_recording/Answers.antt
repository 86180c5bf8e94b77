use Rattle.std.proofs.Common.{◌∙◌}
use Rattle.recalc.proofs.Progress.{settled_blank}
use Rattle.known_reads.proofs.StartedLemmas.{few_attempts, few_within, named_attempts, named_within, recorded_all}
use Rattle.known_reads.proofs.starting.evaluate_recording.Goals as goal

pub settle_rest-requires-clause-settled : goal.settle_rest-requires-clause-settled
settle_rest-requires-clause-settled g c = settled_blank (g.D.DocReader.document c.args.tables.now) c.in_ok-evaluated.evaluated.kept.items c.in_ok-evaluated.ensures.blank

pub record_rest-requires-clause-others : goal.record_rest-requires-clause-others
record_rest-requires-clause-others g c =
    let first = c.in_ok-evaluated.evaluated in
    let last = c.settle_rest.new.evaluated in
    recorded_all (g.D.DocReader.document c.args.tables.now) first.kept.items last.kept.items first.reads last.reads c.args.steps.now c.settle_rest.new.steps
    c.in_ok-settle_rest.ensures.walked c.in_ok-evaluated.ensures.blank c.in_ok-evaluated.ensures.none c.in_ok-settle_rest.ensures.evaluated

pub returns-clause-attempts : goal.returns-clause-attempts
returns-clause-attempts g c =
    let first = c.in_ok-evaluated.evaluated in
    let last = c.settle_rest.new.evaluated in
    few_attempts (g.D.DocReader.document c.args.tables.now) first.kept.items last.kept.items first.reads last.reads c.args.steps.now c.settle_rest.new.steps
    c.in_ok-settle_rest.ensures.walked c.in_ok-evaluated.ensures.stale c.record_rest.new.steps c.record_rest.ensures.steps

pub returns-clause-named : goal.returns-clause-named
returns-clause-named g c =
    let first = c.in_ok-evaluated.evaluated in
    let last = c.settle_rest.new.evaluated in
    named_attempts (g.D.DocReader.document c.args.tables.now) first.kept.items last.kept.items first.reads last.reads c.args.steps.now c.settle_rest.new.steps
    c.in_ok-settle_rest.ensures.walked c.in_ok-evaluated.ensures.stale c.record_rest.new.steps c.record_rest.ensures.steps

pub record_rest-requires-clause-owed : goal.record_rest-requires-clause-owed
record_rest-requires-clause-owed g c = c.in_ok-settle_rest.ensures.walked.owed ∙ c.in_ok-evaluated.ensures.owed

pub returns-in_err-settle_rest-clause-attempts : goal.returns-in_err-settle_rest-clause-attempts
returns-in_err-settle_rest-clause-attempts g c =
    let first = c.in_ok-evaluated.evaluated in
    few_within (g.D.DocReader.document c.args.tables.now) first.kept.items first.reads c.args.steps.now c.settle_rest.new.steps c.in_ok-evaluated.ensures.stale c.settle_rest.ensures.within

pub returns-in_err-record_rest-clause-attempts : goal.returns-in_err-record_rest-clause-attempts
returns-in_err-record_rest-clause-attempts g c =
    let first = c.in_ok-evaluated.evaluated in
    let last = c.settle_rest.new.evaluated in
    few_attempts (g.D.DocReader.document c.args.tables.now) first.kept.items last.kept.items first.reads last.reads c.args.steps.now c.settle_rest.new.steps
    c.in_ok-settle_rest.ensures.walked c.in_ok-evaluated.ensures.stale c.record_rest.new.steps c.record_rest.ensures.steps

pub returns-in_err-settle_rest-clause-named : goal.returns-in_err-settle_rest-clause-named
returns-in_err-settle_rest-clause-named g c =
    let first = c.in_ok-evaluated.evaluated in
    named_within (g.D.DocReader.document c.args.tables.now) first.kept.items first.reads c.args.steps.now c.settle_rest.new.steps c.in_ok-evaluated.ensures.stale c.settle_rest.ensures.within

pub returns-in_err-record_rest-clause-named : goal.returns-in_err-record_rest-clause-named
returns-in_err-record_rest-clause-named g c =
    let first = c.in_ok-evaluated.evaluated in
    let last = c.settle_rest.new.evaluated in
    named_attempts (g.D.DocReader.document c.args.tables.now) first.kept.items last.kept.items first.reads last.reads c.args.steps.now c.settle_rest.new.steps
    c.in_ok-settle_rest.ensures.walked c.in_ok-evaluated.ensures.stale c.record_rest.new.steps c.record_rest.ensures.steps
