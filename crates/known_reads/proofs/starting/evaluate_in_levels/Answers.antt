use Rattle.std.proofs.Common.{◌∙◌}
use Rattle.recalc.proofs.Progress.{settled_blank}
use Rattle.known_reads.proofs.StartedLemmas.{few_attempts, named_attempts, recorded_all, walked_next}
use Rattle.known_reads.proofs.starting.evaluate_in_levels.Goals as goal

pub settle_levels-requires-clause-settled : goal.settle_levels-requires-clause-settled
settle_levels-requires-clause-settled g c κs within = settled_blank (g.D.DocReader.document c.args.tables.now) c.in_ok-evaluated.evaluated.kept.items c.in_ok-evaluated.ensures.blank

pub settle_rest-requires-clause-settled : goal.settle_rest-requires-clause-settled
settle_rest-requires-clause-settled g c = c.in_ok-settle_levels.ensures.walked.further.settled

pub record_rest-requires-clause-others : goal.record_rest-requires-clause-others
record_rest-requires-clause-others g c =
    let s = g.D.DocReader.document c.args.tables.now in
    let first = c.in_ok-evaluated.evaluated in
    let mid = c.settle_levels.new.evaluated in
    let last = c.settle_rest.new.evaluated in
    recorded_all s first.kept.items last.kept.items first.reads last.reads c.args.steps.now c.settle_rest.new.steps
    (walked_next s first.kept.items mid.kept.items last.kept.items first.reads mid.reads last.reads c.args.steps.now c.settle_levels.new.steps c.settle_rest.new.steps c.in_ok-settle_levels.ensures.walked c.in_ok-settle_rest.ensures.walked)
    c.in_ok-evaluated.ensures.blank c.in_ok-evaluated.ensures.none c.in_ok-settle_rest.ensures.evaluated

pub returns-clause-attempts : goal.returns-clause-attempts
returns-clause-attempts g c =
    let s = g.D.DocReader.document c.args.tables.now in
    let first = c.in_ok-evaluated.evaluated in
    let mid = c.settle_levels.new.evaluated in
    let last = c.settle_rest.new.evaluated in
    few_attempts s first.kept.items last.kept.items first.reads last.reads c.args.steps.now c.settle_rest.new.steps
    (walked_next s first.kept.items mid.kept.items last.kept.items first.reads mid.reads last.reads c.args.steps.now c.settle_levels.new.steps c.settle_rest.new.steps c.in_ok-settle_levels.ensures.walked c.in_ok-settle_rest.ensures.walked)
    c.in_ok-evaluated.ensures.stale c.record_rest.new.steps c.record_rest.ensures.steps

pub returns-clause-named : goal.returns-clause-named
returns-clause-named g c =
    let s = g.D.DocReader.document c.args.tables.now in
    let first = c.in_ok-evaluated.evaluated in
    let mid = c.settle_levels.new.evaluated in
    let last = c.settle_rest.new.evaluated in
    named_attempts s first.kept.items last.kept.items first.reads last.reads c.args.steps.now c.settle_rest.new.steps
    (walked_next s first.kept.items mid.kept.items last.kept.items first.reads mid.reads last.reads c.args.steps.now c.settle_levels.new.steps c.settle_rest.new.steps c.in_ok-settle_levels.ensures.walked c.in_ok-settle_rest.ensures.walked)
    c.in_ok-evaluated.ensures.stale c.record_rest.new.steps c.record_rest.ensures.steps

pub record_rest-requires-clause-owed : goal.record_rest-requires-clause-owed
record_rest-requires-clause-owed g c = c.in_ok-settle_rest.ensures.walked.owed ∙ c.in_ok-settle_levels.ensures.walked.owed ∙ c.in_ok-evaluated.ensures.owed
