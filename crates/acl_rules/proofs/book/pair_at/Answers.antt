use Rattle.std.proofs.Common.{refl}
use Rattle.std.proofs.lemmas.Option.{slice_get_past, slice_get_read}
use Rattle.acl_rules.proofs.PlaceLemmas.{paired_at, paired_past, paired_past_resources}
use Rattle.acl_rules.proofs.book.pair_at.Goals as goal

pub returns-in-None : goal.returns-in-None
returns-in-None c =
    paired_past c.args.rules.now c.args.resources.now c.args.place (slice_get_past c.args.rules.now c.args.place c.in-None.ensures.lookup.3)

pub returns-in-None-get : goal.returns-in-None-get
returns-in-None-get c =
    paired_past_resources c.args.rules.now c.args.resources.now c.args.place (slice_get_past c.args.resources.now c.args.place c.in-None-get.ensures.lookup.3)

pub returns-in-Some-get : goal.returns-in-Some-get
returns-in-Some-get c =
    let rule = c.in-Some.ensures.lookup in
    let resource = c.in-Some-get.ensures.lookup in
    paired_at c.args.rules.now c.args.resources.now c.args.place c.in-Some.rule.now c.in-Some-get.resource.now
    (slice_get_read c.args.rules.now _ c.args.place c.in-Some.rule.now refl rule.3.0 rule.1)
    (slice_get_read c.args.resources.now _ c.args.place c.in-Some-get.resource.now refl resource.3.0 resource.1)
