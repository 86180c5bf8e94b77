use Rattle.std.proofs.Common.{◌≡◌, [], drop}
use Rattle.user_actions.specs.References.{put_referrers, referrers_of}
use Rattle.user_actions.proofs.referrers.referrers.Given as goal

-- those so far, with those that are to come
abbrev pub invariant-loop-id : goal.invariant-loop-id
invariant-loop-id g l =
    let s = g.D.DocReader.document l.tables in
    put_referrers (referrers_of s l.old l.new l.retypes (drop l.id-index l.id-items)) l.found.items ≡ put_referrers (referrers_of s l.old l.new l.retypes l.id-items) []
