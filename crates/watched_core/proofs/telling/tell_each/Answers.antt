use Rattle.std.proofs.Common.{rules, ℕ, ◌+◌, ◌<◌, length, refl, subst, sym}
use Rattle.watched_core.proofs.TellLemmas.{ToldSoFar, so_far_all, so_far_drops, so_far_none, so_far_stays}
use Rattle.watched_core.proofs.telling.tell_each.Goals.{else-hears, then-hears}
use Rattle.watched_core.proofs.telling.tell_each.Goals as goal

pub loop-index-init : goal.loop-index-init
loop-index-init g c = so_far_none c.args.core.now.state c.args.given.now c.args.counts.now c.args.watchers.now

pub loop-index-preserved : goal.loop-index-preserved
loop-index-preserved g c =
    let state = c.args.core.now.state in
    let given = c.args.given.now in
    let counts = c.args.counts.now in
    let all = c.args.watchers.now in
    let now = c.loop-index.watchers in
    let new = c.hears.new.watchers in
    let index = c.loop-index.index in
    let place = c.loop-index.place in
    let P : ℕ → Type 0 = λ p. ToldSoFar state given counts all new (index + 1) p in
    let inside : index < length all = search rules in
    elim c.if-hears.branch [
      | then-hears w ↦ subst P (sym w.place-is) (so_far_stays state given counts all now new index place c.loop-index.invariant inside _ (search rules) w.if-hears.ensures.count (w.if-hears.ensures.stays refl))
      | else-hears w ↦ subst P (sym w.place-is) (so_far_drops state given counts all now new index place c.loop-index.invariant inside _ (search rules) w.if-hears.ensures.count (w.if-hears.ensures.dropped refl))
    ]

pub returns : goal.returns
returns g c = so_far_all c.args.core.now.state c.args.given.now c.args.counts.now c.args.watchers.now c.loop-index.watchers c.loop-index.index c.loop-index.place c.loop-index.invariant (search rules)
