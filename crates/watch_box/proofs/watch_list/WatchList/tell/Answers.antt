use Rattle.std.proofs.Common.{rules, refl}
use Rattle.watch_box.specs.Watching.{line_for}
use Rattle.watch_box.proofs.TellingLemmas.{told_stays, told_drops}
use Rattle.watch_box.proofs.watch_list.WatchList.tell.Goals as goal

pub loop-place-preserved-then-hears_at : goal.loop-place-preserved-then-hears_at
loop-place-preserved-then-hears_at g c = told_stays (line_for c.args.session.now c.args.line.now) c.args.self.now c.loop-place.self c.hears_at.new.self c.loop-place.place c.loop-place.invariant (search rules) (λ told front back w _ e l. c.if-hears_at.ensures.stays refl front back w e l)

pub loop-place-preserved : goal.loop-place-preserved
loop-place-preserved g c = told_drops (line_for c.args.session.now c.args.line.now) c.args.self.now c.loop-place.self c.hears_at.new.self c.loop-place.place c.loop-place.invariant (search rules) (λ told front back w _ e l. c.if-hears_at.ensures.dropped refl front back w e l)
