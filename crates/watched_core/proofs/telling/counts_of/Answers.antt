use Rattle.std.proofs.Common.{rules, ◌≡◌, ◌∷◌, ◌++◌, [], ap, ◌∙◌}
use Rattle.bundle_core.specs.MadeLines.{lines_made}
use Rattle.watched_core.proofs.TellLemmas.{counted_next}
use Rattle.watched_core.proofs.telling.counts_of.Goals as goal

pub loop-place-preserved : goal.loop-place-preserved
loop-place-preserved g c =
    let state = c.args.core.now.state in
    let made = c.lines_made-made.result in
    let pushed : c.push.new.self.items ≡ c.loop-place.counts.items ++ made ∷ [] = search rules in
    pushed ∙ ap (λ ns. ns ++ made ∷ []) c.loop-place.invariant
    ∙ counted_next state c.args.watchers.now c.loop-place.place made (search rules) (λ front back w e l. c.lines_made-made.ensures ∙ ap (lines_made state) (c.session_at.ensures front back w e l))
