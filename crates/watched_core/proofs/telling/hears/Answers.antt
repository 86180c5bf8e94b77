use Rattle.std.proofs.Common.{rules, ◌≡◌, ℕ, List, Some, subst}
use Rattle.bundle_core.specs.MadeLines.{IsMade}
use Rattle.watch_box.specs.Watching.{RefusedLine, TookLine}
use Rattle.watched_core.proofs.telling.hears.Goals as goal

pub returns-in-Some-clause-stays : goal.returns-in-Some-clause-stays
returns-in-Some-clause-stays g c stays front back w e l =
    let line : List ℕ = c.in-Some.line.now in
    let named : c.session_at.result.now ≡ w.session = c.session_at.ensures front back w e l in
    let made : IsMade c.args.core.now.state c.args.given.now w.session c.args.before (Some line) =
    subst (λ n. IsMade c.args.core.now.state c.args.given.now n c.args.before (Some line)) named c.in-Some.ensures in
    let same : c.as_bytes.result.now ≡ line = search rules in
    let t = c.tell_at.ensures.stays stays front back w e l in
    (Some line, t.0, made, subst (λ b. TookLine b w t.0) same t.1, t.2)

pub returns-in-Some-clause-dropped : goal.returns-in-Some-clause-dropped
returns-in-Some-clause-dropped g c dropped front back w e l =
    let line : List ℕ = c.in-Some.line.now in
    let named : c.session_at.result.now ≡ w.session = c.session_at.ensures front back w e l in
    let made : IsMade c.args.core.now.state c.args.given.now w.session c.args.before (Some line) =
    subst (λ n. IsMade c.args.core.now.state c.args.given.now n c.args.before (Some line)) named c.in-Some.ensures in
    let same : c.as_bytes.result.now ≡ line = search rules in
    let t = c.tell_at.ensures.dropped dropped front back w e l in
    (Some line, made, subst (λ b. RefusedLine b w) same t.0, t.1)
