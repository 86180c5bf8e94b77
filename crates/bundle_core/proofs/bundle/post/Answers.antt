use Rattle.std.proofs.Common.{map, ap, ◌∙◌}
use Rattle.std.specs.List.{insert}
use Rattle.bundle_core.specs.SessionState.{posted_state}
use Rattle.bundle_core.proofs.Prepared.{posts_after}
use Rattle.bundle_core.proofs.bundle.post.Goals as goal

pub returns : goal.returns
returns c =
    let y = c.give_bundle-lines.new.self in
    posts_after c.args.sessions.now.items c.put_back.new.sessions.items c.args.index c.remove-own.result y c.args.ready.note c.args.ready.reply c.give_bundle-lines.result.items c.requires.within c.remove-own.ensures.value
    (c.put_back.ensures ∙ ap (λ l. insert l c.args.index y) (c.post_rest.ensures.items ∙ ap (map posted_state) c.remove-own.ensures.items))
    c.give_bundle-lines.ensures.emptied c.give_bundle-lines.ensures.made c.give_bundle-lines.ensures.log c.give_bundle-lines.ensures.lines
