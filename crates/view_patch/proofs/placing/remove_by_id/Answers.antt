use Rattle.std.proofs.Common.{Some, None, ◌≡◌, sym, ap, ◌∙◌}
use Rattle.std.specs.List.{position}
use Rattle.std.specs.Str.{bytes_eq}
use Rattle.view_patch.proofs.PatchSteps.{none_named, one_named}
use Rattle.view_patch.proofs.placing.remove_by_id.Goals as goal

pub returns-in-Some : goal.returns-in-Some
returns-in-Some g c =
    let xs = c.args.things.now.items in
    let id = c.args.id.now in
    let at : position (λ t. bytes_eq (g.T.Named.id_of t) id) xs ≡ Some c.in-Some.index = sym (c.in-Some.ensures ∙ ap (position (λ t. bytes_eq (g.T.Named.id_of t) id)) c.deref.ensures.value) in
    let h = one_named g.T.Named.id_of id (λ t. t) xs c.in-Some.index c.remove.result c.requires at c.remove.ensures.value in
    c.remove.ensures.items ∙ h.2

pub returns-in-None : goal.returns-in-None
returns-in-None g c =
    let xs = c.args.things.now.items in
    let id = c.args.id.now in
    let nowhere : position (λ t. bytes_eq (g.T.Named.id_of t) id) xs ≡ None = sym (c.in-None.ensures ∙ ap (position (λ t. bytes_eq (g.T.Named.id_of t) id)) c.deref.ensures.value) in
    sym (none_named g.T.Named.id_of id (λ t. t) xs nowhere).1
