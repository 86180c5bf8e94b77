use Rattle.std.proofs.Common.{◌≡◌, ◌++◌, ◌∷◌, ap, subst, sym, ◌∙◌, slice_set, get_or}
use Rattle.std.proofs.Math.Seq.{set-append_seam, get_or-append_seam}
use Rattle.watch_box.specs.Watching.{TookLine}
use Rattle.watch_box.proofs.watch_list.WatchList.tell_at.Goals as goal

pub returns-else-not-stays-clause-stays : goal.returns-else-not-stays-clause-stays
returns-else-not-stays-clause-stays g c stays front back w e l =
    let one = c.index_mut.result.now in
    let new = c.takes-stays.new.watched in
    let all : c.self.inside.watched.items ≡ front ++ w ∷ back = c.self.view_is ∙ e in
    let is : one ≡ w = c.index_mut.ensures.value
    ∙ ap (λ xs. get_or xs c.args.place one) all
    ∙ ap (λ n. get_or (front ++ w ∷ back) n one) (sym l)
    ∙ get_or-append_seam front w back one in (
      new,
      subst (λ v. TookLine c.args.line.now v new) is (c.takes-stays.ensures.took stays),
      ap (λ xs. slice_set xs c.args.place new) all
          ∙ subst (λ n. slice_set (front ++ w ∷ back) n new ≡ front ++ new ∷ back) l (set-append_seam front w back new),
    )
