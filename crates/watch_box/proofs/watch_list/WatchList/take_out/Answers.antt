use Rattle.std.proofs.Common.{rules, sym, ap, ◌∙◌, ◌≡◌, option_map, length, ◌<◌, refl, slice_get, Some}
use Rattle.std.specs.List.{find}
use Rattle.std.proofs.lemmas.Option.{slice_get_read}
use Rattle.watch_box.specs.Watching.{WatcherState, has_number}
use Rattle.watch_box.proofs.NumberLemmas.{found_some, found_none}
use Rattle.watch_box.proofs.watch_list.WatchList.take_out.Goals as goal

pub returns-in-Some-clause-found : goal.returns-in-Some-clause-found
returns-in-Some-clause-found g c =
    let f = found_some c.args.number c.self.inside.watched.items c.in-Some.place (search rules) in
    let all = c.self.inside.watched.items in
    let w : WatcherState = c.remove.result in
    let inside : c.in-Some.place < length all = search rules in
    let at : slice_get all c.in-Some.place ≡ Some w = slice_get_read all (length all) c.in-Some.place w refl inside c.remove.ensures.value in
    ap (λ (v : WatcherState). Some v.telling) c.result.view_is ∙ sym (ap (option_map (λ (v : WatcherState). v.telling)) (f.0 ∙ at))
    ∙ ap (λ ws. option_map (λ (v : WatcherState). v.telling) (find (has_number c.args.number) ws)) c.self.view_is

pub returns-in-Some-clause-rest : goal.returns-in-Some-clause-rest
returns-in-Some-clause-rest g c =
    let f = found_some c.args.number c.self.inside.watched.items c.in-Some.place (search rules) in
    search (rules, f)

pub returns-in-None-clause-found : goal.returns-in-None-clause-found
returns-in-None-clause-found g c =
    let f = found_none c.args.number c.self.inside.watched.items (search rules) in
    search (rules, f)

pub returns-in-None-clause-rest : goal.returns-in-None-clause-rest
returns-in-None-clause-rest g c =
    let f = found_none c.args.number c.self.inside.watched.items (search rules) in
    search (rules, f)
