use Rattle.std.proofs.Common.{◌≡◌, ◌∙◌, sym, ap, rules}
use Rattle.std.specs.BTreeMap.{is_at}
use Rattle.std.specs.Map.{lookup}
use Rattle.shot_cells.specs.Places.{by_name}
use Rattle.shot_cells.proofs.PlaceLemmas.{already_named, any_err, newly_named}
use Rattle.shot_cells.proofs.places.make_named.Goals as goal

pub returns-then-contains_key-clause-ok : goal.returns-then-contains_key-clause-ok
returns-then-contains_key-clause-ok g c = already_named c.args.named.now c.args.name.now c.args.empty (sym c.contains_key.ensures ∙ c.if-contains_key.true)

pub returns-in_err-insert-clause-err : goal.returns-in_err-insert-clause-err
returns-in_err-insert-clause-err g c = any_err c.from_residual-in_err-insert.result (λ other. ap (lookup (is_at (by_name other))) c.in_err-insert.ensures.err)

pub returns-clause-ok : goal.returns-clause-ok
returns-clause-ok g c =
    let same : c.in_ok-clone.field-0 ≡ c.args.name.now = search rules in
    newly_named c.args.named.now c.insert.new.self c.in_ok-clone.field-0 c.args.name.now c.args.empty same (sym c.contains_key.ensures ∙ c.if-contains_key.false) c.in_ok-insert.ensures.updates
