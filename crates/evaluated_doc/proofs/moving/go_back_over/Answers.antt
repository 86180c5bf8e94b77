use Rattle.std.proofs.Common.{◌≡◌, false, sym, subst, Option, Vec, Global}
use Rattle.std.specs.Option.{option_map}
use Rattle.recalc.specs.declared.kept.KeptTable.{KeptTable}
use Rattle.recalc.specs.Current.{IsCurrent, has_formulas}
use Rattle.recalc.specs.Kept.{IsEvaluated}
use Rattle.evaluated_doc.proofs.MovedLemmas.{plain_then}
use Rattle.evaluated_doc.proofs.moving.go_back_over.Goals as goal

pub put_values_back-requires-clause-of_document : goal.put_values_back-requires-clause-of_document
put_values_back-requires-clause-of_document g c =
    let known : IsEvaluated (g.D.DocReader.document c.args.tables.now) c.in-Some.kept.items = rw c.in-Some.is at c.requires.before.2 in
    known.of_document

pub lay_back-requires : goal.lay_back-requires
lay_back-requires g c =
    let led = c.requires.before.3 in
    record { moved = (c.requires.before.0, led.moved, led.has_aside, c.put_values_back.ensures.of_document) }

pub returns-in-Some : goal.returns-in-Some
returns-in-Some g c = λ s stale led.
    let now = g.D.DocReader.document c.args.tables.now in
    let known : IsEvaluated now c.in-Some.kept.items = rw c.in-Some.is at c.requires.before.2 in
    c.rows_back_law.ensures s now c.args.taken.items c.in-Some.kept.items c.put_values_back.new.kept.items c.lay_back.new.kept.items c.args.aside led.leads known c.put_values_back.ensures.back
    (c.lay_back.ensures s led.moved led.has_aside c.put_values_back.ensures.of_document)

pub returns-in_default : goal.returns-in_default
returns-in_default g c = λ s stale led.
    let now = g.D.DocReader.document c.args.tables.now in
    let plain : has_formulas now ≡ false = rw c.in_default.is at c.requires.before.2 in
    subst (λ (o : Option (Vec KeptTable Global)). IsCurrent s (option_map (λ v. v.items) o)) (sym c.in_default.is) (plain_then s now c.args.aside.table led.moved plain)
