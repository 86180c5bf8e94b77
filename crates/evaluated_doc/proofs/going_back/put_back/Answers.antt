use Rattle.std.proofs.Common.{◌≡◌, false, sym, subst, Option, Vec, Global}
use Rattle.std.specs.Option.{option_map}
use Rattle.recalc.specs.declared.kept.KeptTable.{KeptTable}
use Rattle.recalc.specs.Current.{IsCurrent, has_formulas}
use Rattle.recalc.specs.Kept.{IsEvaluated}
use Rattle.evaluated_doc.proofs.UpdateLemmas.{kept_before, plain_before, values_before}
use Rattle.evaluated_doc.proofs.going_back.put_back.Goals as goal

pub put_values_back-requires-clause-of_document : goal.put_values_back-requires-clause-of_document
put_values_back-requires-clause-of_document g c =
    let b = c.requires.before in
    let known : IsEvaluated b.0 c.in-Some.kept.items = rw c.in-Some.is at b.2 in
    kept_before (g.D.DocReader.document c.args.tables.now) b.0 c.args.taken.items b.1 c.in-Some.kept.items b.3 known

pub returns-in-Some : goal.returns-in-Some
returns-in-Some g c =
    let b = c.requires.before in
    let known : IsEvaluated b.0 c.in-Some.kept.items = rw c.in-Some.is at b.2 in
    values_before (g.D.DocReader.document c.args.tables.now) b.0 c.args.taken.items b.1 c.in-Some.kept.items b.3 c.way_back_law.ensures c.put_values_back.new.kept.items known
    c.put_values_back.ensures.of_document c.put_values_back.ensures.back

pub returns-in_default : goal.returns-in_default
returns-in_default g c =
    let s = g.D.DocReader.document c.args.tables.now in
    let b = c.requires.before in
    let plain : has_formulas b.0 ≡ false = rw c.in_default.is at b.2 in
    subst (λ (o : Option (Vec KeptTable Global)). IsCurrent s (option_map (λ v. v.items) o)) (sym c.in_default.is) (plain_before s b.0 c.args.taken.items b.1 b.3 plain)
