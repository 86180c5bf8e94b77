use Rattle.std.proofs.Common.{IfSome, ◌≡◌, ◌∙◌, sym, subst}
use Rattle.formula_eval.specs.Lookup.{matched}
use Rattle.formula_eval.specs.Run.{gives}
use Rattle.recalc.specs.Evaluated.{sheet_of}
use Rattle.recalc.specs.Kept.{held_at}
use Rattle.recalc.specs.Remembered.{AreFound, key_of}
use Rattle.recalc.specs.Sheet.{over}
use Rattle.recalc.proofs.SameLookups.{found_again}
use Rattle.recalc.proofs.remembering.next_lookup.Goals as goal

pub returns-in-Ok : goal.returns-in-Ok
returns-in-Ok g c =
    let d = g.D.DocReader.document c.args.tables.now in
    let s = sheet_of d in
    let k = held_at d c.args.kept.now in
    let t = c.args.table.now in
    let key = c.args.key.now in
    let made = c.with_rows.result in
    let same = c.is_this.ensures c.if-not-is_this.false in
    let found = subst (λ ks. IfSome c.in-Ok.rows (λ rows. matched (over s k) t ks ≡ gives rows)) c.requires.one c.in-Ok.ensures in
    subst (AreFound s made.table (key_of made)) (sym c.with_rows.ensures.2)
    (subst (λ y. AreFound s made.table y c.in-Ok.rows) (sym (c.with_rows.ensures.1 ∙ same.1))
    (subst (λ n. AreFound s n key c.in-Ok.rows) (sym (c.with_rows.ensures.0 ∙ same.0)) (found_again s c.args.indexes.now c.requires.indexed t key c.requires.index k c.in-Ok.rows found)))
