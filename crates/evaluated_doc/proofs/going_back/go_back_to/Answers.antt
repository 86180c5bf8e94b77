use Rattle.std.proofs.Common.{sym, subst, Vec}
use Rattle.std.specs.Global.{Global}
use Rattle.std.specs.Option.{option_map}
use Rattle.recalc.specs.declared.kept.KeptTable.{KeptTable}
use Rattle.recalc.specs.Current.{IsCurrent}
use Rattle.known_reads.specs.Beside.{KnowsReads, LeadsReads}
use Rattle.evaluated_doc.specs.Moved.{LeadsFromRows}
use Rattle.evaluated_doc.specs.Update.{LeadsFrom}
use Rattle.evaluated_doc.proofs.BackLemmas.{laid_before}
use Rattle.evaluated_doc.proofs.going_back.go_back_to.Goals as goal

pub put_back-requires-clause-before : goal.put_back-requires-clause-before
put_back-requires-clause-before g c =
    let now = g.D.DocReader.document c.args.tables.now in
    let s = g.D.DocTables.undone c.args.undo now in
    let led : LeadsFrom s now c.in-Update.taken.items c.in-Update.log.were.items = rw c.in-Update.is at c.requires.before in
    (now, c.in-Update.log.were.items, c.requires.current, subst (λ d. LeadsFrom d now c.in-Update.taken.items c.in-Update.log.were.items) (sym c.take_back-in-Update.ensures) led)

pub go_back_over-requires-clause-before : goal.go_back_over-requires-clause-before
go_back_over-requires-clause-before g c =
    let now = g.D.DocReader.document c.args.tables.now in
    let s = g.D.DocTables.undone c.args.undo now in
    let led : LeadsFromRows s now c.in-Rows.taken.items c.in-Rows.aside c.in-Rows.log.were.items = rw c.in-Rows.is at c.requires.before in
    (s, c.in-Rows.log.were.items, c.requires.current, led)

pub returns-in-Update-clause-known : goal.returns-in-Update-clause-known
returns-in-Update-clause-known g c =
    let now = g.D.DocReader.document c.args.tables.now in
    let s = g.D.DocTables.undone c.args.undo now in
    let led : LeadsFrom s now c.in-Update.taken.items c.in-Update.log.were.items = rw c.in-Update.is at c.requires.before in
    subst (λ d. KnowsReads d c.lay.new.self) (sym c.take_back-in-Update.ensures)
    (laid_before c.laid_law.ensures now s c.args.reads.now c.lay.new.self c.in-Update.log.were.items led.reads c.lay.ensures.graph c.lay.ensures.stale c.lay.ensures.owed c.requires.known)

pub returns-in-Rows-clause-current : goal.returns-in-Rows-clause-current
returns-in-Rows-clause-current g c =
    let now = g.D.DocReader.document c.args.tables.now in
    let s = g.D.DocTables.undone c.args.undo now in
    let led : LeadsFromRows s now c.in-Rows.taken.items c.in-Rows.aside c.in-Rows.log.were.items = rw c.in-Rows.is at c.requires.before in
    subst (λ d. IsCurrent d (option_map (λ (v : Vec KeptTable Global). v.items) c.go_back_over.new.kept)) (sym c.take_back-in-Rows.ensures) (c.go_back_over.ensures s c.in-Rows.log.were.items led)

pub returns-in-Rows-clause-known : goal.returns-in-Rows-clause-known
returns-in-Rows-clause-known g c =
    let now = g.D.DocReader.document c.args.tables.now in
    let s = g.D.DocTables.undone c.args.undo now in
    let led : LeadsFromRows s now c.in-Rows.taken.items c.in-Rows.aside c.in-Rows.log.were.items = rw c.in-Rows.is at c.requires.before in
    subst (λ d. KnowsReads d c.lay-in-Rows.new.self) (sym c.take_back-in-Rows.ensures)
    (laid_before c.laid_law.ensures now s c.args.reads.now c.lay-in-Rows.new.self c.in-Rows.log.were.items led.reads c.lay-in-Rows.ensures.graph c.lay-in-Rows.ensures.stale c.lay-in-Rows.ensures.owed c.requires.known)

pub returns-in-Altered-clause-known : goal.returns-in-Altered-clause-known
returns-in-Altered-clause-known g c =
    let now = g.D.DocReader.document c.args.tables.now in
    let s = g.D.DocTables.undone c.args.undo now in
    let led : LeadsReads now s c.in-Altered.log.were.items = (rw c.in-Altered.is at c.requires.before).1 in
    subst (λ d. KnowsReads d c.lay-in-Altered.new.self) (sym c.take_back-in-Altered.ensures)
    (laid_before c.laid_law.ensures now s c.args.reads.now c.lay-in-Altered.new.self c.in-Altered.log.were.items led c.lay-in-Altered.ensures.graph c.lay-in-Altered.ensures.stale c.lay-in-Altered.ensures.owed c.requires.known)
