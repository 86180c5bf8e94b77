use Rattle.std.proofs.Common.{[], ◌∷◌, ◌++◌, length, sym, ap, ◌∙◌, subst, arith}
use Rattle.cell_types.specs.declared.value.CellValue.TheVariants.{Err}
use Rattle.cell_types.specs.declared.value.ErrKind.TheVariants.{Circular}
use Rattle.recalc.specs.Evaluated.{sheet_of}
use Rattle.recalc.specs.Kept.{held_at}
use Rattle.recalc.specs.Stack.{IsChain, IsOpen}
use Rattle.recalc.proofs.Turns.{put_stays, turn_open, turn_value, turn_circular, turn_push}
use Rattle.recalc.proofs.Moves.{circular_top}
use Rattle.recalc.proofs.SheetLemmas.{is_sheet}
use Rattle.known_reads.specs.Attempts.{IsNaming, due}
use Rattle.known_reads.specs.Recorded.{IsTold}
use Rattle.known_reads.proofs.BoundLemmas.{close_spent, naming_front, naming_push, push_spent, put_spent}
use Rattle.known_reads.proofs.RecordedLemmas.{noted_same, recording_kept, recording_put}
use Rattle.known_reads.proofs.settling.turn.Goals as goal

pub try_cell-requires-clause-opened : goal.try_cell-requires-clause-opened
try_cell-requires-clause-opened g c =
    let s = g.D.DocReader.document c.args.tables.now in
    subst (λ l. IsOpen (sheet_of s) (held_at s l) c.in-Some.top) (sym c.deref.ensures.value)
    (turn_open (sheet_of s) (is_sheet s) (held_at s c.args.kept.now.items) c.args.stack.now.items c.pop.new.self.items c.in-Some.top c.in-Some.ensures.items c.requires.working)

pub put_value-requires-clause-opened : goal.put_value-requires-clause-opened
put_value-requires-clause-opened g c =
    let s = g.D.DocReader.document c.args.tables.now in
    turn_open (sheet_of s) (is_sheet s) (held_at s c.args.kept.now.items) c.args.stack.now.items c.pop.new.self.items c.in-Some.top c.in-Some.ensures.items c.requires.working

pub put_value-requires-then-is_on-clause-opened : goal.put_value-requires-then-is_on-clause-opened
put_value-requires-then-is_on-clause-opened g c =
    let s = g.D.DocReader.document c.args.tables.now in
    turn_open (sheet_of s) (is_sheet s) (held_at s c.args.kept.now.items) c.args.stack.now.items c.pop.new.self.items c.in-Some.top c.in-Some.ensures.items c.requires.working

pub returns-then-is_on-clause-turn : goal.returns-then-is_on-clause-turn
returns-then-is_on-clause-turn g c =
    let s = g.D.DocReader.document c.args.tables.now in
    let told = subst (λ l. IsTold (sheet_of s) (held_at s l) c.in-Some.top c.in_ok-value.field-0) c.deref.ensures.value c.in_ok-value.ensures.told in
    turn_circular (sheet_of s) (is_sheet s) (held_at s c.args.kept.now.items) c.args.stack.now.items c.pop.new.self.items c.in-Some.top c.in-Some.ensures.items c.requires.working
    c.in-Need.cell (held_at s c.put_value-then-is_on.new.kept.items) (rw c.in-Need.is at told).0 (sym (rw c.deref-in-Need.ensures.value at c.is_on.ensures) ∙ c.if-is_on.true)
    c.put_value-then-is_on.ensures.put

pub returns-in_ok-keep_notes-in-Value-clause-turn : goal.returns-in_ok-keep_notes-in-Value-clause-turn
returns-in_ok-keep_notes-in-Value-clause-turn g c =
    let s = g.D.DocReader.document c.args.tables.now in
    let told = subst (λ l. IsTold (sheet_of s) (held_at s l) c.in-Some.top c.in_ok-value.field-0) c.deref.ensures.value c.in_ok-value.ensures.told in
    turn_value (sheet_of s) (is_sheet s) (held_at s c.args.kept.now.items) c.args.stack.now.items c.pop.new.self.items c.in-Some.top c.in-Some.ensures.items c.requires.working
    c.in-Value.value (held_at s c.put_value.new.kept.items) (rw c.in-Value.is at told).0 c.put_value.ensures.put

pub returns-in_ok-push-in-Need-2-clause-turn : goal.returns-in_ok-push-in-Need-2-clause-turn
returns-in_ok-push-in-Need-2-clause-turn g c =
    let s = g.D.DocReader.document c.args.tables.now in
    let told = subst (λ l. IsTold (sheet_of s) (held_at s l) c.in-Some.top c.in_ok-value.field-0) c.deref.ensures.value c.in_ok-value.ensures.told in
    turn_push (sheet_of s) (is_sheet s) (held_at s c.args.kept.now.items) c.args.stack.now.items c.pop.new.self.items c.in-Some.top c.in-Some.ensures.items c.requires.working
    c.in-Need.cell c.push.new.self.items c.push-in-Need.new.self.items (rw c.in-Need.is at told).0 (rw c.in-Need.is at told).1
    (sym (rw c.deref-in-Need.ensures.value at c.is_on.ensures) ∙ c.if-is_on.false) c.in_ok-push-in-Need.ensures.items c.in_ok-push-in-Need-2.ensures.items

pub returns-then-is_on-clause-stays : goal.returns-then-is_on-clause-stays
returns-then-is_on-clause-stays g c =
    let s = g.D.DocReader.document c.args.tables.now in
    put_stays (held_at s c.args.kept.now.items) (held_at s c.put_value-then-is_on.new.kept.items) c.in-Some.top (Err Circular) c.put_value-then-is_on.ensures.put

pub returns-in_ok-keep_notes-in-Value-clause-stays : goal.returns-in_ok-keep_notes-in-Value-clause-stays
returns-in_ok-keep_notes-in-Value-clause-stays g c =
    let s = g.D.DocReader.document c.args.tables.now in
    put_stays (held_at s c.args.kept.now.items) (held_at s c.put_value.new.kept.items) c.in-Some.top c.in-Value.value c.put_value.ensures.put

pub returns-then-is_on-clause-recording : goal.returns-then-is_on-clause-recording
returns-then-is_on-clause-recording g c =
    let s = g.D.DocReader.document c.args.tables.now in
    recording_put s (held_at s c.args.kept.now.items) (held_at s c.put_value-then-is_on.new.kept.items) c.args.reads.now c.add_stale.new.self c.in-Some.top (Err Circular) c.put_value-then-is_on.ensures.put
    (noted_same c.args.reads.now c.add_stale.new.self c.in-Some.top c.add_stale.ensures.graph c.in_ok-add_stale-in-Need.ensures.stale (sheet_of s))

pub returns-in_ok-keep_notes-in-Value-clause-recording : goal.returns-in_ok-keep_notes-in-Value-clause-recording
returns-in_ok-keep_notes-in-Value-clause-recording g c =
    let s = g.D.DocReader.document c.args.tables.now in
    let told = subst (λ l. IsTold (sheet_of s) (held_at s l) c.in-Some.top c.in_ok-value.field-0) c.deref.ensures.value c.in_ok-value.ensures.told in
    recording_put s (held_at s c.args.kept.now.items) (held_at s c.put_value.new.kept.items) c.args.reads.now c.keep_notes.new.self c.in-Some.top c.in-Value.value c.put_value.ensures.put
    (c.in_ok-keep_notes-in-Value.ensures.noted (sheet_of s) (rw c.in-Value.is at told).1)

pub returns-in_ok-keep_notes-in-Value-clause-naming : goal.returns-in_ok-keep_notes-in-Value-clause-naming
returns-in_ok-keep_notes-in-Value-clause-naming g c =
    let s = g.D.DocReader.document c.args.tables.now in
    naming_front (sheet_of s) c.pop.new.self.items c.in-Some.top (subst (IsNaming (sheet_of s)) c.in-Some.ensures.items c.requires.naming)

pub returns-then-is_on-clause-naming : goal.returns-then-is_on-clause-naming
returns-then-is_on-clause-naming g c =
    let s = g.D.DocReader.document c.args.tables.now in
    naming_front (sheet_of s) c.pop.new.self.items c.in-Some.top (subst (IsNaming (sheet_of s)) c.in-Some.ensures.items c.requires.naming)

pub returns-in_ok-push-in-Need-2-clause-naming : goal.returns-in_ok-push-in-Need-2-clause-naming
returns-in_ok-push-in-Need-2-clause-naming g c =
    let s = g.D.DocReader.document c.args.tables.now in
    let told = subst (λ l. IsTold (sheet_of s) (held_at s l) c.in-Some.top c.in_ok-value.field-0) c.deref.ensures.value c.in_ok-value.ensures.told in
    subst (IsNaming (sheet_of s)) (sym (c.in_ok-push-in-Need-2.ensures.items ∙ ap (λ l. l ++ c.in-Need.cell ∷ []) c.in_ok-push-in-Need.ensures.items))
    (naming_push (sheet_of s) c.pop.new.self.items c.in-Some.top c.in-Need.cell (subst (IsNaming (sheet_of s)) c.in-Some.ensures.items c.requires.naming) (rw c.in-Need.is at told).2)

pub returns-in_ok-keep_notes-in-Value-clause-attempts : goal.returns-in_ok-keep_notes-in-Value-clause-attempts
returns-in_ok-keep_notes-in-Value-clause-attempts g c =
    let s = g.D.DocReader.document c.args.tables.now in
    let k = held_at s c.args.kept.now.items in
    let j = held_at s c.put_value.new.kept.items in
    let opened = turn_open (sheet_of s) (is_sheet s) k c.args.stack.now.items c.pop.new.self.items c.in-Some.top c.in-Some.ensures.items c.requires.working in
    let same = ap length c.keep_notes.ensures.list in
    let step = c.try_cell.ensures.steps in
    put_spent (sheet_of s) k j c.in-Some.top c.in-Value.value c.put_value.ensures.put opened c.pop.new.self.items c.args.stack.now.items c.in-Some.ensures.items c.requires.working.each_open c.requires.naming
    (due c.args.steps.now c.args.reads.now) (due c.try_cell.new.steps c.keep_notes.new.self) (omega (arith, step, same))

pub returns-then-is_on-clause-attempts : goal.returns-then-is_on-clause-attempts
returns-then-is_on-clause-attempts g c =
    let s = g.D.DocReader.document c.args.tables.now in
    let k = held_at s c.args.kept.now.items in
    let j = held_at s c.put_value-then-is_on.new.kept.items in
    let opened = turn_open (sheet_of s) (is_sheet s) k c.args.stack.now.items c.pop.new.self.items c.in-Some.top c.in-Some.ensures.items c.requires.working in
    let told = subst (λ l. IsTold (sheet_of s) (held_at s l) c.in-Some.top c.in_ok-value.field-0) c.deref.ensures.value c.in_ok-value.ensures.told in
    let waits = rw c.in-Need.is at told in
    let circular = circular_top (sheet_of s) c.pop.new.self.items c.in-Some.top c.in-Need.cell (subst (IsChain (sheet_of s)) c.in-Some.ensures.items c.requires.working.chain) waits.0
    (sym (rw c.deref-in-Need.ensures.value at c.is_on.ensures) ∙ c.if-is_on.true) in
    let more = c.add_stale.ensures.list in
    let step = c.try_cell.ensures.steps in
    close_spent (sheet_of s) k j c.in-Some.top (Err Circular) c.put_value-then-is_on.ensures.put opened circular c.in-Need.cell waits.1 waits.2 c.pop.new.self.items c.args.stack.now.items c.in-Some.ensures.items
    c.requires.working.each_open c.requires.naming (due c.args.steps.now c.args.reads.now) (due c.try_cell.new.steps c.add_stale.new.self) (omega (arith, step, more))

pub returns-in_ok-push-in-Need-2-clause-attempts : goal.returns-in_ok-push-in-Need-2-clause-attempts
returns-in_ok-push-in-Need-2-clause-attempts g c =
    let s = g.D.DocReader.document c.args.tables.now in
    let step = c.try_cell.ensures.steps in
    push_spent (sheet_of s) (held_at s c.args.kept.now.items) c.pop.new.self.items c.args.stack.now.items c.push.new.self.items c.push-in-Need.new.self.items c.in-Some.top c.in-Need.cell
    c.in-Some.ensures.items c.in_ok-push-in-Need.ensures.items c.in_ok-push-in-Need-2.ensures.items (due c.args.steps.now c.args.reads.now) (due c.try_cell.new.steps c.args.reads.now) (omega (arith, step))

pub returns-in_err-keep_notes-in-Value-clause-recording : goal.returns-in_err-keep_notes-in-Value-clause-recording
returns-in_err-keep_notes-in-Value-clause-recording g c =
    let s = g.D.DocReader.document c.args.tables.now in
    recording_kept s (held_at s c.args.kept.now.items) c.args.reads.now c.keep_notes.new.self c.in_err-keep_notes-in-Value.ensures.left c.keep_notes.ensures.list
