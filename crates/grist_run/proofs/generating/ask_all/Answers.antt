use Rattle.std.proofs.Common.{◌≡◌, [], ◌∷◌, refl, sym, ap, subst, arith, length}
use Rattle.run_generator.specs.Script.{script}
use Rattle.grist_run.specs.Asking.{IsAsking}
use Rattle.grist_run.proofs.AskingLaws.{asking_ends, asking_on, asking_starts, none_counted, stays_on}
use Rattle.grist_run.proofs.generating.ask_all.Goals as goal

pub returns-in_default-clause-err : goal.returns-in_default-clause-err
returns-in_default-clause-err g c = (script c.args.rows, (asking_starts c.args.rows c.args.core.now.state.history c.requires.first).entries)

pub loop-entry-init : goal.loop-entry-init
loop-entry-init g c = record {
  stays = record { users = refl; start = refl; opening = refl; before = refl };
  counted = none_counted (record { denied = 0; lines = 0 }) c.args.core.now.state refl refl c.requires.first;
  asking = subst (IsAsking c.args.rows c.args.core.now.state.history) (sym c.new-generator.ensures) (asking_starts c.args.rows c.args.core.now.state.history c.requires.first);
  first = c.in-Ok.ensures.0;
  second = c.in-Ok.ensures.1;
}

pub loop-entry-preserved : goal.loop-entry-preserved
loop-entry-preserved g c =
    let before = c.loop-entry.invariant in
    let made : c.loop-entry.generator ≡ c.in-Ok-Some.entry ∷ c.next.new.self = rw c.in-Ok-Some.field-0-is at c.in-Ok-Some.ensures.made in
    let done = c.in_default-ask.ensures in
    record {
      stays = stays_on c.args.core.now c.loop-entry.core c.ask.new.core before.stays done.stays;
      counted = done.counted;
      asking = asking_on c.args.rows c.loop-entry.core.state.history c.ask.new.core.state.history c.in-Ok-Some.entry c.next.new.self (subst (IsAsking c.args.rows c.loop-entry.core.state.history) made before.asking) done.took;
      first = before.first;
      second = before.second;
    }

pub loop-entry-smaller : goal.loop-entry-smaller
loop-entry-smaller g c =
    let made : c.loop-entry.generator ≡ c.in-Ok-Some.entry ∷ c.next.new.self = rw c.in-Ok-Some.field-0-is at c.in-Ok-Some.ensures.made in
    let more = ap length made in
    omega (arith, more)

pub returns-in-Ok-None-clause-took : goal.returns-in-Ok-None-clause-took
returns-in-Ok-None-clause-took g c =
    let none : c.loop-entry.generator ≡ [] = rw c.in-Ok-None.field-0-is at c.in-Ok-None.ensures.made in
    asking_ends c.args.rows c.loop-entry.core.state.history c.loop-entry.generator c.loop-entry.invariant.asking none

pub returns-in-Ok-None-clause-counted : goal.returns-in-Ok-None-clause-counted
returns-in-Ok-None-clause-counted g c = c.loop-entry.invariant.counted

pub returns-in-Err-clause-err : goal.returns-in-Err-clause-err
returns-in-Err-clause-err g c = (c.loop-entry.generator, c.loop-entry.invariant.asking.entries)
