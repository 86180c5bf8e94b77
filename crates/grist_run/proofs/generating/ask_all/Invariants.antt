use Rattle.std.proofs.Common.{◌≡◌, length}
use Rattle.run_generator.specs.Script.{first_session, second_session}
use Rattle.grist_run.specs.Asking.{AreCounted, IsAsking}
use Rattle.grist_run.specs.Staying.{StaysStarted}
use Rattle.grist_run.proofs.generating.ask_all.Given as goal

-- what is left of the script is still to be asked for, and all before it is counted
abbrev pub invariant-loop-entry : goal.invariant-loop-entry
invariant-loop-entry g l = record {
  stays : StaysStarted l.fn.core l.core;
  counted : AreCounted l.counts l.core.state;
  asking : IsAsking l.fn.rows l.core.state.history l.generator;
  first : l.sessions.first ≡ first_session;
  second : l.sessions.second ≡ second_session;
}

abbrev pub decreases-loop-entry : goal.decreases-loop-entry
decreases-loop-entry g l = length l.generator
