-- What the options that were read are seen as, and what plans keep to.
use Rattle.std.specs.Prelude.{◌<◌, ◌≤◌, option_map}
use Rattle.run_words.specs.declared.plans.Plan.{Plan}
use Rattle.run_words.specs.declared.plans.Plan.TheVariants.{Audit, Gen, Replay, Serve}
use Rattle.run_words.specs.declared.option_words.AuditWords.{AuditWords}
use Rattle.run_words.specs.declared.option_words.Options.{Options}
use Rattle.run_words.specs.declared.option_words.ServeWords.{ServeWords}
use Rattle.run_words.specs.Options.{Found}

abbrev pub found_of : Options → Found
found_of o = record {
  doc = option_map (λ t. t.now) o.doc;
  watch = option_map (λ t. t.now) o.watch;
  lanes = o.lanes;
  port = o.port;
  conns = o.conns;
}

abbrev pub plan_in : ServeWords → Plan
plan_in w =
    Serve w.lanes w.port w.conns (option_map (λ t. t.now) w.doc) (option_map (λ t. t.now) w.watch)

abbrev pub audit_in : AuditWords → Plan
audit_in w = Audit (option_map (λ t. t.now) w.doc)

-- a server has 1 to 64 lanes
abbrev pub HasFewLanes : Plan → Type 0
HasFewLanes (Replay doc watch) = Unit {0}
HasFewLanes (Serve lanes port conns doc watch) = (0 < lanes) × (lanes ≤ 64)
HasFewLanes (Gen n) = Unit {0}
HasFewLanes (Audit doc) = Unit {0}
