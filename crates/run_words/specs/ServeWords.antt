-- What the words behind `serve` ask for.
use Rattle.std.specs.Prelude.{ℕ, ◌+◌, true, List, nat_le, Option, Some, None, option_and_then, if◌then◌else◌}
use Rattle.run_words.specs.declared.plans.Plan.{Plan}
use Rattle.run_words.specs.declared.plans.Plan.TheVariants.{Serve}
use Rattle.run_words.specs.Options.{Found, nothing_found, options_in}

-- the lanes listen on this port and those behind it, of which the last is 65535 at most
abbrev pub serve_plan : Found → ℕ → ℕ → ℕ → Option Plan
serve_plan f lanes port conns =
    if nat_le (port + lanes) 65536 then Some (Serve lanes port conns f.doc f.watch) else None

-- lanes, port and connections are all said
abbrev pub complete : Found → Option Plan
complete f =
    option_and_then (λ lanes.
    option_and_then (λ port.
    option_and_then (λ conns. serve_plan f lanes port conns) f.conns) f.port) f.lanes

-- what `serve` asks for with these words behind it
abbrev pub serve_of : List (List ℕ) → Option Plan
serve_of options = option_and_then complete (options_in true nothing_found options)
