-- What the words of a command line ask for.
use Rattle.std.specs.Prelude.{ℕ, Bool, true, false, List, [], ◌∷◌, codes, Option, Some, None, option_and_then, option_map, if◌then◌else◌}
use Rattle.std.specs.Str.{bytes_eq}
use Rattle.run_words.specs.declared.plans.Plan.{Plan}
use Rattle.run_words.specs.declared.plans.Plan.TheVariants.{Audit, Gen, Replay, Serve}
use Rattle.run_words.specs.Options.{Found, nothing_found, number_up_to, options_in}
use Rattle.run_words.specs.ServeWords.{serve_of}

-- a replay over the document and with the watched session that options name
abbrev pub replay_with : Found → Plan
replay_with f = Replay f.doc f.watch

-- what `replay` asks for with these words behind it
abbrev pub replay_of : List (List ℕ) → Option Plan
replay_of options = option_map replay_with (options_in false nothing_found options)

-- what words ask for that are of the form replay [--doc NAME] [--watch NAME]
abbrev pub replay_in : List (List ℕ) → Option Plan
replay_in [] = None
replay_in (word ∷ options) = if bytes_eq word (codes "replay") then replay_of options else None

-- what `gen` asks for with these words behind it: a script of that many rows
abbrev pub gen_of : List (List ℕ) → Option Plan
gen_of [] = None
gen_of (text ∷ []) = option_map Gen (number_up_to 20000 text)
gen_of (text ∷ word ∷ more) = None

-- an audit of the document that options name; they name no watched session
abbrev pub audit_with : Found → Option Plan
audit_with f = elim f.watch [ None ↦ Some (Audit f.doc) | Some name ↦ None ]

-- what `audit` asks for with these words behind it
abbrev pub audit_of : List (List ℕ) → Option Plan
audit_of options = option_and_then audit_with (options_in false nothing_found options)

-- what the words ask for, where they are of a form: that of a replay, serve and its options, gen
-- and a number, or audit and its option
abbrev pub plan_of : List (List ℕ) → Option Plan
plan_of [] = None
plan_of (word ∷ options) =
    if bytes_eq word (codes "serve") then serve_of options
    else if bytes_eq word (codes "gen") then gen_of options
    else if bytes_eq word (codes "audit") then audit_of options
    else replay_in (word ∷ options)

-- a replay is asked for
abbrev pub is_replay : Option Plan → Bool
is_replay None = false
is_replay (Some (Replay doc watch)) = true
is_replay (Some (Serve lanes port conns doc watch)) = false
is_replay (Some (Gen n)) = false
is_replay (Some (Audit doc)) = false

-- how many lanes of a server are asked for, where one is
abbrev pub lanes_of : Option Plan → Option ℕ
lanes_of None = None
lanes_of (Some (Replay doc watch)) = None
lanes_of (Some (Serve lanes port conns doc watch)) = Some lanes
lanes_of (Some (Gen n)) = None
lanes_of (Some (Audit doc)) = None

-- of how many rows a script is asked for, where one is
abbrev pub rows_of : Option Plan → Option ℕ
rows_of None = None
rows_of (Some (Replay doc watch)) = None
rows_of (Some (Serve lanes port conns doc watch)) = None
rows_of (Some (Gen n)) = Some n
rows_of (Some (Audit doc)) = None

-- an audit is asked for
abbrev pub is_audit : Option Plan → Bool
is_audit None = false
is_audit (Some (Replay doc watch)) = false
is_audit (Some (Serve lanes port conns doc watch)) = false
is_audit (Some (Gen n)) = false
is_audit (Some (Audit doc)) = true
