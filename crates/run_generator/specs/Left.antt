-- What is left of a script.
use Rattle.std.specs.Prelude.{ℕ, ◌+◌, ◌-◌, List, [], ◌∷◌, ◌++◌, codes}
use Rattle.doc_model.specs.declared.entry.Entry.{Entry}
use Rattle.doc_model.specs.declared.request.Request.TheVariants.{Apply, Open, Sync}
use Rattle.run_generator.specs.declared.stage.Stage.{Stage}
use Rattle.run_generator.specs.declared.stage.Stage.TheVariants as stage
use Rattle.run_generator.specs.Script.{adds_rule, adds_table, all_adds, all_updates, asks_of_rows, bundle, bundles_of, first_asks, last_asks, script, second_asks, updated_rows}

-- the updates from a row on, and the end
abbrev pub updates_from : ℕ → ℕ → List Entry
updates_from n row = all_updates n row (updated_rows n + 1 - row) ++ last_asks

-- the bundles from that number on, and all behind them
abbrev pub adds_from : ℕ → ℕ → List Entry
adds_from n number = all_adds n number (bundles_of n - number) ++ updates_from n 1

-- what is left from a stage on
abbrev pub left_from : ℕ → Stage → List Entry
left_from n stage.OpenFirst = script n
left_from n stage.OpenSecond = second_asks (Open (codes "g2"))
    ∷ first_asks (bundle adds_table) ∷ first_asks (Apply adds_rule) ∷ asks_of_rows n
left_from n stage.AddTable =
    first_asks (bundle adds_table) ∷ first_asks (Apply adds_rule) ∷ asks_of_rows n
left_from n stage.AddRule = first_asks (Apply adds_rule) ∷ asks_of_rows n
left_from n (stage.AddRows number) = adds_from n number
left_from n (stage.Pause number) = second_asks Sync ∷ adds_from n number
left_from n (stage.UpdateRow row) = updates_from n row
left_from n stage.SyncFirst = last_asks
left_from n stage.SyncSecond = second_asks Sync ∷ []
left_from n stage.Done = []
