-- At which stage a generator may be, and which number it has then.
use Rattle.std.specs.Prelude.{◌≡◌, ℕ, ◌+◌, ◌*◌, ◌-◌, ◌<◌, ◌≤◌, min, List, map, ⊤}
use Rattle.std.specs.List.{range_with_len}
use Rattle.cell_types.specs.declared.value.CellValue.{CellValue}
use Rattle.run_generator.specs.declared.stage.Stage.{Stage}
use Rattle.run_generator.specs.declared.stage.Stage.TheVariants as stage
use Rattle.run_generator.specs.Draws.{drawn}
use Rattle.run_generator.specs.Script.{bundles_of, k_of, n_of, updated_rows}

-- how many numbers the bundles before this one took: two for each row
abbrev pub drawn_before : ℕ → ℕ → ℕ
drawn_before n number = min (1000 * number) (2 * n)

-- the values of so many rows behind those that are done, and the number drawn last
pub record AreValues (n done count : ℕ) (ks ns : List CellValue) (x : ℕ) : Type 0 where
  pub k : ks ≡ map (k_of n) (range_with_len (done + 1) count)
  pub n_values : ns ≡ map (n_of n) (range_with_len (done + 1) count)
  pub last : x ≡ drawn n (2 * (done + count))

-- the stage is one of the script's, and the number drawn last is this
abbrev pub IsAtStage : ℕ → ℕ → Stage → Type 0
IsAtStage n x (stage.AddRows number) =
    (number < bundles_of n) × (x ≡ drawn n (drawn_before n number))
IsAtStage n x (stage.Pause number) =
    (number ≤ bundles_of n) × (x ≡ drawn n (drawn_before n number))
IsAtStage n x (stage.UpdateRow row) =
    (0 < row) × (row ≤ updated_rows n) × (x ≡ drawn n (2 * n + row - 1))
IsAtStage n x stage.SyncFirst = ⊤
IsAtStage n x stage.SyncSecond = ⊤
IsAtStage n x stage.Done = ⊤
IsAtStage n x _ = x ≡ n

-- how many rows a script may have
abbrev pub row_bound : ℕ
row_bound = 20000
