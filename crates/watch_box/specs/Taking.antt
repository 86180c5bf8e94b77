-- What a watcher did with a line.
use Rattle.std.specs.Prelude.{◌≡◌, ◌↔◌, ℕ, ◌≤◌, List, [], ◌∷◌, ◌++◌, length, Option, option_map, Result, Ok, Err, IsErr, IfSome}

-- the line stands behind the told ones, or the call failed and these are as they were
abbrev pub Takes : {T E : Type 0} → Option (List (List ℕ)) → Option (List (List ℕ)) → List ℕ
    → Result T E → Type 0
Takes old new line (Ok done) = new ≡ option_map (λ ls. ls ++ line ∷ []) old
Takes old new line (Err fault) = new ≡ old

-- where it is told from which length on a line is refused, lines of that length or more are
abbrev pub RefusesFrom : {T E : Type 0} → Option ℕ → List ℕ → Result T E → Type 0
RefusesFrom told line result = IfSome told (λ n. IsErr result ↔ (n ≤ length line))
