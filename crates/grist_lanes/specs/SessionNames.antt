-- The names of sessions whose connections lanes serve.
use Rattle.std.specs.Prelude.{ℕ, ◌^◌, ◌<◌, ◌≡◌, List, ◌∷◌, ◌++◌}
use Rattle.std.specs.Fmt.{decimal}

-- l, the number of the lane, c, the number of the connection
abbrev pub session_name : ℕ → ℕ → List ℕ
session_name lane connection = 108 ∷ (decimal lane ++ 99 ∷ decimal connection)

-- no two connections have one name
abbrev pub NamesTellApart : Type 0
NamesTellApart = (lane connection lane' connection' : ℕ) → lane < 2 ^ 64 → connection < 2 ^ 64
    → lane' < 2 ^ 64 → connection' < 2 ^ 64
    → session_name lane connection ≡ session_name lane' connection'
    → (lane ≡ lane') × (connection ≡ connection')
