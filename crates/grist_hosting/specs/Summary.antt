-- The line that tells what a server did.
use Rattle.std.specs.Prelude.{ℕ, List, ◌++◌, codes}
use Rattle.std.specs.Fmt.{decimal}

-- the accepted bundles, the connections and the entries of the history: an object of JSON, and a
-- newline
abbrev pub summary_line : ℕ → ℕ → ℕ → List ℕ
summary_line bundles connections entries =
    codes "{\"bundles\":" ++ decimal bundles
    ++ codes ",\"connections\":" ++ decimal connections
    ++ codes ",\"entries\":" ++ decimal entries
    ++ codes "}\n"
