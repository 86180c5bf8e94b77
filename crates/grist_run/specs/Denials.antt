-- Which lines tell that a rule denied a bundle.
use Rattle.std.specs.Prelude.{ℕ, ◌==◌, Bool, true, false, ◌&&◌, List, codes, Option, Some, None}
use Rattle.std.specs.List.{after_first, starts_with}
use Rattle.doc_model.specs.declared.verdict.Verdict.{Verdict}
use Rattle.doc_model.specs.declared.verdict.Verdict.TheVariants.{Denied}
use Rattle.bundle_core.specs.MadeLines.{last_line}

abbrev pub begins : List ℕ → List ℕ → Bool
begins front text = starts_with ◌==◌ text front

abbrev pub is_comma : ℕ → Bool
is_comma c = c == 44

abbrev pub behind_comma : List ℕ → List ℕ
behind_comma text = after_first is_comma text

-- an error of an action, with its number and a memo: no other reply has both
abbrev pub tells_denial : List ℕ → Bool
tells_denial line =
    begins (codes "{\"error\":{\"action\":") line
    && begins (codes "\"code\":20,\"memo\":") (behind_comma line)

-- a rule denied the bundle
abbrev pub is_denied : Verdict → Bool
is_denied (Denied action rule) = true
is_denied _ = false

abbrev pub any_tells : Option (List ℕ) → Bool
any_tells None = false
any_tells (Some line) = tells_denial line

-- the last of the lines tells it
abbrev pub ends_in_denial : List (List ℕ) → Bool
ends_in_denial lines = any_tells (last_line lines)
