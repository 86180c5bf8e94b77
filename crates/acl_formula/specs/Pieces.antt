-- Short names of what texts are compared by.
use Rattle.std.specs.Prelude.{ℕ, Bool, ◌==◌, List}
use Rattle.std.specs.List.{starts_with}
use Rattle.value_ops.specs.Containment.{is_part}
use Rattle.value_ops.specs.Order.{is_less_text}

-- whether the text begins with the part
abbrev pub begins : List ℕ → List ℕ → Bool
begins part text = starts_with ◌==◌ text part

-- whether the first text is less
abbrev pub is_less : List ℕ → List ℕ → Bool
is_less t u = is_less_text t u

-- whether the part stands in the text
abbrev pub is_within : List ℕ → List ℕ → Bool
is_within part text = is_part part text
