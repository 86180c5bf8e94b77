-- Lists of names fit a cell.
use Rattle.std.specs.Prelude.{ℕ, true, List, ◌≡◌}
use Rattle.std.specs.List.{AllByRecursion}
use Rattle.std.specs.Str.{IsUtf8}
use Rattle.doc_model.specs.Column.{is_short}
use Rattle.renamed_resources.specs.NameLists.{are_names, joined}

-- 255 names that are texts, with commas between them, are no longer than a cell may be: so no text
-- stays as it was because it would be too long
abbrev pub LengthLaw : Type 0
LengthLaw =
    (names : List (List ℕ)) → AllByRecursion IsUtf8 names → are_names names ≡ true
    → is_short (joined names) ≡ true
