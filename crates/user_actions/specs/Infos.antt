-- The types that texts name.
use Rattle.std.specs.Prelude.{ℕ, cond, nat_eq, List, [], ◌∷◌, Option, Some, None, codes}
use Rattle.std.specs.Option.{option_map}
use Rattle.std.specs.Str.{bytes_eq}
use Rattle.cell_types.specs.NameRule.{is_name}
use Rattle.cell_types.specs.declared.column_type.ColType.{ColType}
use Rattle.cell_types.specs.declared.column_type.ColType.TheVariants as type
use Rattle.doc_model.specs.Records.{or_else}

-- the type where the text is its name, or else the next one
abbrev pub named : List ℕ → List ℕ → ColType → Option ColType → Option ColType
named text name ty next = cond (bytes_eq text name) (Some ty) next

-- the type that a text names, but for references
abbrev pub plain_type_of : List ℕ → Option ColType
plain_type_of text =
    named text (codes "Any") type.Any (named text (codes "Text") type.Text
    (named text (codes "Int") type.Int (named text (codes "Bool") type.Bool
    (named text (codes "Date") type.Date None))))

-- the rest of a text behind a beginning
abbrev pub behind : List ℕ → List ℕ → Option (List ℕ)
behind [] text = Some text
behind (c ∷ start) [] = None
behind (c ∷ start) (d ∷ text) = cond (nat_eq c d) (behind start text) None

-- the name that stands behind a beginning
abbrev pub name_behind : List ℕ → List ℕ → Option (List ℕ)
name_behind start text =
    elim (behind start text) [ None ↦ None | Some rest ↦ cond (is_name rest) (Some rest) None ]

-- the type of references that a text names; users name no metadata table
abbrev pub reference_type_of : List ℕ → Option ColType
reference_type_of text =
    or_else (option_map type.Ref (name_behind (codes "Ref:") text))
    (option_map type.RefList (name_behind (codes "RefList:") text))

-- the type that a text names
abbrev pub type_of : List ℕ → Option ColType
type_of text = or_else (plain_type_of text) (reference_type_of text)

-- the type that is given, or else another
abbrev pub type_or : ColType → Option (List ℕ) → Option ColType
type_or other None = Some other
type_or other (Some text) = type_of text
