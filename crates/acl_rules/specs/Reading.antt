-- Which columns of the row before a change rules read: those that they mention as `rec.N`.
use Rattle.std.specs.Prelude.{ℕ, Bool, option_map, cond, List, [], ◌∷◌, ◌++◌, filter, Option, Some, None, bytes_eq, slice_get}
use Rattle.std.specs.List.{list_any}
use Rattle.formula_parse.specs.Tree.{Tree}
use Rattle.acl_formula.specs.Asked.{Asked}
use Rattle.acl_formula.specs.RuleRow.{RuleRow}
use Rattle.acl_formula.specs.declared.mention.Mention.{Mention}
use Rattle.acl_formula.specs.declared.mention.Mention.TheVariants as mention
use Rattle.acl_formula.specs.Mentions.{mentioned}
use Rattle.acl_rules.specs.Chain.{is_on, of_document, rules_of}
use Rattle.acl_rules.specs.RuleBook.{BookRule}

-- the column that a mention reads of the row before, where it reads one
abbrev pub read_by : Mention → List (List ℕ)
read_by (mention.Rec n) = n ∷ []
read_by (mention.NewRec n) = []
read_by (mention.User n) = []

-- those that mentions read
abbrev pub mentions_read : List Mention → List (List ℕ)
mentions_read [] = []
mentions_read (m ∷ ms) = read_by m ++ mentions_read ms

-- those that a formula reads
abbrev pub formula_reads : Option (Option Tree) → List (List ℕ)
formula_reads None = []
formula_reads (Some tree) = mentions_read (mentioned tree)

-- those that rules read
abbrev pub rules_read : List BookRule → List (List ℕ)
rules_read [] = []
rules_read (b ∷ rules) = formula_reads b.rule.formula ++ rules_read rules

-- those that a rule reads, where there is one
abbrev pub rule_reads : Option BookRule → List (List ℕ)
rule_reads None = []
rule_reads (Some b) = formula_reads b.rule.formula

-- those that the rules at these places read
abbrev pub places_read : List BookRule → List ℕ → List (List ℕ)
places_read book [] = []
places_read book (place ∷ places) = rule_reads (slice_get book place) ++ places_read book places

-- the rules about a table, its columns or the document
abbrev pub rules_about : List ℕ → List BookRule → List BookRule
rules_about table book =
    filter (λ (b : BookRule). is_on table b.resource) book ++ rules_of of_document book

-- a name at the end, where it is new
abbrev pub with_name : List (List ℕ) → List ℕ → List (List ℕ)
with_name names n = cond (list_any (λ m. bytes_eq m n) names) names (names ++ n ∷ [])

-- those that are new, each once
abbrev pub with_names : List (List ℕ) → List (List ℕ) → List (List ℕ)
with_names names [] = names
with_names names (n ∷ ns) = with_names (with_name names n) ns

-- the columns that the rules of any chain of a table read, each once
abbrev pub columns_read : List BookRule → List ℕ → List (List ℕ)
columns_read book table = with_names [] (rules_read (rules_about table book))

-- whether the column is one of these
abbrev pub is_among : List (List ℕ) → List ℕ → Bool
is_among names c = list_any (λ n. bytes_eq n c) names

-- a row without the cells of other columns
abbrev pub narrowed : List (List ℕ) → RuleRow → RuleRow
narrowed names r = record { id = r.id; cell = λ c. cond (is_among names c) (r.cell c) None }

-- the same of the row before a change
abbrev pub narrowed_before : List (List ℕ) → Asked → Asked
narrowed_before names x =
    record { user = x.user; before = option_map (narrowed names) x.before; after = x.after }
