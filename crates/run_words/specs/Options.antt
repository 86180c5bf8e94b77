-- The options behind a command.
use Rattle.std.specs.Prelude.{ℕ, ℤ, pos, negsuc, ◌+◌, ◌==◌, Bool, false, ◌&&◌, List, [], ◌∷◌, codes, length, nat_le, nat_lt, Option, Some, None, option_and_then, option_map, if◌then◌else◌}
use Rattle.std.specs.List.{after_first, before_first, position_or_len}
use Rattle.std.specs.Str.{bytes_eq}
use Rattle.cell_types.specs.Decimal.{decimal_of}
use Rattle.cell_types.specs.NameRule.{is_name}
use Rattle.run_words.specs.declared.option_words.WordOption.{WordOption}
use Rattle.run_words.specs.declared.option_words.WordOption.TheVariants.{Conns, Doc, Lanes, Port, Watch}

-- what the options so far say
pub record Found : Type 0 where
  pub doc : Option (List ℕ)
  pub watch : Option (List ℕ)
  pub lanes : Option ℕ
  pub port : Option ℕ
  pub conns : Option ℕ

abbrev pub nothing_found : Found
nothing_found = record { doc = None; watch = None; lanes = None; port = None; conns = None }

-- ---- numbers

abbrev pub begins_with_zero : List ℕ → Bool
begins_with_zero [] = false
begins_with_zero (c ∷ cs) = c == 48

-- a number from 1 to a bound
abbrev pub within : ℕ → ℤ → Option ℕ
within most (pos n) = if nat_le 1 n && nat_le n most then Some n else None
within most (negsuc n) = None

-- the number from 1 to a bound that decimal digits say, with no zero before them
abbrev pub number_up_to : ℕ → List ℕ → Option ℕ
number_up_to most text =
    if begins_with_zero text then None else option_and_then (within most) (decimal_of text)

-- ---- one option

-- an option that a server alone has
abbrev pub server_option : List ℕ → Option WordOption
server_option word =
    if bytes_eq word (codes "--lanes") then Some Lanes
    else if bytes_eq word (codes "--port") then Some Port
    else if bytes_eq word (codes "--conns") then Some Conns
    else None

-- an option of a server, or of another command that opens a document
abbrev pub option_named : Bool → List ℕ → Option WordOption
option_named is_server word =
    if bytes_eq word (codes "--doc") then Some Doc
    else if bytes_eq word (codes "--watch") then Some Watch
    else if is_server then server_option word else None

abbrev pub is_equals : ℕ → Bool
is_equals c = c == 61

-- an option and its text in one word, as in `--lanes=4`
abbrev pub joined_option : Bool → List ℕ → Option (WordOption × List ℕ)
joined_option is_server word =
    if nat_lt (position_or_len is_equals word) (length word)
    then option_map (λ o. (o, after_first is_equals word))
    (option_named is_server (before_first is_equals word))
    else None

-- a text that is a name
abbrev pub name_in : List ℕ → Option (List ℕ)
name_in text = if is_name text then Some text else None

-- what was said, where nothing was said before
abbrev pub said_once : {A : Type 0} → Option A → Option A → Option A
said_once None said = said
said_once (Some before) said = None

-- what the options say with one more, which is given for the first time
abbrev pub with_option : Found → WordOption → List ℕ → Option Found
with_option f Doc text =
    option_map (λ name. record f { doc = Some name }) (said_once f.doc (name_in text))
with_option f Watch text =
    option_map (λ name. record f { watch = Some name }) (said_once f.watch (name_in text))
with_option f Lanes text =
    option_map (λ n. record f { lanes = Some n }) (said_once f.lanes (number_up_to 64 text))
with_option f Port text =
    option_map (λ n. record f { port = Some n }) (said_once f.port (number_up_to 65535 text))
with_option f Conns text =
    option_map (λ n. record f { conns = Some n }) (said_once f.conns (number_up_to 1000000 text))

-- ---- all options

abbrev pub with_joined : Bool → Found → List ℕ → Option Found
with_joined is_server f word =
    option_and_then (λ p. with_option f p.0 p.1) (joined_option is_server word)

abbrev pub with_apart : Bool → Found → List ℕ → List ℕ → Option Found
with_apart is_server f word text =
    option_and_then (λ o. with_option f o text) (option_named is_server word)

-- what words say behind what was found: options in any order, each once at most, its text behind
-- `=` or in the next word
abbrev pub options_in : Bool → Found → List (List ℕ) → Option Found
options_in is_server f [] = Some f
options_in is_server f (word ∷ []) = with_joined is_server f word
options_in is_server f (word ∷ text ∷ more) =
    elim (with_joined is_server f word) [
      | Some g ↦ options_in is_server g (text ∷ more)
      | None ↦ option_and_then (λ g. options_in is_server g more)
          (with_apart is_server f word text)
    ]
