-- What an input says in which users alone may stand.
use Rattle.std.specs.Prelude.{ℕ, ◌-◌, ◌≡◌, List, [], ◌∷◌, length, Option, Result, Ok, Err}
use Rattle.doc_model.specs.declared.user.User.{User}
use Rattle.grist_run.specs.declared.status.Status.{Status}
use Rattle.grist_run.specs.declared.status.Status.TheVariants.{BadUsers}
use Rattle.grist_run.specs.Hearing.{EndsHearing}
use Rattle.io_edges.specs.Came.{CameAll, CameFirst}
use Rattle.grist_run.specs.UserLines.{Script, bad_user, script, script_of}

-- the number of the first line that is no user line or a bad one, or the users
pub data Said : Type 0 where
  bad_line : ℕ → Said
  says : List User → Said

-- what so many lines say: behind the users there may be none
abbrev pub said_alone : ℕ → Script → Said
said_alone count (bad_user n) = bad_line n
said_alone count (script users []) = says users
said_alone count (script users (l ∷ ls)) = bad_line (count - length ls)

abbrev pub users_alone : List (List ℕ) → Said
users_alone lines = said_alone (length lines) (script_of lines)

-- the whole input was read, and it says these users
pub record SaysUsers (left_old left_new : Option (List ℕ)) (users : List User) : Type 0 where
  pub lines : List (List ℕ)
  pub came : CameAll left_old left_new lines
  pub said : users_alone lines ≡ says users

-- the last line that came is the first that is no user line or a bad one, and has this number
pub record RefusesLine (left_old left_new : Option (List ℕ)) (number : ℕ) : Type 0 where
  pub lines : List (List ℕ)
  pub came : CameFirst left_old left_new lines
  pub bad : users_alone lines ≡ bad_line number

-- why the users were not heard to the end of the input
abbrev pub StopsAlone : Status → Option (List ℕ) → Option (List ℕ) → Type 0
StopsAlone (BadUsers number) l l' = RefusesLine l l' number
StopsAlone status l l' = EndsHearing status l l'

abbrev pub HearsAlone : Result (List User) Status → Option (List ℕ) → Option (List ℕ) → Type 0
HearsAlone (Ok users) l l' = SaysUsers l l' users
HearsAlone (Err status) l l' = StopsAlone status l l'
