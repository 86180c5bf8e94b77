-- The users that the lines at the front of an input say.
use Rattle.std.specs.Prelude.{ℕ, ◌+◌, List, [], ◌∷◌, ◌++◌, Bool, ◌||◌, nat_le, length, if◌then◌else◌}
use Rattle.std.specs.List.{list_any}
use Rattle.std.specs.Str.{bytes_eq}
use Rattle.doc_model.specs.declared.user.User.{User}
use Rattle.grist_json.specs.declared.users.UserLine.{UserLine}
use Rattle.grist_json.specs.declared.users.UserLine.TheVariants as line
use Rattle.grist_json.specs.Users.{user_at}
use Rattle.io_edges.specs.Lines.{is_blank, is_long}

-- what a line says behind lines that said these users: nothing, one user more, a bad user, or that
-- the users end
pub data Saying : Type 0 where
  passes : Saying
  adds : User → Saying
  fails : Saying
  ends : Saying

-- a user has this token
abbrev pub has_token : List User → List ℕ → Bool
has_token users token = list_any (λ (u : User). bytes_eq u.token token) users

-- how many users there may be
abbrev pub user_bound : ℕ
user_bound = 4096

-- one user more, unless the token is another's or there are as many users as may be
abbrev pub adds_once : List User → User → Saying
adds_once users u =
    if has_token users u.token || nat_le user_bound (length users) then fails else adds u

abbrev pub heard : List User → UserLine → Saying
heard users (line.User u) = adds_once users u
heard users line.Bad = fails
heard users line.Other = ends

abbrev pub saying : List User → List ℕ → Saying
saying users text =
    if is_long text then ends else if is_blank text then passes else heard users (user_at text)

-- what an input says: the number of its first bad user line, or its users and the lines behind them
pub data Script : Type 0 where
  bad_user : ℕ → Script
  script : List User → List (List ℕ) → Script

-- what lines say from the line of this number on, behind these users
abbrev pub script_from : ℕ → List User → List (List ℕ) → Script
script_from n users [] = script users []
script_from n users (l ∷ ls) =
    elim (saying users l) [
      | passes ↦ script_from (n + 1) users ls
      | adds u ↦ script_from (n + 1) (users ++ u ∷ []) ls
      | fails ↦ bad_user n
      | ends ↦ script users (l ∷ ls)
    ]

-- what the lines of an input say; lines are numbered from 1
abbrev pub script_of : List (List ℕ) → Script
script_of lines = script_from 1 [] lines

-- the lines that ask for something
abbrev pub asking_lines : Script → List (List ℕ)
asking_lines (bad_user n) = []
asking_lines (script users lines) = lines

-- the users that were said
abbrev pub users_said : Script → List User
users_said (bad_user n) = []
users_said (script users lines) = users
