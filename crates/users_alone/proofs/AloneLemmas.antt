-- What was heard where users alone may stand.
use Rattle.std.proofs.Common.{◌≡◌, ℕ, ◌-◌, List, [], ◌∷◌, length, Option, ap, sym, ◌∙◌, arith}
use Rattle.doc_model.specs.declared.user.User.{User}
use Rattle.grist_run.specs.declared.status.Status.{Status}
use Rattle.grist_run.specs.declared.status.Status.TheVariants.{Done, Usage, BadUsers, ReadFault, WriteFault, StoreFault, NoMemory, BadStore, TurnsSpent, PortFault, HistoryFull}
use Rattle.grist_run.specs.Hearing.{EndsHearing, EndsUsers, IsAtEndOf}
use Rattle.users_alone.specs.UsersAlone.{RefusesLine, SaysUsers, StopsAlone, bad_line, said_alone}

module _ (l l' : Option (List ℕ)) where
  -- the users ended with the input
  pub heard_alone : (users : List User) → IsAtEndOf l l' users [] → SaysUsers l l' users
  heard_alone users a = record { lines = a.lines; came = a.came; said = ap (said_alone (length a.lines)) a.said }

  -- they ended at a line
  pub heard_more : (users : List User) (number : ℕ) → EndsUsers l l' users number → RefusesLine l l' number
  heard_more users number e =
      let place : length e.lines - 0 ≡ number = omega (arith, e.count) in
      record { lines = e.lines; came = e.came; bad = ap (said_alone (length e.lines)) e.said ∙ ap bad_line place }

  -- they were not heard to their end
  pub heard_short : (status : Status) → EndsHearing status l l' → StopsAlone status l l'
  heard_short (BadUsers number) e = record { lines = e.1.lines; came = e.1.came; bad = ap (said_alone (length e.1.lines)) e.1.bad }
  heard_short Done e = e
  heard_short Usage e = e
  heard_short ReadFault e = e
  heard_short WriteFault e = e
  heard_short StoreFault e = e
  heard_short NoMemory e = e
  heard_short (BadStore number) e = e
  heard_short TurnsSpent e = e
  heard_short PortFault e = e
  heard_short HistoryFull e = e
