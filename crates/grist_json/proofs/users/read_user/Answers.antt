use Rattle.std.proofs.Common.{◌≡◌, ℕ, List, Result, Ok, Err, IfOk, sym, subst}
use Rattle.grist_json.specs.declared.users.UserLine.{UserLine}
use Rattle.grist_json.specs.Users.{user_at, Tells}
use Rattle.grist_json.proofs.UserLemmas.{tells_at}
use Rattle.grist_json.proofs.users.read_user.Goals as goal

told : {E : Type 0} (r : Result UserLine E) (bytes : List ℕ) → IfOk r (λ l. l ≡ user_at bytes) → IfOk r (λ l. Tells l bytes)
told (Ok l) bytes e = subst (λ x. Tells x bytes) (sym e) (tells_at bytes)
told (Err x) bytes e = tt

pub returns-clause-tells : goal.returns-clause-tells
returns-clause-tells c = told c.user_in.result c.args.line.now c.user_in.ensures
