-- What lines say, and one line more.
use Rattle.std.proofs.Common.{◌≡◌, ℕ, suc, ◌+◌, List, [], ◌∷◌, ◌++◌, length, sym, ap, ◌∙◌, arith, add-zero}
use Rattle.doc_model.specs.declared.user.User.{User}
use Rattle.grist_run.specs.UserLines.{Saying, passes, adds, fails, ends, saying, Script, bad_user, script, script_from, script_of}

-- what a script that goes on from a line says, by what the line says
abbrev goes_on : ℕ → List User → List ℕ → List (List ℕ) → Saying → Script
goes_on n users l ls s =
    elim s as (λ _. Script) [
      | passes ↦ script_from (n + 1) users ls
      | adds u ↦ script_from (n + 1) (users ++ u ∷ []) ls
      | fails ↦ bad_user n
      | ends ↦ script users (l ∷ ls)
    ]

bad≢script : {n : ℕ} {users : List User} {ls : List (List ℕ)} → bad_user n ≡ script users ls → ⊥
bad≢script e = cc

script_lines : {us vs : List User} {ls ks : List (List ℕ)} → script us ls ≡ script vs ks → ls ≡ ks
script_lines e = cc

script_users : {us vs : List User} {ls ks : List (List ℕ)} → script us ls ≡ script vs ks → us ≡ vs
script_users e = cc

none≢some : {l : List ℕ} {ls : List (List ℕ)} → l ∷ ls ≡ [] → ⊥
none≢some e = cc

later : (n k : ℕ) (users : List User) (ks : List (List ℕ)) → script_from ((n + 1) + k) users ks ≡ script_from (n + suc k) users ks
later n k users ks = ap (λ m. script_from m users ks) (omega arith)

-- where all lines said users, the next lines go on from there
pub script-users : (n : ℕ) (us users : List User) (ls ks : List (List ℕ)) → script_from n us ls ≡ script users [] → script_from n us (ls ++ ks) ≡ script_from (n + length ls) users ks
script-users n us users [] ks e = ap (λ v. script_from n v ks) (script_users e) ∙ ap (λ m. script_from m users ks) (sym (add-zero n))
script-users n us users (l ∷ ls) ks e =
    elim (saying us l) as (λ s. goes_on n us l ls s ≡ script users [] → goes_on n us l (ls ++ ks) s ≡ script_from (n + suc (length ls)) users ks) [
      | passes ↦ λ h. script-users (n + 1) us users ls ks h ∙ later n (length ls) users ks
      | adds u ↦ λ h. script-users (n + 1) (us ++ u ∷ []) users ls ks h ∙ later n (length ls) users ks
      | fails ↦ λ h. absurd (bad≢script h)
      | ends ↦ λ h. absurd (none≢some (script_lines h))
    ] e

-- behind a line that asks for something, each line does
pub script-asks : (n : ℕ) (us users : List User) (ls ks : List (List ℕ)) (r : List ℕ) (rs : List (List ℕ)) → script_from n us ls ≡ script users (r ∷ rs) → script_from n us (ls ++ ks) ≡ script users ((r ∷ rs) ++ ks)
script-asks n us users [] ks r rs e = absurd (none≢some (sym (script_lines e)))
script-asks n us users (l ∷ ls) ks r rs e =
    elim (saying us l) as (λ s. goes_on n us l ls s ≡ script users (r ∷ rs) → goes_on n us l (ls ++ ks) s ≡ script users ((r ∷ rs) ++ ks)) [
      | passes ↦ λ h. script-asks (n + 1) us users ls ks r rs h
      | adds u ↦ λ h. script-asks (n + 1) (us ++ u ∷ []) users ls ks r rs h
      | fails ↦ λ h. absurd (bad≢script h)
      | ends ↦ λ h. ap (λ v. script v (l ∷ ls ++ ks)) (script_users h) ∙ ap (λ v. script users (v ++ ks)) (script_lines h)
    ] e

-- behind a bad user line nothing is heard
pub script-bad : (n k : ℕ) (us : List User) (ls ks : List (List ℕ)) → script_from n us ls ≡ bad_user k → script_from n us (ls ++ ks) ≡ bad_user k
script-bad n k us [] ks e = absurd (bad≢script (sym e))
script-bad n k us (l ∷ ls) ks e =
    elim (saying us l) as (λ s. goes_on n us l ls s ≡ bad_user k → goes_on n us l (ls ++ ks) s ≡ bad_user k) [
      | passes ↦ λ h. script-bad (n + 1) k us ls ks h
      | adds u ↦ λ h. script-bad (n + 1) k (us ++ u ∷ []) ls ks h
      | fails ↦ λ h. h
      | ends ↦ λ h. absurd (bad≢script (sym h))
    ] e

-- the same, where the last of them is known
pub script-asks_more : (us : List User) (ls ks rs : List (List ℕ)) (t : List ℕ) → script_of ls ≡ script us (rs ++ t ∷ []) → script_of (ls ++ ks) ≡ script us ((rs ++ t ∷ []) ++ ks)
script-asks_more us ls ks [] t e = script-asks 1 [] us ls ks t [] e
script-asks_more us ls ks (r ∷ rs) t e = script-asks 1 [] us ls ks r (rs ++ t ∷ []) e

module _ (users : List User) (lines : List (List ℕ)) (text : List ℕ) (said : script_of lines ≡ script users []) where
  one_more : script_of (lines ++ text ∷ []) ≡ goes_on (1 + length lines) users text [] (saying users text)
  one_more = script-users 1 [] users lines (text ∷ []) said

  pub said_nothing : saying users text ≡ passes → script_of (lines ++ text ∷ []) ≡ script users []
  said_nothing s = one_more ∙ ap (goes_on (1 + length lines) users text []) s

  pub said_user : (u : User) → saying users text ≡ adds u → script_of (lines ++ text ∷ []) ≡ script (users ++ u ∷ []) []
  said_user u s = one_more ∙ ap (goes_on (1 + length lines) users text []) s

  pub said_bad : saying users text ≡ fails → script_of (lines ++ text ∷ []) ≡ bad_user (1 + length lines)
  said_bad s = one_more ∙ ap (goes_on (1 + length lines) users text []) s

  pub said_request : saying users text ≡ ends → script_of (lines ++ text ∷ []) ≡ script users (text ∷ [])
  said_request s = one_more ∙ ap (goes_on (1 + length lines) users text []) s
