-- What the last bundle changed.
use Rattle.std.proofs.Common.{◌≡◌, ◌+◌, ◌<◌, ◌&&◌, ℕ, Bool, true, false, List, [], ◌∷◌, ◌++◌, length, map, get_or, Option, Some, None, IfOk, IfSome, IsSome, Result, Ok, Err, MatchResult, refl, sym, ap, subst, ◌∙◌, arith, suc, zero, if◌then◌else◌}
use Rattle.std.proofs.lemmas.Bool.{and_parts, false≢true}
use Rattle.std.proofs.lemmas.List.{length-append}
use Rattle.std.specs.List.{list_all}
use Rattle.std.specs.Global.{Vec}
use Rattle.cell_types.specs.declared.cell.CellOld.{CellOld}
use Rattle.doc_model.specs.declared.entry.Entry.{Entry}
use Rattle.doc_model.specs.declared.user.User.{User}
use Rattle.doc_model.specs.Document.{Document}
use Rattle.doc_model.specs.declared.action.DocAction.{DocAction}
use Rattle.action_censor.specs.Step.{are_records, is_of_records}
use Rattle.bundle_traces.specs.TraceLaws.{steps_done}
use Rattle.user_actions.specs.StepLaws.{action_of}
use Rattle.bundle_judge.specs.Losses.{all_lost}
use Rattle.bundle_records.specs.Ledger.{Ledger}
use Rattle.bundle_core.specs.Followed.{with_cells}
use Rattle.bundle_core.proofs.FollowedLemmas.{lost_steps}
use Rattle.bundle_core.specs.Core.{state_after}
use Rattle.bundle_core.specs.LastChange.{HasRoomFor, IsChange, IsLast, TellsChange, TellsVerdict}
use Rattle.bundle_core.specs.State.{State, Verdicts, one_if_bundle, verdicts}
use Rattle.bundle_core.specs.declared.dispatch.Turn.{Turn}
use Rattle.bundle_core.specs.declared.last_change.LastChange.{LastChange}

-- ---- turns without a bundle

module _ {X E : Type 0} (make : X → Turn) (none : (v : X) → (make v).change ≡ None) where
  pub quiet_change : (s : Document) (l : Ledger) (r : Result X E) (t : Result Turn E) → MatchResult r (λ v. t ≡ Ok (make v)) (λ fault. t ≡ Err fault) → IfOk t (λ x. TellsChange s s l l x.change)
  quiet_change s l (Ok v) t m =
      let Q : Result Turn E → Type 0 = λ z. IfOk z (λ x. TellsChange s s l l x.change) in
      let C : Option LastChange → Type 0 = λ c. TellsChange s s l l c in
      subst Q (sym m) (subst C (sym (none v)) (refl, refl))
  quiet_change s l (Err fault) t m = let Q : Result Turn E → Type 0 = λ z. IfOk z (λ x. TellsChange s s l l x.change) in subst Q (sym m) tt

-- ---- what is told of an accepted bundle

pub lost_as : {B : Type 0} (told : List B → List (List CellOld)) (old new : List B) (all : List (List CellOld)) (room result : Option (Vec (Vec CellOld))) → IfSome room (λ r. HasRoomFor (length new) r × (new ≡ old))
    → IfSome result (λ ls. IsSome room × (map (λ (l : Vec CellOld). l.items) ls.items ≡ told new)) → told old ≡ all → IfSome result (λ ls. map (λ (l : Vec CellOld). l.items) ls.items ≡ all)
lost_as told old new all room None h f is = tt
lost_as told old new all None (Some ls) h f is = absurd (false≢true f.0)
lost_as told old new all (Some r) (Some ls) h f is = f.1 ∙ ap told h.1 ∙ is

pub lost_at : (ls : List (Vec CellOld)) (i : ℕ) (x : Vec CellOld) (cells : List CellOld) → i < length ls → x ≡ get_or ls i x → cells ≡ x.items → cells ≡ get_or (map (λ (l : Vec CellOld). l.items) ls) i cells
lost_at [] i x cells lt is same = absurd (omega (arith, lt))
lost_at (y ∷ ls) zero x cells lt is same = same ∙ ap (λ (v : Vec CellOld). v.items) is
lost_at (y ∷ ls) (suc i) x cells lt is same = lost_at ls i x cells (omega (arith, lt)) is same

-- the actions of a change, each with what it lost, are its steps
pub change_steps : (s t : Document) (c : LastChange) (ls : Vec (Vec CellOld)) → c.lost ≡ Some ls → IsChange s t c → with_cells (map action_of c.steps) (map (λ (l : Vec CellOld). l.items) ls.items) ≡ steps_done s (map action_of c.steps)
change_steps s t c ls is h =
    let P : Option (Vec (Vec CellOld)) → Type 0 = λ o. IfSome o (λ l. map (λ (x : Vec CellOld). x.items) l.items ≡ all_lost s (map action_of c.steps)) in
    ap (with_cells (map action_of c.steps)) (subst P is h.lost) ∙ lost_steps s (map action_of c.steps)

pub with_records : (actions : List DocAction) (lost : List (List CellOld)) → list_all is_of_records actions ≡ true → are_records (with_cells actions lost) ≡ true
with_records [] lost h = refl
with_records (a ∷ actions) [] h = refl
with_records (a ∷ actions) (cells ∷ lost) h = let both = and_parts (is_of_records a) (list_all is_of_records actions) h in ap (λ b. b && are_records (with_cells actions lost)) both.0 ∙ with_records actions lost both.1

-- ---- the last entry

parts_same : {A : Type 0} (xs ys : List A) (x y : A) → xs ++ x ∷ [] ≡ ys ++ y ∷ [] → (xs ≡ ys) × (x ≡ y)
parts_same [] [] x y h = (refl, cc)
parts_same [] (b ∷ ys) x y h = absurd (omega (arith, ap length h, length-append ys (y ∷ [])))
parts_same (a ∷ xs) [] x y h = absurd (omega (arith, ap length h, length-append xs (x ∷ [])))
parts_same (a ∷ xs) (b ∷ ys) x y h = let rest = parts_same xs ys x y cc in (cc, rest.1)

none_of : (n m : ℕ) (b : Bool) → m ≡ n → m ≡ n + (if b then 1 else 0) → b ≡ false
none_of n m false same is = refl
none_of n m true same is = absurd (omega (arith, same, is))

one_of : (n m : ℕ) (b : Bool) → m ≡ n + 1 → m ≡ n + (if b then 1 else 0) → b ≡ true
one_of n m true more is = refl
one_of n m false more is = absurd (omega (arith, more, is))

verdict_told : (s t : Document) (v : Verdicts) (old new : Ledger) (c : Option LastChange) → TellsChange s t old new c → new.count ≡ old.count + one_if_bundle v → TellsVerdict s v t c
verdict_told s t v old new None h count = (none_of old.count new.count v.is_bundle h.1 count, h.0)
verdict_told s t v old new (Some c) h count = (one_of old.count new.count v.is_bundle h.1 count, h.0)

pub no_last : (users : List User) (start t : Document) → IsLast users start [] t None
no_last users start t before e is = absurd (omega (arith, ap length is, length-append before (e ∷ [])))

pub next_last : (users : List User) (start : Document) (es : List Entry) (e : Entry) (s t : Document) (old new : Ledger) (c : Option LastChange) → (state_after users start es).document ≡ s → TellsChange s t old new c
    → new.count ≡ old.count + one_if_bundle (verdicts users (state_after users start es) e) → IsLast users start (es ++ e ∷ []) t c
next_last users start es e s t old new c at tells count before e' is =
    let same = parts_same es before e e' is in
    let told : TellsVerdict s (verdicts users (state_after users start es) e) t c = verdict_told s t (verdicts users (state_after users start es) e) old new c tells count in
    let D : Document → Type 0 = λ d. TellsVerdict d (verdicts users (state_after users start es) e) t c in
    let E : Entry → Type 0 = λ x. TellsVerdict (state_after users start es).document (verdicts users (state_after users start es) x) t c in
    let B : List Entry → Type 0 = λ bs. TellsVerdict (state_after users start bs).document (verdicts users (state_after users start bs) e') t c in
    subst B same.0 (subst E same.1 (subst D (sym at) told))
