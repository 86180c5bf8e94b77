-- Lines of users, one after the other.
use Rattle.std.proofs.Common.{◌≡◌, ◌∙◌, ℕ, suc, ◌+◌, ◌<◌, ◌≤◌, false, List, ◌∷◌, ◌++◌, length, drop, get_or, Some, None, refl, sym, ap, append_assoc, append-nil, add-one, drop-cons}
use Rattle.std.proofs.lemmas.List.{drop_all}
use Rattle.serde_json.specs.Written.{has_float}
use Rattle.doc_model.specs.declared.user.User.{User}
use Rattle.doc_model.specs.Document.{Document}
use Rattle.rule_audit.specs.declared.faults.Audit.{Audit}
use Rattle.rule_audit.specs.declared.faults.Audit.TheVariants as fault
use Rattle.audit_run.specs.AuditLines.{audit_data, line_for, lines_for}

-- no line has a float
pub no_float : (token : List ℕ) (a : Audit) → has_float (audit_data token a) ≡ false
no_float token fault.Closed = refl
no_float token (fault.Leak table None p rule) = refl
no_float token (fault.Leak table (Some column) p rule) = refl
no_float token (fault.HiddenFormula table column) = refl

-- one line more
pub one_more : (s : Document) (us : List User) (i : ℕ) (u : User) (done now total : List ℕ) → i < length us → u ≡ get_or us i u → done ++ lines_for s (drop i us) ≡ total → now ≡ done ++ line_for s u
    → now ++ lines_for s (drop (i + 1) us) ≡ total
one_more s us i u done now total lt is so_far line =
    let split : drop i us ≡ u ∷ drop (i + 1) us = rw (add-one i) (drop-cons us i u lt ∙ ap (λ y. y ∷ drop (suc i) us) (sym is)) in
    ap (λ l. l ++ lines_for s (drop (i + 1) us)) line
    ∙ append_assoc done (line_for s u) (lines_for s (drop (i + 1) us))
    ∙ ap (λ vs. done ++ lines_for s vs) (sym split)
    ∙ so_far

-- and none
pub all_told : (s : Document) (us : List User) (i : ℕ) (done total : List ℕ) → length us ≤ i → done ++ lines_for s (drop i us) ≡ total → done ≡ total
all_told s us i done total all so_far = sym (append-nil done) ∙ ap (λ vs. done ++ lines_for s vs) (sym (drop_all i us all)) ∙ so_far
