-- A closed user's verdicts tell no more than the view.
use Rattle.std.specs.Prelude.{⊤, Bool, true, false, [], ◌∷◌, ◌≡◌}
use Rattle.doc_model.specs.declared.user.User.{User}
use Rattle.doc_model.specs.declared.user_action.UserAction.{UserAction}
use Rattle.doc_model.specs.Document.{Document}
use Rattle.doc_model.specs.WellFormed.{is_well_formed}
use Rattle.bundle_judge.specs.declared.bare_verdict.BareVerdict.{BareVerdict}
use Rattle.bundle_judge.specs.declared.bare_verdict.BareVerdict.TheVariants.{Limited}
use Rattle.bundle_judge.specs.Judgement.{Judgement, accepted, judge, refused}
use Rattle.audited_records.specs.SeeAlike.{SeeAlike}

-- whether a limit is what refuses
abbrev pub is_limit : BareVerdict → Bool
is_limit (Limited what bound action) = true
is_limit v = false

-- no limit refuses
abbrev pub NoLimit : Judgement → Type 0
NoLimit (accepted s steps created) = ⊤
NoLimit (refused v) = is_limit v ≡ false

-- both accept, whatever they make of their documents, or both refuse with one verdict
abbrev pub AreAlike : Judgement → Judgement → Type 0
AreAlike (accepted s steps created) (accepted t others made) = ⊤
AreAlike (refused v) (refused w) = v ≡ w
AreAlike j k = ⊥

-- a bundle of one action is judged alike wherever the user sees the same
abbrev pub AuditLaw : Type 0
AuditLaw =
    (user : User) (s t : Document) (a : UserAction) → SeeAlike user s t
    → is_well_formed a ≡ true
    → NoLimit (judge user s (a ∷ [])) → NoLimit (judge user t (a ∷ []))
    → AreAlike (judge user s (a ∷ [])) (judge user t (a ∷ []))
