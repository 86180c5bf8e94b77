-- The judgement of one action in two documents.
use Rattle.std.proofs.Common.{◌≡◌, ap, refl, true, false, List, [], ◌∷◌, ◌++◌, Option, Some, None}
use Rattle.std.proofs.lemmas.Bool.{true≢false}
use Rattle.doc_model.specs.declared.action.Step.{Step}
use Rattle.doc_model.specs.declared.limit.LimitKind.{LimitKind}
use Rattle.doc_model.specs.declared.refusal.Refusal.{Refusal}
use Rattle.doc_model.specs.declared.user.User.{User}
use Rattle.doc_model.specs.declared.user_action.UserAction.{UserAction}
use Rattle.doc_model.specs.Counts.{over}
use Rattle.doc_model.specs.Document.{Document}
use Rattle.doc_model.specs.WellFormed.{is_well_formed}
use Rattle.user_actions.specs.Kinds.{is_about_rows}
use Rattle.user_actions.specs.Steps.{steps_of}
use Rattle.user_objections.specs.Objections.{objection_to}
use Rattle.action_limits.specs.Tallies.{after}
use Rattle.rule_contexts.specs.Context.{context, view}
use Rattle.bundle_judge.specs.declared.bare_verdict.BareVerdict.{BareVerdict}
use Rattle.bundle_judge.specs.declared.bare_verdict.BareVerdict.TheVariants.{Refused}
use Rattle.bundle_judge.specs.declared.created.Created.{Created}
use Rattle.bundle_judge.specs.Denials.{denial_of, or_else}
use Rattle.bundle_judge.specs.Judgement.{Judgement, accepted, created_at, opposed, opposed_at, refused}
use Rattle.audited_records.specs.RecordsLaws.{RecordsLaw}
use Rattle.audited_records.specs.SeeAlike.{SeeAlike}
use Rattle.audited_verdicts.specs.AuditLaw.{AreAlike, AuditLaw, NoLimit}
use Rattle.audited_verdicts.specs.SchemaActionsLaw.{SchemaActionsLaw}

-- refused where something stands against it, and accepted else
abbrev judged : Judgement → Option BareVerdict → Judgement
judged done o = elim o [ Some v ↦ refused v | None ↦ done ]

-- ---- two judgements

module _ (u w : Document) (us ws : List Step) (ms ns : List Created) where
  -- what is denied alike
  denied_alike : (d e : Option BareVerdict) → d ≡ e → AreAlike (judged (accepted u us ms) d) (judged (accepted w ws ns) e)
  denied_alike None None h = tt
  denied_alike None (Some v) h = absurd (cc)
  denied_alike (Some v) None h = absurd (cc)
  denied_alike (Some v) (Some y) h = let same : v ≡ y = cc in same

  -- what is opposed alike, or passes no limit and is denied alike
  alike : (o p : Option Refusal) (k l : Option LimitKind) (d e : Option BareVerdict) → o ≡ p → (opposed 0 o k ≡ None → opposed 0 p l ≡ None → d ≡ e)
      → NoLimit (judged (accepted u us ms) (or_else (opposed 0 o k) d)) → NoLimit (judged (accepted w ws ns) (or_else (opposed 0 p l) e))
      → AreAlike (judged (accepted u us ms) (or_else (opposed 0 o k) d)) (judged (accepted w ws ns) (or_else (opposed 0 p l) e))
  alike (Some r) (Some q) k l d e is same h j = let one : r ≡ q = cc in ap (λ z. Refused z (Some 0)) one
  alike (Some r) None k l d e is same h j = absurd (cc)
  alike None (Some q) k l d e is same h j = absurd (cc)
  alike None None (Some kind) l d e is same h j = absurd (true≢false h)
  alike None None None (Some kind) d e is same h j = absurd (true≢false j)
  alike None None None None d e is same h j = denied_alike d e (same refl refl)

-- ---- of one action

module _ (records : RecordsLaw) (schema : SchemaActionsLaw) (user : User) (s t : Document) (a : UserAction) (like : SeeAlike user s t) (good : is_well_formed a ≡ true) where
  abbrev denied_s : Option BareVerdict
  denied_s = denial_of (context user s) s 0 (steps_of s a)

  abbrev denied_t : Option BareVerdict
  denied_t = denial_of (context user t) t 0 (steps_of t a)

  by_kind : opposed_at (context user s) s 0 a ≡ None → opposed_at (context user t) t 0 a ≡ None → denied_s ≡ denied_t
  by_kind h k =
      elim (is_about_rows a) as (λ b. is_about_rows a ≡ b → denied_s ≡ denied_t) [
        | true ↦ λ is. records user s t a like is good h k
        | false ↦ λ isnt. schema user s t a like isnt h k
      ] refl

pub verdicts_alike : RecordsLaw → SchemaActionsLaw → AuditLaw
verdicts_alike records schema user s t a like good h j =
    alike (after s a) (after t a) (steps_of s a ++ []) (steps_of t a ++ []) (created_at s a ∷ []) (created_at t a ∷ [])
    (objection_to (view user s) a) (objection_to (view user t) a) (over (after s a)) (over (after t a))
    (denied_s records schema user s t a like good) (denied_t records schema user s t a like good)
    (ap (λ v. objection_to v a) like.views) (by_kind records schema user s t a like good) h j
