-- What is made at a stage.
use Rattle.std.proofs.Common.{◌≡◌, ℕ, ◌≤◌, ◌∷◌, [], Bool, true, false, sym, ap, ◌∙◌, subst, Option, Some, MatchOption}
use Rattle.std.proofs.lemmas.Bool.{false≢true}
use Rattle.doc_model.specs.declared.entry.Entry.{Entry}
use Rattle.doc_model.specs.declared.request.Request.{Request}
use Rattle.doc_model.specs.declared.request.Request.TheVariants.{Gone}
use Rattle.doc_model.specs.WellFormed.{asks_well_formed}
use Rattle.run_generator.specs.Left.{left_from}
use Rattle.run_generator.specs.Made.{IsMade}
use Rattle.run_generator.specs.Stages.{IsAtStage}
use Rattle.run_generator.specs.declared.generator.Made.{Made}
use Rattle.run_generator.specs.declared.stage.Stage.{Stage}

abbrev pub stays : Request → Bool
stays Gone = false
stays _ = true

pub stays_there : (r : Request) → stays r ≡ true → r ≡ Gone → ⊥
stays_there r good is = false≢true (sym (ap stays is) ∙ good)

module _ (rows : ℕ) (stage at : Stage) (here : stage ≡ at) (o : Option Made) where
  -- it was made, whichever stage that was
  pub made_there : (m : Made) → o ≡ Some m → IsMade rows at m → MatchOption o (left_from rows stage ≡ []) (IsMade rows stage)
  made_there m is made =
      subst (λ o. MatchOption o (left_from rows stage ≡ []) (IsMade rows stage)) (sym is)
      (subst (λ s. IsMade rows s m) (sym here) made)

  -- the entry is the first that is left there
  pub made_entry : (entry wanted : Entry) (x : ℕ) (next : Stage) → o ≡ Some (record { entry = entry; number = x; next = next }) → entry ≡ wanted → left_from rows at ≡ wanted ∷ left_from rows next → x ≤ 2147483648 → IsAtStage rows x next → asks_well_formed wanted.request ≡ true → wanted.kept ≡ true → stays wanted.request ≡ true → MatchOption o (left_from rows stage ≡ []) (IsMade rows stage)
  made_entry entry wanted x next is same left few there well kept here_still =
      made_there (record { entry = entry; number = x; next = next }) is
      (subst (λ e. IsMade rows at (record { entry = e; number = x; next = next })) (sym same)
      (record { left = left; number = few; next = there; well_formed = well; kept = kept; stays = stays_there wanted.request here_still }))
