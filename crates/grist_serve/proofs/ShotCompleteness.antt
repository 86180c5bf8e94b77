-- Where nothing outside fails, the end of a link that may peek has no outer cause.
use Rattle.std.proofs.Common.{◌≡◌, ℕ, List, Option, refl, arith}
use Rattle.io_edges.specs.declared.session_end.SessionEnd.{SessionEnd}
use Rattle.io_edges.specs.declared.session_end.SessionEnd.TheVariants.{Closed, ReadFault, WriteFault, TurnsSpent, Full, NoMemory}
use Rattle.grist_serve.specs.Link.{HasFewBytes, IsInner}
use Rattle.grist_serve.specs.ShotLink.{EndsBy}
use Rattle.grist_serve.specs.Standing.{Standing}
use Rattle.grist_serve.proofs.Completeness.{few_came}

module _ (name : List ℕ) (l l' : Option (List ℕ)) (old new : Standing) (w w' : Option (List ℕ)) {A B : Type 0} (a : A → ⊥) (b : B → ⊥) (few : HasFewBytes l) where
  not_spent : EndsBy TurnsSpent name l l' old new w w' → ⊥
  not_spent s = let n = few_came l l' s.came.came s.came.consumed few in omega (arith, n, s.came.few)

  pub inner : (end : SessionEnd) → EndsBy end name l l' old new w w' → (end ≡ ReadFault → A) → (end ≡ WriteFault → B) → IsInner end
  inner Closed s ra wb = tt
  inner Full s ra wb = tt
  inner NoMemory s ra wb = tt
  inner ReadFault s ra wb = absurd (a (ra refl))
  inner WriteFault s ra wb = absurd (b (wb refl))
  inner TurnsSpent s ra wb = absurd (not_spent s)
