-- Where nothing outside fails, the end has no outer cause.
use Rattle.std.proofs.Common.{◌≡◌, ℕ, ◌<◌, List, length, Option, Some, None, refl, arith, ap, length-append}
use Rattle.std.specs.Io.KnownBytes.{Consumes}
use Rattle.grist_serve.specs.Link.{EndsBy, HasFewBytes, IsInner}
use Rattle.grist_serve.specs.Turns.{CorePass}
use Rattle.io_edges.specs.declared.session_end.SessionEnd.{SessionEnd}
use Rattle.io_edges.specs.declared.session_end.SessionEnd.TheVariants.{Closed, ReadFault, WriteFault, TurnsSpent, Full, NoMemory}

-- no more bytes came than were left
pub few_came : (l l' : Option (List ℕ)) (came : List ℕ) → Consumes l l' came → HasFewBytes l → length came < 4294967296
few_came None l' came c few = absurd few
few_came (Some bytes) None came c few = absurd c
few_came (Some bytes) (Some rest) came c few = omega (arith, few, ap length c, length-append came rest)

module _ (name : List ℕ) (l l' : Option (List ℕ)) (old new : CorePass) (w w' : Option (List ℕ)) {A B : Type 0} (a : A → ⊥) (b : B → ⊥) (few : HasFewBytes l) where
  not_spent : EndsBy TurnsSpent name l l' old new w w' → ⊥
  not_spent s = let n = few_came l l' s.came.came s.came.consumed few in omega (arith, n, s.came.few)

  pub inner : (end : SessionEnd) → EndsBy end name l l' old new w w' → (end ≡ ReadFault → A) → (end ≡ WriteFault → B) → IsInner end
  inner Closed s ra wb = tt
  inner Full s ra wb = tt
  inner NoMemory s ra wb = tt
  inner ReadFault s ra wb = absurd (a (ra refl))
  inner WriteFault s ra wb = absurd (b (wb refl))
  inner TurnsSpent s ra wb = absurd (not_spent s)
