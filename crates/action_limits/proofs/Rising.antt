-- Maxima after an action that brings columns or rows, from those before it.
use Rattle.std.proofs.Common.{ℕ, true, false, ◌<◌, ◌≤◌, max, ◌≡◌, refl, sym, ◌∙◌, arith, ltb}
use Rattle.std.proofs.lemmas.Bool.{lt-ltb, le-ltb, ltb-true, ltb-false}
use Rattle.doc_model.specs.Counts.{counts}
use Rattle.doc_model.specs.Document.{Document}
use Rattle.action_limits.specs.declared.limits.Counted.{Counted}
use Rattle.action_limits.specs.Left.{TellsMaxima}
use Rattle.action_limits.proofs.MaximaMoves.{IsBelow}

-- numbers on the same side of a bound
pub same_side : (b r n : ℕ) → n ≤ max b r → r ≤ max b n → ltb b r ≡ ltb b n
same_side b r n up low = elim (ltb b r) as (λ c. ltb b r ≡ c → c ≡ ltb b n) [
  | true ↦ λ is. let lt : b < r = ltb-true b r is in sym (lt-ltb b n (grind arith))
  | false ↦ λ is. let ge : r ≤ b = ltb-false b r is in sym (le-ltb b n (grind arith))
] refl

-- what comes tells where no bound was passed before, and nothing was more before than after
pub record TellsMore (e : Counted) (s s' : Document) : Type 0 where
  pub columns : (counts s).columns ≤ 1024 → ltb 1024 e.columns ≡ ltb 1024 (counts s').columns
  pub rows : (counts s).rows ≤ 1000000 → ltb 1000000 e.rows ≡ ltb 1000000 (counts s').rows
  pub row_id : (counts s).row_id ≤ 4294967295 → ltb 4294967295 e.row_id ≡ ltb 4294967295 (counts s').row_id
  pub less : IsBelow s (counts s').columns (counts s').rows (counts s').row_id

-- the same of an action that takes nothing away or nothing was above the bounds before
pub record TellsBrought (e : Counted) (s s' : Document) : Type 0 where
  pub columns : (counts s).columns ≤ 1024 → ltb 1024 e.columns ≡ ltb 1024 (counts s').columns
  pub rows : (counts s).rows ≤ 1000000 → ltb 1000000 e.rows ≡ ltb 1000000 (counts s').rows
  pub row_id : (counts s).row_id ≤ 4294967295 → ltb 4294967295 e.row_id ≡ ltb 4294967295 (counts s').row_id

pub more_told : (s s' : Document) (e : Counted) → TellsBrought e s s' → IsBelow s (counts s').columns (counts s').rows (counts s').row_id → TellsMore e s s'
more_told s s' e told less = record { columns = told.columns; rows = told.rows; row_id = told.row_id; less = less }

pub within_told : (s s' : Document) (e : Counted) → TellsBrought e s s' → IsBelow s 1024 1000000 4294967295 → TellsMaxima e s'
within_told s s' e told below = record { columns = told.columns below.columns; rows = told.rows below.rows; row_id = told.row_id below.row_id }

-- the greater one of what was and what comes
side_of_both : (b before e was most now : ℕ) → ltb b before ≡ ltb b was → was ≤ now → (was ≤ b → ltb b e ≡ ltb b now) → most ≡ max before e → ltb b most ≡ ltb b now
side_of_both b before e was most now told less more is = elim (ltb b was) as (λ c. ltb b was ≡ c → ltb b most ≡ ltb b now) [
  | true ↦ λ past.
      let lt : b < was = ltb-true b was past in
      let first : b < before = ltb-true b before (told ∙ past) in
      lt-ltb b most (grind arith) ∙ sym (lt-ltb b now (omega arith))
  | false ↦ λ within.
      let le : was ≤ b = ltb-false b was within in
      let first : before ≤ b = ltb-false b before (told ∙ within) in
      same_side b most e (grind arith) (grind arith) ∙ more le
] refl

pub most_told : (s s' : Document) (before e most : Counted) → TellsMaxima before s → TellsMore e s s' → most.columns ≡ max before.columns e.columns → most.rows ≡ max before.rows e.rows → most.row_id ≡ max before.row_id e.row_id → TellsMaxima most s'
most_told s s' before e most told more columns rows row_id = record {
  columns = side_of_both 1024 before.columns e.columns (counts s).columns most.columns (counts s').columns told.columns more.less.columns more.columns columns;
  rows = side_of_both 1000000 before.rows e.rows (counts s).rows most.rows (counts s').rows told.rows more.less.rows more.rows rows;
  row_id = side_of_both 4294967295 before.row_id e.row_id (counts s).row_id most.row_id (counts s').row_id told.row_id more.less.row_id more.row_id row_id;
}
