-- A list put under a key of an index.
use Rattle.std.proofs.Common.{ℕ, Bool, true, false, cond, List, ◌≡◌, Some, sym, subst, Vec, Global}
use Rattle.std.specs.Map.{lookup}
use Rattle.doc_model.specs.Rows.{IsAscending}
use Rattle.lookup_index.specs.Under.{listed, AllAscend}

-- where an ascending list is put under a key, all still ascend
pub ascends : {K : Type 0} (eq : K → K → Bool) (old new : List (K × Vec ℕ Global)) (key : K) (w : Vec ℕ Global)
    → ((q : K) → lookup (eq q) new ≡ cond (eq key q) (Some w) (lookup (eq q) old)) → IsAscending w.items → AllAscend eq old → AllAscend eq new
ascends eq old new key w h a before q =
    subst (λ o. IsAscending (listed o)) (sym (h q)) (elim (eq key q) as (λ b. IsAscending (listed (cond b (Some w) (lookup (eq q) old)))) [ true ↦ a | false ↦ before q ])
