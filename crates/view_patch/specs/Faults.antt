-- What a fault of a patch tells.
use Rattle.std.specs.Prelude.{ℕ, Bool, false, Option, Some, ◌≡◌, ⊤}
use Rattle.view_patch.specs.declared.patching.PatchFault.{PatchFault}
use Rattle.view_patch.specs.declared.patching.PatchFault.TheVariants.{NoMemory, Unfit}

-- the index of the first action that does not fit; out of memory tells nothing
abbrev pub tells : PatchFault → Option ℕ → Type 0
tells (Unfit index) unfit = unfit ≡ Some index
tells NoMemory unfit = ⊤

-- this index, where the action does not fit
abbrev pub tells_here : PatchFault → Bool → ℕ → Type 0
tells_here (Unfit index) fit here = (fit ≡ false) × (index ≡ here)
tells_here NoMemory fit here = ⊤
