-- Entries that find room, and more of them.
use Rattle.std.proofs.Common.{◌≡◌, List, [], ◌∷◌, ◌++◌, Bool, true, false, refl, sym, ap, ◌∙◌, append_assoc, append-nil, if◌then◌else◌}
use Rattle.doc_model.specs.declared.entry.Entry.{Entry}
use Rattle.bundle_core.specs.Core.{is_full}
use Rattle.grist_run.specs.Admission.{Admission, admitted, takes_all, stops_at}

stops≢takes : {h k : List Entry} → stops_at h ≡ takes_all k → ⊥
stops≢takes e = cc

same_taken : {h k : List Entry} → takes_all h ≡ takes_all k → h ≡ k
same_taken e = cc

same_stopped : {h k : List Entry} → stops_at h ≡ stops_at k → h ≡ k
same_stopped e = cc

pub takes≢stops : {h k : List Entry} → takes_all h ≡ stops_at k → ⊥
takes≢stops e = cc

some≢none : {x : Entry} {es : List Entry} → x ∷ es ≡ [] → ⊥
some≢none e = cc

-- what a history takes of one entry and then the others, by whether it is full
abbrev next : List Entry → Entry → List Entry → Bool → Admission
next h e es full = if full then stops_at h else admitted (h ++ e ∷ []) es

-- more entries come to the history that the first ones led to
pub admitted-append : (h k es fs : List Entry) → admitted h es ≡ takes_all k → admitted h (es ++ fs) ≡ admitted k fs
admitted-append h k [] fs e = ap (λ g. admitted g fs) (same_taken e)
admitted-append h k (x ∷ es) fs e =
    elim (is_full h x.request x.size) as (λ b. next h x es b ≡ takes_all k → next h x (es ++ fs) b ≡ admitted k fs) [
      | true ↦ λ no. absurd (stops≢takes no)
      | false ↦ λ yes. admitted-append (h ++ x ∷ []) k es fs yes
    ] e

-- the history that all entries led to is theirs
pub admitted-all : (h k es : List Entry) → admitted h es ≡ takes_all k → h ++ es ≡ k
admitted-all h k [] e = append-nil h ∙ same_taken e
admitted-all h k (x ∷ es) e =
    elim (is_full h x.request x.size) as (λ b. next h x es b ≡ takes_all k → h ++ x ∷ es ≡ k) [
      | true ↦ λ no. absurd (stops≢takes no)
      | false ↦ λ yes. sym (append_assoc h (x ∷ []) es) ∙ admitted-all (h ++ x ∷ []) k es yes
    ] e

-- a history that is full for an entry has those before it
pub admitted-front : (h k es : List Entry) → admitted h es ≡ stops_at k → (more : List Entry) × (h ++ es ≡ k ++ more)
admitted-front h k [] e = absurd (takes≢stops e)
admitted-front h k (x ∷ es) e =
    elim (is_full h x.request x.size) as (λ b. next h x es b ≡ stops_at k → (more : List Entry) × (h ++ x ∷ es ≡ k ++ more)) [
      | true ↦ λ yes. (x ∷ es, ap (λ g. g ++ x ∷ es) (same_stopped yes))
      | false ↦ λ no.
          let rest = admitted-front (h ++ x ∷ []) k es no in
          (rest.0, sym (append_assoc h (x ∷ []) es) ∙ rest.1)
    ] e

-- behind an entry that a history is full for nothing is looked at
pub admitted-stays : (h k es fs : List Entry) → admitted h es ≡ stops_at k → admitted h (es ++ fs) ≡ stops_at k
admitted-stays h k [] fs e = absurd (takes≢stops e)
admitted-stays h k (x ∷ es) fs e =
    elim (is_full h x.request x.size) as (λ b. next h x es b ≡ stops_at k → next h x (es ++ fs) b ≡ stops_at k) [
      | true ↦ λ yes. yes
      | false ↦ λ no. admitted-stays (h ++ x ∷ []) k es fs no
    ] e

-- no entries have no front but none
pub no_front : (h more : List Entry) → h ++ more ≡ [] → h ≡ []
no_front [] more e = refl
no_front (x ∷ h) more e = absurd (some≢none e)
