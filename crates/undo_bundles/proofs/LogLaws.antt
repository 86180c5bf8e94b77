-- What a note and a mark change.
use Rattle.std.proofs.Common.{ℕ, zero, suc, ◌+◌, ◌-◌, ◌<◌, ◌≤◌, ◌≡◌, ◌≢◌, Bool, true, false, cond, nat_lt, List, [], ◌∷◌, ◌++◌, length, drop, get_or, set, Option, Some, None, Ok, Err, IsOk, is_some, is_ok, slice_get, refl, sym, ap, ◌∙◌, arith, Bor}
use Rattle.std.proofs.lemmas.Bool.{ltb-true, ltb-false, false≢true}
use Rattle.std.proofs.lemmas.List.{length_push}
use Rattle.std.proofs.lemmas.Option.{slice_get_past, slice_get_read}
use Rattle.std.specs.Option.{option_copied, IfSome}
use Rattle.doc_model.specs.declared.action.Step.{Step}
use Rattle.undo_bundles.specs.declared.log.LogFault.TheVariants.{AlreadyUndone}
use Rattle.undo_bundles.specs.declared.log.NotedBundle.{NotedBundle}
use Rattle.undo_bundles.specs.BundleLog.{Log, IsLog, bundle_at, count, kept_at, marked, noted, undo_of, undo_of_bundle, undone_at, undone_bundle, with_bundle}
use Rattle.undo_bundles.specs.LogLaws.{KeptLaw, IsNoted, NoteLaw, MarkLaw}

-- ---- bundles at their places

within : (bs : List NotedBundle) (i : ℕ) → is_some (slice_get bs i) ≡ true → i < length bs
within [] i h = absurd (false≢true h)
within (b ∷ bs) zero h = omega arith
within (b ∷ bs) (suc i) h = let next = within bs i h in omega (arith, next)

there : (bs : List NotedBundle) (i : ℕ) → i < length bs → is_some (slice_get bs i) ≡ true
there [] i h = absurd (omega (arith, h))
there (b ∷ bs) zero h = refl
there (b ∷ bs) (suc i) h = there bs i (omega (arith, h))

placed : (bs : List NotedBundle) (k : ℕ) → is_some (bundle_at bs k) ≡ true → (0 < k) × (k ≤ length bs)
placed bs zero h = absurd (false≢true h)
placed bs (suc i) h = let inside = within bs i h in (omega arith, omega (arith, inside))

found : (bs : List NotedBundle) (k : ℕ) → 0 < k → k ≤ length bs → is_some (bundle_at bs k) ≡ true
found bs zero some few = absurd (omega (arith, some))
found bs (suc i) some few = there bs i (omega (arith, few))

last_there : (bs : List NotedBundle) (b : NotedBundle) → slice_get (bs ++ b ∷ []) (length bs) ≡ Some b
last_there [] b = refl
last_there (x ∷ bs) b = last_there bs b

before_last : (bs : List NotedBundle) (b : NotedBundle) (i : ℕ) → i < length bs → slice_get (bs ++ b ∷ []) i ≡ slice_get bs i
before_last [] b i h = absurd (omega (arith, h))
before_last (x ∷ bs) b zero h = refl
before_last (x ∷ bs) b (suc i) h = before_last bs b i (omega (arith, h))

placed_before : (bs : List NotedBundle) (b : NotedBundle) (k : ℕ) → k ≤ length bs → bundle_at (bs ++ b ∷ []) k ≡ bundle_at bs k
placed_before bs b zero h = refl
placed_before bs b (suc i) h = before_last bs b i (omega (arith, h))

-- ---- which bundles are found

above : (d n l : ℕ) → (0 < d → 100 ≤ l) → 0 < n → d + l < n + 100 → d < n
above zero n l full some few = some
above (suc d) n l full some few = let many = full (omega arith) in omega (arith, many, few)

pub kept_law : KeptLaw
kept_law log number is = (
  λ h. let at = placed log.kept (number - log.dropped) h in (omega (arith, at.0), omega (arith, at.0, at.1), omega (arith, at.0, at.1, is.0)),
  λ h. let over = above log.dropped number (length log.kept) is.1 h.0 h.2 in found log.kept (number - log.dropped) (omega (arith, over)) (omega (arith, over, h.1)),
)

-- ---- a note

added : (d : ℕ) (ks : List NotedBundle) (inverse : List Step) → length ks < 100 → IsLog (record { dropped = d; kept = ks })
    → IsNoted inverse (record { dropped = d; kept = ks }) (with_bundle (record { inverse = inverse; undone = false }) (record { dropped = d; kept = ks }))
added d ks inverse few is =
    let b : NotedBundle = record { inverse = inverse; undone = false } in
    let grown : length (ks ++ b ∷ []) ≡ length ks + 1 = length_push ks b in
    let own_at : d + length ks + 1 - d ≡ suc (length ks) = omega arith in
    record {
      whole = (omega (arith, grown, few), λ some. absurd (let many = is.1 some in omega (arith, many, few)));
      counted = omega (arith, grown);
      own = ap (λ k. undo_of_bundle (bundle_at (ks ++ b ∷ []) k)) own_at ∙ ap undo_of_bundle (last_there ks b);
      before = λ number old last. ap undo_of_bundle (placed_before ks b (number - d) (omega (arith, old)));
      gone = λ number old. let out : number - d ≡ 0 = omega (arith, old, few) in ap (λ k. undo_of_bundle (bundle_at (ks ++ b ∷ []) k)) out;
    }

moved : (d : ℕ) (x : NotedBundle) (xs : List NotedBundle) (inverse : List Step) → 100 ≤ suc (length xs) → IsLog (record { dropped = d; kept = x ∷ xs })
    → IsNoted inverse (record { dropped = d; kept = x ∷ xs }) (with_bundle (record { inverse = inverse; undone = false }) (record { dropped = d + 1; kept = xs }))
moved d x xs inverse many is =
    let b : NotedBundle = record { inverse = inverse; undone = false } in
    let few : suc (length xs) ≤ 100 = is.0 in
    let grown : length (xs ++ b ∷ []) ≡ length xs + 1 = length_push xs b in
    let own_at : d + suc (length xs) + 1 - (d + 1) ≡ suc (length xs) = omega arith in
    record {
      whole = (omega (arith, grown, few), λ some. omega (arith, grown, many));
      counted = omega (arith, grown);
      own = ap (λ k. undo_of_bundle (bundle_at (xs ++ b ∷ []) k)) own_at ∙ ap undo_of_bundle (last_there xs b);
      before = λ number old last.
          let new_at : number - (d + 1) ≡ suc (number - d - 2) = omega (arith, last, many) in
          let old_at : number - d ≡ suc (suc (number - d - 2)) = omega (arith, last, many) in
          ap (λ k. undo_of_bundle (bundle_at (xs ++ b ∷ []) k)) new_at
          ∙ ap undo_of_bundle (before_last xs b (number - d - 2) (omega (arith, old, last, many)))
          ∙ sym (ap (λ k. undo_of_bundle (bundle_at (x ∷ xs) k)) old_at);
      gone = λ number old. let out : number - (d + 1) ≡ 0 = omega (arith, old, few) in ap (λ k. undo_of_bundle (bundle_at (xs ++ b ∷ []) k)) out;
    }

full : (d : ℕ) (ks : List NotedBundle) (inverse : List Step) → 100 ≤ length ks → IsLog (record { dropped = d; kept = ks })
    → IsNoted inverse (record { dropped = d; kept = ks }) (with_bundle (record { inverse = inverse; undone = false }) (record { dropped = d + 1; kept = drop 1 ks }))
full d [] inverse many is = absurd (omega (arith, many))
full d (x ∷ xs) inverse many is = moved d x xs inverse many is

pub note_law : NoteLaw
note_law log inverse is =
    elim (nat_lt (length log.kept) 100) as (λ c. nat_lt (length log.kept) 100 ≡ c
    → IsNoted inverse log (with_bundle (record { inverse = inverse; undone = false }) (cond c log (record { dropped = log.dropped + 1; kept = drop 1 log.kept })))) [
      | true ↦ λ e. added log.dropped log.kept inverse (ltb-true (length log.kept) 100 e) is
      | false ↦ λ e. full log.dropped log.kept inverse (ltb-false (length log.kept) 100 e) is
    ] refl

-- however many are kept, there is one more, and it is found
counted_after : (d : ℕ) (ks : List NotedBundle) (b : NotedBundle) (few : Bool) → nat_lt (length ks) 100 ≡ few
    → (let log : Log = record { dropped = d; kept = ks } in count (with_bundle b (cond few log (record { dropped = d + 1; kept = drop 1 ks })))) ≡ d + length ks + 1
counted_after d ks b true e = omega (arith, length_push ks b)
counted_after d [] b false e = absurd (omega (arith, ltb-false 0 100 e))
counted_after d (x ∷ xs) b false e = omega (arith, length_push xs b)

pub noted_count : (inverse : List Step) (log : Log) → count (noted inverse log) ≡ count log + 1
noted_count inverse log = counted_after log.dropped log.kept (record { inverse = inverse; undone = false }) (nat_lt (length log.kept) 100) refl

own_after : (d : ℕ) (ks : List NotedBundle) (b : NotedBundle) (few : Bool) → nat_lt (length ks) 100 ≡ few
    → (let log : Log = record { dropped = d; kept = ks } in kept_at (with_bundle b (cond few log (record { dropped = d + 1; kept = drop 1 ks }))) (d + length ks + 1)) ≡ Some b
own_after d ks b true e = let at : d + length ks + 1 - d ≡ suc (length ks) = omega arith in ap (bundle_at (ks ++ b ∷ [])) at ∙ last_there ks b
own_after d [] b false e = absurd (omega (arith, ltb-false 0 100 e))
own_after d (x ∷ xs) b false e = let at : d + suc (length xs) + 1 - (d + 1) ≡ suc (length xs) = omega arith in ap (bundle_at (xs ++ b ∷ [])) at ∙ last_there xs b

pub noted_own : (inverse : List Step) (log : Log) → undo_of (noted inverse log) (count log + 1) ≡ Ok inverse
noted_own inverse log =
    ap undo_of_bundle (own_after log.dropped log.kept (record { inverse = inverse; undone = false }) (nat_lt (length log.kept) 100) refl)

-- ---- a mark

same_length : (i : ℕ) (bs : List NotedBundle) → length (undone_at i bs) ≡ length bs
same_length i [] = refl
same_length zero (b ∷ bs) = refl
same_length (suc i) (b ∷ bs) = ap (λ n. suc n) (same_length i bs)

own_undone : (i : ℕ) (bs : List NotedBundle) → i < length bs → undo_of_bundle (slice_get (undone_at i bs) i) ≡ Err AlreadyUndone
own_undone i [] h = absurd (omega (arith, h))
own_undone zero (b ∷ bs) h = refl
own_undone (suc i) (b ∷ bs) h = own_undone i bs (omega (arith, h))

others_same : (i j : ℕ) (bs : List NotedBundle) → j ≢ i → slice_get (undone_at i bs) j ≡ slice_get bs j
others_same i j [] apart = refl
others_same zero zero (b ∷ bs) apart = absurd (apart refl)
others_same zero (suc j) (b ∷ bs) apart = refl
others_same (suc i) zero (b ∷ bs) apart = refl
others_same (suc i) (suc j) (b ∷ bs) apart = others_same i j bs (λ e. apart (ap (λ n. suc n) e))

others_placed : (i k : ℕ) (bs : List NotedBundle) → k ≢ suc i → bundle_at (undone_at i bs) k ≡ bundle_at bs k
others_placed i zero bs apart = refl
others_placed i (suc j) bs apart = others_same i j bs (λ e. apart (ap (λ n. suc n) e))

-- what can be undone is there
pub there_from_ok : (o : Option NotedBundle) → is_ok (undo_of_bundle o) ≡ true → is_some o ≡ true
there_from_ok None h = absurd (false≢true h)
there_from_ok (Some b) h = refl

pub place_of : (log : Log) (number : ℕ) → IsOk (undo_of log number) → (log.dropped < number) × (number - log.dropped - 1 < length log.kept)
place_of log number h =
    let at = placed log.kept (number - log.dropped) (there_from_ok (kept_at log number) h) in
    (omega (arith, at.0), omega (arith, at.0, at.1))

pub marked_count : (number : ℕ) (log : Log) → count (marked number log) ≡ count log
marked_count number log = ap (λ n. log.dropped + n) (same_length (number - log.dropped - 1) log.kept)

pub mark_law : MarkLaw
mark_law log number is ok =
    let at = place_of log number ok in
    let own_at : number - log.dropped ≡ suc (number - log.dropped - 1) = omega (arith, at.0) in
    let same = same_length (number - log.dropped - 1) log.kept in
    record {
      whole = (omega (arith, same, is.0), λ some. let many = is.1 some in omega (arith, same, many));
      counted = omega (arith, same);
      own = ap (λ k. undo_of_bundle (bundle_at (undone_at (number - log.dropped - 1) log.kept) k)) own_at
          ∙ own_undone (number - log.dropped - 1) log.kept at.1;
      others = λ other apart. ap undo_of_bundle (others_placed (number - log.dropped - 1) (other - log.dropped) log.kept (λ e. apart (omega (arith, e, at.0))));
    }

-- ---- the same by a list's own functions

pub undone_as_set : (i : ℕ) (bs : List NotedBundle) → i < length bs → undone_at i bs ≡ set bs i undone_bundle
undone_as_set i [] h = absurd (omega (arith, h))
undone_as_set zero (x ∷ bs) h = refl
undone_as_set (suc i) (x ∷ bs) h = ap (λ l. x ∷ l) (undone_as_set i bs (omega (arith, h)))

-- the bundle that a vector tells at an index
pub copied_at : (bs : List NotedBundle) (i : ℕ) (o : Option (Bor NotedBundle)) → is_some o ≡ nat_lt i (length bs) → IfSome o (λ x. x.now ≡ get_or bs i x.now) → option_copied o ≡ slice_get bs i
copied_at bs i None inside same = sym (slice_get_past bs i (ltb-false i (length bs) (sym inside)))
copied_at bs i (Some x) inside same = sym (slice_get_read bs (length bs) i x.now refl (ltb-true i (length bs) (sym inside)) same)
