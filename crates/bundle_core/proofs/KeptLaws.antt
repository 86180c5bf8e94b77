-- What is told of a core's keeper stays what its history leads to.
use Rattle.std.proofs.Common.{◌≡◌, ℕ, ◌+◌, ◌-◌, ◌^◌, ◌≤◌, Bool, true, false, List, [], ◌∷◌, ◌++◌, length, take, min, Option, Some, None, IfSome, option_map, refl, sym, ap, subst, ◌∙◌, arith, if◌then◌else◌}
use Rattle.std.proofs.lemmas.Bool.{false≢true}
use Rattle.std.proofs.lemmas.List.{append-nil, append_assoc, length-append, take_all, take-append-le}
use Rattle.doc_model.specs.declared.entry.Entry.{Entry}
use Rattle.doc_model.specs.declared.request.Request.TheVariants as request
use Rattle.doc_model.specs.declared.user.User.{User}
use Rattle.doc_model.specs.Document.{Document}
use Rattle.doc_model.specs.NewDocument.{new_document}
use Rattle.doc_opening.specs.Opening.{Opens, opened}
use Rattle.doc_keeper.specs.Keeping.{IsNext}
use Rattle.doc_model.specs.DocumentLaws.{IsWhole}
use Rattle.record_lines.specs.Printed.{record_text}
use Rattle.bundle_records.specs.Ledger.{Ledger, OpensTo}
use Rattle.action_limits.specs.declared.tally.Tally.{Tally}
use Rattle.action_limits.specs.Tallies.{IsTally}
use Rattle.bundle_core.specs.Core.{IsCore, IsStep, entry_of, state_after}
use Rattle.bundle_core.specs.KeptBundles.{bundle_actions, not_kept, record_at, records_of, with_record}
use Rattle.bundle_core.specs.KeptCore.{HasRecords, IsKeeping, IsKeptFrom, IsTaken, Keeps, KeepsOn, KeptCore}
use Rattle.bundle_core.specs.SessionState.{SessionState}
use Rattle.bundle_core.specs.State.{State, Verdicts, one_if_bundle, opening, records_kept, run, step, verdicts}
use Rattle.bundle_core.proofs.CoreLaws.{gone_none}

-- ---- histories with one entry more

pub records_of-append : (users : List User) (st : State) (n : ℕ) (es : List Entry) (e : Entry)
    → records_of users st n (es ++ e ∷ []) ≡ records_of users st n es ++ record_at users (run users st es) (n + length (records_of users st n es)) e
records_of-append users st n [] e =
    let z : n ≡ n + 0 = omega arith in
    append-nil (record_at users st n e) ∙ ap (λ m. record_at users st m e) z
records_of-append users st n (x ∷ es) e =
    let r = record_at users st n x in
    let next = step users st x in
    let later = records_of users next (n + length r) es in
    let z : n + length r + length later ≡ n + length (r ++ later) = omega (arith, length-append r later) in
    ap (λ q. r ++ q) (records_of-append users next (n + length r) es e)
    ∙ sym (append_assoc r later (record_at users (run users next es) (n + length r + length later) e))
    ∙ ap (λ m. (r ++ later) ++ record_at users (run users next es) m e) z

-- whether an entry counts
abbrev missed : Bool → ℕ
missed kept = if kept then 0 else 1

one_more : (a b m : ℕ) → a ≡ b + m → a + 1 ≡ b + 1 + m
one_more a b m e = omega (arith, e)

pub not_kept-append : (es : List Entry) (e : Entry) → not_kept (es ++ e ∷ []) ≡ not_kept es + missed e.kept
not_kept-append [] e = elim e.kept as (λ b. (if b then 0 else 0 + 1) ≡ 0 + missed b) [
  | true ↦ refl
  | false ↦ refl
]
not_kept-append (x ∷ es) e =
    let h = not_kept-append es e in
    elim x.kept as (λ b. (if b then not_kept (es ++ e ∷ []) else not_kept (es ++ e ∷ []) + 1) ≡ (if b then not_kept es else not_kept es + 1) + missed e.kept) [
      | true ↦ h
      | false ↦ one_more (not_kept (es ++ e ∷ [])) (not_kept es) (missed e.kept) h
    ]

pub records_kept-append : (users : List User) (st : State) (es : List Entry) (e : Entry)
    → records_kept users st (es ++ e ∷ []) ≡ records_kept users st es + one_if_bundle (verdicts users (run users st es) e)
records_kept-append users st [] e = elim (verdicts users st e).is_bundle as (λ b. (if b then 0 + 1 else 0) ≡ 0 + (if b then 1 else 0)) [
  | true ↦ refl
  | false ↦ refl
]
records_kept-append users st (x ∷ es) e =
    let next = step users st x in
    let h = records_kept-append users next es e in
    let a = records_kept users next (es ++ e ∷ []) in
    let b = records_kept users next es in
    let m = one_if_bundle (verdicts users (run users next es) e) in
    elim (verdicts users st x).is_bundle as (λ is. (if is then a + 1 else a) ≡ (if is then b + 1 else b) + m) [
      | true ↦ one_more a b m h
      | false ↦ h
    ]

-- what an entry adds to the number of records
pub no_count : (n : ℕ) (v : Verdicts) → v.is_bundle ≡ false → n ≡ n + one_if_bundle v
no_count n v none = let z : n ≡ n + 0 = omega arith in z ∙ ap (λ b. n + (if b then 1 else 0)) (sym none)

pub one_count : (n : ℕ) (v : Verdicts) → v.is_bundle ≡ true → n + 1 ≡ n + one_if_bundle v
one_count n v is = ap (λ b. n + (if b then 1 else 0)) (sym is)

counted_same : (b n m f g : ℕ) → m ≡ n + 0 → min (b + n) (2 ^ 64 - 1) ≤ f → f ≤ g → min (b + m) (2 ^ 64 - 1) ≤ g
counted_same b n m f g e h le = omega (arith, e, h, le)

counted_more : (b n m f g : ℕ) → m ≡ n + 1 → min (b + n) (2 ^ 64 - 1) ≤ f → min (f + 1) (2 ^ 64 - 1) ≤ g → min (b + m) (2 ^ 64 - 1) ≤ g
counted_more b n m f g e h rose = omega (arith, e, h, rose)

-- ---- an entry

pub no_more : (users : List User) (st : State) (e : Entry) (told : Option (List (List ℕ))) → (verdicts users st e).is_bundle ≡ false → told ≡ with_record users st e told
no_more users st e None none = refl
no_more users st e (Some rs) none =
    let nothing : record_at users st (length rs) e ≡ [] = ap (λ b. if b then record_text (length rs) (bundle_actions st e) ∷ [] else []) none in
    ap Some (sym (append-nil rs) ∙ ap (λ r. rs ++ r) (sym nothing))

-- a core, by what it keeps
abbrev pub core_view : List User → Document → List Entry → ℕ → ℕ → Ledger → KeptCore
core_view users start es number before l = record {
  state = record { users = users; start = start; history = es };
  kept = record { opening = option_map (take number) l.told; before = before; records = l.told; faults = l.faults };
}

module _ (users : List User) (start : Document) (es : List Entry) (number before : ℕ) (old new : Ledger) (s s' : Document) (e : Entry) (k : IsKeptFrom users start es number before old s)
    (keeps : Keeps users (state_after users start es) e old new) (growing : old.faults ≤ new.faults) where
  abbrev st : State
  st = state_after users start es

  more_told : (told : Option (List (List ℕ))) → IfSome told (HasRecords users start es number) → IfSome (with_record users st e told) (HasRecords users start (es ++ e ∷ []) number)
  more_told None h = tt
  more_told (Some rs) h =
      let later = records_of users (opening start) number es in
      let n : length rs ≡ number + length later = omega (arith, ap length h.whole, length-append h.first later, h.count) in
      record {
        first = h.first;
        count = h.count;
        leads = h.leads;
        whole = ap (λ m. rs ++ record_at users st m e) n
            ∙ ap (λ q. q ++ record_at users st (number + length later) e) h.whole
            ∙ append_assoc h.first later (record_at users st (number + length later) e)
            ∙ ap (λ q. h.first ++ q) (sym (records_of-append users (opening start) number es e));
      }

  pub kept_more : (OpensTo old.told s → OpensTo new.told s') → IsKeptFrom users start (es ++ e ∷ []) number before new s'
  kept_more reopens =
      let P : Option (List (List ℕ)) → Type 0 = λ t. IfSome t (HasRecords users start (es ++ e ∷ []) number) in
      let count = not_kept-append es e in
      record {
        told = subst P (sym keeps.told) (more_told old.told k.told);
        reopens = reopens k.reopens;
        counted = elim e.kept as (λ b. e.kept ≡ b → min (before + not_kept (es ++ e ∷ [])) (2 ^ 64 - 1) ≤ new.faults) [
          | true ↦ λ is. counted_same before (not_kept es) (not_kept (es ++ e ∷ [])) old.faults new.faults (count ∙ ap (λ b. not_kept es + missed b) is) k.counted growing
          | false ↦ λ is. counted_more before (not_kept es) (not_kept (es ++ e ∷ [])) old.faults new.faults (count ∙ ap (λ b. not_kept es + missed b) is) k.counted (keeps.failed is)
        ] refl;
        count = omega (arith, keeps.count, k.count, records_kept-append users (opening start) es e);
      }

  same_told : (told : Option (List (List ℕ))) → IfSome told (HasRecords users start es number) → option_map (take number) (with_record users st e told) ≡ option_map (take number) told
  same_told None h = refl
  same_told (Some rs) h =
      let later = records_of users (opening start) number es in
      let le : number ≤ length rs = omega (arith, ap length h.whole, length-append h.first later, h.count) in
      ap Some (take-append-le number rs (record_at users st (length rs) e) le)

  -- what is told of a core after it
  pub keeps_on : (es' : List Entry) → KeepsOn (core_view users start es number before old) (core_view users start es' number before new) e
  keeps_on es' = record {
    opening = ap (option_map (take number)) keeps.told ∙ same_told old.told k.told;
    before = refl;
    records = keeps.told;
    later = growing;
    failed = keeps.failed;
    would = keeps.would;
  }

pub kept_same : (users : List User) (start : Document) (es : List Entry) (number before : ℕ) (old new : Ledger) (s s' : Document) → new.told ≡ old.told → new.count ≡ old.count → s' ≡ s → old.faults ≤ new.faults → IsKeptFrom users start es number before old s
    → IsKeptFrom users start es number before new s'
kept_same users start es number before old new s s' told count same growing k =
    let P : Option (List (List ℕ)) → Type 0 = λ t. IfSome t (HasRecords users start es number) in
    let Q : Option (List (List ℕ)) → Type 0 = λ t. OpensTo t s' in
    let R : Document → Type 0 = λ d. OpensTo old.told d in
    record {
      told = subst P (sym told) k.told;
      reopens = subst Q (sym told) (subst R (sym same) k.reopens);
      counted = omega (arith, k.counted, growing);
      count = count ∙ k.count;
    }

-- ---- the end of a connection

-- which asks for nothing that is kept
pub gone_keeps : (users : List User) (st : State) (name : List ℕ) (size : ℕ) (l : Ledger) → Keeps users st (entry_of name request.Gone size true) l l
gone_keeps users st name size l = record {
  told = no_more users st (entry_of name request.Gone size true) l.told (gone_none users st (entry_of name request.Gone size true) refl);
  count = no_count l.count (verdicts users st (entry_of name request.Gone size true)) (gone_none users st (entry_of name request.Gone size true) refl);
  failed = λ f. absurd (false≢true (sym f));
  would = λ f. absurd (false≢true (sym f));
}

pub kept_gone : (users : List User) (start : Document) (es : List Entry) (number before : ℕ) (l : Ledger) (s : Document) (name : List ℕ) (size : ℕ) → IsKeptFrom users start es number before l s
    → IsKeptFrom users start (es ++ entry_of name request.Gone size true ∷ []) number before l s
kept_gone users start es number before l s name size k =
    kept_more users start es number before l l s s (entry_of name request.Gone size true) k (gone_keeps users (state_after users start es) name size l) (omega arith) (λ o. o)

pub gone_taken : (users : List User) (start : Document) (es es' : List Entry) (number before : ℕ) (l : Ledger) (s : Document) (name : List ℕ) (size : ℕ) (lines : List (List ℕ)) → IsKeptFrom users start es number before l s
    → IsStep (core_view users start es number before l).state (core_view users start es' number before l).state (entry_of name request.Gone size true) lines
    → IsTaken (core_view users start es number before l) (core_view users start es' number before l) name request.Gone size lines
gone_taken users start es es' number before l s name size lines k step = record {
  kept = true;
  taken = step;
  keeps = keeps_on users start es number before l l s s (entry_of name request.Gone size true) k (gone_keeps users (state_after users start es) name size l) (omega arith) es';
}

-- ---- the start

all_told : (told : Option (List (List ℕ))) (start : Document) (number : ℕ) → Opens told new_document start number → option_map (take number) told ≡ told
all_told None start number o = refl
all_told (Some rs) start number o =
    let le : length rs ≤ number = omega (arith, ap length o.told_all, o.count) in
    ap Some (take_all number rs le)

pub opening_told : (told : Option (List (List ℕ))) (start : Document) (number : ℕ) → Opens told new_document start number → option_map (take number) told ≡ told
opening_told told start number o = all_told told start number o

first_told : (users : List User) (told : Option (List (List ℕ))) (start : Document) (number : ℕ) → Opens told new_document start number → IfSome told (HasRecords users start [] number)
first_told users None start number o = tt
first_told users (Some rs) start number o = record {
  first = o.records;
  count = o.count;
  leads = o.leads;
  whole = o.told_all ∙ sym (append-nil o.records);
}

first_opens : (told : Option (List (List ℕ))) (start : Document) (number : ℕ) → Opens told new_document start number → OpensTo told start
first_opens None start number o = tt
first_opens (Some rs) start number o = ap opened o.told_all ∙ o.leads

least : (b : ℕ) → min (b + 0) (2 ^ 64 - 1) ≤ b
least b = omega arith

pub first_kept : (users : List User) (told : Option (List (List ℕ))) (faults : ℕ) (start : Document) (number : ℕ) → Opens told new_document start number
    → IsKeptFrom users start [] number faults (record { told = told; faults = faults; count = number }) start
first_kept users told faults start number o = record {
  told = first_told users told start number o;
  reopens = first_opens told start number o;
  counted = least faults;
  count = omega arith;
}

pub next_number : (told : Option (List (List ℕ))) (start : Document) (number : ℕ) → Opens told new_document start number → IsNext told number
next_number None start number o = tt
next_number (Some rs) start number o = sym (ap length o.told_all ∙ o.count)

pub new_core : (users : List User) (start s : Document) (tally : Tally) → s ≡ start → IsWhole start → IsTally start tally → IsCore users start [] s tally [] (Some 268435456)
new_core users start s tally same whole counts =
    let P : Document → Type 0 = λ d. IsCore users start [] d tally [] (Some 268435456) in
    subst P (sym same) (record {
      state = refl;
      whole = whole;
      counts = counts;
      by_name = tt;
      few = tt;
      few_open = omega arith;
      bounded = omega arith;
      left = refl;
    })

-- ---- what callers are told

module _ (users : List User) (start : Document) (es : List Entry) (number before : ℕ) (l : Ledger) (s : Document) (k : IsKeptFrom users start es number before l s) where
  first_are : (rs : List (List ℕ)) (h : HasRecords users start es number rs) → take number rs ≡ h.first
  first_are rs h =
      let later = records_of users (opening start) number es in
      let long : number ≤ length h.first = omega (arith, h.count) in
      let short : length h.first ≤ number = omega (arith, h.count) in
      ap (take number) h.whole ∙ take-append-le number h.first later long ∙ take_all number h.first short

  all_are : (told : Option (List (List ℕ))) → IfSome told (HasRecords users start es number)
      → told ≡ option_map (λ rs. rs ++ records_of users (opening start) (length rs) es) (option_map (take number) told)
  all_are None h = refl
  all_are (Some rs) h =
      let same = first_are rs h in
      ap Some (h.whole ∙ ap (λ m. h.first ++ records_of users (opening start) m es) (sym h.count) ∙ ap (λ q. q ++ records_of users (opening start) (length q) es) (sym same))

  first_lead : (told : Option (List (List ℕ))) → IfSome told (HasRecords users start es number) → OpensTo (option_map (take number) told) start
  first_lead None h = tt
  first_lead (Some rs) h = ap opened (first_are rs h) ∙ h.leads

  pub keeping_of : (tally : Tally) (xs : List SessionState) (bytes : Option ℕ) → IsCore users start es s tally xs bytes → IsKeeping (core_view users start es number before l)
  keeping_of tally xs bytes core = record {
    records = all_are l.told k.told;
    begins = first_lead l.told k.told;
    reopens = let P : Document → Type 0 = λ t. OpensTo l.told t in subst P (sym (ap (λ (t : State). t.document) core.state)) k.reopens;
    counted = k.counted;
  }
