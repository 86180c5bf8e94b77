-- Records with one more lead to the document after its actions.
use Rattle.std.proofs.Common.{◌≡◌, ℕ, suc, ◌+◌, ◌<◌, List, [], ◌∷◌, ◌++◌, Bool, true, ◌&&◌, nat_eq, nat_lt, length, Option, Some, None, IfSome, refl, sym, ap, ◌∙◌, subst, arith, if◌then◌else◌}
use Rattle.doc_keeper.specs.Keeping.{added_to}
use Rattle.doc_model.specs.declared.action.DocAction.{DocAction}
use Rattle.doc_model.specs.Apply.{all_valid, apply_all}
use Rattle.doc_model.specs.Document.{Document}
use Rattle.doc_model.specs.NewDocument.{new_document}
use Rattle.doc_opening.specs.Opening.{Opening, opens, bad, after_record, is_good, kept_on, opened, opened_onto}
use Rattle.record_lines.specs.declared.records.Kept.{Kept}
use Rattle.record_lines.specs.Printed.{kept}
use Rattle.record_lines.specs.Records.{SpellsRecord, record_at}
use Rattle.record_lines.proofs.RecordLemmas.{record_found, record_none, record_once}
use Rattle.bundle_records.specs.Ledger.{AddsNext, IsNextRecord, OpensTo}

-- what is spelled is read
read_as : (bytes : List ℕ) (k : Kept) → SpellsRecord k bytes → record_at bytes ≡ Some k
read_as bytes k s =
    elim (record_at bytes) as (λ o. record_at bytes ≡ o → record_at bytes ≡ Some k) [
      | None ↦ λ e. absurd (record_none bytes e k s)
      | Some l ↦ λ e. e ∙ ap Some (record_once bytes l k (record_found bytes l e) s)
    ] refl

abbrev ends_with : Opening → ℕ → List ℕ → Opening
ends_with (opens s) n r = elim (kept_on s n r) [ None ↦ bad n | Some new ↦ opens new ]
ends_with (bad m) n r = bad m

-- a record behind the others
more : (s : Document) (k : ℕ) (rs : List (List ℕ)) (r : List ℕ) → opened_onto s k (rs ++ r ∷ []) ≡ ends_with (opened_onto s k rs) (k + length rs) r
more s k [] r =
    let z : k ≡ k + 0 = omega arith in
    ap (λ m. ends_with (opens s) m r) z
more s k (x ∷ rs) r =
    let z : k + 1 + length rs ≡ k + suc (length rs) = omega arith in
    elim (kept_on s k x) as (λ o. elim o [ None ↦ bad k | Some new ↦ opened_onto new (k + 1) (rs ++ r ∷ []) ] ≡ ends_with (elim o [ None ↦ bad k | Some new ↦ opened_onto new (k + 1) rs ]) (k + suc (length rs)) r) [
      | None ↦ refl
      | Some new ↦ more new (k + 1) rs r ∙ ap (λ m. ends_with (opened_onto new (k + 1) rs) m r) z
    ]

-- the record of valid actions is good at its place
good_next : (s : Document) (n : ℕ) (actions : List DocAction) (r : List ℕ) → SpellsRecord (kept n actions) r → n < 4294967295 → all_valid s actions ≡ true → kept_on s n r ≡ Some (apply_all s actions)
unfolding kept_on
good_next s n actions r spells few valid =
    let low : nat_lt n 4294967295 ≡ true = search (arith, few) in
    let same : nat_eq n n ≡ true = search arith in
    let good : is_good s n (kept n actions) ≡ true = rw (low, same, valid) refl in
    ap (after_record s n) (read_as r (kept n actions) spells)
    ∙ ap (λ b. if b then Some (apply_all s actions) else None) good

opened_more : (rs : List (List ℕ)) (s : Document) (actions : List DocAction) (r : List ℕ) → opened rs ≡ opens s → SpellsRecord (kept (length rs) actions) r → length rs < 4294967295 → all_valid s actions ≡ true
    → opened (rs ++ r ∷ []) ≡ opens (apply_all s actions)
opened_more rs s actions r is spells few valid =
    let z : 0 + length rs ≡ length rs = omega arith in
    more new_document 0 rs r
    ∙ ap (λ o. ends_with o (0 + length rs) r) is
    ∙ ap (λ m. ends_with (opens s) m r) z
    ∙ ap (λ o. elim o as (λ _. Opening) [ None ↦ bad (length rs) | Some new ↦ opens new ]) (good_next s (length rs) actions r spells few valid)

-- the told records with one more lead to the document after its actions
pub opens_more : (told new : Option (List (List ℕ))) (s : Document) (actions : List DocAction) (line : List ℕ) → OpensTo told s → IsNextRecord told actions line → AddsNext told new line → all_valid s actions ≡ true
    → OpensTo new (apply_all s actions)
opens_more None new s actions line is next adds valid =
    let P : Option (List (List ℕ)) → Type 0 = λ t. OpensTo t (apply_all s actions) in
    subst P (sym adds.added) tt
opens_more (Some rs) new s actions line is next adds valid =
    let P : Option (List (List ℕ)) → Type 0 = λ t. OpensTo t (apply_all s actions) in
    subst P (sym adds.added) (opened_more rs s actions line is next.spells adds.few valid)
