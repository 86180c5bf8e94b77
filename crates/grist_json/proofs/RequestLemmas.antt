-- A request is read exactly from the JSON that spells it.
use Rattle.std.proofs.Common.{◌≡◌, ℕ, List, codes, true, subst, ◌⊎◌, inl, inr, Some, None, sym, ap, ◌∙◌, refl}
use Rattle.std.specs.Str.{bytes_eq}
use Rattle.serde_json.specs.Data.{Num, unsigned, negative, float, Data, null, boolean, number, string, array, object, member}
use Rattle.serde_json.specs.Find.{as_object}
use Rattle.doc_model.specs.declared.request.Request.{Request}
use Rattle.doc_model.specs.declared.request.Request.TheVariants.{Bad, TooLong, Open, Apply, Undo, Sync, Fetch, Rename, Close, Gone}
use Rattle.doc_model.specs.WellFormed.{asks_well_formed}
use Rattle.action_lines.specs.Fields.{field, field_text, is_done}
use Rattle.action_lines.specs.Actions.{actions_from}
use Rattle.action_lines.proofs.StepLemmas.{bind_some, guard_some, guard_then, or_some, some_same, none≢some, chain_by}
use Rattle.action_lines.proofs.FieldLemmas.{object_takes, same_text, field_takes, field_text_takes, done_takes}
use Rattle.action_lines.proofs.ActionLemmas.{actions_take, actions_again}
use Rattle.action_lines.proofs.WellFormedLemmas.{actions_formed}
use Rattle.grist_json.specs.Reading.{open_from, word_from, bare_from, apply_from, is_whole, whole_of_num, whole_from, undo_from, fetch_from, rename_from, request_from}
use Rattle.grist_json.specs.Requests.{open_data, bare_data, apply_data, undo_data, fetch_data, rename_data, IsRequest, Spells, request_at}
use Rattle.grist_json.proofs.Exactly.{found_by, none_by, once_by}

-- what spells a request is read as it
pub request_again : (r : Request) (d : Data) → IsRequest r d → request_from d ≡ Some r
unfolding request_from open_from bare_from apply_from undo_from fetch_from rename_from
request_again (Open token) d e = ap request_from e
request_again (Apply actions) d s = ap request_from s.2 ∙ rw (actions_again actions s.0 s.1) refl
request_again Sync d e = ap request_from e
request_again Close d e = ap request_from e
request_again Bad d e = absurd e
request_again TooLong d e = absurd e
request_again (Undo bundle) d s = ap request_from s.1 ∙ rw s.0 refl
request_again (Fetch table) d e = ap request_from e
request_again (Rename table column new) d e = ap request_from e
request_again Gone d e = absurd e

open_takes : (d : Data) (r : Request) → open_from d ≡ Some r → IsRequest r d
unfolding open_from
open_takes d r e =
    let a = bind_some (as_object d) _ r e in
    let b = bind_some (field_text (codes "method") a.0) _ r a.2 in
    let c = bind_some (field_text (codes "token") b.0.1) _ r b.2 in
    let done = guard_then (is_done c.0.1) _ r c.2 in
    let named = guard_some (bytes_eq b.0.0 (codes "openDoc")) (Open c.0.0) r done.1 in
    let whole : d ≡ open_data c.0.0 =
    object_takes d a.0 a.1
    ∙ ap object (field_text_takes (codes "method") a.0 b.0.0 b.0.1 b.1
    ∙ (λ i. member (codes "method") (string (same_text b.0.0 (codes "openDoc") named.0 i)) (field_text_takes (codes "token") b.0.1 c.0.0 c.0.1 c.1 i))
    ∙ ap (λ ms. member (codes "method") (string (codes "openDoc")) (member (codes "token") (string c.0.0) ms)) (done_takes c.0.1 done.0)) in
    subst (λ x. IsRequest x d) named.1 whole

-- the JSON of a word alone
word_takes : (word : List ℕ) (r : Request) → word_from word ≡ Some r → IsRequest r (bare_data word)
word_takes word r e =
    chain_by (bytes_eq word (codes "sync")) Sync r _ (λ q. IsRequest q (bare_data word)) (λ b. ap bare_data (same_text word (codes "sync") b))
    (chain_by (bytes_eq word (codes "closeDoc")) Close r None (λ q. IsRequest q (bare_data word)) (λ b. ap bare_data (same_text word (codes "closeDoc") b)) (λ n. absurd (none≢some r n))) e

bare_takes : (d : Data) (r : Request) → bare_from d ≡ Some r → IsRequest r d
unfolding bare_from
bare_takes d r e =
    let a = bind_some (as_object d) _ r e in
    let b = bind_some (field_text (codes "method") a.0) _ r a.2 in
    let done = guard_then (is_done b.0.1) _ r b.2 in
    let whole : d ≡ bare_data b.0.0 =
    object_takes d a.0 a.1
    ∙ ap object (field_text_takes (codes "method") a.0 b.0.0 b.0.1 b.1 ∙ ap (member (codes "method") (string b.0.0)) (done_takes b.0.1 done.0)) in
    subst (λ x. IsRequest r x) (sym whole) (word_takes b.0.0 r done.1)

apply_takes : (d : Data) (r : Request) → apply_from d ≡ Some r → IsRequest r d
unfolding apply_from
apply_takes d r e =
    let a = bind_some (as_object d) _ r e in
    let b = bind_some (field (codes "actions") a.0) _ r a.2 in
    let c = bind_some (field_text (codes "method") b.0.1) _ r b.2 in
    let done = guard_then (is_done c.0.1) _ r c.2 in
    let named = guard_then (bytes_eq c.0.0 (codes "applyUserActions")) _ r done.1 in
    let list = bind_some (actions_from b.0.0) _ r named.1 in
    let whole : d ≡ apply_data b.0.0 =
    object_takes d a.0 a.1
    ∙ ap object (field_takes (codes "actions") a.0 b.0.0 b.0.1 b.1
    ∙ ap (member (codes "actions") b.0.0) (field_text_takes (codes "method") b.0.1 c.0.0 c.0.1 c.1
    ∙ (λ i. member (codes "method") (string (same_text c.0.0 (codes "applyUserActions") named.0 i)) (done_takes c.0.1 done.0 i)))) in
    subst (λ x. IsRequest x d) (some_same (Apply list.0) r list.2) (b.0.0, actions_take b.0.0 list.0 list.1, whole)

whole_num_takes : (n : Num) (m : ℕ) → whole_of_num n ≡ Some m → (is_whole m ≡ true) × (number n ≡ number (unsigned m))
whole_num_takes (unsigned n) m e =
    let g = guard_some (is_whole n) n m e in
    subst (λ (k : ℕ). (is_whole k ≡ true) × (number (unsigned n) ≡ number (unsigned k))) g.1 (g.0, refl)
whole_num_takes (negative z) m e = absurd (cc)
whole_num_takes (float x) m e = absurd (cc)

pub whole_takes : (d : Data) (m : ℕ) → whole_from d ≡ Some m → (is_whole m ≡ true) × (d ≡ number (unsigned m))
whole_takes null m e = absurd (cc)
whole_takes (boolean b) m e = absurd (cc)
whole_takes (number n) m e = whole_num_takes n m e
whole_takes (string s) m e = absurd (cc)
whole_takes (array ds) m e = absurd (cc)
whole_takes (object ms) m e = absurd (cc)

undo_takes : (d : Data) (r : Request) → undo_from d ≡ Some r → IsRequest r d
unfolding undo_from
undo_takes d r e =
    let a = bind_some (as_object d) _ r e in
    let b = bind_some (field (codes "bundle") a.0) _ r a.2 in
    let c = bind_some (field_text (codes "method") b.0.1) _ r b.2 in
    let done = guard_then (is_done c.0.1) _ r c.2 in
    let named = guard_then (bytes_eq c.0.0 (codes "undo")) _ r done.1 in
    let n = bind_some (whole_from b.0.0) _ r named.1 in
    let bounded = whole_takes b.0.0 n.0 n.1 in
    let whole : d ≡ undo_data n.0 =
    object_takes d a.0 a.1
    ∙ ap object (field_takes (codes "bundle") a.0 b.0.0 b.0.1 b.1
    ∙ (λ i. member (codes "bundle") (bounded.1 i) (field_text_takes (codes "method") b.0.1 c.0.0 c.0.1 c.1 i))
    ∙ (λ i. member (codes "bundle") (number (unsigned n.0)) (member (codes "method") (string (same_text c.0.0 (codes "undo") named.0 i)) (done_takes c.0.1 done.0 i)))) in
    subst (λ x. IsRequest x d) (some_same (Undo n.0) r n.2) (bounded.0, whole)

fetch_takes : (d : Data) (r : Request) → fetch_from d ≡ Some r → IsRequest r d
unfolding fetch_from
fetch_takes d r e =
    let a = bind_some (as_object d) _ r e in
    let b = bind_some (field_text (codes "method") a.0) _ r a.2 in
    let c = bind_some (field_text (codes "table") b.0.1) _ r b.2 in
    let done = guard_then (is_done c.0.1) _ r c.2 in
    let named = guard_some (bytes_eq b.0.0 (codes "fetchTable")) (Fetch c.0.0) r done.1 in
    let whole : d ≡ fetch_data c.0.0 =
    object_takes d a.0 a.1
    ∙ ap object (field_text_takes (codes "method") a.0 b.0.0 b.0.1 b.1
    ∙ (λ i. member (codes "method") (string (same_text b.0.0 (codes "fetchTable") named.0 i)) (field_text_takes (codes "table") b.0.1 c.0.0 c.0.1 c.1 i))
    ∙ ap (λ ms. member (codes "method") (string (codes "fetchTable")) (member (codes "table") (string c.0.0) ms)) (done_takes c.0.1 done.0)) in
    subst (λ x. IsRequest x d) named.1 whole

rename_takes : (d : Data) (r : Request) → rename_from d ≡ Some r → IsRequest r d
unfolding rename_from
rename_takes d r e =
    let a = bind_some (as_object d) _ r e in
    let b = bind_some (field_text (codes "column") a.0) _ r a.2 in
    let c = bind_some (field_text (codes "method") b.0.1) _ r b.2 in
    let n = bind_some (field_text (codes "new") c.0.1) _ r c.2 in
    let t = bind_some (field_text (codes "table") n.0.1) _ r n.2 in
    let done = guard_then (is_done t.0.1) _ r t.2 in
    let named = guard_some (bytes_eq c.0.0 (codes "renameColumn")) (Rename t.0.0 b.0.0 n.0.0) r done.1 in
    let whole : d ≡ rename_data t.0.0 b.0.0 n.0.0 =
    object_takes d a.0 a.1
    ∙ ap object (field_text_takes (codes "column") a.0 b.0.0 b.0.1 b.1
    ∙ ap (member (codes "column") (string b.0.0)) (field_text_takes (codes "method") b.0.1 c.0.0 c.0.1 c.1
    ∙ (λ i. member (codes "method") (string (same_text c.0.0 (codes "renameColumn") named.0 i)) (field_text_takes (codes "new") c.0.1 n.0.0 n.0.1 n.1 i))
    ∙ ap (λ ms. member (codes "method") (string (codes "renameColumn")) (member (codes "new") (string n.0.0) ms)) (field_text_takes (codes "table") n.0.1 t.0.0 t.0.1 t.1
    ∙ ap (member (codes "table") (string t.0.0)) (done_takes t.0.1 done.0)))) in
    subst (λ x. IsRequest x d) named.1 whole

one_of : (d : Data) (r : Request) → (open_from d ≡ Some r) ⊎ ((bare_from d ≡ Some r) ⊎ ((apply_from d ≡ Some r) ⊎ ((undo_from d ≡ Some r) ⊎ ((fetch_from d ≡ Some r) ⊎ (rename_from d ≡ Some r))))) → IsRequest r d
one_of d r (inl e) = open_takes d r e
one_of d r (inr (inl e)) = bare_takes d r e
one_of d r (inr (inr (inl e))) = apply_takes d r e
one_of d r (inr (inr (inr (inl e)))) = undo_takes d r e
one_of d r (inr (inr (inr (inr (inl e))))) = fetch_takes d r e
one_of d r (inr (inr (inr (inr (inr e))))) = rename_takes d r e

split : (d : Data) (r : Request) → request_from d ≡ Some r → (open_from d ≡ Some r) ⊎ ((bare_from d ≡ Some r) ⊎ ((apply_from d ≡ Some r) ⊎ ((undo_from d ≡ Some r) ⊎ ((fetch_from d ≡ Some r) ⊎ (rename_from d ≡ Some r)))))
unfolding request_from
split d r e = elim (or_some (open_from d) _ r e) [ inl o ↦ inl o | inr o ↦ inr (elim (or_some (bare_from d) _ r o) [ inl p ↦ inl p | inr p ↦ inr (elim (or_some (apply_from d) _ r p) [ inl q ↦ inl q | inr q ↦ inr (elim (or_some (undo_from d) _ r q) [ inl u ↦ inl u | inr u ↦ inr (or_some (fetch_from d) (rename_from d) r u) ]) ]) ]) ]

-- what is read as a request spells it
pub request_takes : (d : Data) (r : Request) → request_from d ≡ Some r → IsRequest r d
request_takes d r e = one_of d r (split d r e)

-- the same of bytes
pub request_found : (bytes : List ℕ) (r : Request) → request_at bytes ≡ Some r → Spells r bytes
unfolding request_at
request_found bytes r e = found_by request_from IsRequest request_takes bytes r e

pub request_none : (bytes : List ℕ) → request_at bytes ≡ None → (r : Request) → Spells r bytes → ⊥
unfolding request_at
request_none bytes e r s = none_by request_from IsRequest request_again bytes e r s

pub request_once : (bytes : List ℕ) (r q : Request) → Spells r bytes → Spells q bytes → r ≡ q
request_once bytes r q s t = once_by request_from IsRequest request_again bytes r q s t

-- a request that is spelled is well formed
pub request_formed : (r : Request) (d : Data) → IsRequest r d → asks_well_formed r ≡ true
request_formed (Open token) d s = refl
request_formed (Apply actions) d s = actions_formed actions s.0 s.1
request_formed Sync d s = refl
request_formed Close d s = refl
request_formed Bad d s = refl
request_formed TooLong d s = refl
request_formed (Undo bundle) d s = refl
request_formed (Fetch table) d s = refl
request_formed (Rename table column new) d s = refl
request_formed Gone d s = refl
