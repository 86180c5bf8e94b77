-- A peek is read exactly from the JSON that spells it, and such JSON spells no request.
use Rattle.std.proofs.Common.{◌≡◌, ℕ, List, codes, Option, Some, None, Result, Ok, Err, IfOk, IfSome, refl, sym, ap, ◌∙◌, subst}
use Rattle.std.specs.Str.{bytes_eq}
use Rattle.serde_json.specs.Data.{Data, object, string, no_members, member}
use Rattle.serde_json.specs.Find.{as_object}
use Rattle.doc_model.specs.declared.request.Request.{Request}
use Rattle.action_lines.specs.Fields.{field_text, is_done}
use Rattle.action_lines.proofs.StepLemmas.{bind_some, guard_some, guard_then, some_same, none≢some}
use Rattle.action_lines.proofs.FieldLemmas.{object_takes, same_text, field_text_takes, done_takes}
use Rattle.grist_json.specs.Reading.{request_from, open_from, bare_from, apply_from, undo_from, fetch_from, rename_from}
use Rattle.grist_json.specs.Requests.{Spells}
use Rattle.grist_json.proofs.Exactly.{found_by, none_by}
use Rattle.grist_json.proofs.RequestLemmas.{request_again}
use Rattle.peek_lines.specs.Peeks.{IsPeek, SpellsPeek, peek_at, peek_data, peek_from}

pub peek_again : (table : List ℕ) (d : Data) → IsPeek table d → peek_from d ≡ Some table
unfolding peek_from
peek_again table d e = ap peek_from e

pub peek_takes : (d : Data) (table : List ℕ) → peek_from d ≡ Some table → IsPeek table d
unfolding peek_from
peek_takes d r e =
    let a = bind_some (as_object d) _ r e in
    let b = bind_some (field_text (codes "method") a.0) _ r a.2 in
    let c = bind_some (field_text (codes "table") b.0.1) _ r b.2 in
    let done = guard_then (is_done c.0.1) _ r c.2 in
    let named = guard_some (bytes_eq b.0.0 (codes "peekTable")) c.0.0 r done.1 in
    let whole : d ≡ peek_data c.0.0 =
    object_takes d a.0 a.1
    ∙ ap object (field_text_takes (codes "method") a.0 b.0.0 b.0.1 b.1
    ∙ (λ i. member (codes "method") (string (same_text b.0.0 (codes "peekTable") named.0 i)) (field_text_takes (codes "table") b.0.1 c.0.0 c.0.1 c.1 i))
    ∙ ap (λ ms. member (codes "method") (string (codes "peekTable")) (member (codes "table") (string c.0.0) ms)) (done_takes c.0.1 done.0)) in
    subst (λ x. IsPeek x d) named.1 whole

-- the same of bytes
pub peek_found : (bytes table : List ℕ) → peek_at bytes ≡ Some table → SpellsPeek table bytes
unfolding peek_at
peek_found bytes table e = found_by peek_from IsPeek peek_takes bytes table e

pub peek_none : (bytes : List ℕ) → peek_at bytes ≡ None → (table : List ℕ) → SpellsPeek table bytes → ⊥
unfolding peek_at
peek_none bytes e table s = none_by peek_from IsPeek peek_again bytes e table s

-- a peek is read as no request
no_request_from : (table : List ℕ) → request_from (peek_data table) ≡ None
unfolding request_from open_from bare_from apply_from undo_from fetch_from rename_from
no_request_from table = refl

pub no_request : (bytes table : List ℕ) → SpellsPeek table bytes → (r : Request) → Spells r bytes → ⊥
no_request bytes table s r q =
    let same : s.0 ≡ q.0 = some_same s.0 q.0 (sym s.1 ∙ q.1) in
    none≢some r (sym (no_request_from table) ∙ (ap request_from (sym s.2 ∙ same) ∙ request_again r q.0 q.2))

pub none_asked : {E : Type 0} (r : Result (Option (List ℕ)) E) (bytes : List ℕ) → IfOk r (λ o. o ≡ peek_at bytes) → IfOk r (λ o. IfSome o (λ _. (q : Request) → Spells q bytes → ⊥))
none_asked (Ok (Some table)) bytes e = no_request bytes table (peek_found bytes table (sym e))
none_asked (Ok None) bytes e = tt
none_asked (Err x) bytes e = tt
