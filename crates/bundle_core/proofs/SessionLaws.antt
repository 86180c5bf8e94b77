-- What is found of a session among the open ones.
use Rattle.std.proofs.Common.{◌≡◌, ℕ, true, false, cond, List, [], ◌∷◌, map, Option, Some, None, refl, ap, ◌∙◌, option_map, if◌then◌else◌}
use Rattle.std.specs.Str.{bytes_eq}
use Rattle.doc_model.specs.ByIds.{find_id, without_id}
use Rattle.doc_model.proofs.ByIdsLaws.{bytes_itself, find-put_by_id, find-without_id}
use Rattle.doc_model.specs.declared.request.Request.{Request}
use Rattle.doc_model.specs.declared.view.ViewTable.{ViewTable}
use Rattle.doc_model.specs.Document.{Document}
use Rattle.bundle_core.specs.Mailbox.{Mailbox, Outcome, quiet, shows_view, says, own}
use Rattle.bundle_core.specs.State.{Holder, Open, Verdicts, session_name, with_session, posted_to, posted_all}

abbrev pub mailbox_in : Option Open → Option Mailbox
mailbox_in o = option_map (λ (x : Open). x.mailbox) o

-- nobody of that name is among those without it
none_without : (name : List ℕ) (os : List Open) → mailbox_in (find_id session_name name (without_id session_name name os)) ≡ None
none_without name os =
    ap mailbox_in (find-without_id session_name name os name ∙ ap (λ b. cond b None (find_id session_name name os)) (bytes_itself name))

-- the session is found as its own turn left it
pub mailbox-own : (name : List ℕ) (h : Option Holder) (f : Holder → List ViewTable) (m : Option Mailbox) (r : Request) (o : Outcome) (os : List Open)
    → mailbox_in (find_id session_name name (with_session name h (own m r o (option_map f h)).mailbox os)) ≡ (own m r o (option_map f h)).mailbox
mailbox-own name None f None r o os = none_without name os
mailbox-own name None f (Some m) r quiet os = none_without name os
mailbox-own name None f (Some m) r shows_view os = none_without name os
mailbox-own name None f (Some m) r (says v) os = none_without name os
mailbox-own name (Some h) f None r o os =
    let x : Open = record { session = name; holder = h; mailbox = _ } in
    ap mailbox_in (find-put_by_id session_name x os name ∙ ap (λ b. cond b (Some x) (find_id session_name name os)) (bytes_itself name))
mailbox-own name (Some h) f (Some m) r o os =
    let x : Open = record { session = name; holder = h; mailbox = _ } in
    ap mailbox_in (find-put_by_id session_name x os name ∙ ap (λ b. cond b (Some x) (find_id session_name name os)) (bytes_itself name))

-- another session is found as it was
pub find-with_session : (name other : List ℕ) (h : Option Holder) (m : Option Mailbox) (os : List Open) → bytes_eq other name ≡ false
    → find_id session_name name (with_session other h m os) ≡ find_id session_name name os
find-with_session name other (Some h) (Some m) os apart =
    let x : Open = record { session = other; holder = h; mailbox = m } in
    find-put_by_id session_name x os name ∙ ap (λ b. cond b (Some x) (find_id session_name name os)) apart
find-with_session name other (Some h) None os apart =
    find-without_id session_name other os name ∙ ap (λ b. cond b None (find_id session_name name os)) apart
find-with_session name other None m os apart =
    find-without_id session_name other os name ∙ ap (λ b. cond b None (find_id session_name name os)) apart

-- a posted session keeps its name
find-posted : (s : Document) (name : List ℕ) (os : List Open) → find_id session_name name (map (posted_to s) os) ≡ option_map (posted_to s) (find_id session_name name os)
find-posted s name [] = refl
find-posted s name (o ∷ os) =
    elim (bytes_eq o.session name) as (λ b. cond b (Some (posted_to s o)) (find_id session_name name (map (posted_to s) os)) ≡ option_map (posted_to s) (cond b (Some o) (find_id session_name name os))) [
      | true ↦ refl
      | false ↦ find-posted s name os
    ]

abbrev pub posted_in : Verdicts → Option Open → Option Open
posted_in v o = if v.is_bundle then option_map (posted_to v.document) o else o

pub find-posted_all : (v : Verdicts) (name : List ℕ) (os : List Open) → find_id session_name name (posted_all v os) ≡ posted_in v (find_id session_name name os)
find-posted_all v name os =
    elim v.is_bundle as (λ b. find_id session_name name (if b then map (posted_to v.document) os else os) ≡ (if b then option_map (posted_to v.document) (find_id session_name name os) else find_id session_name name os)) [
      | true ↦ find-posted v.document name os
      | false ↦ refl
    ]
