-- When two users are one.
use Rattle.std.proofs.Common.{ℕ, true, ◌&&◌, List, ◌≡◌, refl, ap, ◌∙◌, Option, Some, None}
use Rattle.std.proofs.lemmas.Bool.{and_parts, false≢true}
use Rattle.std.proofs.lemmas.Bool.Decides.{Decides-int_eq}
use Rattle.std.proofs.lemmas.Slice.Eq.{bytes_eq-Decides}
use Rattle.std.specs.Ordering.{int_eq}
use Rattle.std.specs.Str.{bytes_eq}
use Rattle.doc_model.specs.declared.user.User.{User}
use Rattle.doc_model.proofs.Choices.{both_true}
use Rattle.context_changes.specs.Users.{same_access, same_user}

-- ---- equal users

access_same : (a b : Option (List ℕ)) → same_access a b ≡ true → a ≡ b
access_same None None e = refl
access_same None (Some b) e = absurd (false≢true e)
access_same (Some a) None e = absurd (false≢true e)
access_same (Some a) (Some b) e = ap Some ((bytes_eq-Decides a b).0 e)

access_itself : (a : Option (List ℕ)) → same_access a a ≡ true
access_itself None = refl
access_itself (Some a) = (bytes_eq-Decides a a).1 refl

bytes_itself : (a : List ℕ) → bytes_eq a a ≡ true
bytes_itself a = (bytes_eq-Decides a a).1 refl

pub user_same : (u v : User) → same_user u v ≡ true → u ≡ v
user_same u v e =
    let four = and_parts (bytes_eq u.token v.token && same_access u.access v.access && bytes_eq u.email v.email && bytes_eq u.name v.name) (int_eq u.id v.id) e in
    let three = and_parts (bytes_eq u.token v.token && same_access u.access v.access && bytes_eq u.email v.email) (bytes_eq u.name v.name) four.0 in
    let two = and_parts (bytes_eq u.token v.token && same_access u.access v.access) (bytes_eq u.email v.email) three.0 in
    let one = and_parts (bytes_eq u.token v.token) (same_access u.access v.access) two.0 in
    ap (λ t. let x : User = record { token = t; access = u.access; email = u.email; name = u.name; id = u.id } in x) ((bytes_eq-Decides u.token v.token).0 one.0)
    ∙ ap (λ a. let x : User = record { token = v.token; access = a; email = u.email; name = u.name; id = u.id } in x) (access_same u.access v.access one.1)
    ∙ ap (λ t. let x : User = record { token = v.token; access = v.access; email = t; name = u.name; id = u.id } in x) ((bytes_eq-Decides u.email v.email).0 two.1)
    ∙ ap (λ t. let x : User = record { token = v.token; access = v.access; email = v.email; name = t; id = u.id } in x) ((bytes_eq-Decides u.name v.name).0 three.1)
    ∙ ap (λ n. let x : User = record { token = v.token; access = v.access; email = v.email; name = v.name; id = n } in x) ((Decides-int_eq u.id v.id).0 four.1)

pub user_itself : (u : User) → same_user u u ≡ true
user_itself u =
    both_true (bytes_eq u.token u.token && same_access u.access u.access && bytes_eq u.email u.email && bytes_eq u.name u.name) (int_eq u.id u.id)
    (both_true (bytes_eq u.token u.token && same_access u.access u.access && bytes_eq u.email u.email) (bytes_eq u.name u.name)
    (both_true (bytes_eq u.token u.token && same_access u.access u.access) (bytes_eq u.email u.email)
    (both_true (bytes_eq u.token u.token) (same_access u.access u.access) (bytes_itself u.token) (access_itself u.access))
    (bytes_itself u.email)) (bytes_itself u.name)) ((Decides-int_eq u.id u.id).1 refl)
