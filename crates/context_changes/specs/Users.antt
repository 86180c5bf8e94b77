-- When two users are one.
use Rattle.std.specs.Prelude.{ℕ, Bool, true, false, ◌&&◌, List, Option, Some, None}
use Rattle.std.specs.Ordering.{int_eq}
use Rattle.std.specs.Str.{bytes_eq}
use Rattle.doc_model.specs.declared.user.User.{User}

-- whether two accesses are equal
abbrev pub same_access : Option (List ℕ) → Option (List ℕ) → Bool
same_access None None = true
same_access None (Some b) = false
same_access (Some a) None = false
same_access (Some a) (Some b) = bytes_eq a b

-- whether two users are equal in all fields
abbrev pub same_user : User → User → Bool
same_user u v =
    bytes_eq u.token v.token && same_access u.access v.access && bytes_eq u.email v.email
    && bytes_eq u.name v.name && int_eq u.id v.id
