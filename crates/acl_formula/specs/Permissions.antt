-- What permission texts say.
use Rattle.std.specs.Prelude.{ℕ, Bool, true, false, not, ◌&&◌, ◌==◌, cond, codes, List, [], ◌∷◌, Option, Some, None, bytes_eq}
use Rattle.acl_formula.specs.declared.permissions.Perm.{Perm}
use Rattle.acl_formula.specs.declared.permissions.Perm.TheVariants as perm
use Rattle.acl_formula.specs.declared.permissions.PermFlags.{PermFlags}
use Rattle.acl_formula.specs.declared.permissions.PermSet.{PermSet}
use Rattle.acl_formula.specs.declared.permissions.Place.{Place}
use Rattle.acl_formula.specs.declared.permissions.Place.TheVariants as place

-- a set by what is in it
abbrev pub flags : Bool → Bool → Bool → Bool → Bool → PermFlags
flags c r u d s = record { create = c; read = r; update = u; delete = d; schema = s }

-- the set of none
abbrev pub no_flags : PermFlags
no_flags = flags false false false false false

-- the set of all
abbrev pub all_flags : PermFlags
all_flags = flags true true true true true

-- whether the permission is in the set
abbrev pub has_perm : Perm → PermFlags → Bool
has_perm perm.C f = f.create
has_perm perm.R f = f.read
has_perm perm.U f = f.update
has_perm perm.D f = f.delete
has_perm perm.S f = f.schema

-- the set with the permission
abbrev pub with_perm : Perm → PermFlags → PermFlags
with_perm perm.C f = flags true f.read f.update f.delete f.schema
with_perm perm.R f = flags f.create true f.update f.delete f.schema
with_perm perm.U f = flags f.create f.read true f.delete f.schema
with_perm perm.D f = flags f.create f.read f.update true f.schema
with_perm perm.S f = flags f.create f.read f.update f.delete true

-- the permission of a letter
abbrev pub perm_of : ℕ → Option Perm
perm_of c =
    cond (c == 67) (Some perm.C)
    (cond (c == 82) (Some perm.R)
    (cond (c == 85) (Some perm.U)
    (cond (c == 68) (Some perm.D)
    (cond (c == 83) (Some perm.S) None))))

-- the set with the letter under a sign
abbrev pub with_letter : Bool → Perm → PermSet → PermSet
with_letter true p s = record { allowed = with_perm p s.allowed; denied = s.denied }
with_letter false p s = record { allowed = s.allowed; denied = with_perm p s.denied }

-- a letter comes, where a sign was
abbrev pub letter : Place → Option Perm → PermSet → Option (Place × PermSet)
letter place.Start p s = None
letter (place.BehindSign b) None s = None
letter (place.BehindSign b) (Some p) s = Some (place.BehindLetter b, with_letter b p s)
letter (place.BehindLetter b) None s = None
letter (place.BehindLetter b) (Some p) s = Some (place.BehindLetter b, with_letter b p s)

-- a sign comes, but not behind a sign
abbrev pub sign : Bool → Place → PermSet → Option (Place × PermSet)
sign b (place.BehindSign c) s = None
sign b _ s = Some (place.BehindSign b, s)

-- the next character: + or - or a letter
abbrev pub stepped : ℕ → Place → PermSet → Option (Place × PermSet)
stepped c p s =
    cond (c == 43) (sign true p s)
    (cond (c == 45) (sign false p s) (letter p (perm_of c) s))

-- a text ends behind a letter
abbrev pub ended : Place → PermSet → Option PermSet
ended (place.BehindLetter b) s = Some s
ended _ s = None

-- signs, each with letters behind it
abbrev pub said_from : Place → PermSet → List ℕ → Option PermSet
said_from p s [] = ended p s
said_from p s (c ∷ cs) = elim (stepped c p s) [ None ↦ None | Some q ↦ said_from q.0 q.1 cs ]

-- no letter stands under both signs
abbrev pub are_apart : PermSet → Bool
are_apart s =
    not (s.allowed.create && s.denied.create) && (not (s.allowed.read && s.denied.read)
    && (not (s.allowed.update && s.denied.update) && (not (s.allowed.delete && s.denied.delete)
    && not (s.allowed.schema && s.denied.schema))))

-- and then the text can be read
abbrev pub if_apart : Option PermSet → Option PermSet
if_apart None = None
if_apart (Some s) = cond (are_apart s) (Some s) None

-- the empty text
abbrev pub says_nothing : PermSet
says_nothing = record { allowed = no_flags; denied = no_flags }

-- `all`
abbrev pub allows_all : PermSet
allows_all = record { allowed = all_flags; denied = no_flags }

-- `none`
abbrev pub denies_all : PermSet
denies_all = record { allowed = no_flags; denied = all_flags }

-- what the text says, where it can be read
unfoldable pub permissions_of : List ℕ → Option PermSet
permissions_of [] = Some says_nothing
permissions_of (c ∷ cs) =
    cond (bytes_eq (c ∷ cs) (codes "all")) (Some allows_all)
    (cond (bytes_eq (c ∷ cs) (codes "none")) (Some denies_all)
    (if_apart (said_from place.Start says_nothing (c ∷ cs))))
