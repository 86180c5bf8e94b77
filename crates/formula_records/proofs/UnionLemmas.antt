-- Tables of records taken together.
use Rattle.std.proofs.Common.{◌≡◌, ap, refl, ℕ, List, append_assoc}
use Rattle.std.proofs.lemmas.List.{append-nil}
use Rattle.formula_records.specs.declared.tables.RecordTables.{RecordTables}
use Rattle.formula_records.specs.declared.tables.RecordTables.TheVariants.{Any, These}
use Rattle.formula_records.specs.RecordTables.{none, union}

pub union_none : (q : RecordTables) → union q none ≡ q
union_none Any = refl
union_none (These ts) = ap (λ (us : List (List ℕ)). These us) (append-nil ts)

pub none_union : (q : RecordTables) → union none q ≡ q
none_union Any = refl
none_union (These ts) = refl

pub union_assoc : (p q r : RecordTables) → union (union p q) r ≡ union p (union q r)
union_assoc Any q r = refl
union_assoc (These ts) Any r = refl
union_assoc (These ts) (These us) Any = refl
union_assoc (These ts) (These us) (These vs) = ap (λ (ws : List (List ℕ)). These ws) (append_assoc ts us vs)
