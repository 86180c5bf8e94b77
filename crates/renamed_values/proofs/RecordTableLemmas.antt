-- Values that hold records of some tables alone.
use Rattle.std.proofs.Common.{◌≡◌, ◌∙◌, refl, subst, ℕ, Bool, true, false, List, [], ◌∷◌, bytes_eq}
use Rattle.std.proofs.lemmas.Bool.{or_left, or_right}
use Rattle.std.specs.List.{AllByRecursion, list_any}
use Rattle.std.proofs.lemmas.List.Folds.{list_any-append}
use Rattle.std.proofs.lemmas.Slice.Eq.{bytes_eq-Decides}
use Rattle.cell_types.specs.declared.value.CellItem.{CellItem}
use Rattle.cell_types.specs.declared.value.CellItem.TheVariants as item
use Rattle.cell_types.specs.declared.value.CellValue.{CellValue}
use Rattle.cell_types.specs.declared.value.CellValue.TheVariants as value
use Rattle.formula_records.specs.declared.tables.RecordTables.{RecordTables}
use Rattle.formula_records.specs.declared.tables.RecordTables.TheVariants.{Any, These}
use Rattle.formula_records.specs.RecordTables.{IsIn, none, only, union}
use Rattle.formula_records.specs.Recs.{Columns, field_in, leads, through}
use Rattle.renamed_values.specs.HeldRecords.{ItemOf, RecordsOf}

-- what is in the first is in the second
abbrev pub Within : RecordTables → RecordTables → Type 0
Within p q = (t : List ℕ) → IsIn p t → IsIn q t

pub in_left : (p q : RecordTables) → Within p (union p q)
in_left Any q t h = tt
in_left (These ts) Any t h = tt
in_left (These ts) (These us) t h = list_any-append (λ u. bytes_eq u t) ts us ∙ or_left (list_any (λ u. bytes_eq u t) ts) (list_any (λ u. bytes_eq u t) us) h

pub in_right : (p q : RecordTables) → Within q (union p q)
in_right Any q t h = tt
in_right (These ts) Any t h = tt
in_right (These ts) (These us) t h = list_any-append (λ u. bytes_eq u t) ts us ∙ or_right (list_any (λ u. bytes_eq u t) ts) (list_any (λ u. bytes_eq u t) us) h

pub in_none : (q : RecordTables) → Within none q
in_none q t h = absurd (cc)

pub in_any : (q : RecordTables) → Within q Any
in_any q t h = tt

item_wider : (p q : RecordTables) → Within p q → (i : CellItem) → ItemOf p i → ItemOf q i
item_wider p q w item.Null h = tt
item_wider p q w (item.Int n) h = tt
item_wider p q w (item.Bool b) h = tt
item_wider p q w (item.Text t) h = tt
item_wider p q w (item.Date n) h = tt
item_wider p q w (item.Rec r) h = (h.0, w r.table h.1)

pub items_wider : (p q : RecordTables) → Within p q → (is : List CellItem) → AllByRecursion (ItemOf p) is → AllByRecursion (ItemOf q) is
items_wider p q w [] h = tt
items_wider p q w (i ∷ is) h = (item_wider p q w i h.0, items_wider p q w is h.1)

pub wider : (p q : RecordTables) → Within p q → (v : CellValue) → RecordsOf p v → RecordsOf q v
wider p q w value.Null h = tt
wider p q w (value.Int n) h = tt
wider p q w (value.Bool b) h = tt
wider p q w (value.Text t) h = tt
wider p q w (value.Date n) h = tt
wider p q w (value.Rec r) h = (h.0, w r.table h.1)
wider p q w (value.RecSet s) h = (h.0, w s.table h.1)
wider p q w (value.List is) h = items_wider p q w is h
wider p q w (value.Err e) h = tt
wider p q w value.Censored h = tt

pub is_itself : (t : List ℕ) → IsIn (only t) t
is_itself t = or_left (bytes_eq t t) false ((bytes_eq-Decides t t).1 refl)

-- the attribute of a record of one of the tables
in_through : (k : Columns) (ts : List (List ℕ)) (t n : List ℕ) → list_any (λ u. bytes_eq u t) ts ≡ true → Within (leads (k t n)) (through k ts n)
in_through k [] t n h = absurd (cc)
in_through k (u ∷ ts) t n h = by (bytes_eq u t) refl (in_through k ts t n)
  where
    by : (b : Bool) → bytes_eq u t ≡ b → (list_any (λ u. bytes_eq u t) ts ≡ true → Within (leads (k t n)) (through k ts n)) → Within (leads (k t n)) (through k (u ∷ ts) n)
    by true e later = subst (λ (w : List ℕ). Within (leads (k w n)) (through k (u ∷ ts) n)) ((bytes_eq-Decides u t).0 e) (in_left (leads (k u n)) (through k ts n))
    by false e later = λ w g. in_right (leads (k u n)) (through k ts n) w (later (cc) w g)

pub in_field : (k : Columns) (q : RecordTables) (t n : List ℕ) → IsIn q t → Within (leads (k t n)) (field_in k q n)
in_field k Any t n h = in_any (leads (k t n))
in_field k (These ts) t n h = in_through k ts t n h
