-- What a walk notes, part by part.
use Rattle.std.proofs.Common.{◌≡◌, ◌∙◌, ap, refl, sym, arith, zero-add, ℕ, ◌+◌, ◌≤◌, Bool, true, false, cond, ◌&&◌, List, [], ◌∷◌, ◌++◌, append_assoc, bytes_eq}
use Rattle.std.proofs.lemmas.List.Sums.{sum_by-append}
use Rattle.formula_records.specs.declared.tables.RecordTables.{RecordTables}
use Rattle.formula_records.specs.declared.tables.RecordTables.TheVariants.{Any, These}
use Rattle.rename_marks.specs.declared.column_rename.ColumnRename.{ColumnRename}
use Rattle.rename_marks.specs.declared.marking.Marking.{Marking}
use Rattle.rename_marks.specs.Noted.{capped, counted, max_count, noted, stayed, used}
use Rattle.rename_marks.specs.Uses.{Use, has_table, is_exactly, is_open, is_replaced, is_unresolved, unresolved_among, use_of}

pub counted_append : (r : ColumnRename) (n : ℕ) (us vs : List Use) → counted r n (us ++ vs) ≡ counted r (counted r n us) vs
counted_append r n [] vs = refl
counted_append r n (u ∷ us) vs = counted_append r (cond (is_unresolved r u) (capped (n + 1)) n) us vs

pub noted_twice : (r : ColumnRename) (m : Marking) (ms ns : List Bool) (us vs : List Use) → noted r (noted r m ms us) ns vs ≡ noted r m (ms ++ ns) (us ++ vs)
unfolding noted
noted_twice r m ms ns us vs = λ i. record { marks = append_assoc m.marks ms ns i; unresolved = sym (counted_append r m.unresolved us vs) i }

-- ---- other names

and_false : (b : Bool) → (b && false) ≡ false
and_false true = refl
and_false false = refl

open_not : (r : ColumnRename) (q : RecordTables) → is_open r q false false ≡ false
open_not r Any = refl
open_not r (These ts) = and_false (has_table r.table ts)

pub other_names : (r : ColumnRename) (m : Marking) (q : RecordTables) (n : List ℕ) → bytes_eq n r.old ≡ false → bytes_eq n r.new ≡ false → used r m (use_of q n) ≡ stayed m 1
unfolding used noted stayed
other_names r m q n e f = λ i. record {
  marks = m.marks ++ (replaced i ∷ []);
  unresolved = cond (unresolved i) (capped (m.unresolved + 1)) m.unresolved;
}
  where
    replaced : is_replaced r (use_of q n) ≡ false
    replaced = ap (λ (b : Bool). is_exactly r q && b) e ∙ and_false (is_exactly r q)

    unresolved : is_unresolved r (use_of q n) ≡ false
    unresolved = (λ i. is_open r q (e i) (f i)) ∙ open_not r q

-- ---- the count at the end

capped_more : (n k : ℕ) → capped (capped (n + 1) + k) ≡ capped (n + (1 + k))
capped_more n k = omega arith

among_cons : (r : ColumnRename) (u : Use) (us : List Use) → unresolved_among r (u ∷ us) ≡ cond (is_unresolved r u) 1 0 + unresolved_among r us
among_cons r u us =
    sum_by-append (λ (v : Use). cond (is_unresolved r v) 1 0) (u ∷ []) us
    ∙ ap (λ (k : ℕ). k + unresolved_among r us) (zero-add (cond (is_unresolved r u) 1 0))

pub counted_capped : (r : ColumnRename) (n : ℕ) (us : List Use) → n ≤ max_count → counted r n us ≡ capped (n + unresolved_among r us)
counted_capped r n [] h = omega arith
counted_capped r n (u ∷ us) h =
    by (is_unresolved r u) (counted_capped r (capped (n + 1)) us (omega arith)) (counted_capped r n us h)
    ∙ ap (λ (k : ℕ). capped (n + k)) (sym (among_cons r u us))
  where
    by : (b : Bool) → counted r (capped (n + 1)) us ≡ capped (capped (n + 1) + unresolved_among r us) → counted r n us ≡ capped (n + unresolved_among r us)
        → counted r (cond b (capped (n + 1)) n) us ≡ capped (n + (cond b 1 0 + unresolved_among r us))
    by true more same = more ∙ capped_more n (unresolved_among r us)
    by false more same = same ∙ ap (λ (k : ℕ). capped (n + k)) (omega arith)
