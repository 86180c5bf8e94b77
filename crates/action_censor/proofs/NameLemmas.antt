-- Names that are noted once, and the tables that steps are about.
use Rattle.std.proofs.Common.{ℕ, zero, suc, ◌+◌, ◌<◌, Bool, true, false, cond, ◌&&◌, ◌||◌, List, [], ◌∷◌, ◌++◌, map, filter, drop, drop-cons, add-one, length, get_or, ◌≡◌, refl, sym, ap, ◌∙◌, arith}
use Rattle.std.proofs.lemmas.Bool.{and_parts, or_parts, or_right}
use Rattle.std.proofs.lemmas.List.Folds.{list_any-append}
use Rattle.std.proofs.lemmas.Slice.Eq.{bytes_eq-Decides}
use Rattle.std.specs.List.{AllByRecursion, list_any}
use Rattle.std.specs.Str.{bytes_eq}
use Rattle.cell_types.specs.declared.cell.CellOld.{CellOld}
use Rattle.doc_model.specs.declared.action.DocAction.{DocAction}
use Rattle.doc_model.specs.declared.action.DocAction.TheVariants.{BulkAdd, BulkUpdate, BulkRemove, AddTable, RemoveTable, RenameTable, AddColumn, RemoveColumn, RenameColumn, ModifyColumn}
use Rattle.doc_model.specs.ByIds.{AreDistinct}
use Rattle.doc_model.specs.Touched.{names_table}
use Rattle.doc_model.proofs.ByIdsLaws.{bytes_itself}
use Rattle.doc_model.proofs.Choices.{or_assoc, or_false}
use Rattle.action_censor.specs.declared.steps.StepTrace.{StepTrace}
use Rattle.action_censor.specs.Step.{Step, are_records, is_of_records, is_table_in, is_table_of, step_of}
use Rattle.action_censor.specs.Touched.{table_named, tables_in, tables_told, with_name, with_names}

abbrev pub itself : List ℕ → List ℕ
itself n = n

-- whether a name is one of these
abbrev pub is_named : List (List ℕ) → List ℕ → Bool
is_named names c = list_any (λ m. bytes_eq m c) names

pub names_append : (names xs ys : List (List ℕ)) → with_names names (xs ++ ys) ≡ with_names (with_names names xs) ys
names_append names [] ys = refl
names_append names (x ∷ xs) ys = names_append (with_name names x) xs ys

-- ---- what is noted

or_known : (a b : Bool) → (b ≡ true → a ≡ true) → a ≡ (a || b)
or_known true b known = refl
or_known false true known = known refl
or_known false false known = refl

named-with_name : (names : List (List ℕ)) (n c : List ℕ) → is_named (with_name names n) c ≡ (is_named names c || bytes_eq n c)
named-with_name names n c =
    elim (is_named names n) as (λ b. is_named names n ≡ b → is_named (cond b names (names ++ n ∷ [])) c ≡ (is_named names c || bytes_eq n c)) [
      | true ↦ λ there. or_known (is_named names c) (bytes_eq n c) (λ is. ap (is_named names) (sym ((bytes_eq-Decides n c).0 is)) ∙ there)
      | false ↦ λ _. list_any-append (λ m. bytes_eq m c) names (n ∷ []) ∙ ap (λ b. is_named names c || b) (or_false (bytes_eq n c))
    ] refl

pub named-with_names : (names ns : List (List ℕ)) (c : List ℕ) → is_named (with_names names ns) c ≡ (is_named names c || is_named ns c)
named-with_names names [] c = sym (or_false (is_named names c))
named-with_names names (n ∷ ns) c =
    named-with_names (with_name names n) ns c
    ∙ ap (λ b. b || is_named ns c) (named-with_name names n c)
    ∙ sym (or_assoc (is_named names c) (bytes_eq n c) (is_named ns c))

pub each_last : {X : Type 0} (P : X → Type 0) (xs : List X) (x : X) → AllByRecursion P xs → P x → AllByRecursion P (xs ++ x ∷ [])
each_last P [] x each last = (last, tt)
each_last P (y ∷ xs) x each last = (each.0, each_last P xs x each.1 last)

distinct_last : (names : List (List ℕ)) (n : List ℕ) → AreDistinct itself names → is_named names n ≡ false → AreDistinct itself (names ++ n ∷ [])
distinct_last [] n distinct new = (tt, tt)
distinct_last (m ∷ names) n distinct new =
    let two : (bytes_eq m n ≡ false) × (is_named names n ≡ false) = or_parts (bytes_eq m n) (is_named names n) new in
    (each_last (λ y. bytes_eq m y ≡ false) names n distinct.0 two.0, distinct_last names n distinct.1 two.1)

distinct_name : (names : List (List ℕ)) (n : List ℕ) → AreDistinct itself names → AreDistinct itself (with_name names n)
distinct_name names n distinct =
    elim (is_named names n) as (λ b. is_named names n ≡ b → AreDistinct itself (cond b names (names ++ n ∷ []))) [
      | true ↦ λ _. distinct
      | false ↦ λ new. distinct_last names n distinct new
    ] refl

pub distinct_names : (names ns : List (List ℕ)) → AreDistinct itself names → AreDistinct itself (with_names names ns)
distinct_names names [] distinct = distinct
distinct_names names (n ∷ ns) distinct = distinct_names (with_name names n) ns (distinct_name names n distinct)

-- ---- the tables that steps are about

action_named : (a : DocAction) (t : List ℕ) → is_of_records a ≡ true → is_named (table_named a) t ≡ names_table a t
action_named (BulkAdd table rows ks) t is = or_false (bytes_eq table t)
action_named (BulkUpdate table rows ks) t is = or_false (bytes_eq table t)
action_named (BulkRemove table rows) t is = or_false (bytes_eq table t)
action_named (AddTable table row columns) t is = absurd (cc)
action_named (RemoveTable table) t is = absurd (cc)
action_named (RenameTable table new) t is = absurd (cc)
action_named (AddColumn table d) t is = absurd (cc)
action_named (RemoveColumn table column) t is = absurd (cc)
action_named (RenameColumn table column new) t is = absurd (cc)
action_named (ModifyColumn table column info) t is = absurd (cc)

cells_named : (cells : List CellOld) (t : List ℕ) → is_named (map (λ (o : CellOld). o.cell.table) cells) t ≡ list_any (λ (o : CellOld). bytes_eq o.cell.table t) cells
cells_named [] t = refl
cells_named (o ∷ cells) t = ap (λ b. bytes_eq o.cell.table t || b) (cells_named cells t)

step_named : (k : Step) (t : List ℕ) → is_of_records k.action ≡ true → is_named (tables_in k) t ≡ is_table_in k t
step_named k t is =
    list_any-append (λ m. bytes_eq m t) (table_named k.action) (map (λ (o : CellOld). o.cell.table) k.cells)
    ∙ ap (λ b. b || is_named (map (λ (o : CellOld). o.cell.table) k.cells) t) (action_named k.action t is)
    ∙ ap (λ b. names_table k.action t || b) (cells_named k.cells t)

pub steps_named : (ks : List Step) (t : List ℕ) → are_records ks ≡ true → is_named (tables_told ks) t ≡ is_table_of ks t
steps_named [] t is = refl
steps_named (k ∷ ks) t is =
    let two : (is_of_records k.action ≡ true) × (are_records ks ≡ true) = and_parts (is_of_records k.action) (are_records ks) is in
    list_any-append (λ m. bytes_eq m t) (tables_in k) (tables_told ks)
    ∙ ap (λ b. b || is_named (tables_told ks) t) (step_named k t two.0)
    ∙ ap (λ b. is_table_in k t || b) (steps_named ks t two.1)

-- one step more is noted
pub step_noted : (steps : List StepTrace) (i : ℕ) (k : StepTrace) (old new all : List (List ℕ)) → i < length steps → k ≡ get_or steps i k → new ≡ with_names old (tables_in (step_of k))
    → with_names old (tables_told (map step_of (drop i steps))) ≡ all → with_names new (tables_told (map step_of (drop (i + 1) steps))) ≡ all
step_noted steps i k old new all lt is noted so =
    let rest : List (List ℕ) = tables_told (map step_of (drop (i + 1) steps)) in
    let left : drop i steps ≡ k ∷ drop (i + 1) steps = rw (add-one i) (drop-cons steps i k lt ∙ ap (λ y. y ∷ drop (suc i) steps) (sym is)) in
    ap (λ l. with_names l rest) noted
    ∙ sym (names_append old (tables_in (step_of k)) rest)
    ∙ ap (λ l. with_names old (tables_told (map step_of l))) (sym left)
    ∙ so

-- ---- names by their indexes, and those that pass

pub named_at : (names : List (List ℕ)) (i : ℕ) (n d : List ℕ) → i < length names → n ≡ get_or names i d → is_named names n ≡ true
named_at [] i n d lt is = absurd (omega (arith, lt))
named_at (m ∷ names) zero n d lt is = ap (λ b. b || is_named names n) (ap (λ x. bytes_eq x n) (sym is) ∙ bytes_itself n)
named_at (m ∷ names) (suc i) n d lt is = or_right (bytes_eq m n) (is_named names n) (named_at names i n d (omega (arith, lt)) is)

never : (b : Bool) → (b && false) ≡ false
never true = refl
never false = refl

pub named-filter : (p : List ℕ → Bool) (names : List (List ℕ)) (c : List ℕ) → is_named (filter p names) c ≡ (is_named names c && p c)
named-filter p [] c = refl
named-filter p (n ∷ names) c =
    elim (bytes_eq n c) as (λ b. bytes_eq n c ≡ b → is_named (cond (p n) (n ∷ filter p names) (filter p names)) c ≡ ((b || is_named names c) && p c)) [
      | true ↦ λ is.
          let same : p n ≡ p c = ap p ((bytes_eq-Decides n c).0 is) in
          elim (p n) as (λ b. p n ≡ b → is_named (cond b (n ∷ filter p names) (filter p names)) c ≡ p c) [
            | true ↦ λ yes'. ap (λ b. b || is_named (filter p names) c) is ∙ sym yes' ∙ same
            | false ↦ λ not'. named-filter p names c ∙ ap (λ b. is_named names c && b) (sym same ∙ not') ∙ never (is_named names c) ∙ sym not' ∙ same
          ] refl
      | false ↦ λ not'.
          elim (p n) as (λ b. is_named (cond b (n ∷ filter p names) (filter p names)) c ≡ (is_named names c && p c)) [
            | true ↦ ap (λ b. b || is_named (filter p names) c) not' ∙ named-filter p names c
            | false ↦ named-filter p names c
          ]
    ] refl
