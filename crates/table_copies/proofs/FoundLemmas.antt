-- Tables and cells that are found.
use Rattle.std.proofs.Common.{ℕ, zero, suc, ◌+◌, ◌<◌, length, nat_eq, get_or, unwrap_or, subst, arith, Bor, Bool, true, false, cond, List, [], ◌∷◌, ◌++◌, take, slice_get, find, ◌≡◌, refl, sym, ap, ◌∙◌, Some, None, Option}
use Rattle.std.proofs.lemmas.Bool.{false≢true}
use Rattle.std.specs.Option.{IfSome, IsSome, MatchOption, option_map}
use Rattle.std.specs.Str.{bytes_eq}
use Rattle.cell_types.specs.declared.value.CellValue.{CellValue}
use Rattle.cell_types.specs.declared.value.CellValue.TheVariants.{Null}
use Rattle.doc_model.specs.ByIds.{find_id}
use Rattle.doc_model.specs.Document.{Table, Document, table_id}
use Rattle.doc_model.specs.Grid.{beside}
use Rattle.doc_model.specs.Indexes.{row_index}
use Rattle.doc_model.specs.Readers.{table_at}
use Rattle.doc_model.specs.Rows.{IsAscending, has}
use Rattle.doc_model.proofs.Choices.{cond_false}
use Rattle.row_tables.proofs.BesideLaws.{beside_index}
use Rattle.row_tables.proofs.WrittenLaws.{index_found}
use Rattle.censored_view.proofs.PlacedLemmas.{all_taken, take_next}

find_more : {X : Type 0} (p : X → Bool) (xs : List X) (x : X) → find p xs ≡ None → p x ≡ false → find p (xs ++ x ∷ []) ≡ None
find_more p [] x none isnt = cond_false (p x) (Some x) None isnt
find_more p (y ∷ ys) x none isnt =
    elim (p y) as (λ b. cond b (Some y) (find p ys) ≡ None → cond b (Some y) (find p (ys ++ x ∷ [])) ≡ None) [
      | true ↦ λ e. absurd (cc)
      | false ↦ λ e. find_more p ys x e isnt
    ] none

passed_at : (s : Document) (c : List ℕ) (n : ℕ) (id : List ℕ) (o : Option Table) → slice_get s n ≡ o → option_map table_id o ≡ Some id → bytes_eq id c ≡ false
    → find_id table_id c (take n s) ≡ None → find_id table_id c (take (n + 1) s) ≡ None
passed_at s c n id None at told isnt none = absurd (cc)
passed_at s c n id (Some t) at told isnt none =
    let named : t.id ≡ id = cc in
    ap (find_id table_id c) (take_next s n t at) ∙ find_more (λ (u : Table). bytes_eq u.id c) (take n s) t none (ap (λ i. bytes_eq i c) named ∙ isnt)

pub table_passed : (s : Document) (c : List ℕ) (n : ℕ) (id : List ℕ) → table_at s n ≡ Some id → bytes_eq id c ≡ false → find_id table_id c (take n s) ≡ None → find_id table_id c (take (n + 1) s) ≡ None
table_passed s c n id told isnt none = passed_at s c n id (slice_get s n) refl told isnt none

past_at : (s : Document) (n : ℕ) (o : Option Table) → slice_get s n ≡ o → option_map table_id o ≡ None → slice_get s n ≡ None
past_at s n None at told = at
past_at s n (Some t) at told = absurd (cc)

pub table_absent : (s : Document) (c : List ℕ) (n : ℕ) → table_at s n ≡ None → find_id table_id c (take n s) ≡ None → find_id table_id c s ≡ None
table_absent s c n told none = sym (ap (find_id table_id c) (all_taken s n (past_at s n (slice_get s n) refl told))) ∙ none

beside_got : {X : Type 0} (xs : List X) (n : ℕ) (d e : X) → n < length xs → unwrap_or (slice_get xs n) d ≡ get_or xs n e
beside_got [] n d e lt = absurd (omega arith)
beside_got (x ∷ xs) zero d e lt = refl
beside_got (x ∷ xs) (suc n) d e lt = beside_got xs n d e (omega arith)

-- what is read beside a row
pub cell_found : (q i : ℕ) (rows : List ℕ) (cells : List CellValue) (o : Option (Bor CellValue)) → IsAscending rows → length cells ≡ length rows → (has rows q ≡ true) × (i ≡ row_index q rows)
    → (i < length cells → IsSome o) → IfSome o (λ v. v.now ≡ get_or cells i v.now) → MatchOption o (has rows q ≡ false) (λ v. (has rows q ≡ true) × (v.now ≡ beside (λ r. nat_eq r q) rows cells Null))
cell_found q i rows cells None ascends even at some got =
    absurd (false≢true (some (subst (λ n. n < length cells) (sym at.1) (subst (λ n. row_index q rows < n) (sym even) (index_found q rows ascends at.0).0))))
cell_found q i rows cells (Some v) ascends even at some got =
    let within : row_index q rows < length cells = subst (λ n. row_index q rows < n) (sym even) (index_found q rows ascends at.0).0 in
    (at.0, got ∙ ap (λ n. get_or cells n v.now) at.1 ∙ sym (beside_got cells (row_index q rows) Null v.now within) ∙ sym (beside_index q rows cells Null ascends at.0))
