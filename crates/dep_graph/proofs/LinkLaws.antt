-- A cell put under reads one by one, and taken from there.
use Rattle.std.proofs.Common.{ℕ, zero, suc, Bool, true, false, cond, not, ◌&&◌, ◌||◌, List, [], ◌∷◌, ◌+◌, take, get_or, length, ◌≡◌, ◌<◌, refl, sym, ap, ◌∙◌, subst, arith}
use Rattle.std.proofs.lemmas.Bool.{true≢false}
use Rattle.doc_model.proofs.Choices.{or_false}
use Rattle.dep_graph.specs.declared.numbers.CellNumber.{CellNumber}
use Rattle.dep_graph.specs.declared.numbers.ReadNumber.{ReadNumber}
use Rattle.dep_graph.specs.declared.numbers.ReadNumber.TheVariants as read
use Rattle.dep_graph.specs.Numbers.{is_cell, is_read}
use Rattle.dep_graph.specs.NumberLaws.{same_cell, same_read, read_itself, read_turned}
use Rattle.dep_graph.specs.Readers.{ReaderLists, links, HasColumns, HasSameLinks, IsBackable, IsLinked, IsUnlinked}
use Rattle.dep_graph.specs.Records.{holds, IsExchanged, IsJoined, IsParted}

-- what a place past the end of a list reads
abbrev pub no_read : ReadNumber
no_read = read.Cell (record { column = record { table = 0; column = 0 }; row = 0 })

-- one read more
holds_more : (reads : List ReadNumber) (i : ℕ) (x q : ReadNumber) → i < length reads → x ≡ get_or reads i x → holds (take (suc i) reads) q ≡ (holds (take i reads) q || is_read q x)
holds_more [] i x q l e = absurd (omega arith)
holds_more (r ∷ reads) zero x q l e = ap (λ p. is_read q p || false) (sym e) ∙ or_false (is_read q x)
holds_more (r ∷ reads) (suc i) x q l e = ap (λ b. is_read q r || b) (holds_more reads i x q (omega arith) e) ∙ regroup (is_read q r) (holds (take i reads) q) (is_read q x)
  where
    regroup : (a b c : Bool) → (a || (b || c)) ≡ ((a || b) || c)
    regroup true b c = refl
    regroup false b c = refl

pub holds_at : (reads : List ReadNumber) (i : ℕ) (x : ReadNumber) → i < length reads → x ≡ get_or reads i x → holds reads x ≡ true
holds_at [] i x l e = absurd (omega arith)
holds_at (r ∷ reads) zero x l e = ap (λ p. is_read x p || holds reads x) (sym e) ∙ ap (λ b. b || holds reads x) (read_itself x)
holds_at (r ∷ reads) (suc i) x l e = ap (λ b. is_read x r || b) (holds_at reads i x (omega arith) e) ∙ or_true (is_read x r)
  where
    or_true : (a : Bool) → (a || true) ≡ true
    or_true true = refl
    or_true false = refl

pub joined_step : (old now new : ReaderLists) (reads : List ReadNumber) (i : ℕ) (x : ReadNumber) (cell : CellNumber) → i < length reads → x ≡ get_or reads i x
    → IsJoined old now (take i reads) cell → IsLinked now new x cell → IsJoined old new (take (i + 1) reads) cell
joined_step old now new reads i x cell l e before linked q c =
    let next : suc i ≡ i + 1 = omega arith in
    linked q c ∙ ap (λ b. b || (is_read x q && is_cell cell c)) (before q c) ∙ ap (λ b. (links old q c || (holds (take i reads) q && is_cell cell c)) || (b && is_cell cell c)) (read_turned x q)
    ∙ joined (links old q c) (holds (take i reads) q) (is_read q x) (is_cell cell c)
    ∙ ap (λ t. links old q c || (t && is_cell cell c)) (sym (holds_more reads i x q l e))
    ∙ ap (λ n. links old q c || (holds (take n reads) q && is_cell cell c)) next
  where
    joined : (b t x e : Bool) → ((b || (t && e)) || (x && e)) ≡ (b || ((t || x) && e))
    joined true t x e = refl
    joined false true x true = refl
    joined false true true false = refl
    joined false true false false = refl
    joined false false x e = refl

pub parted_step : (old now new : ReaderLists) (gone kept : List ReadNumber) (i : ℕ) (x : ReadNumber) (cell : CellNumber) → i < length gone → x ≡ get_or gone i x
    → IsParted old now (take i gone) kept cell → IsParted now new (x ∷ []) kept cell → IsParted old new (take (i + 1) gone) kept cell
parted_step old now new gone kept i x cell l e before one q c =
    let next : suc i ≡ i + 1 = omega arith in
    one q c ∙ ap (λ b. b && not (((is_read q x || false) && not (holds kept q)) && is_cell cell c)) (before q c)
    ∙ parted (links old q c) (holds (take i gone) q) (is_read q x) (not (holds kept q)) (is_cell cell c)
    ∙ ap (λ t. links old q c && not ((t && not (holds kept q)) && is_cell cell c)) (sym (holds_more gone i x q l e))
    ∙ ap (λ n. links old q c && not ((holds (take n gone) q && not (holds kept q)) && is_cell cell c)) next
  where
    parted : (b t x k e : Bool) → ((b && not ((t && k) && e)) && not (((x || false) && k) && e)) ≡ (b && not (((t || x) && k) && e))
    parted false t x k e = refl
    parted true true x true true = refl
    parted true true true true false = refl
    parted true true false true false = refl
    parted true true true false e = refl
    parted true true false false e = refl
    parted true false true k e = refl
    parted true false false k e = refl

-- one read, where it is not kept, or is
pub parted_one : (old new : ReaderLists) (read : ReadNumber) (kept : List ReadNumber) (cell : CellNumber) → holds kept read ≡ false → IsUnlinked old new read cell → IsParted old new (read ∷ []) kept cell
parted_one old new read kept cell apart h q c = h q c ∙ by (is_read read q) refl
  where
    by : (a : Bool) → is_read read q ≡ a → (links old q c && not (a && is_cell cell c)) ≡ (links old q c && not (((is_read q read || false) && not (holds kept q)) && is_cell cell c))
    by true is =
        let k : holds kept q ≡ false = subst (λ p. holds kept p ≡ false) (same_read read q is) apart in
        ap (λ b. links old q c && not (b && is_cell cell c)) (sym (ap (λ b. (b || false) && not (holds kept q)) (sym (read_turned read q) ∙ is) ∙ ap not k))
    by false is = ap (λ b. links old q c && not (b && is_cell cell c)) (sym (ap (λ b. (b || false) && not (holds kept q)) (sym (read_turned read q) ∙ is)))

pub kept_one : (l : ReaderLists) (read : ReadNumber) (kept : List ReadNumber) (cell : CellNumber) → holds kept read ≡ true → IsParted l l (read ∷ []) kept cell
kept_one l read kept cell there q c = by (is_read read q) refl
  where
    all : (b : Bool) → b ≡ (b && true)
    all true = refl
    all false = refl

    by : (a : Bool) → is_read read q ≡ a → links l q c ≡ (links l q c && not (((is_read q read || false) && not (holds kept q)) && is_cell cell c))
    by true is =
        let k : holds kept q ≡ true = subst (λ p. holds kept p ≡ true) (same_read read q is) there in
        all (links l q c) ∙ ap (λ b. links l q c && not (b && is_cell cell c)) (sym (ap (λ b. (is_read q read || false) && not b) k ∙ and_false (is_read q read || false)))
      where
        and_false : (b : Bool) → (b && false) ≡ false
        and_false true = refl
        and_false false = refl
    by false is = all (links l q c) ∙ ap (λ b. links l q c && not (b && is_cell cell c)) (sym (ap (λ b. (b || false) && not (holds kept q)) (sym (read_turned read q) ∙ is)))

-- a cell that is under a read can be put back there
pub linked_backable : (l : ReaderLists) (q : ReadNumber) (c : CellNumber) → HasColumns l → links l q c ≡ true → IsBackable l q c
linked_backable l q c whole there = record { column = whole q c there; room = λ apart. absurd (true≢false (sym there ∙ apart)) }

-- reads away, and others put back
pub exchanged : (old now new : ReaderLists) (gone reads : List ReadNumber) (cell : CellNumber) → IsParted old now gone [] cell → IsJoined now new reads cell → IsExchanged old new gone reads cell
exchanged old now new gone reads cell parted joined q c =
    joined q c ∙ ap (λ b. b || (holds reads q && is_cell cell c)) (parted q c ∙ ap (λ b. links old q c && not (b && is_cell cell c)) (and_true (holds gone q)))
  where
    and_true : (b : Bool) → (b && true) ≡ b
    and_true true = refl
    and_true false = refl

-- what was linked taken away again, and what was there put back
pub undone : (old now new : ReaderLists) (front had : List ReadNumber) (cell : CellNumber) → ((q : ReadNumber) → links old q cell ≡ holds had q)
    → IsJoined old now front cell → IsExchanged now new front had cell → HasSameLinks old new
undone old now new front had cell were joined back q c = back q c ∙ ap (λ b. (b && not (holds front q && is_cell cell c)) || (holds had q && is_cell cell c)) (joined q c) ∙ by (is_cell cell c) refl
  where
    here : (b f : Bool) → (((b || (f && true)) && not (f && true)) || (b && true)) ≡ b
    here true true = refl
    here true false = refl
    here false true = refl
    here false false = refl

    away : (b f h : Bool) → (((b || (f && false)) && not (f && false)) || (h && false)) ≡ b
    away true true h = refl
    away true false h = refl
    away false true true = refl
    away false true false = refl
    away false false true = refl
    away false false false = refl

    by : (e : Bool) → is_cell cell c ≡ e → (((links old q c || (holds front q && e)) && not (holds front q && e)) || (holds had q && e)) ≡ links old q c
    by true is =
        let was : links old q c ≡ holds had q = subst (λ d. links old q d ≡ holds had q) (same_cell cell c is) (were q) in
        ap (λ b. ((links old q c || (holds front q && true)) && not (holds front q && true)) || (b && true)) (sym was) ∙ here (links old q c) (holds front q)
    by false is = away (links old q c) (holds front q) (holds had q)

-- a set with one read more
pub set_step : (old new reads : List ReadNumber) (i : ℕ) (x : ReadNumber) → i < length reads → x ≡ get_or reads i x → ((q : ReadNumber) → holds old q ≡ holds (take i reads) q)
    → ((q : ReadNumber) → holds new q ≡ cond (is_read x q) true (holds old q)) → (q : ReadNumber) → holds new q ≡ holds (take (i + 1) reads) q
set_step old new reads i x l e before put q =
    let next : suc i ≡ i + 1 = omega arith in
    put q ∙ ap (λ b. cond (is_read x q) true b) (before q) ∙ ap (λ b. cond b true (holds (take i reads) q)) (read_turned x q) ∙ either (is_read q x) (holds (take i reads) q)
    ∙ sym (holds_more reads i x q l e) ∙ ap (λ n. holds (take n reads) q) next
  where
    either : (a b : Bool) → cond a true b ≡ (b || a)
    either true true = refl
    either true false = refl
    either false b = sym (or_false b)
