-- Where two lists of reads differ.
use Rattle.std.proofs.Common.{Bool, true, false, not, ◌&&◌, ◌||◌, List, [], ◌∷◌, ◌++◌, ◌≡◌, refl, sym, ap, ◌∙◌, subst}
use Rattle.std.proofs.lemmas.Bool.{false≢true, true≢false, or_left, or_right}
use Rattle.dep_graph.specs.declared.numbers.CellNumber.{CellNumber}
use Rattle.dep_graph.specs.declared.numbers.ReadNumber.{ReadNumber}
use Rattle.dep_graph.specs.Differing.{AreDiffering}
use Rattle.dep_graph.specs.Numbers.{is_cell, is_read}
use Rattle.dep_graph.specs.NumberLaws.{same_cell, same_read}
use Rattle.dep_graph.specs.Readers.{ReaderLists, links}
use Rattle.dep_graph.specs.Records.{IsJoined, IsParted, holds}

-- ---- lists

or_either : (a b : Bool) (P : Type 0) → (a ≡ true → P) → (b ≡ true → P) → (a || b) ≡ true → P
or_either true b P f g h = f refl
or_either false b P f g h = g h

pub from_not : (b : Bool) → not b ≡ false → b ≡ true
from_not true h = refl
from_not false h = absurd (true≢false h)

holds_append : (xs ys : List ReadNumber) (q : ReadNumber) → holds (xs ++ ys) q ≡ (holds xs q || holds ys q)
holds_append [] ys q = refl
holds_append (x ∷ xs) ys q = ap (λ b. is_read q x || b) (holds_append xs ys q) ∙ by (is_read q x)
  where
    by : (a : Bool) → (a || (holds xs q || holds ys q)) ≡ ((a || holds xs q) || holds ys q)
    by true = refl
    by false = refl

pub differing_none : (left right : List ReadNumber) → AreDiffering left right left right
differing_none left right = record {
  stays = λ q h. or_right (holds right q) (holds left q) h;
  stood = λ q h. or_right (holds left q) (holds right q) h;
  of_left = λ q h. h;
  of_right = λ q h. h;
}

pub differing_next : (left right gone more l r : List ReadNumber) → AreDiffering left right gone more → AreDiffering gone more l r → AreDiffering left right l r
differing_next left right gone more l r a b = record {
  stays = λ q h. or_either (holds right q) (holds gone q) ((holds right q || holds l q) ≡ true) (or_left (holds right q) (holds l q))
      (λ g. or_either (holds more q) (holds l q) ((holds right q || holds l q) ≡ true) (λ m. or_left (holds right q) (holds l q) (a.of_right q m)) (or_right (holds right q) (holds l q)) (b.stays q g)) (a.stays q h);
  stood = λ q h. or_either (holds left q) (holds more q) ((holds left q || holds r q) ≡ true) (or_left (holds left q) (holds r q))
      (λ m. or_either (holds gone q) (holds r q) ((holds left q || holds r q) ≡ true) (λ g. or_left (holds left q) (holds r q) (a.of_left q g)) (or_right (holds left q) (holds r q)) (b.stood q m)) (a.stood q h);
  of_left = λ q h. a.of_left q (b.of_left q h);
  of_right = λ q h. a.of_right q (b.of_right q h);
}

-- without a read that both begin with
differing_front : (x : ReadNumber) (gone more : List ReadNumber) → AreDiffering (x ∷ gone) (x ∷ more) gone more
differing_front x gone more = record {
  stays = λ q h. or_either (is_read q x) (holds gone q) (((is_read q x || holds more q) || holds gone q) ≡ true) (λ e. or_left (is_read q x || holds more q) (holds gone q) (or_left (is_read q x) (holds more q) e)) (or_right (is_read q x || holds more q) (holds gone q)) h;
  stood = λ q h. or_either (is_read q x) (holds more q) (((is_read q x || holds gone q) || holds more q) ≡ true) (λ e. or_left (is_read q x || holds gone q) (holds more q) (or_left (is_read q x) (holds gone q) e)) (or_right (is_read q x || holds gone q) (holds more q)) h;
  of_left = λ q h. or_right (is_read q x) (holds gone q) h;
  of_right = λ q h. or_right (is_read q x) (holds more q) h;
}

-- or end with
differing_back : (x : ReadNumber) (gone more : List ReadNumber) → AreDiffering (gone ++ x ∷ []) (more ++ x ∷ []) gone more
differing_back x gone more = record {
  stays = λ q h. or_either (holds gone q) (holds (x ∷ []) q) ((holds (more ++ x ∷ []) q || holds gone q) ≡ true) (or_right (holds (more ++ x ∷ []) q) (holds gone q))
      (λ e. or_left (holds (more ++ x ∷ []) q) (holds gone q) (holds_append more (x ∷ []) q ∙ or_right (holds more q) (holds (x ∷ []) q) e)) (sym (holds_append gone (x ∷ []) q) ∙ h);
  stood = λ q h. or_either (holds more q) (holds (x ∷ []) q) ((holds (gone ++ x ∷ []) q || holds more q) ≡ true) (or_right (holds (gone ++ x ∷ []) q) (holds more q))
      (λ e. or_left (holds (gone ++ x ∷ []) q) (holds more q) (holds_append gone (x ∷ []) q ∙ or_right (holds gone q) (holds (x ∷ []) q) e)) (sym (holds_append more (x ∷ []) q) ∙ h);
  of_left = λ q h. holds_append gone (x ∷ []) q ∙ or_left (holds gone q) (holds (x ∷ []) q) h;
  of_right = λ q h. holds_append more (x ∷ []) q ∙ or_left (holds more q) (holds (x ∷ []) q) h;
}

pub front_step : (left right gone more l r : List ReadNumber) (x y : ReadNumber) → AreDiffering left right gone more → gone ≡ x ∷ l → more ≡ y ∷ r → is_read x y ≡ true → AreDiffering left right l r
front_step left right gone more l r x y a first second same =
    differing_next left right gone more l r a (subst (λ g. AreDiffering g more l r) (sym first) (subst (λ m. AreDiffering (x ∷ l) m l r) (sym (second ∙ ap (λ z. z ∷ r) (sym (same_read x y same)))) (differing_front x l r)))

pub back_step : (left right gone more l r : List ReadNumber) (x y : ReadNumber) → AreDiffering left right gone more → gone ≡ l ++ x ∷ [] → more ≡ r ++ y ∷ [] → is_read x y ≡ true → AreDiffering left right l r
back_step left right gone more l r x y a first second same =
    differing_next left right gone more l r a (subst (λ g. AreDiffering g more l r) (sym first) (subst (λ m. AreDiffering (l ++ x ∷ []) m l r) (sym (second ∙ ap (λ z. r ++ z ∷ []) (sym (same_read x y same)))) (differing_back x l r)))

-- ---- links

module _ (left right gone more : List ReadNumber) (cell : CellNumber) (apart : AreDiffering left right gone more) where
  -- what is put under the reads that are more is under all
  pub joined_all : (old new : ReaderLists) → ((q : ReadNumber) → links old q cell ≡ holds left q) → IsJoined old new more cell → IsJoined old new right cell
  joined_all old new had joined q c = joined q c ∙ by (is_cell cell c) refl
    where
      all : (h m r : Bool) → (r ≡ true → (h || m) ≡ true) → (m ≡ true → r ≡ true) → (h || (m && true)) ≡ (h || (r && true))
      all true m r f g = refl
      all false true true f g = refl
      all false true false f g = absurd (false≢true (g refl))
      all false false true f g = absurd (false≢true (f refl))
      all false false false f g = refl

      none : (h m r : Bool) → (h || (m && false)) ≡ (h || (r && false))
      none true m r = refl
      none false true true = refl
      none false true false = refl
      none false false true = refl
      none false false false = refl

      by : (e : Bool) → is_cell cell c ≡ e → (links old q c || (holds more q && e)) ≡ (links old q c || (holds right q && e))
      by true is =
          let was : links old q c ≡ holds left q = subst (λ d. links old q d ≡ holds left q) (same_cell cell c is) (had q) in
          ap (λ b. b || (holds more q && true)) was ∙ all (holds left q) (holds more q) (holds right q) (apart.stood q) (apart.of_right q) ∙ ap (λ b. b || (holds right q && true)) (sym was)
      by false is = none (links old q c) (holds more q) (holds right q)

  -- what is taken from under the reads that are gone is gone from all that are not kept
  pub parted_all : (old new : ReaderLists) (kept : List ReadNumber) → ((q : ReadNumber) → holds gone q ≡ true → holds kept q ≡ holds right q) → IsParted old new gone kept cell → IsParted old new left right cell
  parted_all old new kept same parted q c = parted q c ∙ ap (λ b. links old q c && not (b && is_cell cell c)) (by (holds gone q) refl)
    where
      still : (h r : Bool) → (h ≡ true → (r || false) ≡ true) → false ≡ (h && not r)
      still true true f = refl
      still true false f = absurd (false≢true (f refl))
      still false r f = refl

      by : (b : Bool) → holds gone q ≡ b → (b && not (holds kept q)) ≡ (holds left q && not (holds right q))
      by true is = ap not (same q is) ∙ ap (λ b. b && not (holds right q)) (sym (apart.of_left q is))
      by false is = still (holds left q) (holds right q) (λ h. ap (λ b. holds right q || b) (sym is) ∙ apart.stays q h)
