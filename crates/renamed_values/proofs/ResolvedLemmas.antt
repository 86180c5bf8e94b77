-- Where each use of a name can be resolved, each is replaced as it has to be.
use Rattle.std.proofs.Common.{◌≡◌, ◌∙◌, ap, arith, refl, subst, sym, ℕ, ◌+◌, Bool, true, false, cond, not, ◌&&◌, ◌||◌, List, [], ◌∷◌, ◌++◌, bytes_eq}
use Rattle.std.specs.Bool.{⊤}
use Rattle.std.specs.List.{AllByRecursion, list_all, list_any}
use Rattle.std.proofs.lemmas.Bool.{false≢true}
use Rattle.std.proofs.lemmas.List.Sums.{sum_by-cons}
use Rattle.std.proofs.lemmas.Slice.Eq.{bytes_eq-Decides}
use Rattle.formula_parse.specs.Tree.{Tree, number, text, constant, dollar, binary, prefix, conditional, parentheses, list, call, attribute, every, lookup, atom, Trees, no_trees, one_more, Keys, no_keys, one_key}
use Rattle.formula_records.specs.declared.tables.RecordTables.{RecordTables}
use Rattle.formula_records.specs.declared.tables.RecordTables.TheVariants.{Any, These}
use Rattle.formula_records.specs.RecordTables.{only}
use Rattle.formula_records.specs.Recs.{Columns, recs}
use Rattle.formula_eval.proofs.Notes.{all_append}
use Rattle.rename_marks.specs.declared.column_rename.ColumnRename.{ColumnRename}
use Rattle.rename_marks.specs.Scope.{in_column, rename_in}
use Rattle.rename_marks.specs.ScopeUses.{key_uses, uses, uses_each}
use Rattle.rename_marks.specs.Uses.{Use, has_table, is_exactly, is_unresolved, unresolved_among, use_of}
use Rattle.rename_texts.specs.Laws.{AllFree, IsFree, KeysFree}
use Rattle.renamed_values.specs.Resolved.{ResolvedLaw}
use Rattle.renamed_values.specs.SameEv.{AllFit, EachFits, Fits, IsKept, KeysFit, moved}
use Rattle.renamed_values.proofs.RecordTableLemmas.{is_itself}

-- none counted is none there
first_no : (b : Bool) (n : ℕ) → cond b 1 0 + n ≡ 0 → b ≡ false
first_no true n h = absurd (over n h)
  where
    over : (n : ℕ) → 1 + n ≡ 0 → ⊥
    over n h = omega arith
first_no false n h = refl

others_none : (m n : ℕ) → m + n ≡ 0 → n ≡ 0
others_none m n h = omega arith

module _ (m : ColumnRename) where
  abbrev pub IsResolved : Use → Type 0
  IsResolved u = is_unresolved m u ≡ false

  abbrev pub AllResolved : List Use → Type 0
  AllResolved us = AllByRecursion IsResolved us

  pub all_resolved : (us : List Use) → unresolved_among m us ≡ 0 → AllResolved us
  all_resolved [] h = tt
  all_resolved (u ∷ us) h =
      let sum = sym (sum_by-cons (λ v. cond (is_unresolved m v) 1 0) u us) ∙ h in
      (first_no (is_unresolved m u) (unresolved_among m us) sum, all_resolved us (others_none (cond (is_unresolved m u) 1 0) (unresolved_among m us) sum))

  pub parts : (us vs : List Use) → AllResolved (us ++ vs) → AllResolved us × AllResolved vs
  parts us vs h = all_append IsResolved us vs h

  -- ---- one use

  -- where all are the renamed table, none is another
  only_that : (ts : List (List ℕ)) (t : List ℕ) → list_all (λ u. bytes_eq u m.table) ts ≡ true → list_any (λ u. bytes_eq u t) ts ≡ true → bytes_eq t m.table ≡ true
  only_that [] t h g = absurd (false≢true g)
  only_that (u ∷ ts) t h g = by (bytes_eq u m.table) (bytes_eq u t) refl refl (only_that ts t) h g
    where
      by : (a b : Bool) → bytes_eq u m.table ≡ a → bytes_eq u t ≡ b
          → (list_all (λ u. bytes_eq u m.table) ts ≡ true → list_any (λ u. bytes_eq u t) ts ≡ true → bytes_eq t m.table ≡ true)
          → (a && list_all (λ u. bytes_eq u m.table) ts) ≡ true → (b || list_any (λ u. bytes_eq u t) ts) ≡ true → bytes_eq t m.table ≡ true
      by true true e f later h g = ap (λ (w : List ℕ). bytes_eq w m.table) (sym ((bytes_eq-Decides u t).0 f)) ∙ e
      by true false e f later h g = later h g
      by false b e f later h g = absurd (false≢true h)

  any_fits : (n : List ℕ) (a o w : Bool) → (o || w) ≡ false → ((a && w) ≡ false) × (cond (a && o) m.new n ≡ n)
  any_fits n a true w h = absurd (false≢true (sym h))
  any_fits n a false true h = absurd (false≢true (sym h))
  any_fits n true false false h = (refl, refl)
  any_fits n false false false h = (refl, refl)

  -- whether it is the renamed table, one of the tables is, all are, and whether it is the old name or the new
  these_fit : (n : List ℕ) (a has all o w : Bool) → (a ≡ true → has ≡ true) → (all ≡ true → a ≡ true) → (has && (w || (o && not (has && all)))) ≡ false
      → ((a && w) ≡ false) × (cond (a && o) m.new n ≡ cond ((has && all) && o) m.new n)
  these_fit n true false all o w f g h = absurd (false≢true (f refl))
  these_fit n true true all o true f g h = absurd (false≢true (sym h))
  these_fit n true true true true false f g h = (refl, refl)
  these_fit n true true false true false f g h = absurd (false≢true (sym h))
  these_fit n true true true false false f g h = (refl, refl)
  these_fit n true true false false false f g h = (refl, refl)
  these_fit n false has true o w f g h = absurd (false≢true (g refl))
  these_fit n false true false o w f g h = (refl, refl)
  these_fit n false false false o w f g h = (refl, refl)

  pub use_fits : (q : RecordTables) (n : List ℕ) → IsResolved (use_of q n) → Fits m q n (cond (is_exactly m q && bytes_eq n m.old) m.new n)
  use_fits Any n h t i = any_fits n (bytes_eq t m.table) (bytes_eq n m.old) (bytes_eq n m.new) h
  use_fits (These ts) n h t i =
      these_fit n (bytes_eq t m.table) (has_table m.table ts) (list_all (λ u. bytes_eq u m.table) ts) (bytes_eq n m.old) (bytes_eq n m.new)
      (λ e. subst (λ (w : List ℕ). list_any (λ u. bytes_eq u w) ts ≡ true) ((bytes_eq-Decides t m.table).0 e) i)
      (λ e. only_that ts t e i) h

  key_fits : (t n : List ℕ) → IsResolved (use_of (only t) n) → IsKept m t n × (moved m t n ≡ cond (is_exactly m (only t) && bytes_eq n m.old) m.new n)
  key_fits t n h = use_fits (only t) n h t (is_itself t)

  -- a key of a lookup of the renamed table is not the new name
  key_free : (t n : List ℕ) → IsResolved (use_of (only t) n) → cond (is_exactly m (only t)) (bytes_eq n m.new ≡ false) ⊤
  key_free t n h = by (bytes_eq t m.table) (bytes_eq n m.new) (bytes_eq n m.old) h
    where
      by : (a w o : Bool) → ((a || false) && (w || (o && not ((a || false) && (a && true))))) ≡ false → cond ((a || false) && (a && true)) (w ≡ false) ⊤
      by true true o h = h
      by true false o h = refl
      by false w o h = tt

  -- ---- formulas

  module _ (k : Columns) (own : List ℕ) where
    mutual
      tree_fits : (t : Tree) → AllResolved (uses (in_column k own) t) → AllFit m (rename_in m (in_column k own)) k own t
      tree_fits (number n) h = tt
      tree_fits (text s) h = tt
      tree_fits (constant c) h = tt
      tree_fits (dollar n) h = use_fits (only own) n h.0
      tree_fits (binary o a b) h = let p = parts (uses (in_column k own) a) (uses (in_column k own) b) h in (tree_fits a p.0, tree_fits b p.1)
      tree_fits (prefix o a) h = tree_fits a h
      tree_fits (conditional a c b) h =
          let p = parts (uses (in_column k own) a) (uses (in_column k own) c ++ uses (in_column k own) b) h in
          let q = parts (uses (in_column k own) c) (uses (in_column k own) b) p.1 in
          (tree_fits a p.0, tree_fits c q.0, tree_fits b q.1)
      tree_fits (parentheses a) h = tree_fits a h
      tree_fits (list ts) h = each_fits ts h
      tree_fits (call n ts) h = each_fits ts h
      tree_fits (attribute a n) h =
          let p = parts (uses (in_column k own) a) (use_of (recs k own a) n ∷ []) h in
          (tree_fits a p.0, use_fits (recs k own a) n p.1.0)
      tree_fits (every t) h = tt
      tree_fits (lookup l t ks) h = keys_fit t ks h
      tree_fits (atom a) h = tt

      each_fits : (ts : Trees) → AllResolved (uses_each (in_column k own) ts) → EachFits m (rename_in m (in_column k own)) k own ts
      each_fits no_trees h = tt
      each_fits (one_more t ts) h = let p = parts (uses (in_column k own) t) (uses_each (in_column k own) ts) h in (tree_fits t p.0, each_fits ts p.1)

      keys_fit : (t : List ℕ) (ks : Keys) → AllResolved (key_uses (in_column k own) t ks) → KeysFit m (rename_in m (in_column k own)) k own t ks
      keys_fit t no_keys h = tt
      keys_fit t (one_key n a ks) h =
          let f = key_fits t n h.0 in
          let p = parts (uses (in_column k own) a) (key_uses (in_column k own) t ks) h.1 in
          (f.0, f.1, tree_fits a p.0, keys_fit t ks p.1)

    mutual
      tree_free : (t : Tree) → AllResolved (uses (in_column k own) t) → IsFree (rename_in m (in_column k own)) t
      tree_free (number n) h = tt
      tree_free (text s) h = tt
      tree_free (constant c) h = tt
      tree_free (dollar n) h = tt
      tree_free (binary o a b) h = let p = parts (uses (in_column k own) a) (uses (in_column k own) b) h in (tree_free a p.0, tree_free b p.1)
      tree_free (prefix o a) h = tree_free a h
      tree_free (conditional a c b) h =
          let p = parts (uses (in_column k own) a) (uses (in_column k own) c ++ uses (in_column k own) b) h in
          let q = parts (uses (in_column k own) c) (uses (in_column k own) b) p.1 in
          (tree_free a p.0, tree_free c q.0, tree_free b q.1)
      tree_free (parentheses a) h = tree_free a h
      tree_free (list ts) h = each_free ts h
      tree_free (call n ts) h = each_free ts h
      tree_free (attribute a n) h = tree_free a (parts (uses (in_column k own) a) (use_of (recs k own a) n ∷ []) h).0
      tree_free (every t) h = tt
      tree_free (lookup l t ks) h = keys_free t ks h
      tree_free (atom a) h = tt

      each_free : (ts : Trees) → AllResolved (uses_each (in_column k own) ts) → AllFree (rename_in m (in_column k own)) ts
      each_free no_trees h = tt
      each_free (one_more t ts) h = let p = parts (uses (in_column k own) t) (uses_each (in_column k own) ts) h in (tree_free t p.0, each_free ts p.1)

      keys_free : (t : List ℕ) (ks : Keys) → AllResolved (key_uses (in_column k own) t ks) → KeysFree (rename_in m (in_column k own)) (is_exactly m (only t)) ks
      keys_free t no_keys h = tt
      keys_free t (one_key n a ks) h =
          let p = parts (uses (in_column k own) a) (key_uses (in_column k own) t ks) h.1 in
          (key_free t n h.0, tree_free a p.0, keys_free t ks p.1)

pub resolved_fit : ResolvedLaw
resolved_fit m k own t h = (tree_fits m k own t (all_resolved m (uses (in_column k own) t) h), tree_free m k own t (all_resolved m (uses (in_column k own) t) h))
