-- Renamed trees are of the grammar, and their names are allowed.
use Rattle.std.proofs.Common.{◌≡◌, ◌∙◌, ap, refl, subst, sym, ℕ, ◌≤◌, Bool, true, false, cond, List, [], ◌∷◌, ◌++◌, map, bytes_eq}
use Rattle.std.specs.Bool.{⊤}
use Rattle.std.proofs.lemmas.Bool.{or_parts}
use Rattle.std.proofs.lemmas.Slice.Eq.{bytes_eq-Decides}
use Rattle.formula_parse.specs.declared.lexeme.Lexeme.{Lexeme}
use Rattle.formula_parse.specs.declared.lexeme.Lexeme.TheVariants.{Number, Text, Name, Dollar, Keyword as Word, Sign as Mark}
use Rattle.formula_parse.specs.declared.operator.Dialect.{Dialect}
use Rattle.formula_parse.specs.Grammar.{group_of, prefix_level}
use Rattle.formula_parse.specs.Levels.{group_left, group_right}
use Rattle.formula_parse.specs.Lexemes.{AllAllowed, IsAllowed, is_field}
use Rattle.formula_parse.specs.Standing.{AllKeysStand, AllStand, Stands, is_among, level_of}
use Rattle.formula_parse.specs.Tree.{Tree, number, text, constant, dollar, binary, prefix, conditional, parentheses, list, call, attribute, every, lookup, atom, Trees, no_trees, one_more, Keys, no_keys, one_key}
use Rattle.rename_texts.specs.Laws.{AllFree, AllowedLaw, IsFree, KeysFree, StandsLaw}
use Rattle.rename_texts.specs.Marked.{marked, rewritten, with_name}
use Rattle.rename_texts.specs.Renamed.{Rename, all_renamed, keys_renamed, named, renamed}
use Rattle.rename_texts.proofs.TreeLemmas.{lexemes_renamed, written_so}

-- ---- names are allowed

module _ (x : Rename) (good : is_field x.new ≡ true) where
  one_allowed : (k : Lexeme) (b : Bool) → IsAllowed k → IsAllowed (cond b (with_name x.new k) k)
  one_allowed k false h = h
  one_allowed (Number n) true h = h
  one_allowed (Text s) true h = h
  one_allowed (Name n) true h = good
  one_allowed (Dollar n) true h = good
  one_allowed (Word w) true h = good
  one_allowed (Mark s) true h = h

  list_allowed : (ks : List (Lexeme × Bool)) → AllAllowed (map (λ (k : Lexeme × Bool). k.0) ks) → AllAllowed (map (rewritten x.new) ks)
  list_allowed [] h = h
  list_allowed (k ∷ ks) h = (one_allowed k.0 k.1 h.0, list_allowed ks h.1)

pub still_allowed : AllowedLaw
still_allowed x t good h = subst AllAllowed (lexemes_renamed x t) (list_allowed x good (marked x t) (subst AllAllowed (sym (written_so x t)) h))

-- ---- the grammar

level_same : (x : Rename) (t : Tree) → level_of (renamed x t) ≡ level_of t
level_same x (number n) = refl
level_same x (text s) = refl
level_same x (constant c) = refl
level_same x (dollar n) = refl
level_same x (binary o a b) = refl
level_same x (prefix o a) = refl
level_same x (conditional a c b) = refl
level_same x (parentheses a) = refl
level_same x (list ts) = refl
level_same x (call n ts) = refl
level_same x (attribute a n) = refl
level_same x (every n) = refl
level_same x (lookup k n ks) = refl
level_same x (atom a) = refl

-- names of keys before and after
abbrev all_named : Rename → Bool → List (List ℕ) → List (List ℕ)
all_named x here names = map (named x here) names

named_append : (x : Rename) (here : Bool) (names : List (List ℕ)) (n : List ℕ) → all_named x here (names ++ n ∷ []) ≡ all_named x here names ++ named x here n ∷ []
named_append x here [] n = refl
named_append x here (m ∷ names) n = ap (λ (rest : List (List ℕ)). named x here m ∷ rest) (named_append x here names n)

-- where keys are replaced none has the new name
abbrev IsNotNew : Rename → Bool → List ℕ → Type 0
IsNotNew x here n = cond here (bytes_eq n x.new ≡ false) ⊤

abbrev AreNotNew : Rename → Bool → List (List ℕ) → Type 0
AreNotNew x here [] = ⊤
AreNotNew x here (n ∷ names) = IsNotNew x here n × AreNotNew x here names

not_new_append : (x : Rename) (here : Bool) (names : List (List ℕ)) (n : List ℕ) → AreNotNew x here names → IsNotNew x here n → AreNotNew x here (names ++ n ∷ [])
not_new_append x here [] n h i = (i, tt)
not_new_append x here (m ∷ names) n h i = (h.0, not_new_append x here names n h.1 i)

module _ (x : Rename) where
  differ : (a b : List ℕ) → (a ≡ b → ⊥) → bytes_eq a b ≡ false
  differ a b unlike = by (bytes_eq a b) refl
    where
      by : (c : Bool) → bytes_eq a b ≡ c → bytes_eq a b ≡ false
      by true e = absurd (unlike ((bytes_eq-Decides a b).0 e))
      by false e = e

  same_text : (a b : List ℕ) → bytes_eq a b ≡ true → a ≡ b
  same_text a b e = (bytes_eq-Decides a b).0 e

  -- two different names that are not the new one stay different
  apart : (here : Bool) (m n : List ℕ) → IsNotNew x here m → IsNotNew x here n → bytes_eq m n ≡ false → bytes_eq (named x here m) (named x here n) ≡ false
  apart false m n p q e = e
  apart true m n p q e = by (bytes_eq m x.old) (bytes_eq n x.old) refl refl
    where
      by : (a b : Bool) → bytes_eq m x.old ≡ a → bytes_eq n x.old ≡ b → bytes_eq (cond a x.new m) (cond b x.new n) ≡ false
      by true true f g = let same : m ≡ n = same_text m x.old f ∙ sym (same_text n x.old g) in let yes : bytes_eq m n ≡ true = (bytes_eq-Decides m n).1 same in absurd (cc)
      by true false f g = differ x.new n (λ h. let yes : bytes_eq n x.new ≡ true = (bytes_eq-Decides n x.new).1 (sym h) in absurd (cc))
      by false true f g = differ m x.new (λ h. let yes : bytes_eq m x.new ≡ true = (bytes_eq-Decides m x.new).1 h in absurd (cc))
      by false false f g = e

  not_among : (here : Bool) (n : List ℕ) (names : List (List ℕ)) → IsNotNew x here n → AreNotNew x here names → is_among n names ≡ false → is_among (named x here n) (all_named x here names) ≡ false
  not_among here n [] p q e = refl
  not_among here n (m ∷ names) p q e =
      let both = or_parts (bytes_eq m n) (is_among n names) e in
      let first = apart here m n q.0 p both.0 in
      let rest = not_among here n names p q.1 both.1 in
      cc

  mutual
    stand : (d : Dialect) (t : Tree) → IsFree x t → Stands d t → Stands d (renamed x t)
    stand d (number n) f h = h
    stand d (text s) f h = h
    stand d (constant c) f h = h
    stand d (dollar n) f h = h
    stand d (binary o a b) f h = (
      h.0,
      subst (λ (l : ℕ). group_left (group_of o) ≤ l) (sym (level_same x a)) h.1,
      stand d a f.0 h.2,
      subst (λ (l : ℕ). group_right (group_of o) ≤ l) (sym (level_same x b)) h.3,
      stand d b f.1 h.4,
    )
    stand d (prefix o a) f h = (subst (λ (l : ℕ). prefix_level o ≤ l) (sym (level_same x a)) h.0, stand d a f h.1)
    stand d (conditional a c b) f h = (
      h.0,
      subst (λ (l : ℕ). 1 ≤ l) (sym (level_same x a)) h.1,
      stand d a f.0 h.2,
      subst (λ (l : ℕ). 1 ≤ l) (sym (level_same x c)) h.3,
      stand d c f.1 h.4,
      stand d b f.2 h.5,
    )
    stand d (parentheses a) f h = stand d a f h
    stand d (list ts) f h = all_stand d ts f h
    stand d (call n ts) f h = (h.0, all_stand d ts f h.1, h.2)
    stand d (attribute a n) f h = (h.0, subst (λ (l : ℕ). 8 ≤ l) (sym (level_same x a)) h.1, stand d a f h.2)
    stand d (every n) f h = h
    stand d (lookup k n ks) f h = (h.0, keys_stand d (x.table n) [] ks tt f h.1, h.2)
    stand d (atom a) f h = h

    all_stand : (d : Dialect) (ts : Trees) → AllFree x ts → AllStand d ts → AllStand d (all_renamed x ts)
    all_stand d no_trees f h = h
    all_stand d (one_more t ts) f h = (stand d t f.0 h.0, all_stand d ts f.1 h.1)

    keys_stand : (d : Dialect) (here : Bool) (names : List (List ℕ)) (ks : Keys) → AreNotNew x here names → KeysFree x here ks → AllKeysStand d names ks → AllKeysStand d (all_named x here names) (keys_renamed x here ks)
    keys_stand d here names no_keys p f h = h
    keys_stand d here names (one_key n t ks) p f h = (
      not_among here n names f.0 p h.0,
      stand d t f.1 h.1,
      subst (λ (ms : List (List ℕ)). AllKeysStand d ms (keys_renamed x here ks)) (named_append x here names n)
          (keys_stand d here (names ++ n ∷ []) ks (not_new_append x here names n p f.0) f.2 h.2),
    )

pub stands_still : StandsLaw
stands_still x d t f h = stand x d t f h
