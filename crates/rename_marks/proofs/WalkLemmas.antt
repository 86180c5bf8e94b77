-- What a walk notes of each form of formula.
use Rattle.std.proofs.Common.{◌≡◌, ◌∙◌, ap, refl, sym, arith, zero-add, ℕ, Bool, false, List, [], ◌∷◌, ◌++◌, append_assoc, length, replicate}
use Rattle.std.proofs.lemmas.List.{append-nil, map-append}
use Rattle.formula_lex.specs.declared.token.Sign.TheVariants as sign
use Rattle.formula_parse.specs.declared.lexeme.Keyword.TheVariants as word
use Rattle.formula_parse.specs.declared.lexeme.Lexeme.{Lexeme}
use Rattle.formula_parse.specs.declared.lexeme.Lexeme.TheVariants.{Name, Keyword as Word, Sign as Mark}
use Rattle.formula_parse.specs.declared.operator.BinaryOp.{BinaryOp}
use Rattle.formula_parse.specs.declared.operator.Constant.{Constant}
use Rattle.formula_parse.specs.declared.operator.LookupKind.{LookupKind}
use Rattle.formula_parse.specs.declared.operator.PrefixOp.{PrefixOp}
use Rattle.formula_parse.specs.declared.rule.RuleAtom.TheVariants as rule
use Rattle.formula_parse.specs.Grammar.{op_lexemes}
use Rattle.formula_parse.specs.Tree.{Tree, number, text, constant, dollar, binary, prefix, conditional, parentheses, list, call, attribute, every, lookup, atom, Trees, no_trees, one_more, Keys, no_keys, one_key}
use Rattle.formula_records.specs.RecordTables.{only}
use Rattle.rename_texts.specs.Marked.{items_marked, keys_marked, marked, marks, more_keys_marked, more_marked, plain}
use Rattle.rename_texts.specs.Renamed.{Rename, is_hit}
use Rattle.rename_marks.specs.declared.column_rename.ColumnRename.{ColumnRename}
use Rattle.rename_marks.specs.declared.marking.Marking.{Marking}
use Rattle.rename_marks.specs.Marks.{item_marks, key_marks, marks_among, more_item_marks, more_key_marks}
use Rattle.rename_marks.specs.Noted.{capped, noted, stayed, used, walked, walked_items, walked_keys, walked_more, walked_more_keys, with_key}
use Rattle.rename_marks.specs.Scope.{Scope, rename_in}
use Rattle.rename_marks.specs.ScopeUses.{key_uses, uses, uses_each}
use Rattle.rename_marks.specs.Uses.{Use, is_replaced, unresolved_among, use_of}
use Rattle.rename_marks.proofs.NotedLemmas.{counted_capped, noted_twice}

abbrev Entry : Type 0
Entry = Lexeme × Bool

among_append : (xs ys : List Entry) → marks_among (xs ++ ys) ≡ marks_among xs ++ marks_among ys
among_append xs ys = map-append (λ (k : Entry). k.1) xs ys

among_plain : (ks : List Lexeme) → marks_among (plain ks) ≡ replicate (length ks) false
among_plain [] = refl
among_plain (k ∷ ks) = ap (λ (ms : List Bool). false ∷ ms) (among_plain ks)

module _ (r : ColumnRename) (s : Scope) where
  abbrev x : Rename
  x = rename_in r s

  -- ---- one step and then others

  after_skip : (m : Marking) (n : ℕ) (ms : List Bool) (us : List Use) → noted r (stayed m n) ms us ≡ noted r m (replicate n false ++ ms) us
  unfolding noted stayed
  after_skip m n ms us = λ i. noted r (record { marks = []; unresolved = m.unresolved }) (append_assoc m.marks (replicate n false) ms i) us

  after_use : (m : Marking) (u : Use) (ms : List Bool) (us : List Use) → noted r (used r m u) ms us ≡ noted r m (is_replaced r u ∷ ms) (u ∷ us)
  unfolding used
  after_use m u ms us = noted_twice r m (is_replaced r u ∷ []) ms (u ∷ []) us

  after_walk : (m : Marking) (t : Tree) (ms : List Bool) (us : List Use) → noted r (walked r s m t) ms us ≡ noted r m (marks x t ++ ms) (uses s t ++ us)
  unfolding walked
  after_walk m t ms us = noted_twice r m (marks x t) ms (uses s t) us

  after_items : (m : Marking) (ts : Trees) (ms : List Bool) (us : List Use) → noted r (walked_items r s m ts) ms us ≡ noted r m (item_marks x ts ++ ms) (uses_each s ts ++ us)
  unfolding walked_items
  after_items m ts ms us = noted_twice r m (item_marks x ts) ms (uses_each s ts) us

  after_keys : (t : List ℕ) (m : Marking) (ks : Keys) (ms : List Bool) (us : List Use) → noted r (walked_keys r s t m ks) ms us ≡ noted r m (key_marks x t ks ++ ms) (key_uses s t ks ++ us)
  unfolding walked_keys
  after_keys t m ks ms us = noted_twice r m (key_marks x t ks) ms (key_uses s t ks) us

  last_skip : (m : Marking) (n : ℕ) → stayed m n ≡ noted r m (replicate n false) []
  unfolding noted stayed
  last_skip m n = refl

  same_notes : (m : Marking) (ms ns : List Bool) (us vs : List Use) → ms ≡ ns → us ≡ vs → noted r m ms us ≡ noted r m ns vs
  same_notes m ms ns us vs e f = λ i. noted r m (e i) (f i)

  -- ---- formulas

  pub walked_leaf_number : (m : Marking) (n : ℕ) → stayed m 1 ≡ walked r s m (number n)
  unfolding walked
  walked_leaf_number m n = last_skip m 1

  pub walked_leaf_text : (m : Marking) (n : List ℕ) → stayed m 1 ≡ walked r s m (text n)
  unfolding walked
  walked_leaf_text m n = last_skip m 1

  pub walked_leaf_constant : (m : Marking) (c : Constant) → stayed m 1 ≡ walked r s m (constant c)
  unfolding walked
  walked_leaf_constant m c = last_skip m 1

  pub walked_dollar : (m : Marking) (n : List ℕ) → used r m (use_of s.own n) ≡ walked r s m (dollar n)
  unfolding walked used
  walked_dollar m n = refl

  pub walked_binary : (m : Marking) (k : ℕ) (o : BinaryOp) (a b : Tree) → k ≡ length (op_lexemes o) → walked r s (stayed (walked r s m a) k) b ≡ walked r s m (binary o a b)
  unfolding walked
  walked_binary m k o a b e =
      ap (λ (k : ℕ). noted r (stayed (walked r s m a) k) (marks x b) (uses s b)) e
      ∙ after_skip (walked r s m a) (length (op_lexemes o)) (marks x b) (uses s b)
      ∙ after_walk m a (replicate (length (op_lexemes o)) false ++ marks x b) (uses s b)
      ∙ same_notes m (marks x a ++ (replicate (length (op_lexemes o)) false ++ marks x b)) (marks x (binary o a b)) (uses s a ++ uses s b) (uses s a ++ uses s b)
      (sym (among_append (marked x a) (plain (op_lexemes o) ++ marked x b)
      ∙ ap (λ (ms : List Bool). marks x a ++ ms) (among_append (plain (op_lexemes o)) (marked x b) ∙ ap (λ (ms : List Bool). ms ++ marks x b) (among_plain (op_lexemes o))))) refl

  pub walked_prefix : (m : Marking) (o : PrefixOp) (a : Tree) → walked r s (stayed m 1) a ≡ walked r s m (prefix o a)
  unfolding walked
  walked_prefix m o a = after_skip m 1 (marks x a) (uses s a)

  pub walked_conditional : (m : Marking) (a c b : Tree) → walked r s (stayed (walked r s (stayed (walked r s m a) 1) c) 1) b ≡ walked r s m (conditional a c b)
  unfolding walked
  walked_conditional m a c b =
      after_skip (walked r s (stayed (walked r s m a) 1) c) 1 (marks x b) (uses s b)
      ∙ after_walk (stayed (walked r s m a) 1) c (false ∷ marks x b) (uses s b)
      ∙ after_skip (walked r s m a) 1 (marks x c ++ (false ∷ marks x b)) (uses s c ++ uses s b)
      ∙ after_walk m a (false ∷ (marks x c ++ (false ∷ marks x b))) (uses s c ++ uses s b)
      ∙ same_notes m (marks x a ++ (false ∷ (marks x c ++ (false ∷ marks x b)))) (marks x (conditional a c b)) (uses s a ++ (uses s c ++ uses s b)) (uses s a ++ (uses s c ++ uses s b))
      (sym (among_append (marked x a) ((Word word.If, false) ∷ (marked x c ++ ((Word word.Else, false) ∷ marked x b)))
      ∙ ap (λ (ms : List Bool). marks x a ++ (false ∷ ms)) (among_append (marked x c) ((Word word.Else, false) ∷ marked x b)))) refl

  pub walked_parentheses : (m : Marking) (a : Tree) → stayed (walked r s (stayed m 1) a) 1 ≡ walked r s m (parentheses a)
  unfolding walked
  walked_parentheses m a =
      last_skip (walked r s (stayed m 1) a) 1
      ∙ after_walk (stayed m 1) a (false ∷ []) []
      ∙ after_skip m 1 (marks x a ++ (false ∷ [])) (uses s a ++ [])
      ∙ same_notes m (false ∷ (marks x a ++ (false ∷ []))) (marks x (parentheses a)) (uses s a ++ []) (uses s a)
      (sym (ap (λ (ms : List Bool). false ∷ ms) (among_append (marked x a) ((Mark sign.Close, false) ∷ [])))) (append-nil (uses s a))

  pub walked_list : (m : Marking) (ts : Trees) → stayed (walked_items r s (stayed m 1) ts) 1 ≡ walked r s m (list ts)
  unfolding walked
  walked_list m ts =
      last_skip (walked_items r s (stayed m 1) ts) 1
      ∙ after_items (stayed m 1) ts (false ∷ []) []
      ∙ after_skip m 1 (item_marks x ts ++ (false ∷ [])) (uses_each s ts ++ [])
      ∙ same_notes m (false ∷ (item_marks x ts ++ (false ∷ []))) (marks x (list ts)) (uses_each s ts ++ []) (uses_each s ts)
      (sym (ap (λ (ms : List Bool). false ∷ ms) (among_append (items_marked x ts) ((Mark sign.CloseList, false) ∷ [])))) (append-nil (uses_each s ts))

  pub walked_call : (m : Marking) (n : List ℕ) (ts : Trees) → stayed (walked_items r s (stayed m 2) ts) 1 ≡ walked r s m (call n ts)
  unfolding walked
  walked_call m n ts =
      last_skip (walked_items r s (stayed m 2) ts) 1
      ∙ after_items (stayed m 2) ts (false ∷ []) []
      ∙ after_skip m 2 (item_marks x ts ++ (false ∷ [])) (uses_each s ts ++ [])
      ∙ same_notes m (false ∷ false ∷ (item_marks x ts ++ (false ∷ []))) (marks x (call n ts)) (uses_each s ts ++ []) (uses_each s ts)
      (sym (ap (λ (ms : List Bool). false ∷ false ∷ ms) (among_append (items_marked x ts) ((Mark sign.Close, false) ∷ [])))) (append-nil (uses_each s ts))

  pub walked_attribute : (m : Marking) (a : Tree) (n : List ℕ) → used r (stayed (walked r s m a) 1) (use_of (s.value a) n) ≡ walked r s m (attribute a n)
  unfolding walked used
  walked_attribute m a n =
      let u = use_of (s.value a) n in
      after_skip (walked r s m a) 1 (is_replaced r u ∷ []) (u ∷ [])
      ∙ after_walk m a (false ∷ (is_replaced r u ∷ [])) (u ∷ [])
      ∙ same_notes m (marks x a ++ (false ∷ (is_replaced r u ∷ []))) (marks x (attribute a n)) (uses s a ++ (u ∷ [])) (uses s a ++ (u ∷ []))
      (sym (among_append (marked x a) ((Mark sign.Point, false) ∷ ((Name n, is_hit x (x.attribute a) n) ∷ [])))) refl

  pub walked_every : (m : Marking) (n : List ℕ) → stayed m 3 ≡ walked r s m (every n)
  unfolding walked
  walked_every m n = last_skip m 3

  pub walked_lookup : (m : Marking) (l : LookupKind) (t : List ℕ) (ks : Keys) → stayed (walked_keys r s t (stayed m 4) ks) 1 ≡ walked r s m (lookup l t ks)
  unfolding walked
  walked_lookup m l t ks =
      last_skip (walked_keys r s t (stayed m 4) ks) 1
      ∙ after_keys t (stayed m 4) ks (false ∷ []) []
      ∙ after_skip m 4 (key_marks x t ks ++ (false ∷ [])) (key_uses s t ks ++ [])
      ∙ same_notes m (false ∷ false ∷ false ∷ false ∷ (key_marks x t ks ++ (false ∷ []))) (marks x (lookup l t ks)) (key_uses s t ks ++ []) (key_uses s t ks)
      (sym (ap (λ (ms : List Bool). false ∷ false ∷ false ∷ false ∷ ms) (among_append (keys_marked x (x.table t) ks) ((Mark sign.Close, false) ∷ [])))) (append-nil (key_uses s t ks))

  -- ---- atoms of rules

  pub walked_owner : (m : Marking) → stayed m 1 ≡ walked r s m (atom rule.Owner)
  unfolding walked
  walked_owner m = last_skip m 1

  pub walked_editor : (m : Marking) → stayed m 1 ≡ walked r s m (atom rule.Editor)
  unfolding walked
  walked_editor m = last_skip m 1

  pub walked_viewer : (m : Marking) → stayed m 1 ≡ walked r s m (atom rule.Viewer)
  unfolding walked
  walked_viewer m = last_skip m 1

  pub walked_user : (m : Marking) (n : List ℕ) → stayed m 3 ≡ walked r s m (atom (rule.User n))
  unfolding walked
  walked_user m n = last_skip m 3

  pub walked_field : (m : Marking) (p n : List ℕ) → used r (stayed m 4) (use_of (s.found p) n) ≡ walked r s m (atom (rule.UserAttribute p n))
  unfolding walked used
  walked_field m p n = after_skip m 4 (is_replaced r (use_of (s.found p) n) ∷ []) (use_of (s.found p) n ∷ [])

  pub walked_rec : (m : Marking) (n : List ℕ) → used r (stayed m 2) (use_of s.row n) ≡ walked r s m (atom (rule.Rec n))
  unfolding walked used
  walked_rec m n = after_skip m 2 (is_replaced r (use_of s.row n) ∷ []) (use_of s.row n ∷ [])

  pub walked_new_rec : (m : Marking) (n : List ℕ) → used r (stayed m 2) (use_of s.row n) ≡ walked r s m (atom (rule.NewRec n))
  unfolding walked used
  walked_new_rec m n = after_skip m 2 (is_replaced r (use_of s.row n) ∷ []) (use_of s.row n ∷ [])

  -- ---- items and keys

  pub walked_no_items : (m : Marking) → m ≡ walked_items r s m no_trees
  unfolding walked_items noted
  walked_no_items m = λ i. record { marks = sym (append-nil m.marks) i; unresolved = m.unresolved }

  pub walked_no_more : (m : Marking) → m ≡ walked_more r s m no_trees
  unfolding walked_more noted
  walked_no_more m = λ i. record { marks = sym (append-nil m.marks) i; unresolved = m.unresolved }

  pub walked_first : (m : Marking) (t : Tree) (ts : Trees) → walked_more r s (walked r s m t) ts ≡ walked_items r s m (one_more t ts)
  unfolding walked_more walked_items
  walked_first m t ts =
      after_walk m t (more_item_marks x ts) (uses_each s ts)
      ∙ same_notes m (marks x t ++ more_item_marks x ts) (item_marks x (one_more t ts)) (uses s t ++ uses_each s ts) (uses s t ++ uses_each s ts) (sym (among_append (marked x t) (more_marked x ts))) refl

  pub walked_next : (m : Marking) (t : Tree) (ts : Trees) → walked_more r s (walked r s (stayed m 1) t) ts ≡ walked_more r s m (one_more t ts)
  unfolding walked_more
  walked_next m t ts =
      after_walk (stayed m 1) t (more_item_marks x ts) (uses_each s ts)
      ∙ after_skip m 1 (marks x t ++ more_item_marks x ts) (uses s t ++ uses_each s ts)
      ∙ same_notes m (false ∷ (marks x t ++ more_item_marks x ts)) (more_item_marks x (one_more t ts)) (uses s t ++ uses_each s ts) (uses s t ++ uses_each s ts)
      (sym (ap (λ (ms : List Bool). false ∷ ms) (among_append (marked x t) (more_marked x ts)))) refl

  pub walked_no_keys : (t : List ℕ) (m : Marking) → m ≡ walked_keys r s t m no_keys
  unfolding walked_keys noted
  walked_no_keys t m = λ i. record { marks = sym (append-nil m.marks) i; unresolved = m.unresolved }

  pub walked_no_more_keys : (t : List ℕ) (m : Marking) → m ≡ walked_more_keys r s t m no_keys
  unfolding walked_more_keys noted
  walked_no_more_keys t m = λ i. record { marks = sym (append-nil m.marks) i; unresolved = m.unresolved }

  key_marks_so : (t : List ℕ) (n : List ℕ) (a : Tree) (ks : Keys) → key_marks x t (one_key n a ks) ≡ is_replaced r (use_of (only t) n) ∷ (false ∷ (marks x a ++ more_key_marks x t ks))
  key_marks_so t n a ks = ap (λ (ms : List Bool). is_replaced r (use_of (only t) n) ∷ (false ∷ ms)) (among_append (marked x a) (more_keys_marked x (x.table t) ks))

  after_key : (t : List ℕ) (m : Marking) (n : List ℕ) (a : Tree) (ms : List Bool) (us : List Use)
      → noted r (with_key r s t m n a) ms us ≡ noted r m (is_replaced r (use_of (only t) n) ∷ (false ∷ (marks x a ++ ms))) (use_of (only t) n ∷ (uses s a ++ us))
  after_key t m n a ms us =
      after_walk (stayed (used r m (use_of (only t) n)) 1) a ms us
      ∙ after_skip (used r m (use_of (only t) n)) 1 (marks x a ++ ms) (uses s a ++ us)
      ∙ after_use m (use_of (only t) n) (false ∷ (marks x a ++ ms)) (uses s a ++ us)

  pub walked_first_key : (t : List ℕ) (m : Marking) (n : List ℕ) (a : Tree) (ks : Keys) → walked_more_keys r s t (with_key r s t m n a) ks ≡ walked_keys r s t m (one_key n a ks)
  unfolding walked_more_keys walked_keys
  walked_first_key t m n a ks =
      after_key t m n a (more_key_marks x t ks) (key_uses s t ks)
      ∙ same_notes m (is_replaced r (use_of (only t) n) ∷ (false ∷ (marks x a ++ more_key_marks x t ks))) (key_marks x t (one_key n a ks)) (key_uses s t (one_key n a ks)) (key_uses s t (one_key n a ks)) (sym (key_marks_so t n a ks)) refl

  pub walked_next_key : (t : List ℕ) (m : Marking) (n : List ℕ) (a : Tree) (ks : Keys) → walked_more_keys r s t (with_key r s t (stayed m 1) n a) ks ≡ walked_more_keys r s t m (one_key n a ks)
  unfolding walked_more_keys
  walked_next_key t m n a ks =
      after_key t (stayed m 1) n a (more_key_marks x t ks) (key_uses s t ks)
      ∙ after_skip m 1 (is_replaced r (use_of (only t) n) ∷ (false ∷ (marks x a ++ more_key_marks x t ks))) (key_uses s t (one_key n a ks))
      ∙ same_notes m (false ∷ (is_replaced r (use_of (only t) n) ∷ (false ∷ (marks x a ++ more_key_marks x t ks)))) (more_key_marks x t (one_key n a ks)) (key_uses s t (one_key n a ks)) (key_uses s t (one_key n a ks))
      (sym (ap (λ (ms : List Bool). false ∷ (is_replaced r (use_of (only t) n) ∷ (false ∷ ms))) (among_append (marked x a) (more_keys_marked x (x.table t) ks)))) refl

pub ruleset atoms = (walked_owner, walked_editor, walked_viewer, walked_user, walked_field, walked_rec, walked_new_rec)

pub ruleset formulas = (walked_leaf_number, walked_leaf_text, walked_leaf_constant, walked_dollar, walked_binary, walked_prefix, walked_conditional, walked_parentheses, walked_list, walked_call, walked_attribute, walked_every, walked_lookup)

pub ruleset items = (walked_no_items, walked_no_more, walked_first, walked_next)

pub ruleset keys = (walked_no_keys, walked_no_more_keys, walked_first_key, walked_next_key)

-- ---- a whole walk

module _ (r : ColumnRename) (s : Scope) (t : Tree) where
  abbrev pub fresh : Marking
  fresh = record { marks = []; unresolved = 0 }

  pub fresh_marks : (m : Marking) → m ≡ walked r s fresh t → m.marks ≡ marks (rename_in r s) t
  unfolding walked noted
  fresh_marks m e = ap (λ (k : Marking). k.marks) e

  pub fresh_count : (m : Marking) → m ≡ walked r s fresh t → m.unresolved ≡ capped (unresolved_among r (uses s t))
  unfolding walked noted
  fresh_count m e = ap (λ (k : Marking). k.unresolved) e ∙ counted_capped r 0 (uses s t) (omega arith) ∙ ap capped (zero-add (unresolved_among r (uses s t)))
