-- The formula of a rule follows the change that is planned of it.
use Rattle.std.proofs.Common.{◌≡◌, ◌∙◌, ap, arith, refl, subst, sym, ℕ, ◌+◌, ◌≤◌, Bool, true, false, cond, not, ◌&&◌, ◌||◌, nat_le, List, [], ◌∷◌, ◌++◌, map, length, Option, Some, None, option_map, option_and_then, unwrap_or, bytes_eq, leb-true}
use Rattle.std.specs.Bool.{⊤}
use Rattle.std.specs.List.{list_any}
use Rattle.std.specs.Str.{IsUtf8, chars}
use Rattle.std.proofs.lemmas.Bool.{or_parts}
use Rattle.std.proofs.lemmas.Option.{none-some, same_Some}
use Rattle.cell_types.specs.declared.value.CellValue.{CellValue}
use Rattle.cell_types.specs.declared.value.CellValue.TheVariants as value
use Rattle.cell_types.specs.NameRule.{is_name}
use Rattle.formula_lex.specs.declared.token.Token.{Token}
use Rattle.formula_lex.specs.Machine.{tokens_in}
use Rattle.formula_parse.specs.declared.lexeme.Lexeme.{Lexeme}
use Rattle.formula_parse.specs.declared.operator.Dialect.TheVariants as dialect
use Rattle.formula_parse.specs.Grammar.{lexemes_of}
use Rattle.formula_parse.specs.Lexemes.{AllAllowed, kind_of}
use Rattle.formula_parse.specs.Runs.{tree_from}
use Rattle.formula_parse.specs.Spelling.{SpellsTree, max_bytes}
use Rattle.formula_parse.specs.Standing.{max_height}
use Rattle.formula_parse.specs.Tree.{Tree, number, text, constant, dollar, binary, prefix, conditional, parentheses, list, call, attribute, every, lookup, atom, Trees, no_trees, one_more, Keys, no_keys, one_key}
use Rattle.formula_parse.proofs.WordLemmas.{spelled_tree, tree_spelled}
use Rattle.acl_formula.specs.FormulaText.{formula_of, tree_of_tokens}
use Rattle.acl_rules.specs.declared.resource.Resource.{Resource}
use Rattle.acl_rules.specs.declared.resource.Resource.TheVariants as resource
use Rattle.acl_rules.specs.Loaded.{text_in}
use Rattle.formula_records.specs.declared.tables.RecordTables.{RecordTables}
use Rattle.formula_records.specs.RecordTables.{only}
use Rattle.rename_flow.specs.declared.text_change.TextChange.{TextChange}
use Rattle.rename_flow.specs.Changes.{kept, maybe_change, rewritten, rule_change}
use Rattle.rename_flow.specs.RuleParts.{scoped_change}
use Rattle.rename_flow.specs.RuleTextLaw.{RewrittenRuleLaw}
use Rattle.rename_flow.specs.ShownRules.{tables_in}
use Rattle.rename_marks.specs.declared.column_rename.ColumnRename.{ColumnRename}
use Rattle.rename_marks.specs.declared.formula_place.AttributeTable.{AttributeTable}
use Rattle.rename_marks.specs.Noted.{capped}
use Rattle.rename_marks.specs.Scope.{Scope, in_rule, rename_in}
use Rattle.rename_marks.specs.ScopeUses.{key_uses, uses, uses_each}
use Rattle.rename_marks.specs.Uses.{is_exactly, unresolved_among, use_of}
use Rattle.rename_texts.specs.Laws.{AllFree, HeightLaw, IsFree, KeysFree, LexemeLaw, StandsLaw, WrittenLaw}
use Rattle.rename_texts.specs.Marked.{marked, marks, rewritten as rewritten_lexeme}
use Rattle.rename_texts.specs.Renamed.{Rename, renamed}
use Rattle.rename_texts.specs.Rewriting.{rewritten_text}
use Rattle.renamed_rules.specs.RenamedRules.{AskedFollows, FormulaFollows}
use Rattle.renamed_values.proofs.ResolvedLemmas.{AllResolved, IsResolved, all_resolved, parts}
use Rattle.ruled_renames.proofs.UpdatedCells.{put}

-- ---- keys of lookups are free

module _ (m : ColumnRename) (s : Scope) where
  key_free : (t n : List ℕ) → IsResolved m (use_of (only t) n) → cond (is_exactly m (only t)) (bytes_eq n m.new ≡ false) ⊤
  key_free t n h = by (bytes_eq t m.table) (bytes_eq n m.new) (bytes_eq n m.old) h
    where
      by : (a w o : Bool) → ((a || false) && (w || (o && not ((a || false) && (a && true))))) ≡ false → cond ((a || false) && (a && true)) (w ≡ false) ⊤
      by true true o h = h
      by true false o h = refl
      by false w o h = tt

  mutual
    tree_free : (t : Tree) → AllResolved m (uses s t) → IsFree (rename_in m s) t
    tree_free (number n) h = tt
    tree_free (text n) h = tt
    tree_free (constant c) h = tt
    tree_free (dollar n) h = tt
    tree_free (binary o a b) h = let p = parts m (uses s a) (uses s b) h in (tree_free a p.0, tree_free b p.1)
    tree_free (prefix o a) h = tree_free a h
    tree_free (conditional a c b) h =
        let p = parts m (uses s a) (uses s c ++ uses s b) h in
        let q = parts m (uses s c) (uses s b) p.1 in
        (tree_free a p.0, tree_free c q.0, tree_free b q.1)
    tree_free (parentheses a) h = tree_free a h
    tree_free (list ts) h = each_free ts h
    tree_free (call n ts) h = each_free ts h
    tree_free (attribute a n) h = tree_free a (parts m (uses s a) (use_of (s.value a) n ∷ []) h).0
    tree_free (every t) h = tt
    tree_free (lookup l t ks) h = keys_free t ks h
    tree_free (atom a) h = tt

    each_free : (ts : Trees) → AllResolved m (uses_each s ts) → AllFree (rename_in m s) ts
    each_free no_trees h = tt
    each_free (one_more t ts) h = let p = parts m (uses s t) (uses_each s ts) h in (tree_free t p.0, each_free ts p.1)

    keys_free : (t : List ℕ) (ks : Keys) → AllResolved m (key_uses s t ks) → KeysFree (rename_in m s) (is_exactly m (only t)) ks
    keys_free t no_keys h = tt
    keys_free t (one_key n a ks) h =
        let p = parts m (uses s a) (key_uses s t ks) h.1 in
        (key_free t n h.0, tree_free a p.0, keys_free t ks p.1)

-- ---- a tree without marks

-- lexemes without marks are written as they are
unmarked : (new : List ℕ) (ks : List (Lexeme × Bool)) → list_any (λ b. b) (map (λ (k : Lexeme × Bool). k.1) ks) ≡ false → map (rewritten_lexeme new) ks ≡ map (λ (k : Lexeme × Bool). k.0) ks
unmarked new [] h = refl
unmarked new (k ∷ ks) h =
    let p = or_parts k.1 (list_any (λ b. b) (map (λ (k : Lexeme × Bool). k.1) ks)) h in
    ap (λ b. rewritten_lexeme new (k.0, b) ∷ map (rewritten_lexeme new) ks) p.0 ∙ ap (λ ls. k.0 ∷ ls) (unmarked new ks p.1)

module _ (written : WrittenLaw) (lexemes : LexemeLaw) (height : HeightLaw) (stands : StandsLaw) (x : Rename) (t : Tree) (free : IsFree x t) (h : list_any (λ b. b) (marks x t) ≡ false) where
  same_lexemes : lexemes_of (renamed x t) ≡ lexemes_of t
  same_lexemes = sym (lexemes x t) ∙ unmarked x.new (marked x t) h ∙ written x t

  -- tokens of the tree are those of the renamed one
  both_spelled : (ts : List Token) → SpellsTree dialect.Rule t ts → SpellsTree dialect.Rule (renamed x t) ts
  both_spelled ts s = record {
    written = s.written ∙ ap (map (λ k. kind_of k)) (sym same_lexemes);
    allowed = subst AllAllowed (sym same_lexemes) s.allowed;
    stands = stands x dialect.Rule t free s.stands;
    low = subst (λ (n : ℕ). n ≤ max_height) (sym (height x t)) s.low;
  }

  tokens_stay : (ts : List Token) → tree_from dialect.Rule ts ≡ Some t → t ≡ renamed x t
  tokens_stay ts e = same_Some t (renamed x t) (sym e ∙ spelled_tree dialect.Rule ts (renamed x t) (both_spelled ts (tree_spelled dialect.Rule ts t e)))

  pub rule_stays : (words : List ℕ) → formula_of words ≡ Some (Some t) → t ≡ renamed x t
  rule_stays words e = by (nat_le (length words) max_bytes) (tokens_in (chars words)) e
    where
      mapped : (q : Option Tree) → option_map Some q ≡ Some (Some t) → q ≡ Some t
      mapped None f = absurd (none-some (Some t) f)
      mapped (Some u) f = same_Some (Some u) (Some t) f

      by : (b : Bool) (o : Option (List Token)) → cond b (tree_of_tokens o) None ≡ Some (Some t) → t ≡ renamed x t
      by false o f = absurd (none-some (Some t) f)
      by true None f = absurd (none-some (Some t) f)
      by true (Some []) f = absurd (none-some t (same_Some None (Some t) f))
      by true (Some (k ∷ ks)) f = tokens_stay (k ∷ ks) (mapped (tree_from dialect.Rule (k ∷ ks)) f)

-- ---- what the change of a rule makes of it

none_capped : (n : ℕ) → capped n ≡ 0 → n ≡ 0
none_capped n h = omega arith

within : (b : Bool) (n : ℕ) → cond b n (capped (n + 1)) ≡ 0 → (b ≡ true) × (n ≡ 0)
within true n h = (refl, h)
within false n h = absurd (never n (none_capped (n + 1) h))
  where
    never : (n : ℕ) → n + 1 ≡ 0 → ⊥
    never n h = omega arith

-- the formula of a cell
abbrev pub read_formula : Option CellValue → Option (Option Tree)
read_formula c = option_and_then formula_of (text_in c)

module _ (written : WrittenLaw) (lexemes : LexemeLaw) (height : HeightLaw) (stands : StandsLaw) (rewrites : RewrittenRuleLaw) (m : ColumnRename) (named : is_name m.new ≡ true) (new_is_utf8 : IsUtf8 m.new) where
  module _ (s : Scope) (words : List ℕ) (utf8 : IsUtf8 words) (v : CellValue) (told : text_in (Some v) ≡ Some words) where
    -- the formula of the cell after a change
    abbrev after : TextChange → Option (Option Tree)
    after c = read_formula (Some (unwrap_or (option_map value.Text c.text) v))

    stays_same : (c : TextChange) → c.text ≡ None → after c ≡ formula_of words
    stays_same c e = ap (λ o. read_formula (Some (unwrap_or (option_map value.Text o) v))) e ∙ ap (option_and_then formula_of) told

    tree_follows : (t : Tree) → formula_of words ≡ Some (Some t) → (rule_change m s words).unresolved ≡ 0 → FormulaFollows m s (Some (Some t)) (after (rule_change m s words))
    tree_follows t e none = by (list_any (λ b. b) (marks (rename_in m s) t)) refl
      where
        other : List ℕ
        other = rewritten_text words (marks (rename_in m s) t) m.new

        count : ℕ
        count = capped (unresolved_among m (uses s t))

        change_is : (b : Bool) → list_any (λ b. b) (marks (rename_in m s) t) ≡ b → rule_change m s words ≡ cond b (rewritten other count) (kept count)
        change_is b f =
            ap (λ (o : Option (Option Tree)). maybe_change m s words (elim o as (λ _. Option Tree) [ None ↦ None | Some q ↦ q ])) e
            ∙ ap (λ b. cond b (rewritten other count) (kept count)) f

        by : (b : Bool) → list_any (λ b. b) (marks (rename_in m s) t) ≡ b → FormulaFollows m s (Some (Some t)) (after (rule_change m s words))
        by false f =
            let is = change_is false f in
            let resolved : unresolved_among m (uses s t) ≡ 0 = none_capped (unresolved_among m (uses s t)) (sym (ap (λ c. c.unresolved) is) ∙ none) in
            subst (FormulaFollows m s (Some (Some t))) (sym (stays_same (rule_change m s words) (ap (λ c. c.text) is) ∙ e))
            (resolved, rule_stays written lexemes height stands (rename_in m s) t (tree_free m s t (all_resolved m (uses s t) resolved)) f words e)
        by true f =
            let is = change_is true f in
            let short = within (nat_le (length other) max_bytes) count (sym (ap (λ c. c.unresolved) is) ∙ none) in
            let resolved : unresolved_among m (uses s t) ≡ 0 = none_capped (unresolved_among m (uses s t)) short.1 in
            let new_formula : after (rule_change m s words) ≡ Some (Some (renamed (rename_in m s) t))
            = ap (λ (c : TextChange). after c) is
            ∙ rewrites (rename_in m s) words t (record {
              text_is_utf8 = utf8;
              new_is_utf8 = new_is_utf8;
              named = named;
              free = tree_free m s t (all_resolved m (uses s t) resolved);
              short = leb-true (length other) max_bytes short.0;
            }) e in
            subst (FormulaFollows m s (Some (Some t))) (sym new_formula) (resolved, refl)

    text_follows : (rule_change m s words).unresolved ≡ 0 → FormulaFollows m s (formula_of words) (after (rule_change m s words))
    text_follows none = by (formula_of words) refl
      where
        none_changed : (o : Option (Option Tree)) → formula_of words ≡ o → (elim o as (λ _. Option Tree) [ None ↦ None | Some q ↦ q ]) ≡ None → after (rule_change m s words) ≡ o
        none_changed o e f =
            stays_same (rule_change m s words) (ap (λ q. (maybe_change m s words q).text) (ap (λ (o : Option (Option Tree)). elim o as (λ _. Option Tree) [ None ↦ None | Some q ↦ q ]) e ∙ f)) ∙ e

        by : (o : Option (Option Tree)) → formula_of words ≡ o → FormulaFollows m s o (after (rule_change m s words))
        by None e = subst (FormulaFollows m s None) (sym (none_changed None e refl)) tt
        by (Some None) e = subst (FormulaFollows m s (Some None)) (sym (none_changed (Some None) e refl)) tt
        by (Some (Some t)) e = tree_follows t e none

  -- the change of a rule about something
  cell_follows : (ts : List AttributeTable) (q : RecordTables) (c : Option CellValue) → ((words : List ℕ) → text_in c ≡ Some words → IsUtf8 words) → (scoped_change m ts (Some q) (text_in c)).unresolved ≡ 0
      → FormulaFollows m (in_rule q ts) (read_formula c) (read_formula (put (option_map value.Text (scoped_change m ts (Some q) (text_in c)).text) c))
  cell_follows ts q None utf8 none = tt
  cell_follows ts q (Some v) utf8 none = by (text_in (Some v)) refl none
    where
      by : (o : Option (List ℕ)) → text_in (Some v) ≡ o → (scoped_change m ts (Some q) o).unresolved ≡ 0
          → FormulaFollows m (in_rule q ts) (option_and_then formula_of o) (read_formula (Some (unwrap_or (option_map value.Text (scoped_change m ts (Some q) o).text) v)))
      by None e none = subst (λ (o : Option (List ℕ)). FormulaFollows m (in_rule q ts) None (option_and_then formula_of o)) (sym e) tt
      by (Some words) e none = text_follows (in_rule q ts) words (utf8 words e) v e none

  -- the formula of a rule about this
  pub formula_follows : (ts : List AttributeTable) (q : Option Resource) (c : Option CellValue) → ((words : List ℕ) → text_in c ≡ Some words → IsUtf8 words)
      → (scoped_change m ts (option_map tables_in q) (text_in c)).unresolved ≡ 0
      → AskedFollows m ts q (read_formula c) (read_formula (put (option_map value.Text (scoped_change m ts (option_map tables_in q) (text_in c)).text) c))
  formula_follows ts None c utf8 none = tt
  formula_follows ts (Some (resource.Table id cs)) c utf8 none = cell_follows ts (tables_in (resource.Table id cs)) c utf8 none
  formula_follows ts (Some resource.Document) c utf8 none = cell_follows ts (tables_in resource.Document) c utf8 none
