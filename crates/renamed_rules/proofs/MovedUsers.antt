-- What a rule asks for, of rows and of attributes of users, under the new name of a column.
use Rattle.std.proofs.Common.{ℕ, Bool, true, false, cond, List, [], ◌∷◌, map, ◌≡◌, refl, subst, sym, ap, ◌∙◌, Option, Some, None}
use Rattle.std.specs.List.{AllByRecursion}
use Rattle.std.specs.Option.{option_map}
use Rattle.std.specs.Str.{bytes_eq}
use Rattle.std.proofs.lemmas.Slice.Eq.{bytes_eq-Decides}
use Rattle.acl_checks.specs.Checks.{row_at}
use Rattle.acl_formula.specs.Asked.{Asked}
use Rattle.acl_formula.specs.RuleFields.{field_of, found_field, is_own, named_field, read, row_id, user_field}
use Rattle.acl_formula.specs.RuleValue.{atom_value}
use Rattle.cell_types.specs.declared.value.CellValue.{CellValue}
use Rattle.doc_model.specs.declared.user.User.{User}
use Rattle.doc_model.specs.Document.{Document}
use Rattle.formula_parse.specs.declared.rule.RuleAtom.{RuleAtom}
use Rattle.formula_parse.specs.declared.rule.RuleAtom.TheVariants as rule
use Rattle.formula_parse.specs.Lexemes.{is_id}
use Rattle.formula_parse.specs.Tree.{Tree, number, text, constant, dollar, binary, prefix, conditional, parentheses, list, call, attribute, every, lookup, atom, Trees, no_trees, one_more}
use Rattle.formula_records.specs.declared.tables.RecordTables.{RecordTables}
use Rattle.formula_records.specs.RecordTables.{IsIn}
use Rattle.rename_marks.specs.declared.column_rename.ColumnRename.{ColumnRename}
use Rattle.rename_marks.specs.declared.formula_place.AttributeTable.{AttributeTable}
use Rattle.rename_marks.specs.Scope.{Scope, in_rule, rename_in, tables_of}
use Rattle.rename_marks.specs.ScopeUses.{atom_uses, uses, uses_each}
use Rattle.rename_texts.specs.Renamed.{renamed_atom}
use Rattle.renamed_documents.specs.RenamedTables.{Rewriting}
use Rattle.renamed_values.specs.HeldRecords.{IsPlain}
use Rattle.renamed_values.specs.SameEv.{Fits, IsKept, moved}
use Rattle.renamed_values.proofs.ResolvedLemmas.{AllResolved, parts, use_fits}
use Rattle.user_attrs.specs.declared.attribute_rule.AttributeRule.{AttributeRule}
use Rattle.user_attrs.specs.UserInfos.{attribute_for, found_in, user_info}
use Rattle.renamed_rules.specs.RenamedCells.{HasMoved}
use Rattle.renamed_rules.specs.RenamedRules.{AttributeKept, IsListed, attribute_after}
use Rattle.renamed_rules.specs.RuleValues.{AllAtomsSame, AtomsSame}
use Rattle.renamed_rules.proofs.MovedCells.{cell_same, found_same, id_moved}

module _ (m : ColumnRename) (w : Rewriting) (s s' : Document) (h : HasMoved m w s s') where
  -- a field of the first attribute of that name
  named_same : (ts : List AttributeTable) (u : User) (p n n' : List ℕ) (as' : List AttributeRule) → AllByRecursion (AttributeKept m) as' → AllByRecursion (IsListed ts) as' → Fits m (tables_of ts p) n n'
      → named_field (map (attribute_for s' u) (map (attribute_after m) as')) p n' ≡ named_field (map (attribute_for s u) as') p n
  named_same ts u p n n' [] k l f = refl
  named_same ts u p n n' (a ∷ as') k l f = by (bytes_eq a.name p) refl (named_same ts u p n n' as' k.1 l.1 f)
    where
      by : (b : Bool) → bytes_eq a.name p ≡ b → named_field (map (attribute_for s' u) (map (attribute_after m) as')) p n' ≡ named_field (map (attribute_for s u) as') p n
          → cond b (found_field (found_in s' u (attribute_after m a)) n') (named_field (map (attribute_for s' u) (map (attribute_after m) as')) p n') ≡ cond b (found_field (found_in s u a) n) (named_field (map (attribute_for s u) as') p n)
      by true e later =
          let fit = f a.table (subst (λ (x : List ℕ). IsIn (tables_of ts x) a.table) ((bytes_eq-Decides a.name p).0 e) l.0) in
          ap (found_field (found_in s' u (attribute_after m a))) (sym fit.1) ∙ found_same m w s s' h u a k.0 n fit.0
      by false e later = later

  user_same : (ts : List AttributeTable) (u : User) (p n n' : List ℕ) (as' : List AttributeRule) → AllByRecursion (AttributeKept m) as' → AllByRecursion (IsListed ts) as' → Fits m (tables_of ts p) n n'
      → user_field (user_info (map (attribute_after m) as') u s') p n' ≡ user_field (user_info as' u s) p n
  user_same ts u p n n' as' k l f = ap (λ v. cond (is_own p) None v) (named_same ts u p n n' as' k l f)

  -- a field of a row, where there is one
  row_same : (t : List ℕ) → IsPlain t → (n n' : List ℕ) → IsKept m t n → moved m t n ≡ n' → (o : Option ℕ) → field_of (option_map (row_at s' t) o) n' ≡ field_of (option_map (row_at s t) o) n
  row_same t p n n' k e None = refl
  row_same t p n n' k e (Some r) =
      subst (λ (x : List ℕ). field_of (Some (row_at s' t r)) x ≡ field_of (Some (row_at s t r)) n) e
      (ap (λ b. cond b (row_id r) (read (cell_at_new r))) (id_moved m h.old h.new t n) ∙ ap (λ v. cond (is_id n) (row_id r) (read v)) (cell_same m w s s' h t p n r k))
    where
      cell_at_new : ℕ → Option CellValue
      cell_at_new r = (row_at s' t r).cell (moved m t n)

  module _ (ts : List AttributeTable) (as' : List AttributeRule) (kept : AllByRecursion (AttributeKept m) as') (listed : AllByRecursion (IsListed ts) as') (about : RecordTables) (u : User) (t : List ℕ) (p : IsPlain t) (i : IsIn about t) (r q : Option ℕ) where
    abbrev pub was : Asked
    was = record { user = user_info as' u s; before = option_map (row_at s t) r; after = option_map (row_at s t) q }

    abbrev pub is_now : Asked
    is_now = record { user = user_info (map (attribute_after m) as') u s'; before = option_map (row_at s' t) r; after = option_map (row_at s' t) q }

    abbrev scope : Scope
    scope = in_rule about ts

    atom_same : (a : RuleAtom) → AllResolved m (atom_uses scope a) → atom_value is_now (renamed_atom (rename_in m scope) a) ≡ atom_value was a
    atom_same rule.Owner g = refl
    atom_same rule.Editor g = refl
    atom_same rule.Viewer g = refl
    atom_same (rule.User n) g = refl
    atom_same (rule.UserAttribute n f) g = user_same ts u n f _ as' kept listed (use_fits m (tables_of ts n) f g.0)
    atom_same (rule.Rec n) g = let fit = use_fits m about n g.0 t i in row_same t p n _ fit.0 fit.1 r
    atom_same (rule.NewRec n) g = let fit = use_fits m about n g.0 t i in row_same t p n _ fit.0 fit.1 q

    mutual
      pub atoms_same : (e : Tree) → AllResolved m (uses scope e) → AtomsSame (rename_in m scope) was is_now e
      atoms_same (number n) g = tt
      atoms_same (text n) g = tt
      atoms_same (constant c) g = tt
      atoms_same (dollar n) g = tt
      atoms_same (binary o a b) g = let x = parts m (uses scope a) (uses scope b) g in (atoms_same a x.0, atoms_same b x.1)
      atoms_same (prefix o a) g = atoms_same a g
      atoms_same (conditional a c b) g = tt
      atoms_same (parentheses a) g = atoms_same a g
      atoms_same (list ts) g = all_atoms_same ts g
      atoms_same (call n ts) g = tt
      atoms_same (attribute a n) g = tt
      atoms_same (every n) g = tt
      atoms_same (lookup l n ks) g = tt
      atoms_same (atom a) g = atom_same a g

      all_atoms_same : (ts : Trees) → AllResolved m (uses_each scope ts) → AllAtomsSame (rename_in m scope) was is_now ts
      all_atoms_same no_trees g = tt
      all_atoms_same (one_more e ts) g = let x = parts m (uses scope e) (uses_each scope ts) g in (atoms_same e x.0, all_atoms_same ts x.1)
