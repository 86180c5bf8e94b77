-- Attributes of users follow the changes that are planned of them.
use Rattle.std.proofs.Common.{◌≡◌, ◌∙◌, ap, refl, subst, sym, ℕ, Bool, true, false, cond, not, ◌&&◌, ◌||◌, nat_eq, nat_le, arith, List, [], ◌∷◌, map, filter, length, codes, Option, Some, None, option_map, option_and_then, bytes_eq}
use Rattle.std.specs.List.{list_all, list_any}
use Rattle.std.specs.Str.{IsUtf8, chars}
use Rattle.std.proofs.lemmas.Bool.{and_from, and_parts, false≢true}
use Rattle.std.proofs.lemmas.Slice.Eq.{bytes_eq-Decides}
use Rattle.unicode_ident.specs.Ident.{is_xid_continue}
use Rattle.unicode_ident.proofs.IdentLemmas.{is_xid_start-ascii}
use Rattle.cell_types.specs.declared.value.CellValue.{CellValue}
use Rattle.cell_types.specs.declared.value.CellValue.TheVariants as value
use Rattle.cell_types.specs.NameRule.{has_name_characters, is_name, is_reserved}
use Rattle.doc_model.specs.declared.view.ViewCol.{ViewCol}
use Rattle.doc_model.specs.MetadataIds.{columns_id, is_acl_id, resources_id, rules_id, tables_id}
use Rattle.doc_model.specs.Rows.{has}
use Rattle.doc_model.proofs.ByIdsLaws.{bytes_itself}
use Rattle.acl_rules.specs.Loaded.{text_in}
use Rattle.formula_records.specs.RecordTables.{only}
use Rattle.rename_flow.specs.AttributeTexts.{attribute_change, attribute_text, lookup_use}
use Rattle.rename_flow.specs.ShownRules.{attribute_before, attribute_shown, attributes_in}
use Rattle.rename_marks.specs.declared.column_rename.ColumnRename.{ColumnRename}
use Rattle.rename_marks.specs.declared.formula_place.AttributeTable.{AttributeTable}
use Rattle.rename_marks.specs.Uses.{is_replaced, is_unresolved}
use Rattle.renamed_rules.specs.RenamedRules.{AttributeKept, IsListed, attribute_after}
use Rattle.renamed_values.specs.HeldRecords.{IsPlain}
use Rattle.renamed_values.proofs.RecordTableLemmas.{is_itself}
use Rattle.renamed_values.proofs.ResolvedLemmas.{use_fits}
use Rattle.user_attrs.specs.AttributeText.{Tells, are_names, attribute_of}
use Rattle.user_attrs.specs.declared.attribute_rule.AttributeRule.{AttributeRule}
use Rattle.user_attrs.proofs.AttributeLemmas.{tells_of}
use Rattle.ruled_renames.specs.AttributeLaw.{AttributeReadLaw, looking_in}
use Rattle.ruled_renames.specs.ShownRules.{IsAttributeText}
use Rattle.ruled_renames.proofs.ShownRowLemmas.{cells_of_row, zipped}
use Rattle.ruled_renames.proofs.UpdatedCells.{put, put_none}

-- ---- names of tables

-- a text that begins with a low line is no name
low_line : (cs : List ℕ) → has_name_characters (95 ∷ cs) ≡ false
low_line cs = ap (λ b. b && list_all (λ d. is_xid_continue d) cs) (is_xid_start-ascii 95 (omega arith))

no_name : (n : List ℕ) (cs : List ℕ) → chars n ≡ 95 ∷ cs → is_name n ≡ false
unfolding is_name
no_name n cs e = ap (λ ds. has_name_characters ds && (nat_le (length ds) 64 && not (is_reserved n))) e ∙ ap (λ b. b && (nat_le (length (95 ∷ cs)) 64 && not (is_reserved n))) (low_line cs)

tables_no_name : is_name tables_id ≡ false
unfolding tables_id chars
tables_no_name = no_name (codes "_grist_Tables") _ refl

columns_no_name : is_name columns_id ≡ false
unfolding columns_id chars
columns_no_name = no_name (codes "_grist_Tables_column") _ refl

resources_no_name : is_name resources_id ≡ false
unfolding resources_id chars
resources_no_name = no_name (codes "_grist_ACLResources") _ refl

rules_no_name : is_name rules_id ≡ false
unfolding rules_id chars
rules_no_name = no_name (codes "_grist_ACLRules") _ refl

-- a name is the id of no metadata table
pub plain_name : (t : List ℕ) → is_name t ≡ true → IsPlain t
plain_name t h =
    ap (λ b. (b || bytes_eq columns_id t) || is_acl_id t) (other tables_id tables_no_name)
    ∙ ap (λ b. b || is_acl_id t) (other columns_id columns_no_name)
    ∙ ap (λ b. b || bytes_eq rules_id t) (other resources_id resources_no_name)
    ∙ other rules_id rules_no_name
  where
    other : (id : List ℕ) → is_name id ≡ false → bytes_eq id t ≡ false
    other id no' = by (bytes_eq id t) refl
      where
        by : (b : Bool) → bytes_eq id t ≡ b → bytes_eq id t ≡ false
        by true e = absurd (false≢true (sym no' ∙ ap is_name ((bytes_eq-Decides id t).0 e) ∙ h))
        by false e = e

-- ---- one attribute

abbrev pub read_attribute : Option CellValue → Option AttributeRule
read_attribute c = option_and_then attribute_of (text_in c)

-- what is read has names
read_names : (c : Option CellValue) (a : AttributeRule) → read_attribute c ≡ Some a → are_names a.name a.table a.column ≡ true
read_names c a e = by (text_in c) e
  where
    from : (text : List ℕ) → attribute_of text ≡ Some a → are_names a.name a.table a.column ≡ true
    from text f = (subst (λ (o : Option AttributeRule). Tells o text) f (tells_of text)).0

    by : (o : Option (List ℕ)) → option_and_then attribute_of o ≡ Some a → are_names a.name a.table a.column ≡ true
    by None f = absurd (cc)
    by (Some text) f = from text f

module _ (m : ColumnRename) (named : is_name m.new ≡ true) (new_is_utf8 : IsUtf8 m.new) where
  -- whether the name of its column is replaced
  same_test : (a : AttributeRule) → is_replaced m (lookup_use a) ≡ (bytes_eq a.table m.table && bytes_eq a.column m.old)
  same_test a = by (bytes_eq a.table m.table) (bytes_eq a.column m.old)
    where
      by : (x o : Bool) → (((x || false) && (x && true)) && o) ≡ (x && o)
      by true true = refl
      by true false = refl
      by false o = refl

  after_is : (a : AttributeRule) (b : Bool) → is_replaced m (lookup_use a) ≡ b → attribute_after m a ≡ looking_in a (cond b m.new a.column)
  after_is a b e = ap (λ x. looking_in a (cond x m.new a.column)) (sym (same_test a) ∙ e)

  -- what is read of the cell after the change
  pub attribute_follows : AttributeReadLaw → (c : Option CellValue) → ((a : AttributeRule) → read_attribute c ≡ Some a → IsAttributeText a)
      → read_attribute (put (option_map value.Text (attribute_change m (read_attribute c)).text) c) ≡ option_map (attribute_after m) (read_attribute c)
  attribute_follows reads c utf8 = by (read_attribute c) refl
    where
      some_put : (c : Option CellValue) (a : AttributeRule) (text : List ℕ) → read_attribute c ≡ Some a → put (Some (value.Text text)) c ≡ Some (value.Text text)
      some_put None a text e = absurd (cc)
      some_put (Some v) a text e = refl

      written : (a : AttributeRule) → read_attribute c ≡ Some a → attribute_of (attribute_text a m.new) ≡ Some (looking_in a m.new)
      written a e =
          let names = and_parts (is_name a.name) (is_name a.table && is_name a.column) (read_names c a e) in
          let others = and_parts (is_name a.table) (is_name a.column) names.1 in
          reads a m.new (record {
            names = and_from (is_name a.name) (is_name a.table && is_name m.new) names.0 (and_from (is_name a.table) (is_name m.new) others.0 named);
            name = (utf8 a e).name;
            table = (utf8 a e).table;
            column_is = new_is_utf8;
          })

      some_follows : (a : AttributeRule) → read_attribute c ≡ Some a → (b : Bool) → is_replaced m (lookup_use a) ≡ b
          → read_attribute (put (option_map value.Text (cond b (Some (attribute_text a m.new)) None)) c) ≡ Some (attribute_after m a)
      some_follows a e true f = ap read_attribute (some_put c a (attribute_text a m.new) e) ∙ written a e ∙ ap Some (sym (after_is a true f))
      some_follows a e false f = ap read_attribute (put_none c) ∙ e ∙ ap Some (sym (after_is a false f))

      by : (o : Option AttributeRule) → read_attribute c ≡ o → read_attribute (put (option_map value.Text (attribute_change m o).text) c) ≡ option_map (attribute_after m) o
      by None e = ap read_attribute (put_none c) ∙ e
      by (Some a) e = some_follows a e (is_replaced m (lookup_use a)) refl

  -- it is kept where its use of the column's name can be resolved
  pub attribute_kept : (c : Option CellValue) (a : AttributeRule) → read_attribute c ≡ Some a → (attribute_change m (Some a)).unresolved ≡ 0 → AttributeKept m a
  attribute_kept c a e none =
      let names = and_parts (is_name a.name) (is_name a.table && is_name a.column) (read_names c a e) in
      record {
        plain = plain_name a.table (and_parts (is_name a.table) (is_name a.column) names.1).0;
        kept = (use_fits m (only a.table) a.column (resolved (is_unresolved m (lookup_use a)) none) a.table (is_itself a.table)).0;
      }
    where
      resolved : (b : Bool) → ◌≡◌ {A = ℕ} (cond b 1 0) 0 → b ≡ false
      resolved true h = absurd (cc)
      resolved false h = refl

-- ---- the tables of attributes

-- an attribute in front of others is listed, and the others stay so
listed_first : (a : AttributeRule) (ts : List AttributeTable) → IsListed (attribute_before (Some a) ts) a
listed_first a ts = by (bytes_eq a.name a.name) (bytes_itself a.name)
  where
    by : (b : Bool) → b ≡ true → list_any (λ u. bytes_eq u a.table) (map (λ (t : AttributeTable). t.table) (cond b (record { name = a.name; table = a.table } ∷ filter (λ (t : AttributeTable). bytes_eq t.name a.name) ts) (filter (λ (t : AttributeTable). bytes_eq t.name a.name) ts))) ≡ true
    by true e = ap (λ b. b || list_any (λ u. bytes_eq u a.table) (map (λ (t : AttributeTable). t.table) (filter (λ (t : AttributeTable). bytes_eq t.name a.name) ts))) (bytes_itself a.table)
    by false e = absurd (false≢true e)

listed_behind : (o : Option AttributeRule) (a : AttributeRule) (ts : List AttributeTable) → IsListed ts a → IsListed (attribute_before o ts) a
listed_behind None a ts h = h
listed_behind (Some x) a ts h = by (bytes_eq x.name a.name)
  where
    or_true : (b : Bool) → list_any (λ u. bytes_eq u a.table) (map (λ (t : AttributeTable). t.table) (filter (λ (t : AttributeTable). bytes_eq t.name a.name) ts)) ≡ true
        → (b || list_any (λ u. bytes_eq u a.table) (map (λ (t : AttributeTable). t.table) (filter (λ (t : AttributeTable). bytes_eq t.name a.name) ts))) ≡ true
    or_true true k = refl
    or_true false k = k

    by : (b : Bool) → list_any (λ u. bytes_eq u a.table) (map (λ (t : AttributeTable). t.table) (cond b (record { name = x.name; table = x.table } ∷ filter (λ (t : AttributeTable). bytes_eq t.name a.name) ts) (filter (λ (t : AttributeTable). bytes_eq t.name a.name) ts))) ≡ true
    by true = or_true (bytes_eq x.table a.table) h
    by false = h

pub listed_at : (ds : List ViewCol) (rows : List ℕ) (css : List (List CellValue)) (r : ℕ) (a : AttributeRule) → has rows r ≡ true → attribute_shown ds (cells_of_row rows css r) ≡ Some a → IsListed (attributes_in (zipped ds rows css)) a
listed_at ds [] css r a there e = absurd (false≢true there)
listed_at ds (q ∷ rows) [] r a there e = here (attribute_shown ds []) e
  where
    here : (o : Option AttributeRule) → o ≡ Some a → IsListed (attribute_before o (attributes_in (zipped ds rows []))) a
    here o f = subst (λ (o : Option AttributeRule). IsListed (attribute_before o (attributes_in (zipped ds rows []))) a) (sym f) (listed_first a (attributes_in (zipped ds rows [])))
listed_at ds (q ∷ rows) (vs ∷ css) r a there e = by (nat_eq q r) there e (listed_at ds rows css r a)
  where
    by : (b : Bool) → (b || has rows r) ≡ true → attribute_shown ds (cond b vs (cells_of_row rows css r)) ≡ Some a
        → (has rows r ≡ true → attribute_shown ds (cells_of_row rows css r) ≡ Some a → IsListed (attributes_in (zipped ds rows css)) a)
        → IsListed (attribute_before (attribute_shown ds vs) (attributes_in (zipped ds rows css))) a
    by true there f later = subst (λ (o : Option AttributeRule). IsListed (attribute_before o (attributes_in (zipped ds rows css))) a) (sym f) (listed_first a (attributes_in (zipped ds rows css)))
    by false there f later = listed_behind (attribute_shown ds vs) a (attributes_in (zipped ds rows css)) (later there f)
