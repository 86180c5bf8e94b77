-- The new document is whole.
use Rattle.std.proofs.Common.{ℕ, Bool, true, false, ◌&&◌, ◌||◌, List, [], ◌∷◌, ◌≡◌, ◌<◌, refl, ap, ◌∙◌}
use Rattle.std.proofs.lemmas.Bool.{false≢true, and_parts, ltb-true}
use Rattle.std.specs.Prelude.{codes, nat_lt, nat_le, not, length, nat_eq}
use Rattle.std.specs.List.{list_all, AllByRecursion}
use Rattle.std.specs.Str.{chars}
use Rattle.std.specs.Char.{is_ascii_alphabetic, is_ascii_alphanumeric}
use Rattle.unicode_ident.specs.Ident.{is_xid_start, is_xid_continue}
use Rattle.unicode_ident.proofs.IdentLemmas.{is_xid_start-ascii, is_xid_continue-ascii}
use Rattle.cell_types.specs.NameRule.{is_name, has_name_characters, is_reserved, reserved_words}
use Rattle.doc_model.specs.declared.column.ColDef.{ColDef}
use Rattle.doc_model.specs.MetadataIds.{tables_id, columns_id, resources_id, rules_id, is_metadata_id}
use Rattle.doc_model.specs.ByIds.{AreDistinct}
use Rattle.doc_model.specs.Column.{column_id, is_sound_info}
use Rattle.doc_model.specs.Schema.{resources_columns, rules_columns}
use Rattle.doc_model.specs.Sound.{IsSoundGrid}
use Rattle.doc_model.specs.NewDocument.{no_rows, plain_column, first_table, new_document}
use Rattle.doc_model.specs.DocumentLaws.{IsWhole}
use Rattle.doc_model.proofs.Choices.{both_true}
use Rattle.doc_model.proofs.WholeLaws.{IsGood, whole_from}

-- whether a text is an ASCII letter and then ASCII letters and digits
abbrev ascii_continues : ℕ → Bool
ascii_continues c = nat_lt c 128 && is_ascii_alphanumeric c

abbrev ascii_name : List ℕ → Bool
ascii_name [] = false
ascii_name (c ∷ cs) = (nat_lt c 128 && is_ascii_alphabetic c) && list_all ascii_continues cs

continues : (cs : List ℕ) → list_all ascii_continues cs ≡ true → list_all (λ d. is_xid_continue d) cs ≡ true
continues [] h = refl
continues (c ∷ cs) h =
    let both : (ascii_continues c ≡ true) × (list_all ascii_continues cs ≡ true) = and_parts (ascii_continues c) (list_all ascii_continues cs) h in
    let one : (nat_lt c 128 ≡ true) × (is_ascii_alphanumeric c ≡ true) = and_parts (nat_lt c 128) (is_ascii_alphanumeric c) both.0 in
    both_true (is_xid_continue c) (list_all (λ d. is_xid_continue d) cs)
    (is_xid_continue-ascii c (ltb-true c 128 one.0) ∙ ap (λ b. b || nat_eq c 95) one.1) (continues cs both.1)

name_characters : (cs : List ℕ) → ascii_name cs ≡ true → has_name_characters cs ≡ true
name_characters [] h = absurd (false≢true h)
name_characters (c ∷ cs) h =
    let both : ((nat_lt c 128 && is_ascii_alphabetic c) ≡ true) × (list_all ascii_continues cs ≡ true) = and_parts (nat_lt c 128 && is_ascii_alphabetic c) (list_all ascii_continues cs) h in
    let one : (nat_lt c 128 ≡ true) × (is_ascii_alphabetic c ≡ true) = and_parts (nat_lt c 128) (is_ascii_alphabetic c) both.0 in
    both_true (is_xid_start c) (list_all (λ d. is_xid_continue d) cs) (is_xid_start-ascii c (ltb-true c 128 one.0) ∙ one.1) (continues cs both.1)

-- such a text is a name where it is short and no reserved word
pub ascii_is_name : (text : List ℕ) → ascii_name (chars text) ≡ true → (nat_le (length (chars text)) 64 && not (is_reserved text)) ≡ true → is_name text ≡ true
unfolding is_name
ascii_is_name text h k = both_true (has_name_characters (chars text)) (nat_le (length (chars text)) 64 && not (is_reserved text)) (name_characters (chars text) h) k

pub table_name : is_name (codes "Table1") ≡ true
unfolding chars is_reserved reserved_words
table_name = ascii_is_name (codes "Table1") refl refl

pub a_name : is_name (codes "A") ≡ true
unfolding chars is_reserved reserved_words
a_name = ascii_is_name (codes "A") refl refl

pub b_name : is_name (codes "B") ≡ true
unfolding chars is_reserved reserved_words
b_name = ascii_is_name (codes "B") refl refl

pub c_name : is_name (codes "C") ≡ true
unfolding chars is_reserved reserved_words
c_name = ascii_is_name (codes "C") refl refl

-- columns without rows are sound where their ids are distinct and their infos sound
pub sound_no_rows : (columns : List ColDef) → AreDistinct column_id columns → AllByRecursion (λ d. is_sound_info d.info ≡ true) columns → IsSoundGrid (no_rows columns)
sound_no_rows columns d i = record {
  is_grid = record { distinct = d; ascending = tt; height = refl; width = tt };
  from_one = tt;
  infos = i;
  holds = λ x r found here. absurd (false≢true here);
}

resources_distinct : AreDistinct column_id resources_columns
resources_distinct = ((refl, tt), (tt, tt))

rules_distinct : AreDistinct column_id rules_columns
rules_distinct = ((refl, (refl, (refl, (refl, (refl, tt))))), ((refl, (refl, (refl, (refl, tt)))), ((refl, (refl, (refl, tt))), ((refl, (refl, tt)), ((refl, tt), (tt, tt))))))

or_right : (a b : Bool) → b ≡ true → (a || b) ≡ true
or_right true b e = refl
or_right false b e = e

good_new : IsGood (no_rows resources_columns) (no_rows rules_columns) (first_table ∷ [])
unfolding tables_id columns_id resources_id rules_id
good_new = record {
  resources_sound = sound_no_rows resources_columns resources_distinct (refl, (refl, tt));
  rules_sound = sound_no_rows rules_columns rules_distinct (ap (λ b. (b && true) && true) (or_right (is_name resources_id) (is_metadata_id resources_id) refl), (refl, (refl, (refl, (refl, (refl, tt))))));
  resources_have = refl;
  rules_have = refl;
  distinct = (tt, tt);
  plain = (refl, tt);
  grids = (sound_no_rows first_table.grid.columns ((refl, (refl, tt)), ((refl, tt), (tt, tt))) (refl, (refl, (refl, tt))), tt);
  names = (
    both_true (is_name (codes "Table1")) (list_all (λ (d : ColDef). is_name d.id) first_table.grid.columns) table_name
        (both_true (is_name (codes "A")) (list_all (λ (d : ColDef). is_name d.id) (plain_column (codes "B") 2 ∷ plain_column (codes "C") 3 ∷ [])) a_name
        (both_true (is_name (codes "B")) (list_all (λ (d : ColDef). is_name d.id) (plain_column (codes "C") 3 ∷ [])) b_name
        (both_true (is_name (codes "C")) true c_name refl))),
    tt,
  );
  once = refl;
  tables_ascend = (tt, tt);
  columns_ascend = (((lt12, (lt13, tt)), ((lt23, tt), (tt, tt))), tt);
  table_rows = (lt01, tt);
  columns_from_one = ((lt01, (lt02, (lt03, tt))), tt);
}
  where
    lt01 : 0 < 1
    lt01 = ltb-true 0 1 refl

    lt02 : 0 < 2
    lt02 = ltb-true 0 2 refl

    lt03 : 0 < 3
    lt03 = ltb-true 0 3 refl

    lt12 : 1 < 2
    lt12 = ltb-true 1 2 refl

    lt13 : 1 < 3
    lt13 = ltb-true 1 3 refl

    lt23 : 2 < 3
    lt23 = ltb-true 2 3 refl

-- the new document is whole
pub IsWhole-new_document : IsWhole new_document
IsWhole-new_document = whole_from (no_rows resources_columns) (no_rows rules_columns) (first_table ∷ []) good_new
