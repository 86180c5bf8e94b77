-- Steps that may change no context are about no table that contexts read.
use Rattle.std.proofs.Common.{ℕ, Bool, true, false, ◌||◌, List, [], ◌∷◌, map, ◌≡◌, refl, sym, ap, ◌∙◌}
use Rattle.std.proofs.lemmas.Bool.{or_parts, or_right, true≢false}
use Rattle.std.proofs.lemmas.Slice.Eq.{bytes_eq-Decides}
use Rattle.std.specs.List.{AllByRecursion, list_any}
use Rattle.std.specs.Str.{bytes_eq}
use Rattle.cell_types.specs.declared.cell.CellOld.{CellOld}
use Rattle.doc_model.specs.declared.action.DocAction.{DocAction}
use Rattle.doc_model.specs.declared.action.DocAction.TheVariants.{BulkAdd, BulkUpdate, BulkRemove, AddTable, RemoveTable, RenameTable, AddColumn, RemoveColumn, RenameColumn, ModifyColumn}
use Rattle.doc_model.specs.MetadataIds.{is_acl_id, resources_id, rules_id}
use Rattle.doc_model.specs.Touched.{names_table}
use Rattle.doc_model.proofs.ByIdsLaws.{bytes_itself}
use Rattle.doc_model.proofs.Choices.{each_weaker, false_from}
use Rattle.user_attrs.specs.declared.attribute_rule.AttributeRule.{AttributeRule}
use Rattle.action_censor.specs.Step.{Step, is_of_records, is_table_in}
use Rattle.rule_contexts.specs.ChangedContexts.{is_read, may_action_change, may_step_change}

-- ---- what contexts read

abbrev is_at : AttributeRule → AttributeRule → Bool
is_at b a = bytes_eq a.table b.table

each_at : (rules : List AttributeRule) → AllByRecursion (λ (a : AttributeRule). list_any (is_at a) rules ≡ true) rules
each_at [] = tt
each_at (a ∷ rules) = (
  ap (λ b. b || list_any (is_at a) rules) (bytes_itself a.table),
  each_weaker (λ (b : AttributeRule). list_any (is_at b) rules ≡ true) (λ (b : AttributeRule). list_any (is_at b) (a ∷ rules) ≡ true) (λ b h. or_right (is_at b a) (list_any (is_at b) rules) h) rules (each_at rules),
)

-- the tables of attributes
pub each_read : (rules : List AttributeRule) → AllByRecursion (λ (a : AttributeRule). is_read rules a.table ≡ true) rules
each_read rules =
    each_weaker (λ (a : AttributeRule). list_any (is_at a) rules ≡ true) (λ (a : AttributeRule). is_read rules a.table ≡ true) (λ a h. or_right (is_acl_id a.table) (list_any (is_at a) rules) h) rules (each_at rules)

-- those of the access rules
pub rules_read : (rules : List AttributeRule) → is_read rules rules_id ≡ true
rules_read rules =
    ap (λ b. b || list_any (λ (a : AttributeRule). bytes_eq a.table rules_id) rules)
    (or_right (bytes_eq resources_id rules_id) (bytes_eq rules_id rules_id) (bytes_itself rules_id))

pub resources_read : (rules : List AttributeRule) → is_read rules resources_id ≡ true
resources_read rules =
    ap (λ b. (b || bytes_eq rules_id resources_id) || list_any (λ (a : AttributeRule). bytes_eq a.table resources_id) rules) (bytes_itself resources_id)

-- ---- steps

module _ (rules : List AttributeRule) where
  apart : (table t : List ℕ) → is_read rules table ≡ false → is_read rules t ≡ true → bytes_eq table t ≡ false
  apart table t out read =
      false_from (bytes_eq table t) (λ is. true≢false (sym read ∙ ap (is_read rules) (sym ((bytes_eq-Decides table t).0 is)) ∙ out))

  of_records : (a : DocAction) → may_action_change rules a ≡ false → is_of_records a ≡ true
  of_records (BulkAdd table rows ks) out = refl
  of_records (BulkUpdate table rows ks) out = refl
  of_records (BulkRemove table rows) out = refl
  of_records (AddTable table row columns) out = absurd (true≢false out)
  of_records (RemoveTable table) out = absurd (true≢false out)
  of_records (RenameTable table new) out = absurd (true≢false out)
  of_records (AddColumn table d) out = absurd (true≢false out)
  of_records (RemoveColumn table column) out = absurd (true≢false out)
  of_records (RenameColumn table column new) out = absurd (true≢false out)
  of_records (ModifyColumn table column info) out = absurd (true≢false out)

  not_named : (a : DocAction) → may_action_change rules a ≡ false → (t : List ℕ) → is_read rules t ≡ true → names_table a t ≡ false
  not_named (BulkAdd table rows ks) out t read = apart table t out read
  not_named (BulkUpdate table rows ks) out t read = apart table t out read
  not_named (BulkRemove table rows) out t read = apart table t out read
  not_named (AddTable table row columns) out t read = absurd (true≢false out)
  not_named (RemoveTable table) out t read = absurd (true≢false out)
  not_named (RenameTable table new) out t read = absurd (true≢false out)
  not_named (AddColumn table d) out t read = absurd (true≢false out)
  not_named (RemoveColumn table column) out t read = absurd (true≢false out)
  not_named (RenameColumn table column new) out t read = absurd (true≢false out)
  not_named (ModifyColumn table column info) out t read = absurd (true≢false out)

  not_changed : (cells : List CellOld) → list_any (λ (o : CellOld). is_read rules o.cell.table) cells ≡ false → (t : List ℕ) → is_read rules t ≡ true → list_any (λ (o : CellOld). bytes_eq o.cell.table t) cells ≡ false
  not_changed [] out t read = refl
  not_changed (o ∷ cells) out t read =
      let two : (is_read rules o.cell.table ≡ false) × (list_any (λ (o : CellOld). is_read rules o.cell.table) cells ≡ false) = or_parts (is_read rules o.cell.table) (list_any (λ (o : CellOld). is_read rules o.cell.table) cells) out in
      ap (λ b. b || list_any (λ (o : CellOld). bytes_eq o.cell.table t) cells) (apart o.cell.table t two.0 read) ∙ not_changed cells two.1 t read

  -- a step that may change no context
  pub record IsQuiet (k : Step) : Type 0 where
    pub records : is_of_records k.action ≡ true
    pub named : (t : List ℕ) → is_read rules t ≡ true → names_table k.action t ≡ false
    pub about : (t : List ℕ) → is_read rules t ≡ true → is_table_in k t ≡ false

  pub quiet : (k : Step) → may_step_change rules k ≡ false → IsQuiet k
  quiet k out =
      let two : (may_action_change rules k.action ≡ false) × (list_any (λ (o : CellOld). is_read rules o.cell.table) k.cells ≡ false) = or_parts (may_action_change rules k.action) (list_any (λ (o : CellOld). is_read rules o.cell.table) k.cells) out in
      record {
        records = of_records k.action two.0;
        named = λ t read. not_named k.action two.0 t read;
        about = λ t read. ap (λ b. b || list_any (λ (o : CellOld). bytes_eq o.cell.table t) k.cells) (not_named k.action two.0 t read) ∙ not_changed k.cells two.1 t read;
      }

-- ---- as the code asks

-- a test of what stands for the elements
pub any_mapped : {X Y : Type 0} (p : Y → Bool) (f : X → Y) (xs : List X) → list_any p (map f xs) ≡ list_any (λ x. p (f x)) xs
any_mapped p f [] = refl
any_mapped p f (x ∷ xs) = ap (λ b. p (f x) || b) (any_mapped p f xs)
