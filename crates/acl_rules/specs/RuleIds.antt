-- The ids of the tables of the access rules and of their columns.
use Rattle.std.specs.Prelude.{◌≡◌, codes}
use Rattle.doc_model.specs.MetadataIds.{resources_id, rules_id}
use Rattle.acl_rules.specs.declared.rule_ids.RuleIds.{RuleIds}

-- each is the id that it is called for
pub record AreRuleIds (ids : RuleIds) : Type 0 where
  pub resources : ids.resources ≡ resources_id
  pub table_id : ids.table_id ≡ codes "tableId"
  pub col_ids : ids.col_ids ≡ codes "colIds"
  pub rules : ids.rules ≡ rules_id
  pub resource : ids.resource ≡ codes "resource"
  pub formula : ids.formula ≡ codes "aclFormula"
  pub permissions : ids.permissions ≡ codes "permissionsText"
  pub place : ids.place ≡ codes "rulePos"
  pub memo : ids.memo ≡ codes "memo"
