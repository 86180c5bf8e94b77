-- Plans keep what rules decide.
use Rattle.acl_rules.specs.Loaded.{book_of}
use Rattle.doc_model.specs.Document.{Document}
use Rattle.doc_model.proofs.Choices.{each_weaker}
use Rattle.formula_records.specs.ShownColumns.{columns_of}
use Rattle.planned_renames.specs.PlannedValues.{PlannedValuesLaw, renames, rewriting}
use Rattle.recalc.specs.Evaluated.{filled}
use Rattle.rename_flow.specs.ShownRules.{attributes_in, rule_rows}
use Rattle.renamed_rules.specs.Decisions.{RenamedDecisionLaw}
use Rattle.renamed_rules.specs.FollowingRows.{FollowingRowsLaw}
use Rattle.renamed_rules.specs.RenamedCells.{MovedFillingLaw}
use Rattle.renamed_rules.specs.RenamedRules.{AttributeKept}
use Rattle.renamed_rules.proofs.MovedCells.{found_same}
use Rattle.user_attrs.specs.Attributes.{attributes_of}
use Rattle.user_attrs.specs.declared.attribute_rule.AttributeRule.{AttributeRule}
use Rattle.ruled_renames.specs.PlannedRules.{FindsTheSame, PlannedRowsLaw, PlannedRulesLaw, after_plan}

pub keeps_rules : PlannedRowsLaw → FollowingRowsLaw → PlannedValuesLaw → MovedFillingLaw → RenamedDecisionLaw → PlannedRulesLaw
keeps_rules rows following values moves decides v m s h g =
    let s' : Document = after_plan v m s in
    let follow = following m (attributes_in (rule_rows v)) s s' (rows v m s h g) in
    let moved' = moves m (renames v m) (rewriting v m) (columns_of v) s s' (values v m s h) in
    record {
      decisions = λ user p t c r q plain kept. decides m (rewriting v m) (filled s) (filled s') (attributes_of s) (attributes_of s') (book_of s) (book_of s') moved' follow user p t c r q plain kept;
      attributes = follow.attributes;
      found = λ user. each_weaker (AttributeKept m) (FindsTheSame m (filled s) (filled s') user) (λ (a : AttributeRule) k n kept. found_same m (rewriting v m) (filled s) (filled s') moved' user a k n kept) (attributes_of s) follow.kept;
    }
