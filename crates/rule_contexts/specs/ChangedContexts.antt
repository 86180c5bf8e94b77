-- Which bundles may change what is in force for users.
use Rattle.std.specs.Prelude.{ℕ, Bool, true, false, ◌||◌, List, [], ◌≡◌}
use Rattle.std.specs.List.{list_any}
use Rattle.std.specs.Str.{bytes_eq}
use Rattle.cell_types.specs.declared.cell.CellOld.{CellOld}
use Rattle.doc_model.specs.declared.action.DocAction.{DocAction}
use Rattle.doc_model.specs.declared.action.DocAction.TheVariants.{BulkAdd, BulkUpdate, BulkRemove}
use Rattle.doc_model.specs.declared.user.User.{User}
use Rattle.doc_model.specs.Apply.{all_valid, apply_all}
use Rattle.doc_model.specs.Changes.{changes}
use Rattle.doc_model.specs.Document.{Document}
use Rattle.doc_model.specs.DocumentLaws.{IsWhole}
use Rattle.doc_model.specs.MetadataIds.{is_acl_id}
use Rattle.acl_rules.specs.Loaded.{book_of}
use Rattle.user_attrs.specs.Attributes.{attributes_of}
use Rattle.user_attrs.specs.declared.attribute_rule.AttributeRule.{AttributeRule}
use Rattle.action_censor.specs.Back.{back}
use Rattle.action_censor.specs.Step.{Step}
use Rattle.acl_reading.specs.RulesLet.{rules_let}
use Rattle.bundle_traces.specs.TraceLaws.{steps_done}
use Rattle.censored_view.specs.View.{view as shown_by}
use Rattle.recalc.specs.Evaluated.{filled}
use Rattle.rule_contexts.specs.Context.{context, view}

-- whether contexts read a table: it is one of the access rules, or attributes are looked up in it
abbrev pub is_read : List AttributeRule → List ℕ → Bool
is_read rules table =
    is_acl_id table || list_any (λ (a : AttributeRule). bytes_eq a.table table) rules

-- whether an action names such a table; one that is not about records may change any context
abbrev pub may_action_change : List AttributeRule → DocAction → Bool
may_action_change rules (BulkAdd table rows ks) = is_read rules table
may_action_change rules (BulkUpdate table rows ks) = is_read rules table
may_action_change rules (BulkRemove table rows) = is_read rules table
may_action_change rules _ = true

-- the same of a step, also by the cells that it changed
abbrev pub may_step_change : List AttributeRule → Step → Bool
may_step_change rules k =
    may_action_change rules k.action
    || list_any (λ (o : CellOld). is_read rules o.cell.table) k.cells

-- whether a bundle of these steps may change contexts that have these attributes
abbrev pub may_change_contexts : List AttributeRule → List Step → Bool
may_change_contexts rules ks = list_any (may_step_change rules) ks

-- whether it may change the rules themselves, whatever these look up
abbrev pub may_change_rules : List Step → Bool
may_change_rules ks = may_change_contexts [] ks

-- any other bundle leaves the context of each user
abbrev pub SameContextLaw : Type 0
SameContextLaw =
    (s : Document) (actions : List DocAction) → IsWhole s → all_valid s actions ≡ true
    → may_change_contexts (attributes_of s) (steps_done s actions) ≡ false
    → (user : User) → context user (apply_all s actions) ≡ context user s

-- and the attributes that the rules say
abbrev pub SameAttributesLaw : Type 0
SameAttributesLaw =
    (s : Document) (actions : List DocAction) → IsWhole s → all_valid s actions ≡ true
    → may_change_contexts (attributes_of s) (steps_done s actions) ≡ false
    → attributes_of (apply_all s actions) ≡ attributes_of s

-- so the changes of what a user sees are those that the bundle's steps tell of, in that context
abbrev pub FollowedLaw : Type 0
FollowedLaw =
    (s : Document) (actions : List DocAction) → IsWhole s → all_valid s actions ≡ true
    → may_change_contexts (attributes_of s) (steps_done s actions) ≡ false
    → (user : User)
    → changes (shown_by (rules_let (context user s))
    (back (steps_done s actions) (filled (apply_all s actions))))
    (shown_by (rules_let (context user s)) (filled (apply_all s actions)))
    ≡ changes (view user s) (view user (apply_all s actions))

-- the rules of two documents are the same, and the attributes that they say
pub record HaveOneBook (s t : Document) : Type 0 where
  pub book : book_of s ≡ book_of t
  pub attributes : attributes_of s ≡ attributes_of t

-- a bundle that may not change contexts, with whatever attributes, leaves the rules: none need be
-- named for that
abbrev pub SameRulesLaw : Type 0
SameRulesLaw =
    (rules : List AttributeRule) (s : Document) (actions : List DocAction) → IsWhole s
    → all_valid s actions ≡ true → may_change_contexts rules (steps_done s actions) ≡ false
    → HaveOneBook (apply_all s actions) s
