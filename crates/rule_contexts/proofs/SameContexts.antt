-- Bundles about no table that contexts read leave the context of each user.
use Rattle.std.proofs.Common.{ℕ, true, false, List, [], ◌∷◌, ◌≡◌, refl, sym, ap, ◌∙◌}
use Rattle.std.proofs.lemmas.Bool.{and_parts, or_parts}
use Rattle.doc_model.specs.declared.action.DocAction.{DocAction}
use Rattle.doc_model.specs.Apply.{all_valid, apply, apply_all}
use Rattle.doc_model.specs.ByIds.{find_id}
use Rattle.doc_model.specs.Changes.{changes}
use Rattle.doc_model.specs.Document.{Document, table_id}
use Rattle.doc_model.specs.DocumentLaws.{IsWhole}
use Rattle.doc_model.specs.MetadataIds.{resources_id, rules_id}
use Rattle.doc_model.specs.Valid.{valid}
use Rattle.doc_model.proofs.Choices.{both_true, each_weaker}
use Rattle.doc_model.proofs.InverseLaws.{IsWhole-apply}
use Rattle.doc_readers.specs.Parts.{grid_at}
use Rattle.acl_rules.specs.declared.decision.Ctx.{Ctx}
use Rattle.acl_rules.specs.Loaded.{book_of}
use Rattle.user_attrs.specs.Attributes.{attributes_of}
use Rattle.user_attrs.specs.UserInfos.{user_info}
use Rattle.user_attrs.specs.declared.attribute_rule.AttributeRule.{AttributeRule}
use Rattle.recalc.specs.Evaluated.{filled}
use Rattle.recalc.specs.FilledLaws.{LaidOutLaw}
use Rattle.censored_view.specs.View.{view as shown_by}
use Rattle.acl_reading.specs.RulesLet.{rules_let}
use Rattle.action_censor.specs.Step.{Step, are_records, is_of_records}
use Rattle.bundle_traces.specs.TraceLaws.{BundleLaw, TraceLaw, step_done, steps_done}
use Rattle.bundle_traces.proofs.Bundles.{grid_is}
use Rattle.rule_contexts.specs.ChangedContexts.{FollowedLaw, HaveOneBook, SameAttributesLaw, SameContextLaw, SameRulesLaw, is_read, may_change_contexts, may_step_change}
use Rattle.rule_contexts.specs.Context.{context, view, view_in}
use Rattle.rule_contexts.proofs.ReadTables.{IsQuiet, each_read, quiet, resources_read, rules_read}
use Rattle.rule_contexts.proofs.RuleTables.{attributes_same, book_same}
use Rattle.rule_contexts.proofs.StepTables.{base_stays, table_stays}
use Rattle.rule_contexts.proofs.UserRows.{info_same}

-- two documents hold the same in a table, in its base cells and evaluated
record HoldSame (s e : Document) (t : List ℕ) : Type 0 where
  base : find_id table_id t e ≡ find_id table_id t s
  evaluated : grid_at (filled e) t ≡ grid_at (filled s) t

module _ (laid_law : LaidOutLaw) (trace_law : TraceLaw) (rules : List AttributeRule) where
  step_leaves : (s : Document) (a : DocAction) → IsWhole s → valid s a ≡ true → IsQuiet rules (step_done s a) → (t : List ℕ) → is_read rules t ≡ true → HoldSame s (apply s a) t
  step_leaves s a whole v q t read = record {
    base = base_stays s a v q.records t (q.named t read);
    evaluated = table_stays (step_done s a) t (grid_at (filled s) t) (grid_at (filled (apply s a)) t)
        (grid_is (filled s) (laid_law s whole) t) (grid_is (filled (apply s a)) (laid_law (apply s a) (IsWhole-apply s a whole v)) t)
        (trace_law s a whole v q.records t) (q.about t read);
  }

  steps_leave : (s : Document) (actions : List DocAction) → IsWhole s → all_valid s actions ≡ true → may_change_contexts rules (steps_done s actions) ≡ false → (t : List ℕ) → is_read rules t ≡ true → HoldSame s (apply_all s actions) t
  steps_leave s [] whole v out t read = record { base = refl; evaluated = refl }
  steps_leave s (a ∷ actions) whole v out t read =
      let valids : (valid s a ≡ true) × (all_valid (apply s a) actions ≡ true) = and_parts (valid s a) (all_valid (apply s a) actions) v in
      let outs : (may_step_change rules (step_done s a) ≡ false) × (may_change_contexts rules (steps_done (apply s a) actions) ≡ false) = or_parts (may_step_change rules (step_done s a)) (may_change_contexts rules (steps_done (apply s a) actions)) out in
      let one : HoldSame s (apply s a) t = step_leaves s a whole valids.0 (quiet rules (step_done s a) outs.0) t read in
      let more : HoldSame (apply s a) (apply_all (apply s a) actions) t = steps_leave (apply s a) actions (IsWhole-apply s a whole valids.0) valids.1 outs.1 t read in
      record { base = more.base ∙ one.base; evaluated = more.evaluated ∙ one.evaluated }

pub context_stays : LaidOutLaw → TraceLaw → SameContextLaw
context_stays laid_law trace_law s actions whole v out user =
    let e : Document = apply_all s actions in
    let rules : List AttributeRule = attributes_of s in
    let holds : (t : List ℕ) → is_read rules t ≡ true → HoldSame s e t = steps_leave laid_law trace_law rules s actions whole v out in
    let of_rules : HoldSame s e rules_id = holds rules_id (rules_read rules) in
    let of_resources : HoldSame s e resources_id = holds resources_id (resources_read rules) in
    ap (λ book. let x : Ctx = record { book = book; user = user_info (attributes_of e) user (filled e) } in x) (book_same e s of_rules.base of_resources.base)
    ∙ ap (λ info. let x : Ctx = record { book = book_of s; user = info } in x)
    (ap (λ told. user_info told user (filled e)) (attributes_same e s of_rules.base)
    ∙ info_same (filled e) (filled s) user rules
    (each_weaker (λ (a : AttributeRule). is_read rules a.table ≡ true) (λ (a : AttributeRule). grid_at (filled e) a.table ≡ grid_at (filled s) a.table) (λ a read. (holds a.table read).evaluated) rules (each_read rules)))

pub rules_stay : LaidOutLaw → TraceLaw → SameRulesLaw
rules_stay laid_law trace_law rules s actions whole v out =
    let e : Document = apply_all s actions in
    let holds : (t : List ℕ) → is_read rules t ≡ true → HoldSame s e t = steps_leave laid_law trace_law rules s actions whole v out in
    let of_rules : HoldSame s e rules_id = holds rules_id (rules_read rules) in
    let of_resources : HoldSame s e resources_id = holds resources_id (resources_read rules) in
    record {
      book = book_same e s of_rules.base of_resources.base;
      attributes = attributes_same e s of_rules.base;
    }

pub attributes_stay : LaidOutLaw → TraceLaw → SameAttributesLaw
attributes_stay laid_law trace_law s actions whole v out =
    (rules_stay laid_law trace_law (attributes_of s) s actions whole v out).attributes

-- ---- what is told

all_records : (rules : List AttributeRule) (ks : List Step) → may_change_contexts rules ks ≡ false → are_records ks ≡ true
all_records rules [] out = refl
all_records rules (k ∷ ks) out =
    let outs : (may_step_change rules k ≡ false) × (may_change_contexts rules ks ≡ false) = or_parts (may_step_change rules k) (may_change_contexts rules ks) out in
    both_true (is_of_records k.action) (are_records ks) (quiet rules k outs.0).records (all_records rules ks outs.1)

pub changes_followed : SameContextLaw → BundleLaw → FollowedLaw
changes_followed same bundle s actions whole v out user =
    let e : Document = apply_all s actions in
    ap (λ before. changes before (shown_by (rules_let (context user s)) (filled e)))
    (bundle (rules_let (context user s)) s actions whole v (all_records (attributes_of s) (steps_done s actions) out))
    ∙ ap (λ x. changes (view user s) (view_in x e)) (sym (same s actions whole v out user))
