use Rattle.std.proofs.Common.{◌≡◌, ◌∙◌, ap, sym, refl, ℕ, false, List, [], ◌∷◌}
use Rattle.std.specs.Prelude.{filter}
use Rattle.doc_model.specs.MetadataIds.{is_acl_id}
use Rattle.censored_view.proofs.ViewLemmas.{all_pass}
use Rattle.bundle_core.proofs.ruled_document.RuleRowsSelection.rows_taken.Goals as goal

none_pass : (rows : List ℕ) → filter (λ row. false) rows ≡ []
none_pass [] = refl
none_pass (r ∷ rows) = none_pass rows

pub returns-then-not-is_acl_id : goal.returns-then-not-is_acl_id
returns-then-not-is_acl_id c =
    let apart = sym (c.is_acl_id.ensures ∙ ap is_acl_id c.as_str.ensures.value) ∙ c.if-not-is_acl_id.true in
    c.new.ensures.items ∙ sym (ap (λ b. filter (λ row. b) c.args.rows.now) apart ∙ none_pass c.args.rows.now)

pub returns : goal.returns
returns c =
    let acl = sym (c.is_acl_id.ensures ∙ ap is_acl_id c.as_str.ensures.value) ∙ c.if-not-is_acl_id.false in
    c.in_ok-all.ensures.items ∙ sym (ap (λ b. filter (λ row. b) c.args.rows.now) acl ∙ all_pass c.args.rows.now)
