use Rattle.std.proofs.Common.{List, ap, sym, subst, ◌∙◌}
use Rattle.acl_rules.specs.declared.decision.Ctx.{Ctx}
use Rattle.acl_rules.specs.Loaded.{book_of}
use Rattle.user_attrs.specs.Attributes.{attributes_of}
use Rattle.agreeing_contexts.specs.Fields.{mentioned_fields}
use Rattle.context_changes.specs.Known.{AreInForce}
use Rattle.context_changes.proofs.KnownLemmas.{in_force_anew}
use Rattle.context_changes.proofs.known.KnownContexts.anew.Goals as goal

pub returns-clause-known : goal.returns-clause-known
returns-clause-known g c =
    let s = g.D.DocReader.document c.args.doc.now in
    let P : List Ctx → Type 0 = λ xs. AreInForce s xs in
    record {
      attributes = c.in_ok-attributes.ensures ∙ ap (λ d. attributes_of (g.D.DocReader.document d)) c.tables.ensures.value;
      fields = c.in_ok-fields.ensures ∙ ap (λ d. mentioned_fields (book_of (g.D.DocReader.document d))) c.tables-2.ensures.value;
      contexts = subst P (sym c.in_ok-contexts.ensures) (in_force_anew s c.as_slice-2.result.now);
    }
