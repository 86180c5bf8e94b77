use Rattle.std.proofs.Common.{sym, ap, ◌∙◌, ◌&&◌}
use Rattle.std.specs.Str.{bytes_eq}
use Rattle.doc_model.specs.MetadataIds.{rules_id}
use Rattle.doc_model.proofs.Choices.{not_true}
use Rattle.meta_schema.specs.Agreement.{has_deciding_columns, has_further_columns}
use Rattle.meta_schema.proofs.AgreementWalks.{other_id}
use Rattle.meta_schema.proofs.metadata_tables.has_rules_table.Goals as goal

pub returns-then-ne : goal.returns-then-ne
unfolding rules_id
returns-then-ne g c =
    let s = g.D.DocReader.document c.args.tables.now in
    other_id s 3 rules_id c.in-Some.table.now (has_deciding_columns s && has_further_columns s) c.in-Some.ensures.told
    (sym (ap (λ n. bytes_eq n rules_id) c.as_str.ensures.value) ∙ not_true (bytes_eq c.as_str.result.now rules_id) (sym c.if-ne.ensures))
