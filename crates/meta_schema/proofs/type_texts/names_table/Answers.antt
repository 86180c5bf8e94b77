use Rattle.std.proofs.Common.{Some, None, ap, ◌∙◌}
use Rattle.std.specs.Str.{bytes_eq}
use Rattle.meta_schema.proofs.TextLemmas.{names_told}
use Rattle.meta_schema.proofs.type_texts.names_table.Goals as goal

pub returns-in-Some : goal.returns-in-Some
returns-in-Some c =
    c.eq.ensures ∙ ap (bytes_eq c.in-Some.rest.now) c.as_str.ensures.value
    ∙ names_told c.args.word.now c.args.text.now c.args.table.now (Some c.in-Some.rest.now) c.in-Some.ensures

pub returns-in-None : goal.returns-in-None
returns-in-None c = names_told c.args.word.now c.args.text.now c.args.table.now None c.in-None.ensures
