use Rattle.std.proofs.Common.{◌∙◌, ap, arith, None, Some}
use Rattle.std.proofs.lemmas.Str.Pattern.{split_parts}
use Rattle.renamed_resources.specs.NameLists.{parts_of}
use Rattle.renamed_resources.proofs.TextLemmas.{parts_alone, parts_before}
use Rattle.renamed_resources.proofs.name_lists.first_part.Goals as goal

pub returns-in-None : goal.returns-in-None
returns-in-None c = parts_alone c.args.text.now (split_parts 44 c.args.text.now None c.in-None.ensures.cases (omega arith))

pub returns-in-Some : goal.returns-in-Some
returns-in-Some c =
    let parts = split_parts 44 c.args.text.now (Some (c.in-Some.part, c.in-Some.behind)) c.in-Some.ensures.cases (omega arith) in
    ap parts_of parts.0 ∙ parts_before c.in-Some.part.now c.in-Some.behind.now parts.1
