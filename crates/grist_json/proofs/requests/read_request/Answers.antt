use Rattle.std.proofs.Common.{sym, ◌∙◌}
use Rattle.grist_json.proofs.RequestLemmas.{request_formed, request_found, request_none}
use Rattle.grist_json.proofs.requests.read_request.Goals as goal

pub returns-in-Ok-Some-clause-found : goal.returns-in-Ok-Some-clause-found
returns-in-Ok-Some-clause-found c = request_found c.args.line.now c.in-Ok-Some.request (sym c.in-Ok-Some.ensures ∙ c.in-Ok-Some.field-0-is)

pub returns-in-Ok-None-clause-none : goal.returns-in-Ok-None-clause-none
returns-in-Ok-None-clause-none c = λ bad. request_none c.args.line.now (sym c.in-Ok-None.ensures ∙ c.in-Ok-None.field-0-is)

pub returns-in-Ok-Some-clause-well_formed : goal.returns-in-Ok-Some-clause-well_formed
returns-in-Ok-Some-clause-well_formed c =
    let spells = request_found c.args.line.now c.in-Ok-Some.request (sym c.in-Ok-Some.ensures ∙ c.in-Ok-Some.field-0-is) in
    request_formed c.in-Ok-Some.request spells.0 spells.2
