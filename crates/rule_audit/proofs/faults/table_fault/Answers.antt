use Rattle.std.proofs.Common.{rules, ◌≡◌, false, map}
use Rattle.std.proofs.lemmas.Result.{IfOk-weaker}
use Rattle.doc_model.specs.MetadataIds.{is_metadata_id}
use Rattle.rule_audit.specs.Closed.{ruled_fault, table_fault}
use Rattle.rule_audit.specs.Open.{open_columns}
use Rattle.rule_audit.proofs.FaultLemmas.{fault_of}
use Rattle.rule_audit.proofs.faults.table_fault.Goals as goal

pub returns : goal.returns
returns c =
    let plain : is_metadata_id c.args.table.now.id ≡ false = search rules in
    let opened : map (λ b. b.now) c.as_slice-2.result.now ≡ open_columns c.args.ctx.now c.args.table.now = search rules in
    IfOk-weaker c.ruled_fault.result
    (λ f. f ≡ ruled_fault c.args.ctx.now (map (λ b. b.now) c.as_slice-2.result.now) c.args.table.now)
    (λ f. f ≡ table_fault c.args.ctx.now c.args.table.now)
    (λ f h. fault_of c.args.ctx.now c.args.table.now (map (λ b. b.now) c.as_slice-2.result.now) f plain opened h)
    c.ruled_fault.ensures
