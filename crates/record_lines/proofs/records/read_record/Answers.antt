use Rattle.grist_json.proofs.Exactly.{found_of, none_of}
use Rattle.record_lines.specs.Records.{SpellsRecord, record_at}
use Rattle.record_lines.proofs.RecordLemmas.{record_found, record_none}
use Rattle.record_lines.proofs.records.read_record.Goals as goal

pub returns-clause-found : goal.returns-clause-found
returns-clause-found c = found_of record_at SpellsRecord record_found c.record_in.result c.args.bytes.now c.record_in.ensures

pub returns-clause-none : goal.returns-clause-none
returns-clause-none c = none_of record_at SpellsRecord record_none c.record_in.result c.args.bytes.now c.record_in.ensures
