use Rattle.dep_graph.proofs.ReaderLaws.{on_ok}
use Rattle.affected_search.proofs.FoundLaws.{keys_more}
use Rattle.affected_search.proofs.search.add_key_readers.Goals as goal

pub returns-clause-keys : goal.returns-clause-keys
returns-clause-keys c =
    on_ok c.add_readers.result (keys_more c.args.graph.now.reads c.args.keys.now.keys c.insert.new.self.keys c.args.found.now c.add_readers.new.found c.args.column c.requires c.in_ok-insert.ensures.updates.0) c.add_readers.ensures
