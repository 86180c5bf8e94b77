use Rattle.std.proofs.Common.{◌≡◌, ◌++◌, map, drop, string_bytes}
use Rattle.renamed_resources.specs.NameLists.{behind_commas}
use Rattle.renamed_resources.specs.Renamed.{moved_id}
use Rattle.renamed_resources.proofs.renaming.write_others.Given as goal

-- what is written and what remains are the whole
abbrev pub invariant-loop-name : goal.invariant-loop-name
invariant-loop-name l =
    string_bytes l.text ++ behind_commas (map (moved_id l.old l.new) (drop l.name-index l.names))
    ≡ string_bytes l.initial.text ++ behind_commas (map (moved_id l.old l.new) l.names)
