use Rattle.std.proofs.Common.{◌≡◌, drop}
use Rattle.acl_rules.specs.Reading.{mentions_read, with_names}
use Rattle.acl_rules.proofs.reading.note_mentions.Given as goal

-- what is left completes it
abbrev pub invariant-loop-mention : goal.invariant-loop-mention
invariant-loop-mention l =
    with_names l.names (mentions_read (drop l.mention-index l.mentions)) ≡ with_names l.fn.names (mentions_read l.mentions)
