use Rattle.std.proofs.Common.{◌≡◌, take}
use Rattle.acl_rules.specs.Chain.{is_of, of_document}
use Rattle.acl_rules.specs.Places.{places_of}
use Rattle.acl_rules.proofs.resources.document_places.Given as goal

abbrev pub invariant-loop-place : goal.invariant-loop-place
invariant-loop-place l = l.places.items ≡ places_of (is_of of_document) (take l.place l.resources)
