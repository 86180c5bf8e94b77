use Rattle.std.proofs.Common.{◌≡◌, drop}
use Rattle.websocket.specs.Headers.{fields_of, header_value}
use Rattle.web_requests.proofs.request.value_of.Given as goal

abbrev pub invariant-loop-span : goal.invariant-loop-span
invariant-loop-span l =
    header_value (fields_of l.head l.spans) l.name ≡ header_value (fields_of l.head (drop l.span-index l.spans)) l.name
