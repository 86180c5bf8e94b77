-- What is sent for a request.
use Rattle.std.specs.Prelude.{Bool, true, false}
use Rattle.web_edges.specs.declared.handshake.Sent.{Sent}
use Rattle.web_edges.specs.declared.handshake.Sent.TheVariants.{Page, Refusal, Socket}

-- a connection or the page, and no refusal
abbrev pub is_granted : Sent → Bool
is_granted (Socket bytes) = true
is_granted Page = true
is_granted (Refusal bytes) = false
