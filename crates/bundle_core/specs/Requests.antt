-- Why requests are refused whatever the document holds.
use Rattle.std.specs.Prelude.{Option, Some, None}
use Rattle.doc_model.specs.declared.refusal.Refusal.{Refusal}
use Rattle.doc_model.specs.declared.refusal.Refusal.TheVariants.{BadLine, LineTooLong, NotOpen, AlreadyOpen}
use Rattle.doc_model.specs.declared.request.Request.{Request}
use Rattle.doc_model.specs.declared.request.Request.TheVariants as request

-- of a session that is not open, where it does not ask for the document
abbrev pub refusal_closed : Request → Refusal
refusal_closed request.TooLong = LineTooLong
refusal_closed (request.Apply actions) = NotOpen
refusal_closed (request.Undo bundle) = NotOpen
refusal_closed request.Sync = NotOpen
refusal_closed (request.Fetch table) = NotOpen
refusal_closed (request.Rename table column new) = NotOpen
refusal_closed request.Close = NotOpen
refusal_closed _ = BadLine

-- of a session that is open
abbrev pub refusal_open : Request → Option Refusal
refusal_open request.Bad = Some BadLine
refusal_open request.TooLong = Some LineTooLong
refusal_open (request.Open token) = Some AlreadyOpen
refusal_open _ = None
