-- What the sources and sinks in memory tell.
use Rattle.std.specs.Prelude.{ℕ, ◌-◌, ◌<◌, ◌≡◌, Bool, List, Some, drop, length, Contains, ◌⊎◌}
use Rattle.io_edges.specs.declared.listed_calls.ListedCalls.{ListedCalls}
use Rattle.io_edges.specs.declared.memory_source.MemSource.{MemSource}
use Rattle.io_edges.specs.declared.memory_source.SureSource.{SureSource}
use Rattle.io_edges.specs.declared.memory_sink.MemSink.{MemSink}
use Rattle.io_edges.specs.declared.memory_link.MemLink.{MemLink}
use Rattle.io_edges.specs.declared.memory_link.SureLink.{SureLink}
use Rattle.io_edges.specs.declared.memory_port.MemPort.{MemPort}
use Rattle.io_edges.specs.declared.port.Returned.{Returned}
use Rattle.io_edges.specs.Ports.{PortState}

-- how many calls there were
abbrev pub calls_of : ListedCalls → ℕ
calls_of l = l.count

-- the numbers of the calls that are to fail
abbrev pub failing_of : ListedCalls → List ℕ
failing_of l = l.failing.items

-- the bytes that reads will give
abbrev pub left_of : MemSource → List ℕ
left_of s = drop s.at s.bytes.items

-- how often the source has failed
abbrev pub read_faults : MemSource → ℕ
read_faults s = s.faults

-- how often the source was called
abbrev pub read_calls : MemSource → ℕ
read_calls s = calls_of s.calls

-- the calls that are to fail
abbrev pub failing_reads : MemSource → List ℕ
failing_reads s = failing_of s.calls

-- the bytes that reads of a source that never fails will give
abbrev pub sure_left_of : SureSource → List ℕ
sure_left_of s = drop s.at s.bytes.items

-- the bytes that were written
abbrev pub written_of : MemSink → List ℕ
written_of s = s.bytes.items

-- how often the sink has failed
abbrev pub write_faults : MemSink → ℕ
write_faults s = s.faults

-- how often the sink was called
abbrev pub write_calls : MemSink → ℕ
write_calls s = calls_of s.calls

-- the calls that are to fail
abbrev pub failing_writes : MemSink → List ℕ
failing_writes s = failing_of s.calls

-- how many bytes the sink holds at most
abbrev pub room_of : MemSink → ℕ
room_of s = s.room

-- for how many more bytes the sink has room
abbrev pub space_of : MemSink → ℕ
space_of s = room_of s - length (written_of s)

-- a write of the piece is to fail, or finds no room
abbrev pub RefusesPiece : MemSink → List ℕ → Type 0
RefusesPiece s piece =
    Contains (failing_writes s) (write_calls s) ⊎ ((space_of s ≡ 0) × (0 < length piece))

-- what a link in memory reads from, and what it writes to
abbrev pub source_of : MemLink → MemSource
source_of l = l.source

abbrev pub sink_of : MemLink → MemSink
sink_of l = l.sink

-- what a link in memory that never fails reads from
abbrev pub sure_source_of : SureLink → SureSource
sure_source_of l = l.source

module _ {L : Type 0} where
  -- the connections that a port in memory has not handed out yet
  abbrev pub waiting_of : MemPort L → List L
  waiting_of p = p.waiting.items

  -- the connections that came back to it
  abbrev pub back_of : MemPort L → List (Returned L)
  back_of p = p.back.items

  -- how many connections it has handed out
  abbrev pub handed_of : MemPort L → ℕ
  handed_of p = p.handed

  -- whether one of them is out
  abbrev pub is_lent : MemPort L → Bool
  is_lent p = p.lent

  -- whether its last answer was that none will come
  abbrev pub is_ended : MemPort L → Bool
  is_ended p = p.ended

  -- how often it has failed
  abbrev pub next_faults : MemPort L → ℕ
  next_faults p = p.faults

  -- how often it was asked
  abbrev pub next_calls : MemPort L → ℕ
  next_calls p = calls_of p.calls

  -- the calls that are to fail
  abbrev pub failing_nexts : MemPort L → List ℕ
  failing_nexts p = failing_of p.calls

  -- all that is told of it
  abbrev pub port_state : MemPort L → PortState L
  port_state p = record {
    handed = handed_of p;
    lent = is_lent p;
    ended = is_ended p;
    faults = next_faults p;
    left = Some (waiting_of p);
    back = Some (back_of p);
  }
