use Rattle.grist_run.proofs.HeardLaws.{heard_stops, heard_end, heard_users, heard_bad, heard_request, heard_nothing_of_line, heard_last_users, heard_last_bad, heard_last_request, heard_last_request_at, heard_nothing_of_last, heard_request_at}
use Rattle.grist_run.proofs.user_lines.hear_next.Goals as goal

pub returns-in-Ok-End-clause-hears : goal.returns-in-Ok-End-clause-hears
returns-in-Ok-End-clause-hears g c left h = (heard_end _ _ _ _ _ _ _ h (rw c.in-Ok-End.field-0-is at c.in-Ok-End.ensures.reads), tt)

pub returns-in-Ok-Users-clause-hears : goal.returns-in-Ok-Users-clause-hears
returns-in-Ok-Users-clause-hears g c left h = (heard_last_users _ _ _ _ _ _ _ h _ _ (rw c.in-Ok-Last.field-0-is at c.in-Ok-Last.ensures.reads) c.line.ensures.line (rw c.in-Ok-Users.field-0-is at c.in-Ok-Users.ensures), tt)

pub returns-in-Ok-BadUser-clause-hears : goal.returns-in-Ok-BadUser-clause-hears
returns-in-Ok-BadUser-clause-hears g c left h = heard_last_bad _ _ _ _ _ _ _ h _ c.hear.new.users.items (rw c.in-Ok-Last.field-0-is at c.in-Ok-Last.ensures.reads) c.line.ensures.line (rw c.in-Ok-BadUser.field-0-is at c.in-Ok-BadUser.ensures)

pub returns-in-Ok-Request-clause-hears : goal.returns-in-Ok-Request-clause-hears
returns-in-Ok-Request-clause-hears g c left h = (
  heard_last_request _ _ _ _ _ _ _ h _ _ (rw c.in-Ok-Last.field-0-is at c.in-Ok-Last.ensures.reads) c.line.ensures.line (rw c.in-Ok-Request.field-0-is at c.in-Ok-Request.ensures),
  heard_last_request_at _ _ _ _ _ _ _ h _ _ (rw c.in-Ok-Last.field-0-is at c.in-Ok-Last.ensures.reads) c.line.ensures.line (rw c.in-Ok-Request.field-0-is at c.in-Ok-Request.ensures),
)

pub returns-in-Err-hear-clause-hears : goal.returns-in-Err-hear-clause-hears
returns-in-Err-hear-clause-hears g c left h = heard_nothing_of_last _ _ _ _ _ _ _ h _ c.args.users.now.items (rw c.in-Ok-Last.field-0-is at c.in-Ok-Last.ensures.reads) c.line.ensures.line

pub returns-in-Ok-Users-hear-clause-hears : goal.returns-in-Ok-Users-hear-clause-hears
returns-in-Ok-Users-hear-clause-hears g c left h = heard_users _ _ _ _ _ _ _ h _ _ (rw c.in-Ok-Line.field-0-is at c.in-Ok-Line.ensures.reads) c.line-in-Ok-Line.ensures.line (rw c.in-Ok-Users-hear.field-0-is at c.in-Ok-Users-hear.ensures)

pub returns-in-Ok-BadUser-hear-clause-hears : goal.returns-in-Ok-BadUser-hear-clause-hears
returns-in-Ok-BadUser-hear-clause-hears g c left h = heard_bad _ _ _ _ _ _ _ h _ c.hear-in-Ok-Line.new.users.items (rw c.in-Ok-Line.field-0-is at c.in-Ok-Line.ensures.reads) c.line-in-Ok-Line.ensures.line (rw c.in-Ok-BadUser-hear.field-0-is at c.in-Ok-BadUser-hear.ensures)

pub returns-in-Ok-Request-hear-clause-hears : goal.returns-in-Ok-Request-hear-clause-hears
returns-in-Ok-Request-hear-clause-hears g c left h = (
  heard_request _ _ _ _ _ _ _ h _ _ (rw c.in-Ok-Line.field-0-is at c.in-Ok-Line.ensures.reads) c.line-in-Ok-Line.ensures.line (rw c.in-Ok-Request-hear.field-0-is at c.in-Ok-Request-hear.ensures),
  heard_request_at _ _ _ _ _ _ _ h _ _ (rw c.in-Ok-Line.field-0-is at c.in-Ok-Line.ensures.reads) c.line-in-Ok-Line.ensures.line (rw c.in-Ok-Request-hear.field-0-is at c.in-Ok-Request-hear.ensures),
)

pub returns-in-Err-hear-2-clause-hears : goal.returns-in-Err-hear-2-clause-hears
returns-in-Err-hear-2-clause-hears g c left h = heard_nothing_of_line _ _ _ _ _ _ _ h _ c.args.users.now.items (rw c.in-Ok-Line.field-0-is at c.in-Ok-Line.ensures.reads) c.line-in-Ok-Line.ensures.line

pub returns-in-Err-clause-hears : goal.returns-in-Err-clause-hears
returns-in-Err-clause-hears g c left h = heard_stops _ _ _ _ _ _ _ h c.in-Err.status c.in-Err.ensures.reads
