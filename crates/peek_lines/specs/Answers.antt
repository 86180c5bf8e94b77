-- The JSON of answers to peeks.
use Rattle.std.specs.Prelude.{ℕ, List, codes, None}
use Rattle.serde_json.specs.Data.{Data, object, string, no_members, member}
use Rattle.doc_model.specs.declared.refusal.Refusal.TheVariants as refusal
use Rattle.doc_model.specs.declared.verdict.Verdict.{Verdict}
use Rattle.doc_model.specs.declared.verdict.Verdict.TheVariants.{Changes, Refused}
use Rattle.grist_json.specs.Actions.{actions_data}
use Rattle.grist_json.specs.Replies.{number_data, ok_data}
use Rattle.peek_lines.specs.declared.answers.PeekAnswer.{PeekAnswer}
use Rattle.peek_lines.specs.declared.answers.PeekAnswer.TheVariants.{Table, NotOpen, Lagged, NoSuchTable}

-- {"error":{"code":n,"name":text}}
abbrev pub refused_data : ℕ → List ℕ → Data
refused_data code name =
    object (member (codes "error") (object
    (member (codes "code") (number_data code)
    (member (codes "name") (string name) no_members))) no_members)

-- {"ok":{"actions":[..]}}, or one of three refusals
abbrev pub answer_data : PeekAnswer → Data
answer_data (Table actions) =
    ok_data (object (member (codes "actions") (actions_data actions) no_members))
answer_data NotOpen = refused_data 3 (codes "NotOpen")
answer_data Lagged = refused_data 21 (codes "Lagged")
answer_data NoSuchTable = refused_data 6 (codes "NoSuchTable")

-- the verdict that a request would be answered by
abbrev pub verdict_of : PeekAnswer → Verdict
verdict_of (Table actions) = Changes actions
verdict_of NotOpen = Refused refusal.NotOpen None
verdict_of Lagged = Refused refusal.Lagged None
verdict_of NoSuchTable = Refused refusal.NoSuchTable None
