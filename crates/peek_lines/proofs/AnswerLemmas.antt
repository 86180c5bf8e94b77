-- The verdict of an answer stands for the same JSON.
use Rattle.std.proofs.Common.{◌≡◌, refl}
use Rattle.grist_json.specs.Replies.{verdict_data}
use Rattle.peek_lines.specs.declared.answers.PeekAnswer.{PeekAnswer}
use Rattle.peek_lines.specs.declared.answers.PeekAnswer.TheVariants.{Table, NotOpen, Lagged, NoSuchTable}
use Rattle.peek_lines.specs.Answers.{answer_data, verdict_of}

pub answer_is : (a : PeekAnswer) → verdict_data (verdict_of a) ≡ answer_data a
answer_is (Table actions) = refl
answer_is NotOpen = refl
answer_is Lagged = refl
answer_is NoSuchTable = refl
