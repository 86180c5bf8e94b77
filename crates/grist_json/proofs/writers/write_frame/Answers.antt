use Rattle.std.proofs.Common.{◌≡◌, ℕ, List, true, Result, Ok, Err, IfOk, ap, ◌∙◌}
use Rattle.std.specs.Str.{IsUtf8}
use Rattle.serde_json.specs.Data.{Data}
use Rattle.serde_json.specs.Read.{read}
use Rattle.cell_types.specs.NameRule.{is_name}
use Rattle.grist_json.specs.Frames.{SpellsFrame, frame_data, frame_of}
use Rattle.grist_json.specs.Json.{IsJson}
use Rattle.grist_json.specs.Lines.{IsPrinted, frame_text}
use Rattle.grist_json.proofs.FrameLemmas.{framed_spells}
use Rattle.grist_json.proofs.FramedLemmas.{read_framed}
use Rattle.grist_json.proofs.JsonLemmas.{json_at_read}
use Rattle.grist_json.proofs.writers.write_frame.Goals as goal

module _ {E : Type 0} (line session : List ℕ) where
  is_json : (r : Result (List ℕ) E) → IfOk r (λ l. l ≡ frame_text line session) → IfOk r (λ l. IsUtf8 l) → IfOk r (λ l. (d : Data) → IsPrinted line d → IsJson l (frame_data d session))
  is_json (Ok l) text utf8 = λ d p. json_at_read l (frame_data d session) utf8 (ap read text ∙ read_framed line d session p)
  is_json (Err e) text utf8 = tt

  is_frame : (r : Result (List ℕ) E) → IfOk r (λ l. (d : Data) → IsPrinted line d → IsJson l (frame_data d session))
      → IfOk r (λ l. (d : Data) → IsPrinted line d → is_name session ≡ true → SpellsFrame (frame_of session d) l)
  is_frame (Ok l) reads = λ d p named. framed_spells l session d (reads d p) named
  is_frame (Err e) reads = tt

pub returns-clause-spells : goal.returns-clause-spells
returns-clause-spells c = is_json c.args.line.now c.args.session.now c.framed.result c.framed.ensures.text c.framed.ensures.utf8

pub returns-clause-reads_back : goal.returns-clause-reads_back
returns-clause-reads_back c = is_frame c.args.line.now c.args.session.now c.framed.result (returns-clause-spells c)
