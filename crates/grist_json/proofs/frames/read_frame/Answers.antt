use Rattle.std.proofs.Common.{◌≡◌, true}
use Rattle.doc_model.specs.WellFormed.{asks_well_formed}
use Rattle.grist_json.specs.Frames.{frame_at, SpellsFrame}
use Rattle.grist_json.proofs.Exactly.{found_of, none_of}
use Rattle.grist_json.proofs.FrameLemmas.{frame_formed, frame_found, frame_none}
use Rattle.grist_json.proofs.frames.read_frame.Goals as goal

pub returns-clause-found : goal.returns-clause-found
returns-clause-found c = found_of frame_at SpellsFrame frame_found c.frame_in.result c.args.line.now c.frame_in.ensures

pub returns-clause-none : goal.returns-clause-none
returns-clause-none c = none_of frame_at SpellsFrame frame_none c.frame_in.result c.args.line.now c.frame_in.ensures

pub returns-clause-well_formed : goal.returns-clause-well_formed
returns-clause-well_formed c = found_of frame_at (λ f bytes. asks_well_formed f.request ≡ true) frame_formed c.frame_in.result c.args.line.now c.frame_in.ensures
