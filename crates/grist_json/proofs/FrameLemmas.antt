-- A frame is read exactly from the JSON that is one.
use Rattle.std.proofs.Common.{◌≡◌, ℕ, List, codes, true, Option, Some, None, unwrap_or, refl, sym, ap, ◌∙◌, subst, inl, inr}
use Rattle.serde_json.specs.Data.{Data, object, string, member}
use Rattle.serde_json.specs.Find.{as_object}
use Rattle.cell_types.specs.NameRule.{is_name}
use Rattle.doc_model.specs.declared.request.Request.{Request}
use Rattle.doc_model.specs.declared.request.Request.TheVariants.{Bad}
use Rattle.doc_model.specs.WellFormed.{asks_well_formed}
use Rattle.grist_json.specs.declared.frames.Frame.{Frame}
use Rattle.action_lines.specs.Fields.{field, field_text, is_done}
use Rattle.grist_json.specs.Reading.{request_from}
use Rattle.grist_json.specs.Frames.{frame_data, frame_of, Asks, IsFrame, SpellsFrame, request_or_bad, frame_from, frame_at}
use Rattle.grist_json.specs.Json.{IsJson}
use Rattle.action_lines.proofs.StepLemmas.{bind_some, guard_then, guard_some, none≢some}
use Rattle.action_lines.proofs.FieldLemmas.{object_takes, field_takes, field_text_takes, done_takes}
use Rattle.grist_json.proofs.RequestLemmas.{request_takes, request_again, request_formed}
use Rattle.grist_json.proofs.Exactly.{found_by, none_by, once_by}

asks_read : (line : Data) (o : Option Request) → request_from line ≡ o → Asks (unwrap_or o Bad) line
asks_read line None e = inr (refl, λ other s. none≢some other (sym e ∙ request_again other line s))
asks_read line (Some r) e = inl (request_takes line r e)

asks_again : (line : Data) (request : Request) → Asks request line → (o : Option Request) → request_from line ≡ o → unwrap_or o Bad ≡ request
asks_again line request (inl s) o e = ap (λ x. unwrap_or x Bad) (sym e ∙ request_again request line s)
asks_again line request (inr n) None e = sym n.0
asks_again line request (inr n) (Some r) e = absurd (n.1 r (request_takes line r e))

read_again : (line : Data) (session : List ℕ) (request : Request) → is_name session ≡ true → Asks request line → frame_from (frame_data line session) ≡ Some (record { session = session; request = request })
unfolding frame_from
read_again line session request named a = rw named (ap (λ (r : Request). Some (record { session = session; request = r })) (asks_again line request a (request_from line) refl))

frame_again : (f : Frame) (d : Data) → IsFrame f d → frame_from d ≡ Some f
frame_again f d s = ap frame_from s.1 ∙ read_again s.0 f.session f.request s.2 s.3

frame_takes : (d : Data) (f : Frame) → frame_from d ≡ Some f → IsFrame f d
unfolding frame_from
frame_takes d f e =
    let a = bind_some (as_object d) _ f e in
    let b = bind_some (field (codes "line") a.0) _ f a.2 in
    let c = bind_some (field_text (codes "session") b.0.1) _ f b.2 in
    let done = guard_then (is_done c.0.1) _ f c.2 in
    let made : Frame = record { session = c.0.0; request = request_or_bad b.0.0 } in
    let named = guard_some (is_name c.0.0) made f done.1 in
    let whole : d ≡ frame_data b.0.0 c.0.0 =
    object_takes d a.0 a.1
    ∙ ap object (field_takes (codes "line") a.0 b.0.0 b.0.1 b.1
    ∙ ap (member (codes "line") b.0.0) (field_text_takes (codes "session") b.0.1 c.0.0 c.0.1 c.1
    ∙ ap (member (codes "session") (string c.0.0)) (done_takes c.0.1 done.0))) in
    let is : IsFrame made d = (b.0.0, whole, named.0, asks_read b.0.0 (request_from b.0.0) refl) in
    subst (λ x. IsFrame x d) named.1 is

pub frame_found : (bytes : List ℕ) (f : Frame) → frame_at bytes ≡ Some f → SpellsFrame f bytes
unfolding frame_at
frame_found bytes f e = found_by frame_from IsFrame frame_takes bytes f e

pub frame_none : (bytes : List ℕ) → frame_at bytes ≡ None → (f : Frame) → SpellsFrame f bytes → ⊥
unfolding frame_at
frame_none bytes e f s = none_by frame_from IsFrame frame_again bytes e f s

pub frame_once : (bytes : List ℕ) (f g : Frame) → SpellsFrame f bytes → SpellsFrame g bytes → f ≡ g
frame_once bytes f g s t = once_by frame_from IsFrame frame_again bytes f g s t

asks_formed : (line : Data) (request : Request) → Asks request line → asks_well_formed request ≡ true
asks_formed line request (inl s) = request_formed request line s
asks_formed line request (inr n) = ap asks_well_formed n.0

-- the request of a frame is well formed
pub frame_formed : (bytes : List ℕ) (f : Frame) → frame_at bytes ≡ Some f → asks_well_formed f.request ≡ true
frame_formed bytes f e =
    let is = frame_found bytes f e in
    asks_formed is.2.0 f.request is.2.3

-- what a value asks for in a frame is spelled by it
pub framed_spells : (bytes : List ℕ) (session : List ℕ) (d : Data) → IsJson bytes (frame_data d session) → is_name session ≡ true → SpellsFrame (frame_of session d) bytes
framed_spells bytes session d reads named = (frame_data d session, reads, (d, refl, named, asks_read d (request_from d) refl))
