-- What was sent, put together from its parts.
use Rattle.std.proofs.Common.{◌≡◌, ℕ, ◌+◌, ◌<◌, List, [], ◌∷◌, ◌++◌, length, take, drop, get_or, Option, refl, sym, ap, ◌∙◌, subst, append_assoc, append-nil}
use Rattle.std.proofs.lemmas.List.{take_more, take-append-drop}
use Rattle.std.specs.Io.KnownBytes.{Appends}
use Rattle.io_edges.specs.Sending.{Sends, SendsFront}
use Rattle.io_edges.proofs.SendingLemmas.{appends_both, appends_none, joined, sends_after}
use Rattle.grist_json.specs.Lines.{frame_text}
use Rattle.bundle_core.specs.Frames.{framed}
use Rattle.grist_run.specs.Sending.{SendsPart}

module _ (a b v : List ℕ) {x y z : Option (List ℕ)} where
  -- not all of it was
  pub part_after : (w : List ℕ) → Sends a v x y → SendsPart (v ++ b) w y z → SendsPart (a ++ b) w x z
  part_after w s t = record {
    front = s.front ++ t.front;
    lost = t.lost;
    split = joined a b s.front v t.front (w ++ t.lost) s.split (t.split ∙ append_assoc t.front w t.lost) ∙ sym (append_assoc (s.front ++ t.front) w t.lost);
    written = appends_both x y z s.front t.front s.written t.written;
  }

  -- a front of it was
  pub front_after : (w : List ℕ) → w ≡ [] → Sends a v x y → SendsFront (v ++ b) y z → SendsPart (a ++ b) w x z
  front_after w none s t = record {
    front = s.front ++ t.front;
    lost = t.rest;
    split = joined a b s.front v t.front t.rest s.split t.split ∙ ap (λ l. l ++ t.rest) (sym (append-nil (s.front ++ t.front)) ∙ ap (λ l. (s.front ++ t.front) ++ l) (sym none));
    written = appends_both x y z s.front t.front s.written t.written;
  }

module _ {a : List ℕ} {x y : Option (List ℕ)} where
  -- what stands behind is lost too
  pub part_more : (b w : List ℕ) → SendsPart a w x y → SendsPart (a ++ b) w x y
  part_more b w s = record {
    front = s.front;
    lost = s.lost ++ b;
    split = ap (λ l. l ++ b) s.split ∙ append_assoc (s.front ++ w) s.lost b;
    written = s.written;
  }

  pub front_more : (b w : List ℕ) → w ≡ [] → SendsFront a x y → SendsPart (a ++ b) w x y
  front_more b w none s = part_more b w (record {
    front = s.front;
    lost = s.rest;
    split = s.split ∙ ap (λ l. l ++ s.rest) (sym (append-nil s.front) ∙ ap (λ l. s.front ++ l) (sym none));
    written = s.written;
  })

  -- all that was sent is a part of it
  pub part_of : (w : List ℕ) → Sends a w x y → SendsPart a w x y
  part_of w s = record { front = s.front; lost = []; split = s.split ∙ sym (append-nil (s.front ++ w)); written = s.written }

  -- what waited was written
  pub sends_all : (w : List ℕ) (z : Option (List ℕ)) → Sends a w x y → Appends y z w → Appends x z a
  sends_all w z s more = subst (λ (l : List ℕ). Appends x z l) (sym s.split) (appends_both x y z s.front w s.written more)

  -- what waited was written, and the rest is lost
  pub part_all : (w : List ℕ) (z : Option (List ℕ)) → SendsPart a w x y → Appends y z w → SendsFront a x z
  part_all w z s more = record { front = s.front ++ w; rest = s.lost; split = s.split; written = appends_both x y z s.front w s.written more }

  -- a front of what waited was written
  pub part_front : (w : List ℕ) (z : Option (List ℕ)) → SendsPart a w x y → SendsFront w y z → SendsFront a x z
  part_front w z s t = record {
    front = s.front ++ t.front;
    rest = t.rest ++ s.lost;
    split = s.split ∙ ap (λ l. (s.front ++ l) ++ s.lost) t.split ∙ ap (λ l. l ++ s.lost) (sym (append_assoc s.front t.front t.rest)) ∙ append_assoc (s.front ++ t.front) t.rest s.lost;
    written = appends_both x y z s.front t.front s.written t.written;
  }

-- nothing was sent
pub nothing_sent : (v b : List ℕ) (x : Option (List ℕ)) → SendsPart (v ++ b) v x x
nothing_sent v b x = record { front = []; lost = b; split = refl; written = appends_none x }

-- ---- frames of lines

pub framed-append : (session : List ℕ) (ls ks : List (List ℕ)) → framed session (ls ++ ks) ≡ framed session ls ++ framed session ks
framed-append session [] ks = refl
framed-append session (l ∷ ls) ks =
    ap (λ r. frame_text l session ++ 10 ∷ r) (framed-append session ls ks)
    ∙ sym (append_assoc (frame_text l session) (10 ∷ framed session ls) (framed session ks))

-- one line more of a session
module _ (session : List ℕ) (lines : List (List ℕ)) (i : ℕ) (line : List ℕ) (lt : i < length lines) (is : line ≡ get_or lines i line) (v now new : List ℕ) (x y z : Option (List ℕ)) where
  abbrev one : List ℕ
  one = frame_text line session ++ 10 ∷ []

  abbrev before : List ℕ
  before = framed session (take i lines)

  with_one : framed session (take (i + 1) lines) ≡ before ++ one
  with_one = ap (framed session) (take_more lines i line lt ∙ ap (λ l. take i lines ++ l ∷ []) (sym is)) ∙ framed-append session (take i lines) (line ∷ [])

  longer : (v ++ before) ++ one ≡ v ++ framed session (take (i + 1) lines)
  longer = append_assoc v before one ∙ ap (λ l. v ++ l) (sym with_one)

  whole : (v ++ framed session (take (i + 1) lines)) ++ framed session (drop (i + 1) lines) ≡ v ++ framed session lines
  whole =
      append_assoc v (framed session (take (i + 1) lines)) (framed session (drop (i + 1) lines))
      ∙ ap (λ l. v ++ l) (sym (framed-append session (take (i + 1) lines) (drop (i + 1) lines)) ∙ ap (framed session) (take-append-drop (i + 1) lines))

  pub line_sent : Sends (v ++ before) now x y → Sends ((now ++ frame_text line session) ++ 10 ∷ []) new y z → Sends (v ++ framed session (take (i + 1) lines)) new x z
  line_sent s t =
      subst (λ (b : List ℕ). Sends b new x z) longer
      (sends_after (v ++ before) one now new s (subst (λ (b : List ℕ). Sends b new y z) (append_assoc now (frame_text line session) (10 ∷ [])) t))

  pub line_lost : Sends (v ++ before) now x y → SendsPart ((now ++ frame_text line session) ++ 10 ∷ []) new y z → SendsPart (v ++ framed session lines) new x z
  line_lost s t =
      let part = part_after (v ++ before) one now new s (subst (λ (b : List ℕ). SendsPart b new y z) (append_assoc now (frame_text line session) (10 ∷ [])) t) in
      subst (λ (b : List ℕ). SendsPart b new x z) whole
      (part_more (framed session (drop (i + 1) lines)) new (subst (λ (b : List ℕ). SendsPart b new x z) longer part))
