-- Lines that are sent one after the other.
use Rattle.std.proofs.Common.{◌≡◌, ℕ, ◌+◌, ◌<◌, List, [], ◌∷◌, ◌++◌, length, take, drop, get_or, Option, refl, sym, ap, ◌∙◌, subst, append_assoc}
use Rattle.std.proofs.lemmas.List.{take_more, take-append-drop}
use Rattle.std.specs.Io.KnownBytes.{Appends}
use Rattle.io_edges.proofs.SendingLemmas.{appends_both, joined, sends_after}
use Rattle.io_edges.specs.Sending.{Sends, SendsFront}
use Rattle.bundle_core.specs.Told.{with_newlines}

module _ (a b v : List ℕ) {x y z : Option (List ℕ)} where
  -- a front of it was
  pub front_after : Sends a v x y → SendsFront (v ++ b) y z → SendsFront (a ++ b) x z
  front_after s t = record {
    front = s.front ++ t.front;
    rest = t.rest;
    split = joined a b s.front v t.front t.rest s.split t.split;
    written = appends_both x y z s.front t.front s.written t.written;
  }

-- a front of more bytes was written
pub front_longer : {a : List ℕ} {x y : Option (List ℕ)} (b : List ℕ) → SendsFront a x y → SendsFront (a ++ b) x y
front_longer b s = record { front = s.front; rest = s.rest ++ b; split = ap (λ l. l ++ b) s.split ∙ append_assoc s.front s.rest b; written = s.written }

module _ (a v : List ℕ) (x y z : Option (List ℕ)) where
  -- what waited was written
  pub all_sent : Sends a v x y → Appends y z v → Appends x z a
  all_sent s more = subst (λ (l : List ℕ). Appends x z l) (sym s.split) (appends_both x y z s.front v s.written more)

  -- a front of what waited was
  pub front_sent : Sends a v x y → SendsFront v y z → SendsFront a x z
  front_sent s t = record {
    front = s.front ++ t.front;
    rest = t.rest;
    split = s.split ∙ ap (λ l. s.front ++ l) t.split ∙ sym (append_assoc s.front t.front t.rest);
    written = appends_both x y z s.front t.front s.written t.written;
  }

pub with_newlines-append : (ls ks : List (List ℕ)) → with_newlines (ls ++ ks) ≡ with_newlines ls ++ with_newlines ks
with_newlines-append [] ks = refl
with_newlines-append (l ∷ ls) ks = ap (λ r. l ++ 10 ∷ r) (with_newlines-append ls ks) ∙ sym (append_assoc l (10 ∷ with_newlines ls) (with_newlines ks))

module _ (lines : List (List ℕ)) (i : ℕ) (line : List ℕ) (lt : i < length lines) (is : line ≡ get_or lines i line) where
  with_one : with_newlines (take i lines) ++ (line ++ 10 ∷ []) ≡ with_newlines (take (i + 1) lines)
  with_one = sym (ap with_newlines (take_more lines i line lt ∙ ap (λ l. take i lines ++ l ∷ []) (sym is)) ∙ with_newlines-append (take i lines) (line ∷ []))

  whole : with_newlines (take (i + 1) lines) ++ with_newlines (drop (i + 1) lines) ≡ with_newlines lines
  whole = sym (with_newlines-append (take (i + 1) lines) (drop (i + 1) lines)) ∙ ap with_newlines (take-append-drop (i + 1) lines)

  module _ (v : List ℕ) (x y z : Option (List ℕ)) where
    pub line_sent : (u : List ℕ) → Sends (with_newlines (take i lines)) v x y → Sends ((v ++ line) ++ 10 ∷ []) u y z → Sends (with_newlines (take (i + 1) lines)) u x z
    line_sent u s t =
        subst (λ (b : List ℕ). Sends b u x z) with_one
        (sends_after (with_newlines (take i lines)) (line ++ 10 ∷ []) v u s (subst (λ (b : List ℕ). Sends b u y z) (append_assoc v line (10 ∷ [])) t))

    pub line_lost : Sends (with_newlines (take i lines)) v x y → SendsFront ((v ++ line) ++ 10 ∷ []) y z → SendsFront (with_newlines lines) x z
    line_lost s t =
        subst (λ (b : List ℕ). SendsFront b x z) whole
        (front_longer (with_newlines (drop (i + 1) lines))
        (subst (λ (b : List ℕ). SendsFront b x z) with_one
        (front_after (with_newlines (take i lines)) (line ++ 10 ∷ []) v s (subst (λ (b : List ℕ). SendsFront b y z) (append_assoc v line (10 ∷ [])) t))))
