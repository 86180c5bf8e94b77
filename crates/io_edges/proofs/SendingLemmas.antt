-- Bytes that are sent one after the other.
use Rattle.std.proofs.Common.{◌≡◌, ℕ, List, [], ◌++◌, Option, Some, None, refl, sym, ap, ◌∙◌, take, drop, Result, Ok, Err, OnOk, OnErr, append_assoc, append-nil}
use Rattle.std.proofs.lemmas.List.{take-append-drop}
use Rattle.std.specs.Io.KnownBytes.{Appends, Keeps}
use Rattle.io_edges.specs.Sending.{Sends, SendsFront}

pub appends_both : (x y z : Option (List ℕ)) (a b : List ℕ) → Appends x y a → Appends y z b → Appends x z (a ++ b)
appends_both None y z a b p q = tt
appends_both (Some xs) None z a b p q = absurd p
appends_both (Some xs) (Some ys) None a b p q = absurd q
appends_both (Some xs) (Some ys) (Some zs) a b p q = q ∙ ap (λ l. l ++ b) p ∙ append_assoc xs a b

pub appends_keeps : (x y z : Option (List ℕ)) (a : List ℕ) → Appends x y a → Keeps y z → Appends x z a
appends_keeps None y z a p q = tt
appends_keeps (Some xs) None z a p q = absurd p
appends_keeps (Some xs) (Some ys) None a p q = absurd q
appends_keeps (Some xs) (Some ys) (Some zs) a p q = q ∙ p

pub appends_none : (x : Option (List ℕ)) → Appends x x []
appends_none None = tt
appends_none (Some xs) = sym (append-nil xs)

-- nothing is sent yet
pub sends_none : (bytes : List ℕ) (x : Option (List ℕ)) → Sends bytes bytes x x
sends_none bytes x = record { front = []; split = refl; written = appends_none x }

module _ {bytes waiting : List ℕ} {x y z : Option (List ℕ)} where
  -- n more bytes are sent
  pub sends_more : (n : ℕ) → Sends bytes waiting x y → Appends y z (take n waiting) → Sends bytes (drop n waiting) x z
  sends_more n s more = record {
    front = s.front ++ take n waiting;
    split = s.split ∙ ap (λ l. s.front ++ l) (sym (take-append-drop n waiting)) ∙ sym (append_assoc s.front (take n waiting) (drop n waiting));
    written = appends_both x y z s.front (take n waiting) s.written more;
  }

  -- what waits is lost
  pub sends_fails : Sends bytes waiting x y → Keeps y z → SendsFront bytes x z
  sends_fails s keeps = record { front = s.front; rest = waiting; split = s.split; written = appends_keeps x y z s.front s.written keeps }

module _ (bytes more : List ℕ) (x y z : Option (List ℕ)) where
  -- the first bytes were sent, and then all of the others
  pub sends_both : Appends x y bytes → Appends y z more → Sends (bytes ++ more) [] x z
  sends_both first second = record {
    front = bytes ++ more;
    split = sym (append-nil (bytes ++ more));
    written = appends_both x y z bytes more first second;
  }

  -- the first bytes were sent, and a front of the others
  pub sends_second : Appends x y bytes → SendsFront more y z → SendsFront (bytes ++ more) x z
  sends_second first s = record {
    front = bytes ++ s.front;
    rest = s.rest;
    split = ap (λ l. bytes ++ l) s.split ∙ sym (append_assoc bytes s.front s.rest);
    written = appends_both x y z bytes s.front first s.written;
  }

-- what was sent first and what was sent of the rest
pub joined : (a b f v g r : List ℕ) → a ≡ f ++ v → v ++ b ≡ g ++ r → a ++ b ≡ (f ++ g) ++ r
joined a b f v g r first second =
    ap (λ l. l ++ b) first ∙ append_assoc f v b ∙ ap (λ l. f ++ l) second ∙ sym (append_assoc f g r)

-- more was sent behind what waited
pub sends_after : (a b v : List ℕ) {x y z : Option (List ℕ)} (w : List ℕ) → Sends a v x y → Sends (v ++ b) w y z → Sends (a ++ b) w x z
sends_after a b v {x} {y} {z} w s t = record {
  front = s.front ++ t.front;
  split = joined a b s.front v t.front w s.split t.split;
  written = appends_both x y z s.front t.front s.written t.written;
}

pub OnOk-map : {T E P Q : Type 0} (r : Result T E) → (P → Q) → OnOk r P → OnOk r Q
OnOk-map (Ok x) f h = f h
OnOk-map (Err e) f h = tt

pub OnErr-map : {T E P Q : Type 0} (r : Result T E) → (P → Q) → OnErr r P → OnErr r Q
OnErr-map (Ok x) f h = tt
OnErr-map (Err e) f h = f h
