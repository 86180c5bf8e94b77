-- A line that waited and was then sent.
use Rattle.std.proofs.Common.{ℕ, List, ◌++◌, Option, Result, Ok, Err, OnErr, sym, ap, ◌∙◌, append_assoc}
use Rattle.io_edges.specs.Sending.{Sends, SendsFront}
use Rattle.io_edges.proofs.SendingLemmas.{appends_both}

-- a front of what waited was sent
pub sent_front : (a v : List ℕ) (x y z : Option (List ℕ)) → Sends a v x y → SendsFront v y z → SendsFront a x z
sent_front a v x y z s t = record {
  front = s.front ++ t.front;
  rest = t.rest;
  split = s.split ∙ ap (λ l. s.front ++ l) t.split ∙ sym (append_assoc s.front t.front t.rest);
  written = appends_both x y z s.front t.front s.written t.written;
}

pub err_front : {T E : Type 0} (r : Result T E) (a v : List ℕ) (x y z : Option (List ℕ)) → Sends a v x y → OnErr r (SendsFront v y z) → OnErr r (SendsFront a x z)
err_front (Ok u) a v x y z s t = tt
err_front (Err e) a v x y z s t = sent_front a v x y z s t
