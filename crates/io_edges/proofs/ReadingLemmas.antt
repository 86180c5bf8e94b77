-- The steps of reading a line.
use Rattle.std.proofs.Common.{◌≡◌, ℕ, ◌+◌, ◌*◌, ◌<◌, ◌≤◌, List, [], ◌∷◌, ◌++◌, length, true, false, Option, Some, None, Ok, Err, refl, sym, ap, ◌∙◌, subst, ◌≢◌, arith, append_assoc, append-nil, length-append}
use Rattle.std.specs.Io.KnownBytes.{Consumes, Keeps}
use Rattle.io_edges.specs.Lines.{IsOneLine, kept_of}
use Rattle.io_edges.specs.Reading.{LineState, TakesPart, work_left}
use Rattle.io_edges.specs.declared.line_reader.ReadEnd.TheVariants.{ReadFault, TurnsSpent, NoMemory}
use Rattle.io_edges.specs.declared.line_reader.NextLine.{NextLine}
use Rattle.io_edges.specs.declared.line_reader.NextLine.TheVariants.{Line, Last, End}
use Rattle.io_edges.specs.NextLine.{Reads, EndsInput, IsLast}
use Rattle.io_edges.proofs.LineLemmas.{kept_of-append, kept_of-none, kept_of-empty, IsOneLine-append}

-- so much of a line has come and was taken
pub record Reading (old now : LineState) (left_old left_now : Option (List ℕ)) : Type 0 where
  pub came : List ℕ
  pub text : List ℕ
  pub consumed : Consumes left_old left_now came
  pub one_line : IsOneLine text
  pub kept : now.line ≡ kept_of text
  pub split : old.ahead ++ came ≡ text ++ now.ahead
  pub turns : now.turns ≤ old.turns + length came
  pub work : work_left now ≤ work_left old

-- a read gave what is ahead now, and was a turn where that is some byte
pub record Filled (now next : LineState) (left_now left_new : Option (List ℕ)) (turn : ℕ) : Type 0 where
  pub consumed : Consumes left_now left_new next.ahead
  pub line : next.line ≡ now.line
  pub turns : next.turns ≡ now.turns + turn
  pub once : turn ≤ 1
  pub some : turn ≤ length next.ahead
  pub few : length next.ahead ≤ 65536 * turn
  pub spare : now.turns < 4294967296

pub consumes_both : (x y z : Option (List ℕ)) (a b : List ℕ) → Consumes x y a → Consumes y z b → Consumes x z (a ++ b)
consumes_both None y z a b p q = tt
consumes_both (Some xs) None z a b p q = absurd p
consumes_both (Some xs) (Some ys) None a b p q = absurd q
consumes_both (Some xs) (Some ys) (Some zs) a b p q = p ∙ ap (λ l. a ++ l) q ∙ sym (append_assoc a b zs)

pub consumes_keeps : (x y z : Option (List ℕ)) (a : List ℕ) → Consumes x y a → Keeps y z → Consumes x z a
consumes_keeps None y z a p q = tt
consumes_keeps (Some xs) None z a p q = absurd p
consumes_keeps (Some xs) (Some ys) None a p q = absurd q
consumes_keeps (Some xs) (Some ys) (Some zs) a p q = p ∙ ap (λ l. a ++ l) (sym q)

pub consumes_none : (x : Option (List ℕ)) → Consumes x x []
consumes_none None = tt
consumes_none (Some xs) = refl

-- nothing has come yet
pub reading_begins : (old now : LineState) (left : Option (List ℕ)) → now.ahead ≡ old.ahead → now.line ≡ [] → now.turns ≡ old.turns → Reading old now left left
reading_begins old now left ahead none turns = record {
  came = [];
  text = [];
  consumed = consumes_none left;
  one_line = tt;
  kept = none ∙ sym kept_of-none;
  split = append-nil old.ahead ∙ sym ahead;
  turns = omega arith;
  work = omega (arith, ap length ahead);
}

module _ {old now next : LineState} {left_old left_now : Option (List ℕ)} where
  -- a newline ended the part that was taken
  pub reads_line : Reading old now left_old left_now → TakesPart now.ahead next.ahead now.line next.line true → next.turns ≡ now.turns → Reads (Ok Line) old next left_old left_now
  reads_line r t same = record {
    came = r.came;
    text = r.text ++ t.part;
    consumed = r.consumed;
    one_line = IsOneLine-append r.text t.part r.one_line t.one_line;
    split = r.split ∙ ap (λ l. r.text ++ l) t.split ∙ sym (append_assoc r.text t.part (10 ∷ next.ahead));
    turns = omega (arith, r.turns);
    answer = t.kept ∙ ap (λ l. kept_of (l ++ t.part)) r.kept ∙ kept_of-append r.text t.part;
  }

  pub work_falls : Reading old now left_old left_now → TakesPart now.ahead next.ahead now.line next.line true → next.turns ≡ now.turns → work_left next < work_left old
  work_falls r t same = omega (arith, r.work, ap length t.split, length-append t.part (10 ∷ next.ahead))

  -- none did
  pub reading_part : Reading old now left_old left_now → TakesPart now.ahead next.ahead now.line next.line false → next.turns ≡ now.turns → Reading old next left_old left_now
  reading_part r t same = record {
    came = r.came;
    text = r.text ++ t.part;
    consumed = r.consumed;
    one_line = IsOneLine-append r.text t.part r.one_line t.one_line;
    kept = t.kept ∙ ap (λ l. kept_of (l ++ t.part)) r.kept ∙ kept_of-append r.text t.part;
    split = r.split ∙ ap (λ l. r.text ++ l) t.split ∙ sym (append_assoc r.text t.part []) ∙ ap (λ l. (r.text ++ t.part) ++ l) (sym (t.all refl));
    turns = omega (arith, r.turns);
    work = omega (arith, r.work, ap length (t.all refl));
  }

  -- out of memory came before a part was taken
  pub reads_no_memory : Reading old now left_old left_now → next.ahead ≡ now.ahead → next.turns ≡ now.turns → Reads (Err NoMemory) old next left_old left_now
  reads_no_memory r ahead same = record {
    came = r.came;
    text = r.text;
    consumed = r.consumed;
    one_line = r.one_line;
    split = r.split ∙ ap (λ l. r.text ++ l) (sym ahead);
    turns = omega (arith, r.turns);
    answer = tt;
  }

module _ {old now : LineState} {left_old left_now : Option (List ℕ)} where
  all_text : (r : Reading old now left_old left_now) → now.ahead ≡ [] → r.text ≡ old.ahead ++ r.came
  all_text r none = sym (r.split ∙ ap (λ l. r.text ++ l) none ∙ append-nil r.text)

  -- no more reads are made
  pub reads_spent : Reading old now left_old left_now → now.ahead ≡ [] → Reads (Err TurnsSpent) old now left_old left_now
  reads_spent r none = record {
    came = r.came;
    text = r.text;
    consumed = r.consumed;
    one_line = r.one_line;
    split = r.split;
    turns = r.turns;
    answer = none;
  }

module _ {old now next : LineState} {left_old left_now left_new : Option (List ℕ)} where
  -- more came, or the end
  pub reading_read : (turn : ℕ) → Reading old now left_old left_now → now.ahead ≡ [] → Filled now next left_now left_new turn → Reading old next left_old left_new
  reading_read turn r none f = record {
    came = r.came ++ next.ahead;
    text = r.text;
    consumed = consumes_both left_old left_now left_new r.came next.ahead r.consumed f.consumed;
    one_line = r.one_line;
    kept = f.line ∙ r.kept;
    split = sym (append_assoc old.ahead r.came next.ahead) ∙ ap (λ l. l ++ next.ahead) (sym (all_text r none));
    turns = omega (arith, r.turns, f.turns, f.some, length-append r.came next.ahead);
    work = omega (arith, r.work, f.turns, f.few, f.spare, f.once, ap length none);
  }

  -- a read failed
  pub reads_fault : Reading old now left_old left_now → now.ahead ≡ [] → Keeps left_now left_new → next.ahead ≡ [] → next.turns ≡ now.turns → Reads (Err ReadFault) old next left_old left_new
  reads_fault r none keeps gone same = record {
    came = r.came;
    text = r.text;
    consumed = consumes_keeps left_old left_now left_new r.came r.consumed keeps;
    one_line = r.one_line;
    split = r.split ∙ ap (λ l. r.text ++ l) (none ∙ sym gone);
    turns = omega (arith, r.turns);
    answer = gone;
  }

module _ {old next : LineState} {left_old left_new : Option (List ℕ)} where
  reads_end : Reading old next left_old left_new → EndsInput next left_new → next.line ≡ [] → Reads (Ok End) old next left_old left_new
  reads_end r ends none = record {
    came = r.came;
    text = r.text;
    consumed = r.consumed;
    one_line = r.one_line;
    split = r.split;
    turns = r.turns;
    answer = (kept_of-empty r.text (sym r.kept ∙ none), none, ends);
  }

  reads_rest : Reading old next left_old left_new → EndsInput next left_new → next.line ≢ [] → Reads (Ok Last) old next left_old left_new
  reads_rest r ends some = record {
    came = r.came;
    text = r.text;
    consumed = r.consumed;
    one_line = r.one_line;
    split = r.split;
    turns = r.turns;
    answer = ((λ none. some (r.kept ∙ ap kept_of none ∙ kept_of-none)), r.kept, ends);
  }

  by_last : (line : List ℕ) (next_line : NextLine) → line ≡ next.line → IsLast line next_line → Reading old next left_old left_new → EndsInput next left_new → Reads (Ok next_line) old next left_old left_new
  by_last [] given e is r ends = subst (λ (n : NextLine). Reads (Ok n) old next left_old left_new) (sym is) (reads_end r ends (sym e))
  by_last (b ∷ bs) given e is r ends = subst (λ (n : NextLine). Reads (Ok n) old next left_old left_new) (sym is) (reads_rest r ends (λ none. absurd (omega (arith, ap length (e ∙ none)))))

module _ {old now next : LineState} {left_old left_now left_new : Option (List ℕ)} where
  -- nothing more came
  pub reads_last : (given : NextLine) → Reading old now left_old left_now → now.ahead ≡ [] → Filled now next left_now left_new 0 → EndsInput next left_new → IsLast next.line given → Reads (Ok given) old next left_old left_new
  reads_last given r none f ends is = by_last next.line given refl is (reading_read 0 r none f) ends
