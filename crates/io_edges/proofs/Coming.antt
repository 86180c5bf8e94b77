-- Lines that came, and one call of the reader more.
use Rattle.std.proofs.Common.{◌≡◌, ℕ, List, [], ◌∷◌, ◌++◌, Option, Result, Ok, Err, refl, subst, ap, ◌∙◌, append_assoc, append-nil, length-append, arith}
use Rattle.io_edges.specs.Lines.{lines_of, stream_of}
use Rattle.io_edges.specs.NextLine.{Reads, after_text}
use Rattle.io_edges.specs.Reading.{LineState}
use Rattle.io_edges.specs.declared.line_reader.NextLine.{NextLine}
use Rattle.io_edges.specs.declared.line_reader.ReadEnd.{ReadEnd}
use Rattle.io_edges.specs.declared.line_reader.NextLine.TheVariants.{Line, Last, End}
use Rattle.io_edges.specs.declared.line_reader.ReadEnd.TheVariants.{ReadFault, TurnsSpent}
use Rattle.io_edges.proofs.LineLemmas.{lines_of-rest, lines_of-stream_of, stream_of-push, AreLines-push}
use Rattle.io_edges.proofs.ReadingLemmas.{consumes_both, consumes_none}
use Rattle.io_edges.specs.Came.{Came, CameAll}

pub stream_of-append : (ls : List (List ℕ)) (a b : List ℕ) → stream_of ls a ++ b ≡ stream_of ls (a ++ b)
stream_of-append [] a b = refl
stream_of-append (l ∷ ls) a b = append_assoc l (10 ∷ stream_of ls a) b ∙ ap (λ r. l ++ 10 ∷ r) (stream_of-append ls a b)

-- nothing has come yet
pub came_none : (left : Option (List ℕ)) → Came left left [] [] 0
came_none left = record { came = []; consumed = consumes_none left; split = refl; each = tt; few = omega arith }

module _ (l m n : Option (List ℕ)) (lines : List (List ℕ)) (old new : LineState) (c : Came l m lines old.ahead old.turns) where
  -- what came, with what came of the next line
  longer : (more rest : List ℕ) → old.ahead ++ more ≡ rest → c.came ++ more ≡ stream_of lines rest
  longer more rest e = ap (λ b. b ++ more) c.split ∙ stream_of-append lines old.ahead more ∙ ap (stream_of lines) e

  -- whole lines and a rest, however the call ended
  pub came_part : {r : Result NextLine ReadEnd} (reads : Reads r old new m n) → Came l n lines (reads.text ++ after_text r new.ahead) new.turns
  came_part {r} reads = record {
    came = c.came ++ reads.came;
    consumed = consumes_both l m n c.came reads.came c.consumed reads.consumed;
    split = longer reads.came (reads.text ++ after_text r new.ahead) reads.split;
    each = c.each;
    few = omega (arith, c.few, reads.turns, length-append c.came reads.came);
  }

  -- one line more
  pub came_line : (reads : Reads (Ok Line) old new m n) → Came l n (lines ++ reads.text ∷ []) new.ahead new.turns
  came_line reads =
      let p = came_part reads in
      record {
        came = p.came;
        consumed = p.consumed;
        split = p.split ∙ stream_of-push lines reads.text new.ahead;
        each = AreLines-push lines reads.text c.each reads.one_line;
        few = p.few;
      }

  -- the lines of all that came, where nothing is ahead
  all_lines : (reads_text : List ℕ) (came : List ℕ) → came ≡ stream_of lines (reads_text ++ new.ahead) → new.ahead ≡ [] → lines_of came ≡ lines ++ lines_of reads_text
  all_lines text came split none =
      ap lines_of (split ∙ ap (λ a. stream_of lines (text ++ a)) none ∙ ap (stream_of lines) (append-nil text))
      ∙ lines_of-stream_of lines text c.each

  -- a last line
  pub came_last : (reads : Reads (Ok Last) old new m n) → CameAll l n (lines ++ reads.text ∷ [])
  came_last reads =
      let p = came_part reads in
      record {
        came = p.came;
        consumed = p.consumed;
        at_end = reads.answer.2.at_end;
        split = all_lines reads.text p.came p.split reads.answer.2.none_ahead ∙ ap (λ ls. lines ++ ls) (lines_of-rest reads.text reads.one_line reads.answer.0);
      }

  -- the end
  pub came_end : (reads : Reads (Ok End) old new m n) → CameAll l n lines
  came_end reads =
      let p = came_part reads in
      record {
        came = p.came;
        consumed = p.consumed;
        at_end = reads.answer.2.at_end;
        split = all_lines reads.text p.came p.split reads.answer.2.none_ahead ∙ ap (λ t. lines ++ lines_of t) reads.answer.0 ∙ append-nil lines;
      }

  -- a part of a line, before a fault
  pub came_fault : (reads : Reads (Err ReadFault) old new m n) → Came l n lines reads.text new.turns
  came_fault reads = subst (λ t. Came l n lines t new.turns) (ap (λ a. reads.text ++ a) reads.answer ∙ append-nil reads.text) (came_part reads)

  -- a part of a line, where no more reads are made
  pub came_spent : (reads : Reads (Err TurnsSpent) old new m n) → Came l n lines reads.text new.turns
  came_spent reads = subst (λ t. Came l n lines t new.turns) (ap (λ a. reads.text ++ a) reads.answer ∙ append-nil reads.text) (came_part reads)
