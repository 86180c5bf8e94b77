use Rattle.std.proofs.Common.{ap, sym, ◌∙◌, ◌≡◌, ◌+◌, length, arith}
use Rattle.std.proofs.lemmas.Result.{err_from_is_err_and}
use Rattle.std.proofs.lemmas.Iterator.{YieldsList-from_chars}
use Rattle.std.proofs.lemmas.Iterator.Consumers.{YieldsList-turn, YieldsList-end}
use Rattle.std.specs.Str.{chars}
use Rattle.formula_lex.specs.declared.reading.Reading.TheVariants.{Between}
use Rattle.formula_lex.specs.Machine.{lex, tokens_in}
use Rattle.formula_lex.specs.Spelling.{text_len}
use Rattle.formula_lex.proofs.Turns.{text_len-chars, next_holds, next_stops, at_end, stops_same}
use Rattle.formula_lex.proofs.lexer.run.Goals as goal

pub loop-c-init : goal.loop-c-init
unfolding tokens_in
loop-c-init c = (
  let e : 0 + text_len (chars c.args.text.now) ≡ length c.args.text.now = omega (arith, text_len-chars c.args.text.now c.utf8.text) in e,
  ap (λ out. lex out Between 0 (chars c.args.text.now)) c.new-out.ensures,
)

pub returns-in_err-reading : goal.returns-in_err-reading
returns-in_err-reading c =
    let t = YieldsList-turn (YieldsList-from_chars c.args.text.now c.utf8.text cc) c.loop-c.yielded _ c.loop-c.yielded_by _ _ c.in-Some.c c.in-Some.is c.next.ensures.steps in
    let p = err_from_is_err_and c.from_residual.result c.from_residual.ensures.1 in
    rw (p.1, p.2) (next_stops (chars c.args.text.now) c.loop-c.yielded c.in-Some.c t c.loop-c.out c.loop-c.reading c.loop-c.at c.in_err-reading.field-0.0 _ _ c.loop-c.invariant c.in_err-reading.ensures)

pub loop-c-preserved : goal.loop-c-preserved
loop-c-preserved c =
    let t = YieldsList-turn (YieldsList-from_chars c.args.text.now c.utf8.text cc) c.loop-c.yielded _ c.loop-c.yielded_by _ _ c.in-Some.c c.in-Some.is c.next.ensures.steps in
    next_holds (chars c.args.text.now) c.loop-c.yielded c.in-Some.c t c.loop-c.out c.loop-c.reading c.loop-c.at _ _ c.loop-c.invariant c.step_at.new.out c.in_ok-reading.reading c.in_ok-reading.ensures _ c.len_utf8-at.ensures.value

pub returns-in_err-finish_at : goal.returns-in_err-finish_at
returns-in_err-finish_at c =
    let t = YieldsList-end (YieldsList-from_chars c.args.text.now c.utf8.text cc) c.loop-c.yielded _ c.loop-c.yielded_by _ _ c.in-None.is c.next.ensures.steps in
    let p = err_from_is_err_and c.from_residual-in_err-finish_at.result c.from_residual-in_err-finish_at.ensures.1 in
    rw (p.1, p.2) (stops_same c.in_err-finish_at.field-0.0 c.loop-c.at _ _ _ (omega (arith, c.loop-c.invariant.0)) (at_end (chars c.args.text.now) c.loop-c.yielded c.loop-c.out c.loop-c.reading c.loop-c.at _ t.1 c.loop-c.invariant.1) c.in_err-finish_at.ensures)

pub returns : goal.returns
returns c =
    let t = YieldsList-end (YieldsList-from_chars c.args.text.now c.utf8.text cc) c.loop-c.yielded _ c.loop-c.yielded_by _ _ c.in-None.is c.next.ensures.steps in
    sym (at_end (chars c.args.text.now) c.loop-c.yielded c.loop-c.out c.loop-c.reading c.loop-c.at _ t.1 c.loop-c.invariant.1) ∙ c.in_ok-finish_at.ensures
