use Rattle.std.proofs.Common.{ap, sym, ◌∙◌, ◌≡◌, List, Option, subst}
use Rattle.std.proofs.lemmas.Result.{err_from_is_err_and}
use Rattle.formula_parse.specs.declared.frame.Frame.{Frame}
use Rattle.formula_parse.specs.declared.frame.Mode.TheVariants.{Operand}
use Rattle.formula_parse.specs.Tree.{Tree}
use Rattle.formula_parse.specs.Runs.{read, finish, tree_from}
use Rattle.formula_parse.specs.Parsed.{GivesWithin}
use Rattle.formula_parse.proofs.Turns.{read_next, read_stops, read_ends}
use Rattle.formula_parse.proofs.parser.run.Goals as goal

pub loop-token-init : goal.loop-token-init
unfolding tree_from
loop-token-init c = ap (λ (fs : List Frame). read c.args.dialect c.args.tokens.now fs Operand) c.new-frames.ensures

pub returns-in_err-mode : goal.returns-in_err-mode
returns-in_err-mode c =
    let p = err_from_is_err_and c.from_residual.result c.from_residual.ensures.1 in
    rw (p.1, p.2)
    (read_stops c.args.dialect c.args.tokens.now c.loop-token.token-index c.token-item.result c.loop-token.frames c.loop-token.mode c.loop-token-test.true c.token-item.is
    c.in_err-mode.field-0.0 c.args.end (tree_from c.args.dialect c.args.tokens.now) c.requires c.loop-token.invariant c.in_err-mode.ensures)

pub loop-token-preserved : goal.loop-token-preserved
loop-token-preserved c =
    sym (read_next c.args.dialect c.args.tokens.now c.loop-token.token-index c.token-item.result c.loop-token.frames c.loop-token.mode c.loop-token-test.true c.token-item.is c.token_step.new.frames c.in_ok-mode.mode c.in_ok-mode.ensures)
    ∙ c.loop-token.invariant

pub returns : goal.returns
returns c =
    let e : finish c.loop-token.frames c.loop-token.mode ≡ tree_from c.args.dialect c.args.tokens.now = sym (read_ends c.args.dialect c.args.tokens.now c.loop-token.token-index c.loop-token.frames c.loop-token.mode c.loop-token-test.false) ∙ c.loop-token.invariant in
    subst (λ (o : Option Tree). GivesWithin c.args.end (λ t. t) c.finish_at.result o) e c.finish_at.ensures
