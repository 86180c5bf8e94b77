use Rattle.std.proofs.Common.{rules, refl, ◌++◌, ◌∙◌}
use Rattle.session_gate.specs.Known.{holding}
use Rattle.session_gate.proofs.CallLemmas.{idle_again, same_again, is_turn, turn_at, tells_ok, tells_err, tells_legal, is_sure_out}
use Rattle.session_gate.proofs.turn.take_turn.Goals as goal

pub give_back-requires-clause-turn : goal.give_back-requires-clause-turn
give_back-requires-clause-turn g c =
    let out = c.take_out-machine.ensures.out in
    let s = c.step-answer.ensures in
    let turn = is_turn g.M.Machine.takes g.M.Machine.answers (g.M.Machine.opening c.take_out-machine.result) (g.M.Machine.history c.take_out-machine.result) (g.M.Machine.history c.step-answer.new.self) c.args.event c.step-answer.result c.requires.takes s.grows s.ok s.err in
    (holding out.0 (out.0.seen ++ out.2.between), out.2.now, refl, s.opening ∙ out.2.opening_is, turn_at _ _ _ _ out.0 _ c.take_out-machine.result c.step-answer.new.self out.2 turn)

pub returns-clause-same : goal.returns-clause-same
returns-clause-same g c =
    let out = c.take_out-machine.ensures.out in
    let now = c.give_back.ensures.back (holding out.0 (out.0.seen ++ out.2.between)) out.2.now in
    same_again c.args.seat.now c.give_back.new.seat out.0 _ (search rules) out.1 now

pub returns-clause-idle : goal.returns-clause-idle
returns-clause-idle g c =
    let out = c.take_out-machine.ensures.out in
    let now = c.give_back.ensures.back (holding out.0 (out.0.seen ++ out.2.between)) out.2.now in
    idle_again c.args.seat.now c.give_back.new.seat out.0 _ c.requires.idle out.1 now

pub returns-clause-ok : goal.returns-clause-ok
returns-clause-ok g c =
    let out = c.take_out-machine.ensures.out in
    let now = c.give_back.ensures.back (holding out.0 (out.0.seen ++ out.2.between)) out.2.now in
    tells_ok _ _ _ _ c.args.seat.now c.give_back.new.seat out.0 _ c.take_out-machine.result c.step-answer.new.self c.args.event c.step-answer.result out.2 out.1 c.step-answer.ensures.grows c.step-answer.ensures.ok now

pub returns-clause-err : goal.returns-clause-err
returns-clause-err g c =
    let out = c.take_out-machine.ensures.out in
    let now = c.give_back.ensures.back (holding out.0 (out.0.seen ++ out.2.between)) out.2.now in
    tells_err _ _ _ _ c.args.seat.now c.give_back.new.seat out.0 _ c.take_out-machine.result c.step-answer.new.self c.step-answer.result out.2 out.1 c.step-answer.ensures.err now

pub returns-clause-sure : goal.returns-clause-sure
returns-clause-sure g c sure =
    let out = c.take_out-machine.ensures.out in
    c.step-answer.ensures.sure (is_sure_out _ _ _ _ g.M.Machine.is_sure c.args.seat.now out.0 _ c.take_out-machine.result c.args.event out.2 out.1 sure)

pub returns-clause-legal : goal.returns-clause-legal
returns-clause-legal g c =
    let out = c.take_out-machine.ensures.out in
    let now = c.give_back.ensures.back (holding out.0 (out.0.seen ++ out.2.between)) out.2.now in
    let s = c.step-answer.ensures in
    let turn = is_turn g.M.Machine.takes g.M.Machine.answers (g.M.Machine.opening c.take_out-machine.result) (g.M.Machine.history c.take_out-machine.result) (g.M.Machine.history c.step-answer.new.self) c.args.event c.step-answer.result c.requires.takes s.grows s.ok s.err in
    tells_legal _ _ _ _ c.give_back.new.seat out.0 _ c.take_out-machine.result c.step-answer.new.self out.2 turn now
