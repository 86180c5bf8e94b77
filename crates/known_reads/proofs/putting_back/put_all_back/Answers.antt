use Rattle.std.proofs.Common.{◌∷◌, ◌++◌, ◌∙◌, ap, sym, subst, length, arith}
use Rattle.dep_graph.proofs.NameLaws.{append_none}
use Rattle.known_reads.specs.Beside.{KnowsWith}
use Rattle.known_reads.specs.Laid.{all_turned}
use Rattle.known_reads.proofs.KnownLemmas.{from_ok}
use Rattle.known_reads.proofs.putting_back.put_all_back.Goals as goal

pub putting-preserved : goal.putting-preserved
putting-preserved c = λ s h.
    let top = c.in-Some.top.were.items in
    let rest = c.take.new.self in
    let known = c.put_back.ensures.known s (all_turned rest) (subst (λ l. KnowsWith s c.putting.graph (all_turned l)) c.in-Some.ensures (c.putting.invariant s h)) in
    subst (KnowsWith s c.put_back.new.graph) (append_none (all_turned rest)) (subst (λ l. KnowsWith s c.put_back.new.graph (all_turned rest ++ l)) (from_ok c.put_back.result (sym c.is_err.ensures.value ∙ c.if-is_err.false) c.put_back.ensures.ok) known)

pub putting-smaller : goal.putting-smaller
putting-smaller c = let less = ap length c.in-Some.ensures in omega (arith, less)

pub returns-then-is_err-clause-known : goal.returns-then-is_err-clause-known
returns-then-is_err-clause-known c = λ s h.
    let rest = c.take.new.self in
    subst (λ l. KnowsWith s c.put_back.new.graph (all_turned l)) (sym c.lay.ensures)
    (c.put_back.ensures.known s (all_turned rest) (subst (λ l. KnowsWith s c.putting.graph (all_turned l)) c.in-Some.ensures (c.putting.invariant s h)))

pub returns-clause-known : goal.returns-clause-known
returns-clause-known c = λ s h. subst (λ l. KnowsWith s c.putting.graph (all_turned l)) (c.in_default.ensures.0 ∙ sym c.in_default.ensures.1) (c.putting.invariant s h)
