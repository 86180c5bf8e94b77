use Rattle.std.proofs.Common.{◌≡◌, ◌<◌, ◌-◌, ◌++◌, ◌∷◌, [], Some, length, vec_len, take, slice_get, rules, arith, sym, ap, ◌∙◌, subst}
use Rattle.std.proofs.lemmas.Option.{slice_get_within}
use Rattle.known_reads.specs.Beside.{KnowsWith}
use Rattle.known_reads.proofs.WatchedLemmas.{others_set}
use Rattle.known_reads.proofs.WereLemmas.{kept_known, last_taken, put_one_back}
use Rattle.known_reads.proofs.putting_back.put_back.Goals as goal

pub putting-preserved-in_ok-set_back : goal.putting-preserved-in_ok-set_back
putting-preserved-in_ok-set_back c = λ s first h.
    let l = c.putting.were.items in
    let w = c.in-Some.last.now in
    let size : length l ≡ vec_len c.putting.were = search rules in
    let there : Some w ≡ slice_get l (length l - 1) = subst (λ x. Some w ≡ slice_get x (length x - 1)) c.deref.ensures.value c.in-Some.ensures.value in
    let some : length l - 1 < length l = slice_get_within l (length l - 1) w (sym there) in
    let all : l ≡ take (length l - 1) l ++ w ∷ [] = last_taken l w (length l - 1) (omega (arith, some)) there in
    let rest : c.pop-done.new.self.items ≡ take (length l - 1) l = c.pop-done.ensures.rest ∙ ap (λ n. take (n - 1) l) (sym size) in
    put_one_back s c.putting.graph c.set_back.new.self w c.in_ok-set_back.ensures.ok (others_set c.putting.graph c.set_back.new.self w.cell w.reads c.in_ok-set_back.ensures.ok) first c.pop-done.new.self.items
    (subst (λ l. KnowsWith s c.putting.graph (first ++ l)) (all ∙ ap (λ r. r ++ w ∷ []) (sym rest)) (c.putting.invariant s first h))

pub putting-preserved : goal.putting-preserved
putting-preserved c = λ s first h.
    let l = c.putting.were.items in
    let w = c.in-Some.last.now in
    let size : length l ≡ vec_len c.putting.were = search rules in
    let there : Some w ≡ slice_get l (length l - 1) = subst (λ x. Some w ≡ slice_get x (length x - 1)) c.deref.ensures.value c.in-Some.ensures.value in
    let some : length l - 1 < length l = slice_get_within l (length l - 1) w (sym there) in
    let all : l ≡ take (length l - 1) l ++ w ∷ [] = last_taken l w (length l - 1) (omega (arith, some)) there in
    let rest : c.pop-done.new.self.items ≡ take (length l - 1) l = c.pop-done.ensures.rest ∙ ap (λ n. take (n - 1) l) (sym size) in
    put_one_back s c.putting.graph c.set_back.new.self w c.in_ok-set_back.ensures.ok (others_set c.putting.graph c.set_back.new.self w.cell w.reads c.in_ok-set_back.ensures.ok) first c.pop-done.new.self.items
    (subst (λ l. KnowsWith s c.putting.graph (first ++ l)) (all ∙ ap (λ r. r ++ w ∷ []) (sym rest)) (c.putting.invariant s first h))

pub returns-in_err-set_back-clause-known : goal.returns-in_err-set_back-clause-known
returns-in_err-set_back-clause-known c = λ s first h. kept_known s c.putting.graph c.set_back.new.self c.in_err-set_back.ensures.err (first ++ c.putting.were.items) (c.putting.invariant s first h)
