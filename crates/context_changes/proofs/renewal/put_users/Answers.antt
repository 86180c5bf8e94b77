use Rattle.std.proofs.Common.{◌≡◌, [], length, ap, sym, ◌∙◌, rules}
use Rattle.context_changes.specs.Renewal.{with_user_at, with_users_now}
use Rattle.context_changes.proofs.RenewalLemmas.{none_put, put_last}
use Rattle.context_changes.proofs.renewal.put_users.Goals as goal

pub loop-user-preserved : goal.loop-user-preserved
loop-user-preserved c =
    let xs = c.loop-user.contexts in
    let us = c.pop.new.self.items in
    let here : c.len.result ≡ length us = search rules in
    ap (λ l. with_users_now l us) (c.put_user.ensures ∙ ap (λ i. with_user_at xs i c.in-Some.user) here)
    ∙ put_last xs us c.in-Some.user
    ∙ ap (with_users_now xs) (sym c.in-Some.ensures.items)
    ∙ c.loop-user.invariant

pub returns : goal.returns
returns c =
    let empty : c.loop-user.users.items ≡ [] = search rules in
    sym (none_put c.loop-user.contexts) ∙ ap (with_users_now c.loop-user.contexts) (sym empty) ∙ c.loop-user.invariant
