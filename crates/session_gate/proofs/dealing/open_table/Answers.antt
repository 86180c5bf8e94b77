use Rattle.std.proofs.Common.{rules, ◌≡◌, ◌*◌, ◌∷◌, [], length, Some, ℕ, ap, sym, ◌∙◌}
use Rattle.session_gate.proofs.SeatLemmas.{starts_with}
use Rattle.session_gate.proofs.dealing.open_table.Goals as goal

pub new-requires : goal.new-requires
new-requires g c =
    let same : c.of.result.value ≡ c.args.machine = search rules in
    let items : c.push.new.self.items ≡ Some c.args.machine ∷ [] = search rules in
    starts_with _ _ _ _ c.of.result.value c.args.passes (2 * c.entries-word.result) c.push.new.self.items c.requires
    (ap (λ (n : ℕ). 2 * n) (c.entries-word.ensures.count ∙ ap (λ (m : g.row.M.Denot). length (g.M.Machine.history m)) (sym same)))
    (items ∙ ap (λ (m : g.row.M.Denot). Some m ∷ []) (sym same))
