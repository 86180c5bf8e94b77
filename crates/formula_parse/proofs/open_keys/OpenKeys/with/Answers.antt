use Rattle.std.proofs.Common.{◌≡◌, ◌∙◌, ap, sym, true, cond, nat_cmp, rules}
use Rattle.std.specs.Str.{bytes_eq}
use Rattle.std.specs.BTreeSet.{contains_by}
use Rattle.std.specs.Cmp.Lexicographic.{slice_cmp}
use Rattle.std.proofs.lemmas.Map.Text.{is_eq-slice_cmp}
use Rattle.formula_parse.specs.Standing.{has_key}
use Rattle.formula_parse.proofs.OpenKeyLemmas.{has_key-push}
use Rattle.formula_parse.proofs.open_keys.OpenKeys.with.Goals as goal

pub invariant_of-result : goal.invariant_of-result
invariant_of-result c q =
    let same : c.in_ok-clone.field-0 ≡ c.args.key.name = search rules in
    c.in_ok-insert.ensures.updates.0 q
    ∙ ap (λ b. cond b true (contains_by (slice_cmp nat_cmp q) c.self.inside.names))
    (is_eq-slice_cmp c.in_ok-clone.field-0 q ∙ ap (λ n. bytes_eq n q) same)
    ∙ ap (λ b. cond (bytes_eq c.args.key.name q) true b) (c.self.invariant q)
    ∙ sym (has_key-push q (c.args.key.name, c.args.key.value) c.self.inside.keys)
    ∙ ap (λ ks. has_key q ks) (sym c.in_ok-push.ensures.ok)
