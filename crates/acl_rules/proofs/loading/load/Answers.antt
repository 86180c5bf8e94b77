use Rattle.std.proofs.Common.{◌∙◌, ap, ℕ, ℤ, List, map}
use Rattle.acl_rules.specs.Loaded.{book_of, book_rule, by_place, rule_rows}
use Rattle.acl_rules.proofs.LoadedLemmas.{book_placed}
use Rattle.acl_rules.proofs.loading.load.Goals as goal

pub returns : goal.returns
unfolding book_of
returns g c =
    let s = g.D.DocReader.document c.args.tables.now in
    c.in_ok-book.ensures
    ∙ ap (λ (rows : List (ℤ × ℕ)). map (λ p. book_rule s p.1) rows) (c.as_slice.ensures.value ∙ c.in_ok-rows.ensures)
    ∙ book_placed s (by_place s (rule_rows s))
