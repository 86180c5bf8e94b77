-- Renamed rules come to the same.
use Rattle.std.proofs.Common.{◌≡◌, ◌∙◌, ap, refl}
use Rattle.acl_formula.specs.Asked.{Asked}
use Rattle.acl_formula.specs.RuleValue.{as_value, combined, followed, item_list, items_of, turned, value_of}
use Rattle.formula_parse.specs.Tree.{Tree, number, text, constant, dollar, binary, prefix, conditional, parentheses, list, call, attribute, every, lookup, atom, Trees, no_trees, one_more}
use Rattle.rename_texts.specs.Renamed.{Rename, all_renamed, renamed}
use Rattle.renamed_rules.specs.RuleValues.{AllAtomsSame, AtomsSame, RuleValueLaw}

module _ (r : Rename) (x y : Asked) where
  mutual
    value_same : (t : Tree) → AtomsSame r x y t → value_of y (renamed r t) ≡ value_of x t
    value_same (number n) h = refl
    value_same (text t) h = refl
    value_same (constant c) h = refl
    value_same (dollar n) h = refl
    value_same (binary o a b) h = ap (λ v. combined o v (value_of y (renamed r b))) (value_same a h.0) ∙ ap (combined o (value_of x a)) (value_same b h.1)
    value_same (prefix o a) h = ap (turned o) (value_same a h)
    value_same (conditional a b c) h = refl
    value_same (parentheses a) h = value_same a h
    value_same (list ts) h = ap as_value (items_same ts h)
    value_same (call n ts) h = refl
    value_same (attribute a n) h = refl
    value_same (every n) h = refl
    value_same (lookup k n ks) h = refl
    value_same (atom a) h = h

    items_same : (ts : Trees) → AllAtomsSame r x y ts → items_of y (all_renamed r ts) ≡ items_of x ts
    items_same no_trees h = refl
    items_same (one_more t ts) h = ap (λ v. followed (item_list v) (items_of y (all_renamed r ts))) (value_same t h.0) ∙ ap (followed (item_list (value_of x t))) (items_same ts h.1)

pub rule_value : RuleValueLaw
rule_value r x y t h = value_same r x y t h
