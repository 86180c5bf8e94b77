use Rattle.std.proofs.Common.{◌≡◌, List, length, arith, ap, sym, ◌∙◌, subst, Bool, true, false}
use Rattle.std.proofs.lemmas.Result.{err_from_is_err_and}
use Rattle.formula_lex.specs.declared.token.Token.{Token}
use Rattle.formula_parse.specs.Runs.{tree_from}
use Rattle.formula_parse.specs.Parsed.{StopsWithin}
use Rattle.formula_parse.proofs.Clauses.{too_long, is_short, none_spelled, none_only, some_spelled, some_only, stops}
use Rattle.formula_parse.proofs.parser.read_tree.Goals as goal

is_both : {b : Bool} → b ≡ true → b ≡ false → ⊥
is_both t f = cc

pub returns-then-text-gt-MAX_TEXT_BYTES-clause-fault : goal.returns-then-text-gt-MAX_TEXT_BYTES-clause-fault
returns-then-text-gt-MAX_TEXT_BYTES-clause-fault c = (omega arith, too_long c.args.dialect c.args.text.now c.if-text-gt-MAX_TEXT_BYTES.true)

pub returns-then-is_empty-clause-spells : goal.returns-then-is_empty-clause-spells
returns-then-is_empty-clause-spells c =
    none_spelled c.args.dialect c.args.text.now c.in_ok-list.list c.in_ok-list.ensures.spells c.in_ok-list.ensures.only
    (is_short c.args.text.now c.if-text-gt-MAX_TEXT_BYTES.false) (c.is_empty.ensures.0 c.if-is_empty.true)

pub returns-then-is_empty-clause-only : goal.returns-then-is_empty-clause-only
returns-then-is_empty-clause-only c =
    none_only c.args.dialect c.args.text.now c.in_ok-list.list c.in_ok-list.ensures.spells c.in_ok-list.ensures.only (c.is_empty.ensures.0 c.if-is_empty.true)

pub returns-in_err-tree-clause-fault : goal.returns-in_err-tree-clause-fault
returns-in_err-tree-clause-fault c =
    let p = err_from_is_err_and c.from_residual-in_err-tree.result c.from_residual-in_err-tree.ensures.1 in
    rw (p.1, p.2)
    (stops c.args.dialect c.args.text.now c.in_ok-list.list c.in_ok-list.ensures.spells c.in_ok-list.ensures.only
    (λ e. is_both (c.is_empty.ensures.1 e) c.if-is_empty.false) c.in_err-tree.field-0.0
    (subst (λ (ts : List Token). StopsWithin (length c.args.text.now) c.in_err-tree.field-0.0 (tree_from c.args.dialect ts)) c.as_slice.ensures c.in_err-tree.ensures))

pub returns-clause-spells : goal.returns-clause-spells
returns-clause-spells c =
    some_spelled c.args.dialect c.args.text.now c.in_ok-list.list c.in_ok-list.ensures.spells c.in_ok-list.ensures.only
    (is_short c.args.text.now c.if-text-gt-MAX_TEXT_BYTES.false) c.in_ok-tree.tree (sym (ap (λ (ts : List Token). tree_from c.args.dialect ts) c.as_slice.ensures) ∙ c.in_ok-tree.ensures)

pub returns-clause-only : goal.returns-clause-only
returns-clause-only c =
    some_only c.args.dialect c.args.text.now c.in_ok-list.list c.in_ok-list.ensures.spells c.in_ok-list.ensures.only c.in_ok-tree.tree (sym (ap (λ (ts : List Token). tree_from c.args.dialect ts) c.as_slice.ensures) ∙ c.in_ok-tree.ensures)
