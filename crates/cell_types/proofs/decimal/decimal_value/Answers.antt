use Rattle.std.proofs.Common.{◌≡◌, true, sym, ◌∙◌}
use Rattle.cell_types.specs.Decimal.{has_decimal_form}
use Rattle.cell_types.proofs.Decimals.{decimal_of_parse}
use Rattle.cell_types.proofs.decimal.decimal_value.Goals as goal

pub returns : goal.returns
returns c =
    let form : has_decimal_form c.as_bytes.result.now ≡ true = sym c.if-not-has_decimal_form.ensures in
    let here : has_decimal_form c.args.text.now ≡ true = rw c.as_bytes.ensures.value at form in
    c.ok.ensures.value ∙ decimal_of_parse c.args.text.now _ here c.parse.ensures.value.0
