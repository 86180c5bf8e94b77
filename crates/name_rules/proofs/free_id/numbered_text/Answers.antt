use Rattle.std.proofs.Common.{◌≡◌, ◌-◌, IfOk, length, take, arith, subst, ap}
use Rattle.std.specs.Prelude.{chars, encode_utf8_all, string_bytes, decimal}
use Rattle.std.proofs.lemmas.Iterator.{text_from_collect, YieldsList-from_chars, YieldsList-from_take}
use Rattle.name_rules.specs.FreeName.{numbered}
use Rattle.name_rules.proofs.NumberedNames.{few_digits}
use Rattle.name_rules.proofs.free_id.numbered_text.Goals as goal

pub overflow_sub-room : goal.overflow_sub-room
overflow_sub-room c = omega (arith, few_digits c.args.number (omega arith), ap length c.in_ok-digits.ensures.ok)

pub returns : goal.returns
unfolding numbered
returns c =
    let kept = 64 - length (decimal c.args.number) in
    let front = encode_utf8_all (take kept (chars c.args.text.now)) in
    let room : c.take.result.n ≡ kept = omega (arith, c.take.ensures.count, c.len-room.ensures, ap length c.in_ok-digits.ensures.ok) in
    let collected : IfOk c.collect.result (λ w. string_bytes w ≡ front) = text_from_collect c.collect.result c.collect.ensures.ran
    (YieldsList-from_take kept (YieldsList-from_chars c.args.text.now c.utf8.text (cc)) room) in
    let begins : string_bytes c.in_ok-made.made ≡ front = subst (λ r. IfOk r (λ w. string_bytes w ≡ front)) c.in_ok-made.was collected in
    cc (begins, c.in_ok-name.ensures, c.in_ok-push_str.ensures.bytes, c.in_ok-digits.ensures.ok)
