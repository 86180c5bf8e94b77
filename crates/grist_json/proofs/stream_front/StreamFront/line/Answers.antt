use Rattle.std.proofs.Common.{rules, ◌≡◌, ◌++◌, ◌∙◌, ap, codes, refl, string_bytes}
use Rattle.std.specs.Fmt.{decimal}
use Rattle.serde_json.specs.Written.{compact_text}
use Rattle.grist_json.proofs.StreamLemmas.{numbered}
use Rattle.grist_json.proofs.stream_front.StreamFront.line.Goals as goal

pub returns : goal.returns
returns c actions is =
    let digits : string_bytes c.in_ok-number.number ≡ decimal c.args.number = c.in_ok-number.ensures.text (rw c.from.ensures refl) ∙ ap compact_text c.from.ensures in
    let whole : c.new.result ≡ c.args.self.now ++ decimal c.args.number ++ codes "}" = search (rules, digits) in
    whole ∙ ap (λ front. front ++ decimal c.args.number ++ codes "}") is ∙ numbered c.args.number actions
