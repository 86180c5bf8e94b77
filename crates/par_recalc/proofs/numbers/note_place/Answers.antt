use Rattle.std.proofs.Common.{ℕ, List, Some, cond, ◌≡◌, sym, ap, ◌∙◌, rules}
use Rattle.std.specs.HashMap.{get_by_text}
use Rattle.std.specs.Str.{bytes_eq}
use Rattle.std.specs.String.{string_bytes}
use Rattle.std.proofs.lemmas.Map.Text.{hash_map_updates_text}
use Rattle.par_recalc.proofs.NumberLemmas.{number_kept, number_put}
use Rattle.par_recalc.proofs.numbers.note_place.Goals as goal

pub returns-in-Some : goal.returns-in-Some
returns-in-Some c = λ q.
    number_kept c.args.id.now q c.args.place _ (get_by_text c.args.numbers.now)
    (ap (get_by_text c.args.numbers.now) (sym c.as_str.ensures.value) ∙ sym c.in-Some.ensures.value)

pub returns : goal.returns
returns c = λ q.
    let key : string_bytes c.in_ok-text.text ≡ c.args.id.now = search rules in
    hash_map_updates_text (string_bytes c.in_ok-text.text) c.args.numbers.now c.insert.new.self (Some c.args.place) c.in_ok-insert.ensures.updates q
    ∙ ap (λ bs. cond (bytes_eq bs q) (Some c.args.place) (get_by_text c.args.numbers.now q)) key
    ∙ number_put c.args.id.now q c.args.place (get_by_text c.args.numbers.now)
    (ap (get_by_text c.args.numbers.now) (sym c.as_str.ensures.value) ∙ sym c.in_default.ensures.value)
