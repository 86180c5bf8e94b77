use Rattle.std.proofs.Common.{◌≡◌, ◌<◌, Some, length, refl, sym, ap, ◌∙◌, slice_get}
use Rattle.std.proofs.lemmas.Option.{slice_get_read}
use Rattle.std.specs.Str.{bytes_eq}
use Rattle.column_store.proofs.GuessLaws.{guessed}
use Rattle.column_store.proofs.steps.confirmed.Goals as goal

pub returns-then-is_same_id : goal.returns-then-is_same_id
returns-then-is_same_id c =
    let within : c.in_ok-index.index < length c.args.tables.now = c.in_ok-table.ensures.lookup.3.0 in
    let there : slice_get c.args.tables.now c.in_ok-index.index ≡ Some c.in_ok-table.table.now = slice_get_read c.args.tables.now (length c.args.tables.now) c.in_ok-index.index c.in_ok-table.table.now refl within c.in_ok-table.ensures.lookup.1 in (
      within,
      guessed c.args.id.now c.args.tables.now c.in_ok-index.index c.in_ok-table.table.now c.requires there
          (sym (ap (λ n. bytes_eq n c.args.id.now) c.id.ensures) ∙ sym c.is_same_id.ensures ∙ c.if-is_same_id.true),
    )
