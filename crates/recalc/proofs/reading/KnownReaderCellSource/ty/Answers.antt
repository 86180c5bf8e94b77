use Rattle.std.proofs.Common.{◌≡◌, ◌∙◌, rules}
use Rattle.std.specs.Option.{option_copied}
use Rattle.recalc.specs.Evaluated.{sheet_of}
use Rattle.recalc.proofs.KeptLemmas.{kind_kept}
use Rattle.recalc.proofs.reading.KnownReaderCellSource.ty.Goals as goal

pub returns : goal.returns
returns g c =
    let s = g.D.DocReader.document c.self.inside.tables.now in
    let told : option_copied c.kept_type.result ≡ (sheet_of s).kind c.args.table.now c.args.column.now = c.kept_type.ensures ∙ kind_kept s c.self.inside.kept.now c.self.invariant.1 c.args.table.now c.args.column.now in
    search rules
