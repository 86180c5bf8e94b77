use Rattle.std.proofs.Common.{◌<◌, length, slice_get, subst, arith}
use Rattle.doc_model.specs.Document.{Document}
use Rattle.row_tables.specs.Back.{has_index, fits_there}
use Rattle.row_tables.proofs.ChangeLaws.{fits_read}
use Rattle.row_tables.proofs.put.put_back.Goals as goal

pub take_back-requires : goal.take_back-requires
take_back-requires c =
    let s : Document = c.args.tables.now.items in
    let below = c.if-index-len.true in
    let len = c.len.ensures in
    let kept = c.args.tables.now.ok.0 in
    let within : c.in-Changed.index < length s = omega arith in
    let there : fits_there c.in-Changed.change (slice_get s c.in-Changed.index) = subst (λ r. has_index r s) c.in-Changed.is c.requires in
    fits_read s c.in-Changed.index c.index_mut.result.now c.in-Changed.change within c.index_mut.ensures.value there
