use Rattle.std.proofs.Common.{◌≡◌, ℕ, Bool, List, ◌≤◌, length, ap, ◌∙◌, arith}
use Rattle.doc_model.specs.Schema.{Described}
use Rattle.row_tables.specs.Spots.{described_index, stands_at}
use Rattle.row_tables.proofs.SpotLaws.{spot_within, set_at, insert_at}
use Rattle.row_tables.proofs.described.put_described.Goals as goal

module _ (e : Described) (es : List Described) where
  spot : (index row : ℕ) (read : List Described) → index ≡ described_index row read → row ≡ e.column.row → read ≡ es → index ≡ described_index e.column.row es
  spot index row read is er ed = is ∙ ap (λ r. described_index r read) er ∙ ap (described_index e.column.row) ed

  stood : (b : Bool) (index row : ℕ) (read : List Described) → b ≡ stands_at row index read → row ≡ e.column.row → read ≡ es → b ≡ stands_at e.column.row index es
  stood b index row read is er ed = is ∙ ap (λ r. stands_at r index read) er ∙ ap (stands_at e.column.row index) ed

pub insert-requires : goal.insert-requires
insert-requires c =
    let within : described_index c.row.result c.deref.result.now ≤ length c.deref.result.now = spot_within c.row.result c.deref.result.now in
    omega (arith, c.index_of-index.ensures, c.deref.ensures.len)

pub returns-then-stands_at : goal.returns-then-stands_at
returns-then-stands_at c =
    set_at c.args.one c.args.sorted.now.items c.index_of-index.result
    (spot c.args.one c.args.sorted.now.items c.index_of-index.result c.row.result c.deref.result.now c.index_of-index.ensures c.row.ensures c.deref.ensures.value) c.stands_at.result
    (stood c.args.one c.args.sorted.now.items c.stands_at.result c.index_of-index.result c.row-2.result c.deref-2.result.now c.stands_at.ensures c.row-2.ensures c.deref-2.ensures.value) c.if-stands_at.true

pub returns-in_ok-insert : goal.returns-in_ok-insert
returns-in_ok-insert c =
    c.in_ok-insert.ensures.items
    ∙ insert_at c.args.one c.args.sorted.now.items c.index_of-index.result
    (spot c.args.one c.args.sorted.now.items c.index_of-index.result c.row.result c.deref.result.now c.index_of-index.ensures c.row.ensures c.deref.ensures.value) c.stands_at.result
    (stood c.args.one c.args.sorted.now.items c.stands_at.result c.index_of-index.result c.row-2.result c.deref-2.result.now c.stands_at.ensures c.row-2.ensures c.deref-2.ensures.value) c.if-stands_at.false
