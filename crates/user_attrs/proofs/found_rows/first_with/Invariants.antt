use Rattle.std.proofs.Common.{◌≡◌, drop}
use Rattle.user_attrs.specs.UserInfos.{first_with}
use Rattle.user_attrs.proofs.found_rows.first_with.Given as goal

-- the rest decides
abbrev pub invariant-loop-row : goal.invariant-loop-row
invariant-loop-row g l =
    first_with (g.C.DocReader.document l.doc) l.table l.column l.value (drop l.row-index l.rows)
    ≡ first_with (g.C.DocReader.document l.doc) l.table l.column l.value l.rows
