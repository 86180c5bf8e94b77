use Rattle.std.proofs.Common.{◌≡◌, map, take}
use Rattle.user_attrs.specs.UserInfos.{attribute_for}
use Rattle.user_attrs.proofs.infos.attributes_for.Given as goal

abbrev pub invariant-loop-rule : goal.invariant-loop-rule
invariant-loop-rule g l =
    l.made ≡ map (attribute_for (g.C.DocReader.document l.doc) l.user) (take l.rule-index l.rules)
