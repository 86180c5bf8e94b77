-- What may be relied on of what contexts are told.
use Rattle.std.specs.Prelude.{List, map, zip, ◌≡◌}
use Rattle.doc_model.specs.Document.{Document}
use Rattle.acl_rules.specs.declared.decision.Ctx.{Ctx}
use Rattle.action_censor.specs.FollowLaws.{HidesSchema}
use Rattle.acl_reading.specs.RulesLet.{rules_let}
use Rattle.context_changes.specs.Told.{told_of, told_since, view_of}

-- what is told since what contexts showed of a document is what is told of the bundle between
abbrev pub SinceLaw : Type 0
SinceLaw =
    (before after : Document) (xs ys : List Ctx)
    → told_since after (map (view_of before) xs) ys
    ≡ map (λ (p : Ctx × Ctx). told_of before after p.0 p.1) (zip xs ys)

-- no context shows anything of the schema tables
abbrev pub HidingLaw : Type 0
HidingLaw = (x : Ctx) → HidesSchema (rules_let x)
