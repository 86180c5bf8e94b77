use Rattle.agreeing_contexts.proofs.loading.tree_of.Goals as goal

pub returns-in-Ok : goal.returns-in-Ok
returns-in-Ok c = c.requires c.in-Ok.tree c.in-Ok.ensures.spells
