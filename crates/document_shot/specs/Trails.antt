-- What led to a shot.
use Rattle.std.specs.Prelude.{List, [], ◌∷◌, ◌++◌}
use Rattle.document_shot.specs.declared.trail.DocumentStep.{DocumentStep}
use Rattle.document_shot.specs.declared.trail.DocumentStep.TheVariants.{First, Then}
use Rattle.document_shot.specs.declared.trail.Trail.{Trail, Start, After'}

-- the steps of a trail, the first one first
abbrev pub steps_of : Trail → List DocumentStep
steps_of (Start tables op) = First tables.value op.value ∷ []
steps_of (After' shape before op) = steps_of before ++ Then op.value ∷ []
