-- Attributes of rows with their places.
use Rattle.std.proofs.Common.{◌≡◌, ap, refl, ℕ, List, [], ◌∷◌, map}
use Rattle.doc_model.specs.Document.{Document}
use Rattle.acl_rules.specs.Placing.{placed}
use Rattle.user_attrs.specs.Attributes.{attribute_at, attributes_at, attributes_placed, with_attribute}

pub attributes_by_place : (s : Document) (rows : List ℕ) → attributes_placed s (map (placed s) rows) ≡ attributes_at s rows
attributes_by_place s [] = refl
attributes_by_place s (r ∷ rows) = ap (with_attribute (attribute_at s r)) (attributes_by_place s rows)
